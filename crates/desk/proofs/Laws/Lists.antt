-- The laws of lists of calls: what is refused leaves the desk, and lists one behind the other.
use Rattle.std.specs.Prelude.{ℕ, ◌+◌, ◌≤◌, ◌<◌, ◌≡◌, refl, Bool, true, false, eqb, pos, length, drop, replicate}
use Rattle.std.proofs.Common.{arith, sym, ap, ◌∙◌, length-take, length-drop, ext_get_or, get_or-take, get_or-drop, eqb-true, Ok, Err}
use mathlib.Core.List.{List, [], ◌∷◌, ◌++◌}
use Rattle.std.proofs.lemmas.List.{get_or-replicate}
use Rattle.std.proofs.lemmas.Bool.{eqb-false}
use Rattle.refusals.specs.declared.Refusal.TheVariants.{Memory}
use Rattle.refusals.specs.Refusals.{number_of, Answer, accepted}
use Rattle.carried.specs.Layout.{field_count, number_count, slot_of, out_of_range, numbers_at}
use Rattle.desk.specs.Desk.{Desk, fitting_of, left_by, reset_desk, reset_answer, reset_left, store_answer, store_left, sample_done, sample_answer, sample_left}
use Rattle.desk.proofs.Laws.Desk.{sound, fits, reset_numbers, sampled, done_lengths, own_range, other_range}
use Rattle.desk.specs.Lists.{Call, reset, store, sample, answer_to, desk_after, desk_behind, Plains, fed, plains_behind}

-- by an answer with a number above 0
refused_by : (a : Answer) (after before : Desk) → 0 < number_of a → left_by a after before ≡ before
refused_by (Ok _) after before h = absurd (omega arith)
refused_by (Err why) after before h = refl

-- a call whose answer's number is not 0 leaves all words and all numbers
pub refused_call : (d : Desk) (call : Call) → 0 < number_of (answer_to d call) → desk_after d call ≡ d
unfolding answer_to desk_after reset_left store_left sample_left
refused_call d reset h = refused_by (reset_answer d) _ d h
refused_call d (store address value) h = refused_by (store_answer d address) _ d h
refused_call d (sample k raw) h = refused_by (sample_answer d k raw) _ d h

-- ---- memory of the wrong lengths

-- refuses every call, with 5
pub unfit : (d : Desk) → fitting_of d ≡ false → (call : Call) → answer_to d call ≡ Err Memory
unfolding answer_to reset_answer store_answer sample_answer
unfit d e reset = rw e
unfit d e (store address value) = rw e
unfit d e (sample k raw) = rw e

-- ---- what a call leaves

-- by its answer
pub by_answer : (P : Desk → Type 0) (a : Answer) {after before : Desk} → (a ≡ accepted → P after) → P before → P (left_by a after before)
by_answer P (Ok _) f h = f refl
by_answer P (Err why) f h = h

-- the numbers keep their length
pub numbers_kept : (d : Desk) (call : Call) → length (desk_after d call).numbers ≡ length d.numbers
unfolding desk_after reset_left store_left sample_left reset_answer
numbers_kept d reset =
    by_answer (λ (e : Desk). length e.numbers ≡ length d.numbers) (reset_answer d)
    (λ e. ap (λ (r : Desk). length r.numbers) reset_numbers ∙ sym (sound d (fits d e)).numbers) refl
numbers_kept d (store address value) = by_answer (λ (e : Desk). length e.numbers ≡ length d.numbers) (store_answer d address) (λ e. refl) refl
numbers_kept d (sample k raw) =
    by_answer (λ (e : Desk). length e.numbers ≡ length d.numbers) (sample_answer d k raw) (λ e. (done_lengths d k raw).1) refl

pub numbers_behind : (d : Desk) (calls : List Call) → length (desk_behind d calls).numbers ≡ length d.numbers
unfolding desk_behind
numbers_behind d [] = refl
numbers_behind d (call ∷ calls) = numbers_behind (desk_after d call) calls ∙ numbers_kept d call

-- a record in range stays in range
module _ (k : ℕ) (above : 1 ≤ k) where
  abbrev InRange : Desk → Type 0
  InRange d = out_of_range (numbers_at d.numbers (slot_of k)) ≡ false

  -- the records at reset are zeros
  zeros : k ≤ 16 → numbers_at (replicate number_count (pos 0)) (slot_of k) ≡ replicate field_count (pos 0)
  zeros below =
      let size : length (numbers_at (replicate number_count (pos 0)) (slot_of k)) ≡ field_count = simp (length-take, length-drop) (omega arith) in
      ext_get_or (pos 0) _ _ size
      (λ i p. let few : i < field_count = omega (arith, size) in
      get_or-take field_count (drop (slot_of k) (replicate number_count (pos 0))) i (pos 0) few
      ∙ get_or-drop (slot_of k) (replicate number_count (pos 0)) i (pos 0)
      ∙ get_or-replicate number_count (slot_of k + i) (pos 0) (pos 0) (omega arith)
      ∙ sym (get_or-replicate field_count i (pos 0) (pos 0) few))

  reset_range : k ≤ 16 → InRange reset_desk
  unfolding out_of_range
  reset_range below = rw (reset_numbers, zeros below)

  sample_range : k ≤ 16 → (d : Desk) (j raw : ℕ) → InRange d → sample_answer d j raw ≡ accepted → InRange (sample_done d j raw)
  sample_range below d j raw h e = go (eqb j k) refl
    where
      go : (t : Bool) → eqb j k ≡ t → InRange (sample_done d j raw)
      go true f = let same : j ≡ k = eqb-true j k f in rw (sym same) (own_range d j raw (sampled d j raw e))
      go false f = other_range d j raw (sampled d j raw e) k above (λ z. eqb-false j k f (sym z)) below h

  pub range_kept : k ≤ 16 → (d : Desk) (call : Call) → InRange d → InRange (desk_after d call)
  unfolding desk_after reset_left store_left sample_left
  range_kept below d reset h = by_answer InRange (reset_answer d) (λ e. reset_range below) h
  range_kept below d (store address value) h = by_answer InRange (store_answer d address) (λ e. h) h
  range_kept below d (sample j raw) h = by_answer InRange (sample_answer d j raw) (sample_range below d j raw h) h

  pub range_behind : k ≤ 16 → (d : Desk) (calls : List Call) → InRange d → InRange (desk_behind d calls)
  unfolding desk_behind
  range_behind below d [] h = h
  range_behind below d (call ∷ calls) h = range_behind below (desk_after d call) calls (range_kept below d call h)

-- ---- lists one behind the other

pub desk_append : (d : Desk) (xs ys : List Call) → desk_behind d (xs ++ ys) ≡ desk_behind (desk_behind d xs) ys
unfolding desk_behind
desk_append d [] ys = refl
desk_append d (x ∷ xs) ys = desk_append (desk_after d x) xs ys

pub plains_append : (qs : Plains) (d : Desk) (xs ys : List Call)
    → plains_behind qs d (xs ++ ys) ≡ plains_behind (plains_behind qs d xs) (desk_behind d xs) ys
unfolding desk_behind plains_behind
plains_append qs d [] ys = refl
plains_append qs d (x ∷ xs) ys = plains_append (fed qs d x) (desk_after d x) xs ys
