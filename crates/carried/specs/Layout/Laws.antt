-- The layout loses nothing: a record is read back from its numbers, and numbers in range are those of one record. A record put into the buffer
-- is found there, and the others stay.
use Rattle.std.specs.Prelude.{ℕ, zero, suc, ◌+◌, ◌≤◌, ◌<◌, ◌≡◌, Bool, true, ◌≢◌, T, ℤ, pos, neg_ℤ, nat_abs, ◌≤ℤ◌, length, set, take, drop}
use Rattle.std.proofs.Common.{arith, add-zero, add-suc, suc-add, sym, ap, ◌∙◌, lit<, length-take, length-drop, ext_get_or, drop_at, take_at, length-take-le, get_or-take, get_or-drop, get_or-set_other}
use Rattle.std.proofs.Math.Nat.{zero-add}
use Rattle.std.proofs.Math.Path.{refl, subst}
use Rattle.std.proofs.Math.Bool.{false}
use mathlib.Core.List.{List, [], ◌∷◌, ◌++◌, append_assoc}
use Rattle.std.specs.Int.Signed.{lt_z}
use Rattle.std.proofs.Math.ListN.{get_or}
use Rattle.std.proofs.lemmas.List.Edits.{sets, sets-eq}
use Rattle.std.proofs.Math.Seq.{length-sets, take-set-lt}
use Rattle.std.proofs.lemmas.List.{drop-set-add}
use Rattle.numbers.specs.Whole.{linear, neg, abs, abs_in}
use Rattle.numbers.specs.Limits.Laws.{orderℤ}
use Rattle.numbers.proofs.Machine.{left}
use Rattle.table.specs.declared.mode.Mode.{Mode}
use Rattle.table.specs.declared.mode.Mode.TheVariants.{Manual, Automatic, Cascade}
use Rattle.table.specs.Words.{any_after}
use Rattle.table.specs.Words.Laws.{or_false, none_at}
use Rattle.carried.specs.declared.record.Carried.{Carried}
use Rattle.carried.specs.Layout.{Range, ranges, field_count, ◌to◌, outside_row, range_tests, out_of_range, InRow, row_of, Rows, mode_number, flag, numbers_of, mode_from, flag_from, profile_from, record_from, slot_of, numbers_at, marked_at, marked_record}
use Rattle.carried.specs.Ranged.{Ranged}

-- ---- a row

-- a number that is not outside its row stands in it, and the reverse
in_row : (r : Range) (n : ℤ) → outside_row r n ≡ false → InRow r n
in_row r n e = let p = or_false (lt_z n r.low) (lt_z r.high n) e in (left p.0, left p.1)

not_below : (a b : ℤ) → b ≤ℤ a → lt_z a b ≡ false
not_below a b h = go (lt_z a b) refl
  where
    go : (t : Bool) → lt_z a b ≡ t → lt_z a b ≡ false
    go true e = absurd (orderℤ.strict a b (subst T (sym e) tt) h)
    go false e = e

row_in : (r : Range) (n : ℤ) → InRow r n → outside_row r n ≡ false
row_in r n h = rw (not_below n r.low h.0, not_below r.high n h.1)

-- ---- the rows of a record

module _ (ns : List ℤ) where
  test_at : (rs : List Range) (j i : ℕ) → i < length rs → get_or (range_tests rs ns j) i false ≡ outside_row (get_or rs i (pos 0 to pos 0)) (get_or ns (j + i) (pos 0))
  test_at [] j i h = absurd (omega arith)
  test_at (r ∷ rs) j zero h = rw add-zero
  test_at (r ∷ rs) j (suc i) h = rw (add-suc, ← suc-add) (test_at rs (suc j) i (omega arith))

  none_from : (rs : List Range) (j : ℕ) (found : Bool) → found ≡ false
      → ((i : ℕ) → i < length rs → InRow (get_or rs i (pos 0 to pos 0)) (get_or ns (j + i) (pos 0))) → any_after found (range_tests rs ns j) ≡ false
  none_from [] j found e h = e
  none_from (r ∷ rs) j found e h = none_from rs (suc j) _ (rw e (row_in r _ (rw add-zero at (h 0 (omega arith))))) (λ i p. rw (suc-add, ← add-suc) (h (suc i) (omega arith)))

  -- no number is out of range where each stands in its row, and the reverse
  pub rows_in : out_of_range ns ≡ false → Rows ns
  unfolding out_of_range
  rows_in e i h = in_row (row_of i) _ (rw (test_at ranges 0 i h, zero-add) at (none_at (range_tests ranges ns 0) e i))

  pub in_rows : Rows ns → out_of_range ns ≡ false
  unfolding out_of_range
  in_rows r = none_from ranges 0 false refl (λ i h. rw zero-add (r i h))

-- ---- a record is read back from its numbers

mode_back : (m : Mode) → mode_from (pos (mode_number m)) ≡ m
mode_back Manual = refl
mode_back Automatic = refl
mode_back Cascade = refl

flag_back : (b : Bool) → flag_from (flag b) ≡ b
flag_back true = refl
flag_back false = refl

pub read_back : (c : Carried) → record_from (numbers_of c) ≡ c
unfolding numbers_of record_from profile_from
read_back c = simp (mode_back, flag_back)

pub numbers_length : (c : Carried) → length (numbers_of c) ≡ field_count
unfolding numbers_of
numbers_length c = refl

-- ---- numbers in range are a record in range, and the reverse

-- a number from 0 to k, and one from -k to k, by its size; and the reverse
pub up_to : (z : ℤ) {k : ℕ} → InRow (pos 0 to pos k) z → nat_abs z ≤ k
up_to z h = omega (arith, linear, h, abs z)

within : (z : ℤ) {k : ℕ} → InRow (neg_ℤ (pos k) to pos k) z → nat_abs z ≤ k
within z {k} h = abs_in z (omega (arith, linear, neg (pos k), h))

to_up : {n k : ℕ} → n ≤ k → InRow (pos 0 to pos k) (pos n)
to_up h = (omega (arith, linear), omega (arith, linear))

to_within : (z : ℤ) {k : ℕ} → nat_abs z ≤ k → InRow (neg_ℤ (pos k) to pos k) z
to_within z {k} h = (omega (arith, linear, neg (pos k), abs z), omega (arith, linear, abs z))

mode_in : (m : Mode) → InRow (pos 0 to pos 2) (pos (mode_number m))
mode_in Manual = to_up (omega arith)
mode_in Automatic = to_up (omega arith)
mode_in Cascade = to_up (omega arith)

flag_in : (b : Bool) → InRow (pos 0 to pos 1) (flag b)
flag_in true = to_up (omega arith)
flag_in false = to_up (omega arith)

pub ranged : (ns : List ℤ) → out_of_range ns ≡ false → Ranged (record_from ns)
unfolding record_from profile_from
ranged ns e =
    let r = rows_in ns e in
    record {
      bias = within _ (r 1 (lit< tt));
      positive = (r 2 (lit< tt)).0;
      output = (r 2 (lit< tt)).1;
      error = within _ (r 5 (lit< tt));
      last = up_to _ (r 3 (lit< tt));
      prior = up_to _ (r 4 (lit< tt));
      profile = record { segment = up_to _ (r 8 (lit< tt)); fraction = up_to _ (r 11 (lit< tt)); time = up_to _ (r 12 (lit< tt)) };
    }

-- numbers that stand in rows, one by one
infixr 40 ◌also◌
data Each : List Range → List ℤ → Type 0 where
  no_more : Each [] []
  ◌also◌ : {r : Range} {rs : List Range} {n : ℤ} {ns : List ℤ} → InRow r n → Each rs ns → Each (r ∷ rs) (n ∷ ns)

each : {rs : List Range} {ns : List ℤ} → Each rs ns → (i : ℕ) → i < length rs → InRow (get_or rs i (pos 0 to pos 0)) (get_or ns i (pos 0))
each no_more i few = absurd (omega arith)
each (h also hs) zero few = h
each (h also hs) (suc i) few = each hs i (omega arith)

pub in_range : (c : Carried) → Ranged c → out_of_range (numbers_of c) ≡ false
unfolding numbers_of
in_range c r =
    let s = c.state in
    let p = s.profile in
    in_rows (numbers_of c)
    (each
    (mode_in s.mode
    also to_within _ r.bias
    also (r.positive, r.output)
    also to_up r.last
    also to_up r.prior
    also to_within _ r.error
    also flag_in s.velocity
    also flag_in c.sampled
    also to_up r.profile.segment
    also flag_in p.hold
    also flag_in p.complete
    also to_up r.profile.fraction
    also to_up r.profile.time
    also flag_in s.mark
    also no_more))

-- ---- a record put into the buffer

-- is found there
pub put_same : (ns l : List ℤ) (at : ℕ) → length l ≡ field_count → at + field_count ≤ length ns → numbers_at (sets ns at l) at ≡ l
put_same ns l at size fits =
    let rest = drop (at + length l) ns in
    let pasted : sets ns at l ≡ take at ns ++ (l ++ rest) = sets-eq l ns at (omega arith) ∙ append_assoc (take at ns) l rest in
    rw (pasted, drop_at (take at ns) (l ++ rest) at (length-take-le at ns (omega arith)), take_at l rest field_count size)

-- a number that is not written over
apart : (vs l : List ℤ) (i j : ℕ) (d : ℤ) → ((k : ℕ) → k < length vs → j ≢ i + k) → get_or (sets l i vs) j d ≡ get_or l j d
apart [] l i j d h = refl
apart (v ∷ vs) l i j d h =
    apart vs (set l i v) (suc i) j d (λ k p e. h (suc k) (omega arith) (omega arith)) ∙ get_or-set_other l i j v d (λ e. h 0 (omega arith) (omega arith))

-- numbers put into a loop's record leave the records of the other loops
module _ (ns : List ℤ) (j k : ℕ) (first : 1 ≤ j) (second : 1 ≤ k) (other : k ≡ j → ⊥) where
  put_apart : (l : List ℤ) (from : ℕ) → from + length l ≤ field_count → numbers_at (sets ns (slot_of j + from) l) (slot_of k) ≡ numbers_at ns (slot_of k)
  put_apart l from fits =
      ext_get_or (pos 0) _ _ (simp (length-take, length-drop, length-sets)) at
    where
      at : (i : ℕ) → i < length (numbers_at (sets ns (slot_of j + from) l) (slot_of k)) → get_or (numbers_at (sets ns (slot_of j + from) l) (slot_of k)) i (pos 0) ≡ get_or (numbers_at ns (slot_of k)) i (pos 0)
      at i p =
          let few : i < field_count = omega (arith, length-take field_count (drop (slot_of k) (sets ns (slot_of j + from) l))) in
          simp (get_or-take, get_or-drop) (apart l ns (slot_of j + from) (slot_of k + i) (pos 0) (λ n q e. other (omega arith)))

pub put_other : (ns l : List ℤ) (j k : ℕ) → length l ≡ field_count → 1 ≤ j → 1 ≤ k → (k ≡ j → ⊥)
    → numbers_at (sets ns (slot_of j) l) (slot_of k) ≡ numbers_at ns (slot_of k)
put_other ns l j k size first second other = rw add-zero at (put_apart ns j k first second other l 0 (omega arith))

-- ---- a mark put into the buffer

-- is number 13 of the loop's record, and no other number of it
pub mark_same : (ns : List ℤ) (k : ℕ) → numbers_at (marked_at ns k) (slot_of k) ≡ set (numbers_at ns (slot_of k)) 13 (pos 1)
mark_same ns k = let few : 13 < field_count = omega arith in simp (drop-set-add, take-set-lt)

-- and leaves the records of the other loops
pub mark_other : (ns : List ℤ) (j k : ℕ) → 1 ≤ j → 1 ≤ k → (k ≡ j → ⊥) → numbers_at (marked_at ns j) (slot_of k) ≡ numbers_at ns (slot_of k)
mark_other ns j k first second other = put_apart ns j k first second other (pos 1 ∷ []) 13 (omega arith)

-- a list by its elements
abbrev listed : ℕ → (ℕ → ℤ) → List ℤ
listed zero f = []
listed (suc n) f = f 0 ∷ listed n (λ i. f (suc i))

listed_all : (ns : List ℤ) → listed (length ns) (λ i. get_or ns i (pos 0)) ≡ ns
listed_all [] = refl
listed_all (n ∷ ns) = ap (λ (l : List ℤ). n ∷ l) (listed_all ns)

-- what holds of each number of a list, and at k of z, holds once z is set at k
set_keeps : (P : ℕ → ℤ → Type 0) (ns : List ℤ) (k : ℕ) (z : ℤ) → P k z → ((i : ℕ) → P i (get_or ns i (pos 0))) → (i : ℕ) → P i (get_or (set ns k z) i (pos 0))
set_keeps P [] k z p q i = q i
set_keeps P (n ∷ ns) zero z p q zero = p
set_keeps P (n ∷ ns) zero z p q (suc i) = q (suc i)
set_keeps P (n ∷ ns) (suc k) z p q zero = q zero
set_keeps P (n ∷ ns) (suc k) z p q (suc i) = set_keeps (λ j. P (suc j)) ns k z p (λ j. q (suc j)) i

module _ (ns : List ℤ) (size : length ns ≡ field_count) where
  -- the record of marked numbers is the marked record
  pub mark_record : record_from (set ns 13 (pos 1)) ≡ marked_record (record_from ns)
  unfolding record_from profile_from
  mark_record = subst (λ (l : List ℤ). record_from (set l 13 (pos 1)) ≡ marked_record (record_from l)) (ap (λ (n : ℕ). listed n (λ i. get_or ns i (pos 0))) (sym size) ∙ listed_all ns) refl

  -- and is in range where the record was
  pub mark_range : out_of_range ns ≡ false → out_of_range (set ns 13 (pos 1)) ≡ false
  mark_range e = in_rows _ (set_keeps (λ i n. i < field_count → InRow (row_of i) n) ns 13 (pos 1) (λ few. (omega (arith, linear), omega (arith, linear))) (rows_in ns e))
