-- What every direct call answers and leaves, proved.
use Rattle.std.specs.Prelude.{Ok, Err}
use Prim.Native.Nat.{ℕ, ◌+◌, ◌%◌, ◌≤◌, ◌<◌}
use native.Mathlib.Omega.{arith}
use mathlib.Core.Path.{◌≡◌, refl, ap, ◌∙◌}
use mathlib.Core.Bool.{Bool, true, false, cond, ◌&&◌, ◌||◌}
use mathlib.Core.List.{List, [], ◌∷◌, append-nil}
use lib.Dec.{ltb}
use lib.IntN.{ℤ, pos}
use lib.ListN.{length, drop, set, replicate, length-take, length-drop, drop_of_length-le}
use lib.Seq.{sets, sets-eq}
use borrow.Author.Tests.{ne_eqb, eq-eqb, lt-ltb, le-ltb, ltb-true, ltb-false}
use Rattle.refusals.specs.declared.Refusal.TheVariants.{Record}
use Rattle.refusals.specs.Refusals.{number_of_refusal, number_of, Case, first_of, Answer, accepted, accepted_with}
use Rattle.refusals.specs.Refusals.Laws.{in_table, accepted_only, Each, first_of_kind}
use Rattle.table.specs.Words.Laws.{and_true}
use Rattle.reading.proofs.Laws.Reading.{Reads, reads}
use Rattle.carried.specs.Former.{former_of}
use Rattle.carried.specs.Layout.{Rows, number_count, slot_of, numbers_at, carried_at, out_of_range}
use Rattle.carried.specs.Layout.Laws.{rows_in, in_rows}
use Rattle.desk.specs.Desk.{Desk, lent, fitting_of, memory_cases, no_loop, reset_answer, reset_left, engine_word, store_cases, store_answer, store_left, reading_at, sample_cases, sample_answer, remaining_of, forecast_at, copied_by, fields_answer, fields_left}
use Rattle.desk.proofs.Laws.Desk.{sound, there_loop, reset_sound, reset_numbers}
use Rattle.desk.specs.Lists.{Call, reset, store, sample, answer_to, desk_after}
use Rattle.desk.proofs.Laws.Lists.{refused_call, unfit}
use Rattle.kexbardi.specs.Interface.{line_left}
use Rattle.kexbardi_profiles.specs.Told.{told_by}
use Rattle.setups.specs.Setup.{setup_of, setup_answer, setup_left}
use Rattle.kexbardi_files.specs.Files.{filled, setup_filled}
use Rattle.claims.specs.Words.{word_of}
use Rattle.claims.specs.Calls.{answers, Answered, Reserved, Called}

-- ---- what a sample reads

pub by_words : (d : Desk) (k : ℕ) → Reads (word_of d k) (reading_at d k).settings
by_words d k = reads d.words k (former_of (carried_at d.numbers k).state)

-- ---- which numbers are answers

-- a list of cases has numbers of refusals that are: the list is written out, so that it is computed
abbrev all_told : List Case → Bool
all_told [] = true
all_told (x ∷ l) = answers (number_of_refusal x.why) && all_told l

each_told : (l : List Case) → all_told l ≡ true → Each Answered l
each_told [] e = tt
each_told (x ∷ l) e = let p = and_true (answers (number_of_refusal x.why)) (all_told l) e in (p.0, each_told l p.1)

first_told : (l : List Case) → all_told l ≡ true → Answered (number_of (first_of l))
first_told l e = first_of_kind Answered refl l (each_told l e)

pub told : (d : Desk) (call : Call) → Answered (number_of (answer_to d call))
unfolding answer_to reset_answer store_answer sample_answer
told d reset = first_told (memory_cases d) refl
told d (store address value) = first_told (store_cases d address) refl
told d (sample k raw) = first_told (sample_cases d k raw) refl

pub fitting : (d : Desk) → length d.words ≡ 1024 → length d.numbers ≡ number_count → fitting_of d ≡ true
unfolding fitting_of
fitting d ws ns = rw (ws, ns)

-- ---- stores

-- an offset that no store reaches is one of the definition's, and the other way round
module _ (address : ℕ) where
  pub reserved : address < 512 → Reserved (address % 32) → engine_word address ≡ true
  reserved low r = rw (lt-ltb address 512 low) r

  pub free : (address < 512 → Reserved (address % 32) → ⊥) → engine_word address ≡ false
  free unkept = go (engine_word address) refl
    where
      go : (b : Bool) → engine_word address ≡ b → engine_word address ≡ false
      go false e = e
      go true e = let p = and_true (ltb address 512) _ e in absurd (unkept (ltb-true address 512 p.0) p.1)

module _ (d : Desk) (address : ℕ) (fit : fitting_of d ≡ true) where
  pub stored : (value : ℕ) → address ≤ 1023 → engine_word address ≡ false
      → (number_of (store_answer d address) ≡ 0) × (store_left d address value ≡ lent (set d.words address value) d.numbers)
  unfolding store_left store_answer
  stored value low reach =
      let a : store_answer d address ≡ accepted = rw (fit, le-ltb 1023 address low, reach) in
      (ap number_of a, rw a)

  beyond : 1023 < address → number_of (store_answer d address) ≡ 6
  unfolding store_answer
  beyond h = rw (fit, lt-ltb 1023 address h)

  kept : address < 512 → Reserved (address % 32) → number_of (store_answer d address) ≡ 6
  unfolding store_answer
  kept low r = rw (fit, le-ltb 1023 address (omega arith), reserved address low r)

-- ---- reset

cleared : (d : Desk) → fitting_of d ≡ true
    → (number_of (reset_answer d) ≡ 0) × ((reset_left d).words ≡ replicate 1024 0) × ((reset_left d).numbers ≡ replicate 224 (pos 0))
unfolding reset_answer
cleared d fit = let e = reset_sound d fit ∙ reset_numbers in (rw fit, ap (λ (x : Desk). x.words) e, ap (λ (x : Desk). x.numbers) e)

-- ---- samples

sample_left_lem : (d : Desk) (k raw : ℕ) (line : List ℕ) → 0 < number_of (sample_answer d k raw) → line_left d k raw line ≡ line
unfolding line_left
sample_left_lem d k raw line h = rw (ne_eqb (number_of (sample_answer d k raw)) 0 (λ e. omega arith))

no_such_loop : (k : ℕ) → ((1 ≤ k) × (k ≤ 16) → ⊥) → no_loop k ≡ true
unfolding no_loop
no_such_loop k wrong = go (ltb k 1) refl (ltb 16 k) refl
  where
    go : (a : Bool) → ltb k 1 ≡ a → (b : Bool) → ltb 16 k ≡ b → (ltb k 1 || ltb 16 k) ≡ true
    go true e b f = rw e
    go false e true f = rw (e, f)
    go false e false f = absurd (wrong (ltb-false k 1 e, ltb-false 16 k f))

-- ---- forecasts

-- by the answer to the sample
told_by_lem : (a : Answer) (n samples : ℕ) → let t = told_by (accepted_with a n) samples in
    (t.number ≡ number_of a) × (t.number ≡ 0 → t.samples ≡ n) × (0 < t.number → t.samples ≡ samples)
told_by_lem (Ok _) n samples = (refl, λ _. refl, λ h. absurd (omega arith))
told_by_lem (Err why) n samples = (refl, λ e. absurd (omega (arith, in_table why)), λ _. refl)

pub forecasts : (d : Desk) (k samples : ℕ) → let t = told_by (forecast_at d k) samples in
    (t.number ≡ number_of (sample_answer d k 0)) × (t.number ≡ 0 → t.samples ≡ remaining_of d k)
    × (0 < t.number → t.samples ≡ samples)
unfolding forecast_at
forecasts d k samples = told_by_lem (sample_answer d k 0) (remaining_of d k) samples

-- ---- a record copied out

module _ (ns : List ℤ) (k : ℕ) (copied : List ℤ) where
  fields_left_lem : 0 < number_of (fields_answer ns k) → fields_left ns k copied ≡ copied
  unfolding fields_left
  fields_left_lem h = go (fields_answer ns k) (numbers_at ns (slot_of k)) h
    where
      go : (a : Answer) (found : List ℤ) → 0 < number_of a → copied_by a found copied ≡ copied
      go (Ok _) found p = absurd (omega arith)
      go (Err why) found p = refl

  -- all of a buffer is written over
  over : (found : List ℤ) → length found ≡ length copied → sets copied 0 found ≡ found
  over found e =
      let rest : drop (0 + length found) copied ≡ [] = drop_of_length-le copied {i = 0 + length found} (omega arith) in
      sets-eq found copied 0 (omega arith) ∙ rw rest (append-nil found)

  fields_copied : length ns ≡ 224 → 1 ≤ k → k ≤ 16 → Rows (numbers_at ns (slot_of k)) → length copied ≡ 14
      → (number_of (fields_answer ns k) ≡ 0) × (fields_left ns k copied ≡ numbers_at ns (slot_of k))
  unfolding fields_answer fields_left
  fields_copied size above below rows room =
      let a : fields_answer ns k ≡ accepted = rw (eq-eqb (length ns) 224 size, there_loop k above below, in_rows (numbers_at ns (slot_of k)) rows) in
      let whole : length (numbers_at ns (slot_of k)) ≡ length copied = simp (length-take, length-drop) (omega arith) in
      (ap number_of a, rw a (over (numbers_at ns (slot_of k)) whole))

fields_refused : (ns : List ℤ) (k : ℕ) → ((length ns ≡ 224 → ⊥) → number_of (fields_answer ns k) ≡ 5)
    × (length ns ≡ 224 → ((1 ≤ k) × (k ≤ 16) → ⊥) → number_of (fields_answer ns k) ≡ 4)
    × (length ns ≡ 224 → 1 ≤ k → k ≤ 16 → (Rows (numbers_at ns (slot_of k)) → ⊥) → number_of (fields_answer ns k) ≡ 5)
unfolding fields_answer
fields_refused ns k = (
  λ ne. rw (ne_eqb (length ns) 224 ne),
  λ e wrong. rw (eq-eqb (length ns) 224 e, no_such_loop k wrong),
  λ e above below out. rw (eq-eqb (length ns) 224 e, there_loop k above below) (outside (out_of_range (numbers_at ns (slot_of k))) refl out),
)
  where
    outside : (b : Bool) → out_of_range (numbers_at ns (slot_of k)) ≡ b → (Rows (numbers_at ns (slot_of k)) → ⊥) → number_of (cond b (Err Record) accepted) ≡ 5
    outside true e out = refl
    outside false e out = absurd (out (rows_in (numbers_at ns (slot_of k)) e))

-- ---- a setup file

module _ (ws out : List ℕ) (size : ℕ) where
  handed : ((length ws ≡ 1024 → ⊥) → setup_filled ws out size ≡ filled 5 out size)
      × (length ws ≡ 1024 → length out < length (setup_of ws) → setup_filled ws out size ≡ filled 10 out size)
      × (length ws ≡ 1024 → length (setup_of ws) ≤ length out → setup_filled ws out size ≡ filled 0 (sets out 0 (setup_of ws)) (length (setup_of ws)))
  unfolding setup_filled setup_answer setup_left
  handed = (
    λ ne. rw (ne_eqb (length ws) 1024 ne),
    λ e h. rw (eq-eqb (length ws) 1024 e, lt-ltb (length out) (length (setup_of ws)) h),
    λ e h. rw (eq-eqb (length ws) 1024 e, le-ltb (length out) (length (setup_of ws)) h),
  )

pub called : Called
unfolding answer_to desk_after
called = record {
  lengths = λ d. (fitting d, λ e. ((sound d e).words, (sound d e).numbers));
  answers = λ d call. (told d call, λ e. ap number_of (unfit d e call));
  zero = accepted_only;
  stores = λ d address value fit low unkept. let s = stored d address fit value low (free address unkept) in
      (s.0, ap (λ (x : Desk). x.words) s.1, ap (λ (x : Desk). x.numbers) s.1);
  unstored = λ d address fit. (beyond d address fit, kept d address fit);
  resets = cleared;
  copies = fields_copied;
  foretells = λ d k samples. let t = forecasts d k samples in (t.0, t.1);
  reset = λ d h. refused_call d reset h;
  store = λ d address value h. refused_call d (store address value) h;
  sample = λ d k raw line h. (refused_call d (sample k raw) h, sample_left_lem d k raw line h);
  uncopied = fields_refused;
  forecast = λ d k samples. (forecasts d k samples).2;
  fields = fields_left_lem;
  hands = handed;
}
