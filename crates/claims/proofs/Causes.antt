-- Which number a sample is refused with, proved: each test of the definitions decides the causes of its row.
use Prim.Native.Nat.{ℕ, zero, suc, ◌+◌, ◌*◌, ◌≤◌, ◌<◌}
use native.Mathlib.Omega.{arith}
use native.Mathlib.Nat.{mul-le-mul}
use mathlib.Core.Path.{◌≡◌, refl, sym, ap, ◌∙◌, subst}
use mathlib.Core.Bool.{Bool, true, false, cond, not, ◌&&◌, ◌||◌, false≢true}
use mathlib.Core.Logic.{◌⊎◌, inl, inr}
use Rattle.std.specs.Prelude.{Ok}
use mathlib.Core.List.{List, [], ◌∷◌, ◌++◌}
use lib.Dec.{lit<, ltb, eqb}
use lib.IntN.{ℤ, pos, negsuc}
use lib.ListN.{length, get_or}
use lib.Signed.{◌≤ℤ◌}
use Rattle.numbers.specs.Whole.{linear}
use Rattle.numbers.specs.Roots.{Nearest}
use Rattle.numbers.proofs.Laws.Roots.{root_exact}
use Rattle.refusals.specs.Decides.{Decides, in_words, so, not_so, is_true, is_false, is_less, is_same, is_not, is_or, is_both}
use Rattle.refusals.specs.Refusals.{number_of, OneOf, FirstIn}
use Rattle.refusals.specs.Refusals.Laws.{Tests, done, tests, first_reported, first_alone}
use Rattle.reader.specs.declared.Record.TheVariants.{Sample}
use Rattle.reader.specs.File.{Item, records_of}
use Rattle.table.specs.Words.{bit, bcd, bad_digit, any, any_after, base_of, block_at}
use Rattle.table.specs.Words.Laws.{block_at_lem}
use Rattle.table.specs.declared.mode.Mode.{Mode}
use Rattle.table.specs.declared.mode.Mode.TheVariants.{Manual, Automatic, Cascade}
use Rattle.reading.specs.declared.transfer.Major.{Major}
use Rattle.table.specs.Modes.{is_automatic, is_cascade}
use Rattle.reading.specs.Transfers.{transfers, major_of, major_in}
use Rattle.reading.proofs.Laws.Transfers.{IsMajor, major_found, major_read}
use Rattle.reading.specs.Settings.{unused_bits}
use Rattle.reading.specs.Programs.{any_below, bad_digit_in, high_end_in}
use Rattle.reading.proofs.Laws.Programs.{none_below, good_address, address_good, program_on, program_there, program_tested}
use Rattle.reading.specs.Reading.{mode_after, remote_of, reading_of}
use Rattle.reading.proofs.Laws.Reading.{Reads, input_scale}
use Rattle.carried.specs.Layout.{Rows, mode_from, record_from, slot_of, out_of_range, numbers_at, carried_at}
use Rattle.carried.specs.Former.{former_of}
use Rattle.carried.specs.Layout.Laws.{rows_in, in_rows}
use Rattle.measuring.specs.Measuring.{pv_of}
use Rattle.judging.specs.Judging.{bad_modes, bad_times, bad_limits, bad_setpoint, bad_major}
use Rattle.judging.specs.Judging.Laws.{MajorGood, major_good, good_major}
use Rattle.desk.specs.Desk.{Desk, fitting_of, no_loop, reading_at, sample_cases, sample_answer, pv_at}
use Rattle.desk.specs.Lists.{answer_to}
use Rattle.session.specs.Session.{number_for, State, begun, after, run_of, answers_for, answers_of}
use Rattle.claims.specs.Calls.{transfer_at, major_at}
use Rattle.claims.specs.Words.{word_of, input_full, output_full}
use Rattle.claims.specs.Causes.{mode_carried, InCascade, Transferring, Receives, Tabled, table_word, InTable, wrong_digit, wrong_mode, wrong_time, wrong_limit, wrong_setpoint, sample_rows, Ordered}
use Rattle.claims.proofs.Calls.{by_words, forecasts}

-- ---- several tests

-- a test for each statement of a list
infixr 10 ◌also◌
pub data DecidesAll : List Bool → List (Type 0) → Type 1 where
  no_more : DecidesAll [] []
  ◌also◌ : {b : Bool} {l : List Bool} {P : Type 0} {Ps : List (Type 0)} → Decides b P → DecidesAll l Ps → DecidesAll (b ∷ l) (P ∷ Ps)

one_of_after : (l : List Bool) (Ps : List (Type 0)) → DecidesAll l Ps → (b : Bool) (P : Type 0) → Decides b P → Decides (any_after b l) (P ⊎ OneOf Ps)
one_of_after [] [] no_more b P d = in_words inl only d
  where
    only : P ⊎ ⊥ → P
    only (inl p) = p
    only (inr none) = absurd none
one_of_after [] (Q ∷ Ps) none b P d = elim none [ ]
one_of_after (x ∷ l) [] none b P d = elim none [ ]
one_of_after (x ∷ l) (Q ∷ Ps) (e also h) b P d = in_words right left (one_of_after l Ps h (b || x) (P ⊎ Q) (is_or b x d e))
  where
    right : (P ⊎ Q) ⊎ OneOf Ps → P ⊎ (Q ⊎ OneOf Ps)
    right (inl (inl p)) = inl p
    right (inl (inr q)) = inr (inl q)
    right (inr rest) = inr (inr rest)

    left : P ⊎ (Q ⊎ OneOf Ps) → (P ⊎ Q) ⊎ OneOf Ps
    left (inl p) = inl (inl p)
    left (inr (inl q)) = inl (inr q)
    left (inr (inr rest)) = inr rest

one_of : (tests : List Bool) (causes : List (Type 0)) → DecidesAll tests causes → Decides (any tests) (OneOf causes)
one_of [] [] no_more = record { yes = λ e. absurd (false≢true e); no = λ _ none. none }
one_of [] (P ∷ Ps) none = elim none [ ]
one_of (b ∷ l) [] none = elim none [ ]
one_of (b ∷ l) (P ∷ Ps) (d also h) = one_of_after l Ps h b P d

-- a test that holds of a number below n
some_below : (n : ℕ) (test : ℕ → Bool) → any_below n test ≡ true → (i : ℕ) × (i < n) × (test i ≡ true)
unfolding any_below
some_below zero test e = absurd (false≢true e)
some_below (suc n) test e = go (any_below n test) (some_below n test) (test n) refl e
  where
    go : (b : Bool) → (b ≡ true → (i : ℕ) × (i < n) × (test i ≡ true)) → (last : Bool) → test n ≡ last → (b || last) ≡ true
        → (i : ℕ) × (i < suc n) × (test i ≡ true)
    go true low last f g = let s = low refl in (s.0, omega (arith, s.1), s.2)
    go false low true f g = (n, omega arith, f)
    go false low false f g = absurd (false≢true g)

below : (n : ℕ) (test : ℕ → Bool) (P : ℕ → Type 0) → ((i : ℕ) → i < n → Decides (test i) (P i)) → Decides (any_below n test) ((i : ℕ) × (i < n) × P i)
below n test P d = record {
  yes = λ e. let s = some_below n test e in (s.0, s.1, (d s.0 s.1).yes s.2);
  no = λ e h. (d h.0 h.1).no (none_below n test e h.0 h.1) h.2;
}

-- ---- what is read of the words of a loop

module _ (d : Desk) (k : ℕ) where
  abbrev read : Reads (word_of d k) (reading_at d k).settings
  read = by_words d k

  -- A13: and of those of its major loop
  abbrev pub major : Major
  major = (reading_at d k).major

  major_on : transfer_at d k ≡ true → major_at d k ≡ major_of k (reading_at d k).settings.pointer
  unfolding reading_of major_in
  major_on on = rw on

  major_at_lem : let m = (reading_at d k).major in (m.number ≡ 0 → ⊥)
      → IsMajor k (reading_at d k).settings.pointer m.number
      × (m.limits.low ≡ get_or d.words (base_of m.number + 24) 0) × (m.limits.high ≡ get_or d.words (base_of m.number + 25) 0)
  unfolding reading_of
  major_at_lem some = major_read d.words (transfer_at d k) k (reading_at d k).settings.pointer some

  -- a word of the table, by its place in it
  of_table : (i : ℕ) → i < 32 → get_or (block_at d.words (word_of d k 28)) i 0 ≡ table_word d k i
  of_table i h = block_at_lem d.words (word_of d k 28) i h

  there : (reading_at d k).program.on ≡ true → Tabled d k
  unfolding reading_of
  there e =
      let p = program_on d.words (word_of d k 28) _ _ _ e in
      let good = good_address (word_of d k 28) p.1 in
      record { on = rw read.mode1 at p.0; low = good.0; high = good.1 }

  back : Tabled d k → (reading_at d k).program.on ≡ true
  unfolding reading_of
  back t = program_there d.words (word_of d k 28) _ _ _ (rw read.mode1 t.on) (address_good (word_of d k 28) t.low t.high)

  -- a test of the table's ramps, where there is a table
  in_table : (P : ℕ → Type 0) (test : ℕ → Bool) → ((i : ℕ) → i < 8 → Decides (test i) (P i)) → Decides ((reading_at d k).program.on && any_below 8 test) (InTable d k P)
  in_table P test each =
      is_both (reading_at d k).program.on (any_below 8 test) (in_words there back (is_true (reading_at d k).program.on)) (λ _. below 8 test P each)

  -- ---- N7

  abbrev digit_at : ℕ → Bool
  digit_at i = bad_digit (get_or (block_at d.words (word_of d k 28)) (4 * i + 1) 0) || bad_digit (get_or (block_at d.words (word_of d k 28)) (4 * i + 2) 0)

  digit_at_lem : (i : ℕ) → i < 8 → Decides (digit_at i) ((bad_digit (table_word d k (4 * i + 1)) || bad_digit (table_word d k (4 * i + 2))) ≡ true)
  digit_at_lem i h = rw (of_table (4 * i + 1) (omega arith), of_table (4 * i + 2) (omega arith)) (is_true _)

  table_digits_lem : Decides (reading_at d k).program.baddigit (InTable d k (λ i. (bad_digit (table_word d k (4 * i + 1)) || bad_digit (table_word d k (4 * i + 2))) ≡ true))
  unfolding reading_of bad_digit_in
  table_digits_lem = rw (program_tested d.words (word_of d k 28) _ _ _).0 (in_table _ digit_at digit_at_lem)

  digits : Decides ((reading_at d k).settings.baddigit || (reading_at d k).program.baddigit) (OneOf (wrong_digit d k))
  digits =
      one_of ((reading_at d k).settings.baddigit ∷ (reading_at d k).program.baddigit ∷ []) (wrong_digit d k)
      (rw read.baddigit (is_true _) also table_digits_lem also no_more)

  -- ---- N8

  abbrev end_at : ℕ → Bool
  end_at i = ltb (input_full d k) (get_or (block_at d.words (word_of d k 28)) (4 * i + 0) 0)

  end_at_lem : (i : ℕ) → i < 8 → Decides (end_at i) (input_full d k < table_word d k (4 * i))
  end_at_lem i h =
      let e : get_or (block_at d.words (word_of d k 28)) (4 * i + 0) 0 ≡ table_word d k (4 * i) = of_table (4 * i + 0) (omega arith) ∙ ap (table_word d k) (omega arith) in
      rw e (is_less _ _)

  table_ends : Decides (reading_at d k).program.highend (InTable d k (λ i. input_full d k < table_word d k (4 * i)))
  unfolding reading_of high_end_in
  table_ends = rw (program_tested d.words (word_of d k 28) _ _ _).1 (in_table _ end_at end_at_lem)

  watched : Decides ((bit 12 (word_of d k 0) || bit 13 (word_of d k 0)) && (ltb (word_of d k 18) 1 || ltb 200 (word_of d k 18)))
      (((bit 12 (word_of d k 0) ≡ true) ⊎ (bit 13 (word_of d k 0) ≡ true)) × ((word_of d k 18 < 1) ⊎ (200 < word_of d k 18)))
  watched = is_both _ _ (is_or _ _ (is_true _) (is_true _)) (λ _. is_or _ _ (is_less _ _) (is_less _ _))

  modes : Decides (bad_modes (reading_at d k).settings.mode1 (reading_at d k).settings.mode2.unused (reading_at d k).settings.alarms.hysteresis || (reading_at d k).program.highend)
      (OneOf (wrong_mode d k))
  modes =
      rw (read.mode1, read.unused, read.alarms)
      (one_of
      ((bit 5 (word_of d k 0) && bit 3 (word_of d k 0))
      ∷ bit 9 (word_of d k 0)
      ∷ unused_bits (word_of d k 1)
      ∷ ((bit 12 (word_of d k 0) || bit 13 (word_of d k 0)) && (ltb (word_of d k 18) 1 || ltb 200 (word_of d k 18)))
      ∷ (reading_at d k).program.highend
      ∷ [])
      (wrong_mode d k)
      (is_both _ _ (is_true _) (λ _. is_true _) also is_true _ also is_true _ also watched also table_ends also no_more))

  -- ---- N12 and N13

  times : Decides (bad_times (reading_at d k).settings.tuning) (OneOf (wrong_time d k))
  times =
      rw (read.period, read.reset)
      (one_of (ltb (bcd (word_of d k 7)) 5 ∷ eqb (bcd (word_of d k 9)) 0 ∷ []) (wrong_time d k) (is_less _ _ also is_same _ _ also no_more))

  limits : Decides (bad_limits (reading_at d k).settings.limits (output_full d k)) (OneOf (wrong_limit d k))
  limits =
      rw (read.low, read.high)
      (one_of (ltb (word_of d k 25) (word_of d k 24) ∷ ltb (output_full d k) (word_of d k 25) ∷ []) (wrong_limit d k) (is_less _ _ also is_less _ _ also no_more))

  -- ---- the word that is followed

  remote : is_cascade (reading_at d k).mode ≡ true → (reading_at d k).remote ≡ get_or d.words (word_of d k 26) 0
  unfolding reading_of remote_of
  remote on = rw (on, read.pointer)

-- ---- the mode that the sample takes

-- by the requests, and where none is on by the mode that is carried
by_requests : (manual automatic cascade : Bool) (former : Mode) (P : Type 0) → Decides (is_cascade former) P
    → Decides (is_cascade (cond manual Manual (cond automatic Automatic (cond cascade Cascade former)))) ((manual ≡ false) × (automatic ≡ false) × ((cascade ≡ true) ⊎ P))
by_requests true automatic cascade former P d = not_so (λ h. false≢true (sym h.0))
by_requests false true cascade former P d = not_so (λ h. false≢true (sym h.1))
by_requests false false true former P d = so (refl, refl, inl refl)
by_requests false false false former P d = record { yes = λ e. (refl, refl, inr (d.yes e)); no = λ e h. d.no e (only h.2) }
  where
    only : (false ≡ true) ⊎ P → P
    only (inl z) = absurd (false≢true z)
    only (inr p) = p

-- H1: a number in its row is one of the three modes
of_number : (n : ℤ) → pos 0 ≤ℤ n → n ≤ℤ pos 2 → Decides (is_automatic (mode_from n)) (n ≡ pos 1) × Decides (is_cascade (mode_from n)) (n ≡ pos 2)
of_number (pos zero) low high = (not_so (λ e. omega (arith, linear, e)), not_so (λ e. omega (arith, linear, e)))
of_number (pos (suc zero)) low high = (so refl, not_so (λ e. omega (arith, linear, e)))
of_number (pos (suc (suc zero))) low high = (not_so (λ e. omega (arith, linear, e)), so refl)
of_number (pos (suc (suc (suc n)))) low high = absurd (omega (arith, linear))
of_number (negsuc n) low high = absurd (omega (arith, linear))

module _ (d : Desk) (k : ℕ) (range : out_of_range (numbers_at d.numbers (slot_of k)) ≡ false) where
  carried : Decides (is_automatic (carried_at d.numbers k).state.mode) (mode_carried d k ≡ pos 1) × Decides (is_cascade (carried_at d.numbers k).state.mode) (mode_carried d k ≡ pos 2)
  unfolding record_from
  carried = let row = rows_in (numbers_at d.numbers (slot_of k)) range 0 (lit< tt) in of_number (mode_carried d k) row.0 row.1

  in_cascade : Decides (is_cascade (reading_at d k).mode) (InCascade d k)
  unfolding reading_of mode_after
  in_cascade =
      rw (read d k).mode1
      (by_requests (bit 0 (word_of d k 0)) (bit 1 (word_of d k 0)) (bit 2 (word_of d k 0)) (carried_at d.numbers k).state.mode (mode_carried d k ≡ pos 2) carried.1)

  -- N14

  setpoint : Decides
      (bad_setpoint (is_cascade (reading_at d k).mode) (input_full d k) (reading_at d k).settings.stored.setpoint (reading_at d k).settings.pointer (reading_at d k).remote)
      (OneOf (wrong_setpoint d k))
  setpoint =
      let cascade = is_cascade (reading_at d k).mode in
      let far = (reading_at d k).remote in
      rw ((read d k).setpoint, (read d k).pointer)
      (one_of ((not cascade && ltb (input_full d k) (word_of d k 2)) ∷ (cascade && (ltb 1023 (word_of d k 26) || ltb (input_full d k) far)) ∷ []) (wrong_setpoint d k)
      (is_both _ _ (is_not cascade in_cascade) (λ _. is_less _ _)
      also is_both _ _ in_cascade (λ on. is_or _ _ (is_less _ _) (rw (remote d k on) (is_less _ _)))
      also no_more))

  -- A13, N11

  one : Decides (not (reading_at d k).settings.mode1.bumpless) (bit 3 (word_of d k 0) ≡ false)
  one = rw (read d k).mode1 (is_false _)

  handing_over : Decides (transfer_at d k) (Transferring d k)
  unfolding reading_of transfers
  handing_over = in_words (λ h. (h.0.0, h.0.1, h.1)) (λ h. ((h.0, h.1), h.2)) (is_both _ _ (is_both _ _ carried.0 (λ _. in_cascade)) (λ _. one))

-- ---- the order

not_both : (a b : Bool) → (not a || not b) ≡ not (a && b)
not_both true b = refl
not_both false b = refl

-- one cause alone
single : {b : Bool} {P : Type 0} → Decides b P → Decides b (OneOf (P ∷ []))
single {b} {P} d = one_of_after [] [] no_more b P d

module _ (d : Desk) (k raw : ℕ) where
  lengths : Decides (not (fitting_of d)) (OneOf ((length d.words ≡ 1024 → ⊥) ∷ (length d.numbers ≡ 224 → ⊥) ∷ []))
  unfolding fitting_of
  lengths =
      subst (λ (b : Bool). Decides b (OneOf ((length d.words ≡ 1024 → ⊥) ∷ (length d.numbers ≡ 224 → ⊥) ∷ []))) (not_both (eqb (length d.words) 1024) (eqb (length d.numbers) 224))
      (one_of (not (eqb (length d.words) 1024) ∷ not (eqb (length d.numbers) 224) ∷ []) ((length d.words ≡ 1024 → ⊥) ∷ (length d.numbers ≡ 224 → ⊥) ∷ [])
      (is_not _ (is_same _ _) also is_not _ (is_same _ _) also no_more))

  in_rows_or_not : Decides (out_of_range (numbers_at d.numbers (slot_of k))) (Rows (numbers_at d.numbers (slot_of k)) → ⊥)
  in_rows_or_not =
      let ns = numbers_at d.numbers (slot_of k) in
      record { yes = λ e rows. false≢true (sym (in_rows ns rows) ∙ e); no = λ e none. none (rows_in ns e) }

  loops : Decides (no_loop k) (OneOf ((k < 1) ∷ (16 < k) ∷ []))
  unfolding no_loop
  loops = one_of (ltb k 1 ∷ ltb 16 k ∷ []) ((k < 1) ∷ (16 < k) ∷ []) (is_less _ _ also is_less _ _ also no_more)

  -- a loop that receives p is the major one
  received : transfer_at d k ≡ true → (j : ℕ) → Receives d k j (pv_at d k raw) → MajorGood (major d k) (pv_at d k raw)
  received on j r =
      let e : major_at d k ≡ j = major_on d k on ∙ ap (major_of k) ((read d k).pointer ∙ r.output) ∙ major_found k j r.first r.last r.other in
      let some : major_at d k ≡ 0 → ⊥ = λ z. omega (arith, e, z, r.first) in
      let m = major_at_lem d k some in
      record { number = some; low = rw (m.1, e) r.low; high = rw (m.2, e) r.high }

  -- and the major one receives it
  pub receives : MajorGood (major d k) (pv_at d k raw) → Receives d k (major_at d k) (pv_at d k raw)
  receives h =
      let m = major_at_lem d k h.number in
      let j = m.0 in
      record { first = j.above; last = j.below; other = j.other; output = sym (read d k).pointer ∙ j.output; low = rw m.1 at h.low; high = rw m.2 at h.high }

  transfer : out_of_range (numbers_at d.numbers (slot_of k)) ≡ false
      → Decides (bad_major (transfer_at d k) (major d k) (pv_at d k raw)) (Transferring d k × ((j : ℕ) → Receives d k j (pv_at d k raw) → ⊥))
  transfer range =
      is_both (transfer_at d k) (bad_major true (major d k) (pv_at d k raw)) (handing_over d k range) (λ on. record {
        yes = λ e j r. false≢true (sym (good_major (major d k) (pv_at d k raw) (received on j r)) ∙ e);
        no = λ e none. none (major_at d k) (receives (major_good (major d k) (pv_at d k raw) e));
      })

  -- A1

  bare : bit 6 (word_of d k 0) ≡ false → pv_at d k raw ≡ raw
  unfolding pv_of
  bare off = rw ((read d k).mode1, off)

  rooted : bit 6 (word_of d k 0) ≡ true → raw ≤ input_full d k → Nearest (raw * input_full d k) (pv_at d k raw)
  unfolding pv_of
  rooted on h =
      let most = (input_scale d.words k (former_of (carried_at d.numbers k).state)).high in
      let l : raw ≤ 65535 = omega (arith, h, most) in
      rw ((read d k).mode1, on) (root_exact (raw * input_full d k) (omega (arith, mul-le-mul l most)))

  tested : Tests (sample_cases d k raw) (sample_rows d k raw)
  tested =
      tests refl lengths (λ _. tests refl loops (λ _. tests refl (single in_rows_or_not) (λ range.
      tests refl (digits d k) (λ _. tests refl (modes d k) (λ _. tests refl (times d k) (λ _. tests refl (limits d k) (λ _.
      tests refl (setpoint d k range) (λ _. tests refl (single (is_less (input_full d k) raw)) (λ _. tests refl (single (transfer range)) (λ _. done))))))))))

  first : FirstIn (sample_rows d k raw) (number_of (sample_answer d k raw))
  unfolding sample_answer
  first = first_reported (sample_cases d k raw) (sample_rows d k raw) tested

-- the answer to a record is that of the desk as the records before left it
pub answer_at : (t : State) (before : List Item) (x : Item) (after : List Item)
    → get_or (answers_for t.desk (before ++ (x ∷ after))) (length before) 0 ≡ number_for (run_of t before).desk x
unfolding answers_for run_of
answer_at t [] x after = refl
answer_at t (y ∷ before) x after' = answer_at (after t y) before x after'

in_file : (file : List ℕ) (d : Desk) → fitting_of d ≡ true → (before : List Item) (k raw : ℕ) (after : List Item)
    → records_of file ≡ before ++ (Ok (Sample k raw) ∷ after)
    → FirstIn (sample_rows (run_of (begun d) before).desk k raw) (get_or (answers_of file d) (length before) 0)
unfolding answers_of answer_to
in_file file d fit before k raw after e =
    subst (FirstIn (sample_rows (run_of (begun d) before).desk k raw))
    (sym (rw (fit, e) (answer_at (begun d) before (Ok (Sample k raw)) after)))
    (first (run_of (begun d) before).desk k raw)

pub ordered : Ordered
ordered = record {
  samples = first;
  alone = λ d k raw m n. first_alone (sample_rows d k raw) m n;
  pv = λ d k raw. (bare d k raw, rooted d k raw);
  forecasts = λ d k samples. subst (FirstIn (sample_rows d k 0)) (sym (forecasts d k samples).0) (first d k 0);
  files = in_file;
}
