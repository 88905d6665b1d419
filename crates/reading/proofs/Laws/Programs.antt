-- The laws of a program: what it depends on, and what is known of the pair that is read where the table has passed its tests.
use Rattle.std.specs.Prelude.{fold, ℕ, zero, suc, ◌+◌, ◌*◌, ◌≤◌, ◌<◌, ◌≡◌, Bool, cond, ◌&&◌, ◌||◌, List, [], get_or, take, drop, ltb}
use native.Mathlib.Omega.{arith}
use Rattle.std.specs.Simd.{first_chunks}
use Rattle.std.proofs.Math.Path.{refl}
use Rattle.std.proofs.Math.Bool.{true, false}
use Rattle.std.proofs.Math.Dec.{eqb}
use Rattle.std.proofs.Common.{◌∙◌, ap, eqb→eq, le-ltb, ltb-false, eqb-true, get_or-take, get_or-drop}
use Rattle.std.proofs.lemmas.Bool.{eqb-false}
use Rattle.numbers.specs.Limits.Laws.{by_test}
use Rattle.reading.specs.declared.program.Program.{Program}
use Rattle.table.specs.Words.{bad_digit, block_at}
use Rattle.table.specs.Words.Laws.{or_false, bcd_high}
use Rattle.reading.specs.Programs.{fault_of, pair_at, pairs_of, pair_number, any_below, bad_digit_in, high_end_in, no_program, program_of}
use Rattle.reading.specs.Premises.{Fair}

-- ---- the tests of a table

-- where no test below n holds, each is false
pub none_below : (n : ℕ) (test : ℕ → Bool) → any_below n test ≡ false → (i : ℕ) → i < n → test i ≡ false
unfolding any_below
none_below zero test e i h = absurd (omega arith)
none_below (suc n) test e i h =
    let p = or_false (any_below n test) (test n) e in
    go p.1 (λ k. none_below n test p.0 i k) (eqb i n) refl
  where
    go : test n ≡ false → (i < n → test i ≡ false) → (same : Bool) → eqb i n ≡ same → test i ≡ false
    go last others true f = rw (eqb-true i n f) last
    go last others false f = let other = eqb-false i n f in others (omega arith)

-- a pair of a table without a bad digit, or without a high end
pub pair_times : (table : List ℕ) (i : ℕ) → i < 8 → bad_digit_in table ≡ false → ((pair_at table i).slope ≤ 9999) × ((pair_at table i).duration ≤ 9999)
unfolding bad_digit_in pair_at
pair_times table i h e =
    let test : ℕ → Bool = λ j. bad_digit (get_or table (4 * j + 1) 0) || bad_digit (get_or table (4 * j + 2) 0) in
    let p = or_false (bad_digit (get_or table (4 * i + 1) 0)) (bad_digit (get_or table (4 * i + 2) 0)) (none_below 8 test e i h) in
    (bcd_high _ p.0, bcd_high _ p.1)

pub pair_end : (scale : ℕ) (table : List ℕ) (i : ℕ) → i < 8 → high_end_in scale table ≡ false → (pair_at table i).end ≤ scale
unfolding high_end_in pair_at
pair_end scale table i h e = ltb-false _ _ (none_below 8 (λ j. ltb scale (get_or table (4 * j + 0) 0)) e i h)

in_part : (i : ℕ) → i < 4 → (words : List ℕ) → get_or (take 4 words) i 0 ≡ get_or words i 0
in_part i h words = get_or-take 4 words i 0 h

-- word j of pair i is word 4i + j of the table
part_word : (n i j : ℕ) (words : List ℕ) → i < n → j < 4 → get_or (get_or (first_chunks 4 n words) i []) j 0 ≡ get_or words (4 * i + j) 0
part_word zero i j words h k = absurd (omega arith)
part_word (suc n) zero j words h k = let same : j ≡ 4 * 0 + j = omega arith in get_or-take 4 words j 0 k ∙ ap (λ (a : ℕ). get_or words a 0) same
part_word (suc n) (suc i) j words h k =
    let next : 4 + (4 * i + j) ≡ 4 * suc i + j = omega arith in
    part_word n i j (drop 4 words) (omega arith) k ∙ get_or-drop 4 words (4 * i + j) 0 ∙ ap (λ (a : ℕ). get_or words a 0) next

pub pair_word : (table : List ℕ) (i j : ℕ) → i < 8 → j < 4 → get_or (get_or (pairs_of table) i []) j 0 ≡ get_or table (4 * i + j) 0
unfolding pairs_of
pair_word table i j h k = part_word 8 i j table h k

-- the words that the tests read are those of the pairs
pub ends_by_pair : (scale : ℕ) (table : List ℕ) → high_end_in scale table ≡ fold (λ found pair. found || ltb scale (get_or pair 0 0)) false (pairs_of table)
unfolding high_end_in any_below pairs_of
ends_by_pair scale table = simp (in_part 0 (omega arith), get_or-drop)

pub digits_by_pair : (table : List ℕ)
    → bad_digit_in table ≡ fold (λ found pair. found || (bad_digit (get_or pair 1 0) || bad_digit (get_or pair 2 0))) false (pairs_of table)
unfolding bad_digit_in any_below pairs_of
digits_by_pair table = simp (in_part 1 (omega arith), in_part 2 (omega arith), get_or-drop)

-- ---- a program

-- the address of a table without a fault
pub good_address : (at : ℕ) → fault_of at ≡ 0 → (512 ≤ at) × (at ≤ 992)
unfolding fault_of
good_address at e = go (ltb at 512) (ltb 992 at) refl refl e
  where
    go : (a b : Bool) → ltb at 512 ≡ a → ltb 992 at ≡ b → ◌≡◌ {A = ℕ} (cond a 1 (cond b 2 0)) 0 → (512 ≤ at) × (at ≤ 992)
    go true b x y z = absurd (omega arith)
    go false true x y z = absurd (omega arith)
    go false false x y z = (ltb-false _ _ x, ltb-false _ _ y)

pub address_good : (at : ℕ) → 512 ≤ at → at ≤ 992 → fault_of at ≡ 0
unfolding fault_of
address_good at low high = rw (le-ltb at 512 low, le-ltb 992 at high)

module _ (words : List ℕ) (at scale segment : ℕ) where
  -- what holds where there is no program, and of the one that there is, holds of what is read
  by_program : (P : Program → Type 0) (bit : Bool) → ((fault : ℕ) → P (no_program fault))
      → (bit ≡ true → fault_of at ≡ 0 → P (record {
        on = true;
        fault = fault_of at;
        baddigit = bad_digit_in (block_at words at);
        highend = high_end_in scale (block_at words at);
        pair = pair_at (block_at words at) (pair_number segment);
      })) → P (program_of words bit at scale segment)
  unfolding program_of
  by_program P true none some = by_test P (eqb (fault_of at) 0) (λ t. some refl (eqb→eq (fault_of at) 0 t)) (λ _. none (fault_of at))
  by_program P false none some = none 0

  -- where there is one, bit 11 is on and the address good
  pub program_on : (bit : Bool) → (program_of words bit at scale segment).on ≡ true → (bit ≡ true) × (fault_of at ≡ 0)
  unfolding no_program
  program_on bit =
      by_program (λ (p : Program). p.on ≡ true → (bit ≡ true) × (fault_of at ≡ 0)) bit (λ fault e. let z : false ≡ true = e in (cc, cc)) (λ b f _. (b, f))

  -- and the other way round
  pub program_there : (bit : Bool) → bit ≡ true → fault_of at ≡ 0 → (program_of words bit at scale segment).on ≡ true
  unfolding program_of
  program_there bit on good = rw (on, good)

  -- its pair is the carried segment's; word 29 is what is wrong with the address, where bit 11 is on
  pub program_pair : (bit : Bool) → (program_of words bit at scale segment).on ≡ true
      → (program_of words bit at scale segment).pair ≡ pair_at (block_at words at) (pair_number segment)
  unfolding no_program
  program_pair bit =
      by_program (λ (p : Program). p.on ≡ true → p.pair ≡ pair_at (block_at words at) (pair_number segment)) bit (λ fault e. let z : false ≡ true = e in cc) (λ _ _ _. refl)

  -- N7, N8: where there is one its digits are tested, and its ends against the scale; else nothing is
  pub program_tested : (bit : Bool) → let p = program_of words bit at scale segment in
      (p.baddigit ≡ (p.on && bad_digit_in (block_at words at))) × (p.highend ≡ (p.on && high_end_in scale (block_at words at)))
  unfolding no_program
  program_tested bit =
      by_program (λ (p : Program). (p.baddigit ≡ (p.on && bad_digit_in (block_at words at))) × (p.highend ≡ (p.on && high_end_in scale (block_at words at)))) bit
      (λ fault. (refl, refl)) (λ _ _. (refl, refl))

  pub program_fault : (bit : Bool) → (program_of words bit at scale segment).fault ≡ cond bit (fault_of at) 0
  unfolding program_of no_program
  program_fault true = by_test (λ (p : Program). p.fault ≡ fault_of at) (eqb (fault_of at) 0) (λ _. refl) (λ _. refl)
  program_fault false = refl

  pub program_fair : (bit : Bool) → segment ≤ 16 → (program_of words bit at scale segment).baddigit ≡ false → (program_of words bit at scale segment).highend ≡ false
      → Fair (program_of words bit at scale segment) scale
  unfolding no_program
  program_fair bit h =
      let few : pair_number segment < 8 = omega arith in
      by_program (λ (p : Program). p.baddigit ≡ false → p.highend ≡ false → Fair p scale) bit
      (λ fault _ _. record { slope = omega arith; duration = omega arith; end = omega arith })
      (λ _ _ d e. let times = pair_times (block_at words at) (pair_number segment) few d in
      record { slope = times.0; duration = times.1; end = pair_end scale (block_at words at) (pair_number segment) few e })

  -- what is wrong with the address, where bit 11 is on, and the table, where there is a program: any two memories and addresses that agree on these have the
  -- same
  pub program_own : (words' : List ℕ) (at' : ℕ) (bit : Bool) → (bit ≡ true → fault_of at ≡ fault_of at')
      → ((program_of words bit at scale segment).on ≡ true → block_at words at ≡ block_at words' at')
      → program_of words bit at scale segment ≡ program_of words' bit at' scale segment
  unfolding program_of
  program_own words' at' false fault same = refl
  program_own words' at' true fault same = go (eqb (fault_of at) 0) refl same
    where
      go : (b : Bool) → eqb (fault_of at) 0 ≡ b → ((program_of words true at scale segment).on ≡ true → block_at words at ≡ block_at words' at')
          → program_of words true at scale segment ≡ program_of words' true at' scale segment
      go true f h = rw (← fault refl, f, h (rw f refl))
      go false f h = rw (← fault refl, f)
