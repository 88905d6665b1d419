-- A loop's ramp/soak program (G1, G2): the table that word 28 points to, and what a sample reads of it.
use Rattle.std.specs.Prelude.{ℕ, zero, suc, ◌+◌, ◌-◌, ◌*◌, ◌/◌, Bool, true, false, cond, ◌||◌, List, get_or, ltb, eqb}
use Rattle.std.specs.Simd.{first_chunks}
use Rattle.reading.specs.declared.program.Pair.{Pair}
use Rattle.reading.specs.declared.program.Program.{Program}
use Rattle.table.specs.Words.{bcd, bad_digit, block_at}

-- G2: 1 for a table's address below 512, 2 for one above 992, else 0
unfoldable pub fault_of : ℕ → ℕ
fault_of at = cond (ltb at 512) 1 (cond (ltb 992 at) 2 0)

-- G1: pair i of a table, from 0: a ramp's end and slope, its soak's duration and deviation
unfoldable pub pair_at : List ℕ → ℕ → Pair
pair_at table i = record {
  end = get_or table (4 * i + 0) 0;
  slope = bcd (get_or table (4 * i + 1) 0);
  duration = bcd (get_or table (4 * i + 2) 0);
  deviation = get_or table (4 * i + 3) 0;
}

-- G1: the eight pairs of a table, each of four words
unfoldable pub pairs_of : List ℕ → List (List ℕ)
pairs_of table = first_chunks 4 8 table

-- G1: segments 2i + 1 and 2i + 2 are pair i
abbrev pub pair_number : ℕ → ℕ
pair_number segment = (segment - 1) / 2

-- a test holds of a number below n
unfoldable pub any_below : ℕ → (ℕ → Bool) → Bool
any_below zero test = false
any_below (suc n) test = any_below n test || test n

-- N7: one of the slopes and durations has a digit above 9
unfoldable pub bad_digit_in : List ℕ → Bool
bad_digit_in table = any_below 8 (λ i. bad_digit (get_or table (4 * i + 1) 0) || bad_digit (get_or table (4 * i + 2) 0))

-- N8: one of the ramps ends above F
unfoldable pub high_end_in : ℕ → List ℕ → Bool
high_end_in F table = any_below 8 (λ i. ltb F (get_or table (4 * i + 0) 0))

-- G2: no program: bit 11 is off, or the address not good
unfoldable pub no_program : ℕ → Program
no_program fault = record {
  on = false;
  fault = fault;
  baddigit = false;
  highend = false;
  pair = record { end = 0; slope = 0; duration = 0; deviation = 0 };
}

-- G1, G2: with bit 11 on and a good address the table is tested, and the pair of the carried segment read
unfoldable pub program_of : List ℕ → Bool → ℕ → ℕ → ℕ → Program
program_of words bit at F segment =
    let table = block_at words at in
    let fault = fault_of at in
    cond bit
    (cond (eqb fault 0)
    (record {
      on = true;
      fault = fault;
      baddigit = bad_digit_in table;
      highend = high_end_in F table;
      pair = pair_at table (pair_number segment);
    })
    (no_program fault))
    (no_program 0)
