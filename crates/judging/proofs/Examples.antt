-- Refusals N7 to N9 and N11 to N14 computed of the definitions: each number of a setting on both sides of its edge, several conditions at once, the
-- examples of the first three rules, the words of a ramp/soak table, and the pointers, limits and modes of a transfer.
use Prim.Native.Nat.{ℕ, ◌+◌}
use mathlib.Core.Path.{◌≡◌, refl}
use mathlib.Core.List.{List, [], ◌∷◌, ◌++◌, map}
use lib.ListN.{set, replicate}
use Rattle.refusals.specs.Refusals.{number_of, first_of}
use Rattle.table.specs.declared.mode.Mode.{Mode}
use Rattle.table.specs.declared.mode.Mode.TheVariants.{Manual, Automatic, Cascade}
use Rattle.table.specs.Words.{bcd, bad_digit}
use Rattle.reading.specs.Settings.{mode2_of, bad_digits, tuning_of, settings_of}
use Rattle.reading.specs.Programs.{fault_of, pair_at, any_below, bad_digit_in, high_end_in, no_program, program_of}
use Rattle.reading.specs.Transfers.{transfers, major_of, limits_at, major_in}
use Rattle.measuring.specs.Measuring.{pv_of}
use Rattle.reading.specs.Reading.{mode_after, remote_of, reading_of}
use Rattle.judging.specs.Judging.{reading_cases}

-- words of loop 1 changed, a raw PV, and the number expected
pub record Case : Type 0 where
  pub write : List ℕ → List ℕ
  pub raw : ℕ
  pub number : ℕ

-- the settings of X1's loop
worked : List ℕ
worked = set (set (set (set (set (set (replicate 1024 0) 0 2) 5 2000) 7 0x0100) 8 0x0200) 9 0x1000) 25 4095

case : (List ℕ → List ℕ) → ℕ → ℕ → Case
case write raw number = record { write = write; raw = raw; number = number }

word : ℕ → ℕ → List ℕ → List ℕ
word at value ws = set ws at value

pub cases : List Case
cases =
    case (λ ws. ws) 4095 0
    ∷ case (λ ws. ws) 4096 9
    ∷ case (word 8 0x000A) 0 7
    ∷ case (λ ws. word 8 0x000A (word 7 4 ws)) 0 7
    ∷ case (word 8 0x0009) 0 0
    ∷ case (word 9 0) 4096 12
    ∷ case (word 9 1) 0 0
    ∷ case (word 7 0x0004) 0 12
    ∷ case (word 7 0x0005) 0 0
    ∷ case (word 24 4095) 0 0
    ∷ case (λ ws. word 24 1001 (word 25 1000 ws)) 0 13
    ∷ case (word 25 4096) 0 13
    ∷ case (word 0 40) 0 8
    ∷ case (word 0 512) 0 8
    ∷ case (word 0 2048) 0 0
    ∷ case (word 0 32768) 0 0
    ∷ case (word 1 256) 0 0
    ∷ case (word 1 1) 0 8
    ∷ case (word 1 2) 32767 0
    ∷ case (word 1 514) 65535 0
    -- bits 10, 12 and 13; 11 beside them; 12 and 13 without bit 10; limits against G, setpoint and raw PV against F
    ∷ case (word 1 0x0400) 0 0
    ∷ case (word 1 0x1400) 0 0
    ∷ case (word 1 0x2400) 0 0
    ∷ case (word 1 0x3400) 0 0
    ∷ case (word 1 0x1402) 32767 0
    ∷ case (word 1 0x3712) 65535 0
    ∷ case (word 1 0x0800) 0 8
    ∷ case (word 1 0x0C00) 0 8
    ∷ case (word 1 0x2C00) 0 8
    ∷ case (word 1 0x1000) 0 8
    ∷ case (word 1 0x2000) 0 8
    ∷ case (λ ws. word 1 0x0600 (word 25 4096 ws)) 0 13
    ∷ case (λ ws. word 1 0x1600 (word 25 32767 ws)) 65535 0
    ∷ case (λ ws. word 1 0x2400 (word 25 65535 ws)) 4095 0
    ∷ case (λ ws. word 1 0x2400 (word 2 4096 ws)) 0 14
    ∷ case (word 1 0x2400) 4096 9
    ∷ case (word 0 8192) 0 8
    ∷ case (λ ws. word 0 4096 (word 18 1 ws)) 0 0
    ∷ case (λ ws. word 0 8192 (word 18 200 ws)) 0 0
    ∷ case (λ ws. word 0 4096 (word 18 201 ws)) 0 8
    ∷ case (word 0 16384) 0 0
    ∷ case (word 2 4095) 0 0
    ∷ case (word 2 4096) 0 14
    ∷ case (λ ws. word 0 4 (word 2 4096 (word 26 40 ws))) 0 0
    ∷ case (λ ws. word 0 4 (word 26 40 (word 40 4095 ws))) 0 0
    ∷ case (λ ws. word 0 4 (word 26 40 (word 40 4096 ws))) 0 14
    ∷ case (λ ws. word 0 4 (word 26 1023 ws)) 0 0
    ∷ case (λ ws. word 0 4 (word 26 1024 ws)) 0 14
    ∷ case (λ _. replicate 1024 0) 0 12
    ∷ case (λ _. word 8 0x000A (replicate 1024 0)) 0 7
    -- neighbours in the order of testing, both at once
    ∷ case (λ ws. word 8 0x000A (word 0 512 ws)) 0 7
    ∷ case (λ ws. word 0 512 (word 9 0 ws)) 0 8
    ∷ case (λ ws. word 0 4096 (word 7 4 ws)) 0 8
    ∷ case (λ ws. word 9 0 (word 25 4096 ws)) 0 12
    ∷ case (λ ws. word 25 4096 (word 2 4096 ws)) 0 13
    ∷ case (word 2 4096) 4096 14
    ∷ []

-- a profile's table at an address, with one of its words changed
table : ℕ → ℕ → ℕ → List ℕ → List ℕ
table at i value ws = word 0 2048 (word 28 at (word (at + i) value ws))

-- N7: each slope and duration, in no other word; N8: each end, before N12; only at a good address, and with bit 11 on
pub tables : List Case
tables =
    case (table 512 0 4095) 0 0
    ∷ case (table 512 0 4096) 0 8
    ∷ case (table 992 28 4096) 0 8
    ∷ case (λ ws. word 1 512 (table 512 0 65535 ws)) 0 0
    ∷ case (λ ws. word 1 0x0600 (table 512 0 65535 ws)) 0 0
    ∷ case (λ ws. word 1 0x2400 (table 512 0 4096 ws)) 0 8
    ∷ case (table 512 1 0x000A) 0 7
    ∷ case (table 512 2 0xA000) 0 7
    ∷ case (table 992 29 0x00A0) 0 7
    ∷ case (table 992 30 0x0A00) 0 7
    ∷ case (table 512 3 0xFFFF) 0 0
    ∷ case (table 512 31 0xFFFF) 0 0
    ∷ case (table 511 1 0x000A) 0 0
    ∷ case (table 993 1 0x000A) 0 0
    ∷ case (λ ws. word 0 0 (table 512 1 0x000A ws)) 0 0
    ∷ case (λ ws. word 0 2052 (table 512 1 0x000A ws)) 0 7
    ∷ case (λ ws. word 7 4 (table 512 0 4096 ws)) 0 8
    ∷ case (λ ws. word 513 0x000A (table 512 0 4096 ws)) 0 7
    ∷ case (table 512 0 4096) 4096 8
    ∷ []

-- the answer to a sample of loop 1, without a profile, from a carried mode
pub answer_from : Mode → Case → ℕ
answer_from former c = number_of (first_of (reading_cases (reading_of (c.write worked) 1 (record { mode = former; segment = 0 })) c.raw))

pub computed : map (answer_from Manual) (cases ++ tables) ≡ map (λ (c : Case). c.number) (cases ++ tables)
unfolding fault_of pair_at any_below bad_digit_in high_end_in no_program program_of table tables bcd bad_digit mode2_of bad_digits tuning_of settings_of mode_after remote_of transfers major_of limits_at major_in pv_of reading_of worked case word cases answer_from
computed = refl

-- a transfer of loop 1 to loop 2, whose output limits are 1,000 and 2,000
handed : List ℕ → List ℕ
handed ws = word 0 4 (word 26 37 (word 56 1000 (word 57 2000 ws)))

-- p one below the low limit
pub low_pv : Case
low_pv = case handed 999 11

-- N11: p on both sides of each limit; pointers that are no other loop's output, and one that is loop 16's; N7, N14 and N9 before it; no transfer
pub handing : List Case
handing =
    case handed 1000 0
    ∷ low_pv
    ∷ case handed 2000 0
    ∷ case handed 2001 11
    ∷ case (λ ws. word 57 1000 (handed ws)) 1000 0
    ∷ case (λ ws. word 57 999 (handed ws)) 1000 11
    ∷ case (λ ws. word 26 5 (handed ws)) 1000 11
    ∷ case (λ ws. word 26 36 (handed ws)) 1000 11
    ∷ case (λ ws. word 26 38 (handed ws)) 1000 11
    ∷ case (λ ws. word 26 485 (word 505 4095 (handed ws))) 999 0
    ∷ case (λ ws. word 26 517 (handed ws)) 1000 11
    ∷ case (λ ws. word 8 0x000A (handed ws)) 999 7
    ∷ case (λ ws. word 37 4096 (handed ws)) 999 14
    ∷ case handed 4096 9
    ∷ case (λ ws. word 0 12 (handed ws)) 999 0
    ∷ case (λ ws. word 0 6 (handed ws)) 999 0
    ∷ case (λ ws. word 0 0 (handed ws)) 999 0
    ∷ []

-- from Automatic; from Manual, and in Cascade, it is no transfer
pub computed_handing : (map (answer_from Automatic) handing ≡ map (λ (c : Case). c.number) handing)
    × (answer_from Manual low_pv ≡ 0) × (answer_from Cascade low_pv ≡ 0)
unfolding fault_of pair_at any_below bad_digit_in high_end_in no_program program_of bcd bad_digit mode2_of bad_digits tuning_of settings_of mode_after remote_of transfers major_of limits_at major_in pv_of reading_of worked case word handed low_pv handing answer_from
computed_handing = (refl, refl, refl)
