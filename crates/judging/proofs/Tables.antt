-- Refusals N7 to N9 and N11 to N14 computed of the definitions, in the order of testing (O3): each setting on both sides of its edge, each bit of the
-- two mode words, several causes at once, the words of a ramp/soak table, and the pointers, limits, PVs and modes of a transfer.
use Prim.Native.Nat.{ℕ, ◌+◌}
use mathlib.Core.Path.{◌≡◌, refl}
use mathlib.Core.List.{List, [], ◌∷◌}
use lib.ListN.{set, replicate}
use Rattle.computed.specs.Cases.{Case, ◌∶◌gives◌, failing}
use Rattle.computed.specs.Cases.Laws.{together, in_parts}
use Rattle.numbers.specs.Roots.{root_within, root_of}
use Rattle.refusals.specs.Refusals.{number_of, first_of}
use Rattle.table.specs.declared.mode.Mode.{Mode}
use Rattle.table.specs.declared.mode.Mode.TheVariants.{Manual, Automatic, Cascade}
use Rattle.table.specs.Words.{bcd, bad_digit}
use Rattle.reading.specs.Settings.{mode2_of, bad_digits, tuning_of, settings_of}
use Rattle.reading.specs.Programs.{fault_of, pair_at, any_below, bad_digit_in, high_end_in, no_program, program_of}
use Rattle.reading.specs.Transfers.{transfers, major_of, limits_at, major_in}
use Rattle.measuring.specs.Measuring.{pv_of}
use Rattle.reading.specs.Reading.{mode_after, remote_of, reading_of}
use Rattle.judging.specs.Judging.{reading_cases}

-- the settings of X1's loop: Automatic requested, 12 bits, output 2,000, period 1.00 s, gain 2.00, reset time 10.00 s, limits 0 and 4,095
worked : List ℕ
worked = set (set (set (set (set (set (replicate 1024 0) 0 2) 5 2000) 7 0x0100) 8 0x0200) 9 0x1000) 25 4095

word : ℕ → ℕ → List ℕ → List ℕ
word at value ws = set ws at value

-- the answer to a sample of loop 1 with words changed, by its carried mode, its carried segment and its raw PV
answer : Mode → ℕ → (List ℕ → List ℕ) → ℕ → List ℕ
answer former segment write raw = number_of (first_of (reading_cases (reading_of (write worked) 1 (record { mode = former; segment = segment })) raw)) ∷ []

-- without a profile, from a carried mode; and from Manual
from : Mode → (List ℕ → List ℕ) → ℕ → List ℕ
from former write raw = answer former 0 write raw

sample : (List ℕ → List ℕ) → ℕ → List ℕ
sample write raw = from Manual write raw

one : ℕ → List ℕ
one n = n ∷ []

-- ---- single words

-- digits, times, limits and the raw PV in 12 bits
numbers : List Case
numbers =
    ("N9 raw PV at F" ∶ sample (λ ws. ws) 4095 gives one 0)
    ∷ ("N9 raw PV above F" ∶ sample (λ ws. ws) 4096 gives one 9)
    ∷ ("N7 digit A in the gain" ∶ sample (word 8 0x000A) 0 gives one 7)
    ∷ ("N7 digit A in the gain, and N12" ∶ sample (λ ws. word 8 0x000A (word 7 4 ws)) 0 gives one 7)
    ∷ ("N7 digit 9 in the gain" ∶ sample (word 8 0x0009) 0 gives one 0)
    ∷ ("N7 digit A in the period" ∶ sample (word 7 0x00A0) 0 gives one 7)
    ∷ ("N7 digit F in the reset time" ∶ sample (word 9 0xF000) 0 gives one 7)
    ∷ ("N7 digit A in the rate" ∶ sample (word 10 0x0A00) 0 gives one 7)
    ∷ ("N7 digits 9 everywhere" ∶ sample (λ ws. word 7 0x9999 (word 8 0x9999 (word 9 0x9999 (word 10 0x9999 ws)))) 0 gives one 0)
    ∷ ("N7 words 6 and 11 are no BCD" ∶ sample (λ ws. word 6 0xFFFF (word 11 0xFFFF ws)) 0 gives one 0)
    ∷ ("N12 reset time 0.00, and N9" ∶ sample (word 9 0) 4096 gives one 12)
    ∷ ("N12 reset time 0.01" ∶ sample (word 9 1) 0 gives one 0)
    ∷ ("N12 period 0.04 s" ∶ sample (word 7 0x0004) 0 gives one 12)
    ∷ ("N12 period 0.05 s" ∶ sample (word 7 0x0005) 0 gives one 0)
    ∷ ("N12 period 0.10 s" ∶ sample (word 7 0x0010) 0 gives one 0)
    ∷ ("N12 gain 0.00 and rate 0.00" ∶ sample (λ ws. word 8 0 (word 10 0 ws)) 0 gives one 0)
    ∷ ("N13 equal limits" ∶ sample (word 24 4095) 0 gives one 0)
    ∷ ("N13 both limits 0" ∶ sample (word 25 0) 0 gives one 0)
    ∷ ("N13 low limit above the high one" ∶ sample (λ ws. word 24 1001 (word 25 1000 ws)) 0 gives one 13)
    ∷ ("N13 high limit above G" ∶ sample (word 25 4096) 0 gives one 13)
    ∷ []

-- mode 1: bit 5 with bit 3, each alone; bit 9; each other bit
modes : List Case
modes =
    ("N8 velocity form with Bumpless II" ∶ sample (word 0 40) 0 gives one 8)
    ∷ ("N8 velocity form alone" ∶ sample (word 0 32) 0 gives one 0)
    ∷ ("N8 Bumpless II alone" ∶ sample (word 0 8) 0 gives one 0)
    ∷ ("N8 mode 1 bit 9" ∶ sample (word 0 512) 0 gives one 8)
    ∷ ("M1 mode 1 bit 11" ∶ sample (word 0 2048) 0 gives one 0)
    ∷ ("M1 mode 1 bit 15" ∶ sample (word 0 32768) 0 gives one 0)
    ∷ ("M1 mode 1 bits 4, 6, 7, 8, 10, 11, 14 and 15" ∶ sample (word 0 0xCDD0) 0 gives one 0)
    -- mode 2: each bit alone, and 10, 12 and 13 together
    ∷ ("M2 mode 2 bit 8" ∶ sample (word 1 256) 0 gives one 0)
    ∷ ("N8 mode 2 bit 0" ∶ sample (word 1 1) 0 gives one 8)
    ∷ ("N8 mode 2 bit 2" ∶ sample (word 1 0x0004) 0 gives one 8)
    ∷ ("N8 mode 2 bit 3" ∶ sample (word 1 0x0008) 0 gives one 8)
    ∷ ("N8 mode 2 bit 5" ∶ sample (word 1 0x0020) 0 gives one 8)
    ∷ ("N8 mode 2 bit 6" ∶ sample (word 1 0x0040) 0 gives one 8)
    ∷ ("N8 mode 2 bit 7" ∶ sample (word 1 0x0080) 0 gives one 8)
    ∷ ("N8 mode 2 bit 14" ∶ sample (word 1 0x4000) 0 gives one 8)
    ∷ ("N8 mode 2 bit 15" ∶ sample (word 1 0x8000) 0 gives one 8)
    ∷ ("M2 mode 2 bit 4" ∶ sample (word 1 0x0010) 0 gives one 0)
    ∷ ("N9 15 bits, raw PV at F" ∶ sample (word 1 2) 32767 gives one 0)
    ∷ ("N9 15 bits, raw PV above F" ∶ sample (word 1 2) 32768 gives one 9)
    ∷ ("N9 16 bits, raw PV at F" ∶ sample (word 1 514) 65535 gives one 0)
    ∷ ("N9 16 bits, raw PV above F" ∶ sample (word 1 514) 65536 gives one 9)
    ∷ ("Q7 raw PV 2^16 + 1,000" ∶ sample (λ ws. ws) 66536 gives one 9)
    ∷ ("Q7 raw PV 2^64 − 1" ∶ sample (word 1 514) 18446744073709551615 gives one 9)
    ∷ []

-- bits 10, 12 and 13; 11 beside them; 12 and 13 without bit 10; limits against G, setpoint and raw PV against F
formats : List Case
formats =
    ("M2 mode 2 bit 10" ∶ sample (word 1 0x0400) 0 gives one 0)
    ∷ ("M2 mode 2 bits 10 and 12" ∶ sample (word 1 0x1400) 0 gives one 0)
    ∷ ("M2 mode 2 bits 10 and 13" ∶ sample (word 1 0x2400) 0 gives one 0)
    ∷ ("M2 mode 2 bits 10, 12 and 13" ∶ sample (word 1 0x3400) 0 gives one 0)
    ∷ ("N9 15 bits in and out, raw PV at F" ∶ sample (word 1 0x1402) 32767 gives one 0)
    ∷ ("M2 all bits that may be on" ∶ sample (word 1 0x3712) 65535 gives one 0)
    ∷ ("N8 mode 2 bit 11" ∶ sample (word 1 0x0800) 0 gives one 8)
    ∷ ("N8 mode 2 bits 10 and 11" ∶ sample (word 1 0x0C00) 0 gives one 8)
    ∷ ("N8 mode 2 bits 10, 11 and 13" ∶ sample (word 1 0x2C00) 0 gives one 8)
    ∷ ("N8 mode 2 bit 12 without 10" ∶ sample (word 1 0x1000) 0 gives one 8)
    ∷ ("N8 mode 2 bit 13 without 10" ∶ sample (word 1 0x2000) 0 gives one 8)
    ∷ ("N13 16 bits in, 12 out, high limit above G" ∶ sample (λ ws. word 1 0x0600 (word 25 4096 ws)) 0 gives one 13)
    ∷ ("N13 16 bits in, 15 out, high limit at G" ∶ sample (λ ws. word 1 0x1600 (word 25 32767 ws)) 65535 gives one 0)
    ∷ ("N13 12 bits in, 16 out, high limit at G" ∶ sample (λ ws. word 1 0x2400 (word 25 65535 ws)) 4095 gives one 0)
    ∷ ("N14 12 bits in, 16 out, setpoint above F" ∶ sample (λ ws. word 1 0x2400 (word 2 4096 ws)) 0 gives one 14)
    ∷ ("N9 12 bits in, 16 out, raw PV above F" ∶ sample (word 1 0x2400) 4096 gives one 9)
    -- the hysteresis, watched by bit 12, by bit 13 and by neither
    ∷ ("N8 deviation watched, hysteresis 0" ∶ sample (word 0 8192) 0 gives one 8)
    ∷ ("N8 PV watched, hysteresis 0" ∶ sample (word 0 4096) 0 gives one 8)
    ∷ ("N8 PV watched, hysteresis 1" ∶ sample (λ ws. word 0 4096 (word 18 1 ws)) 0 gives one 0)
    ∷ ("N8 PV watched, hysteresis 200" ∶ sample (λ ws. word 0 4096 (word 18 200 ws)) 0 gives one 0)
    ∷ ("N8 PV watched, hysteresis 201" ∶ sample (λ ws. word 0 4096 (word 18 201 ws)) 0 gives one 8)
    ∷ ("N8 deviation watched, hysteresis 1" ∶ sample (λ ws. word 0 8192 (word 18 1 ws)) 0 gives one 0)
    ∷ ("N8 deviation watched, hysteresis 200" ∶ sample (λ ws. word 0 8192 (word 18 200 ws)) 0 gives one 0)
    ∷ ("N8 deviation watched, hysteresis 201" ∶ sample (λ ws. word 0 8192 (word 18 201 ws)) 0 gives one 8)
    ∷ ("N8 change watched alone, hysteresis 0" ∶ sample (word 0 16384) 0 gives one 0)
    ∷ ("N8 change watched alone, hysteresis 201" ∶ sample (λ ws. word 0 16384 (word 18 201 ws)) 0 gives one 0)
    ∷ []

-- the setpoint; in Cascade the pointer and the word that it names
setpoints : List Case
setpoints =
    ("N14 setpoint at F" ∶ sample (word 2 4095) 0 gives one 0)
    ∷ ("N14 setpoint above F" ∶ sample (word 2 4096) 0 gives one 14)
    ∷ ("N14 setpoint above F in Manual" ∶ sample (λ ws. word 0 1 (word 2 4096 ws)) 0 gives one 14)
    ∷ ("N14 Automatic, pointer 1,024" ∶ sample (word 26 1024) 0 gives one 0)
    ∷ ("N14 Automatic, word pointed to above F" ∶ sample (λ ws. word 26 40 (word 40 4096 ws)) 0 gives one 0)
    ∷ ("N14 Cascade, own setpoint above F" ∶ sample (λ ws. word 0 4 (word 2 4096 (word 26 40 ws))) 0 gives one 0)
    ∷ ("N14 Cascade, word pointed to at F" ∶ sample (λ ws. word 0 4 (word 26 40 (word 40 4095 ws))) 0 gives one 0)
    ∷ ("N14 Cascade, word pointed to above F" ∶ sample (λ ws. word 0 4 (word 26 40 (word 40 4096 ws))) 0 gives one 14)
    ∷ ("N14 Cascade, pointer 1,023" ∶ sample (λ ws. word 0 4 (word 26 1023 ws)) 0 gives one 0)
    ∷ ("N14 Cascade, pointer 1,024" ∶ sample (λ ws. word 0 4 (word 26 1024 ws)) 0 gives one 14)
    ∷ ("N14 Cascade carried and no request" ∶ from Cascade (λ ws. word 0 0 (word 26 1024 ws)) 0 gives one 14)
    ∷ ("N14 Cascade carried, Automatic requested" ∶ from Cascade (word 26 1024) 0 gives one 0)
    ∷ ("N14 Manual and Cascade requested" ∶ from Cascade (λ ws. word 0 5 (word 26 1024 ws)) 0 gives one 0)
    ∷ ("N14 Cascade in 16 bits in, 12 out, word pointed to at F" ∶ sample (λ ws. word 0 4 (word 1 0x0600 (word 26 40 (word 40 65535 ws)))) 0 gives one 0)
    ∷ ("N12 at reset" ∶ sample (λ _. replicate 1024 0) 0 gives one 12)
    ∷ ("N7 its example" ∶ sample (λ _. word 8 0x000A (replicate 1024 0)) 0 gives one 7)
    ∷ []

-- in Manual too
order : List Case
order =
    ("N7 in Manual" ∶ sample (λ ws. word 0 1 (word 8 0x000A ws)) 0 gives one 7)
    ∷ ("N8 in Manual" ∶ sample (word 0 513) 0 gives one 8)
    ∷ ("N12 in Manual" ∶ sample (λ ws. word 0 1 (word 9 0 ws)) 0 gives one 12)
    ∷ ("N13 in Manual" ∶ sample (λ ws. word 0 1 (word 25 4096 ws)) 0 gives one 13)
    ∷ ("N9 in Manual" ∶ sample (word 0 1) 4096 gives one 9)
    ∷ ("N9 in Cascade" ∶ from Cascade (word 0 0) 4096 gives one 9)
    -- neighbours in the order of testing, both at once
    ∷ ("O3 N7 and N8" ∶ sample (λ ws. word 8 0x000A (word 0 512 ws)) 0 gives one 7)
    ∷ ("O3 N8 and N12 by the reset time" ∶ sample (λ ws. word 0 512 (word 9 0 ws)) 0 gives one 8)
    ∷ ("O3 N8 by the hysteresis and N12 by the period" ∶ sample (λ ws. word 0 4096 (word 7 4 ws)) 0 gives one 8)
    ∷ ("O3 N12 and N13" ∶ sample (λ ws. word 9 0 (word 25 4096 ws)) 0 gives one 12)
    ∷ ("O3 N13 and N14" ∶ sample (λ ws. word 25 4096 (word 2 4096 ws)) 0 gives one 13)
    ∷ ("O3 N14 and N9" ∶ sample (word 2 4096) 4096 gives one 14)
    ∷ []

-- ---- the ramp/soak table

-- a profile's table at an address, with one of its words changed
table : ℕ → ℕ → ℕ → List ℕ → List ℕ
table at i value ws = word 0 2048 (word 28 at (word (at + i) value ws))

-- N7: each slope and duration, in no other word; N8: each end, before N12; only at a good address, and with bit 11 on
ends : List Case
ends =
    ("N8 end of ramp 1 at F" ∶ sample (table 512 0 4095) 0 gives one 0)
    ∷ ("N8 end of ramp 1" ∶ sample (table 512 0 4096) 0 gives one 8)
    ∷ ("N8 end of ramp 2" ∶ sample (table 512 4 4096) 0 gives one 8)
    ∷ ("N8 end of ramp 3" ∶ sample (table 512 8 4096) 0 gives one 8)
    ∷ ("N8 end of ramp 4" ∶ sample (table 512 12 4096) 0 gives one 8)
    ∷ ("N8 end of ramp 5" ∶ sample (table 512 16 4096) 0 gives one 8)
    ∷ ("N8 end of ramp 6" ∶ sample (table 512 20 4096) 0 gives one 8)
    ∷ ("N8 end of ramp 7" ∶ sample (table 512 24 4096) 0 gives one 8)
    ∷ ("N8 end of ramp 8 at address 992" ∶ sample (table 992 28 4096) 0 gives one 8)
    ∷ ("N8 end in 16 bits" ∶ sample (λ ws. word 1 512 (table 512 0 65535 ws)) 0 gives one 0)
    ∷ ("N8 end above F in 15 bits" ∶ sample (λ ws. word 1 2 (table 512 0 32768 ws)) 0 gives one 8)
    ∷ ("N8 end in 16 bits in, 12 out" ∶ sample (λ ws. word 1 0x0600 (table 512 0 65535 ws)) 0 gives one 0)
    ∷ ("N8 end above F in 12 bits in, 16 out" ∶ sample (λ ws. word 1 0x2400 (table 512 0 4096 ws)) 0 gives one 8)
    ∷ []

slopes : List Case
slopes =
    ("N7 slope 1" ∶ sample (table 512 1 0x000A) 0 gives one 7)
    ∷ ("N7 slope 2" ∶ sample (table 512 5 0x000A) 0 gives one 7)
    ∷ ("N7 slope 3" ∶ sample (table 512 9 0x000A) 0 gives one 7)
    ∷ ("N7 slope 4" ∶ sample (table 512 13 0x000A) 0 gives one 7)
    ∷ ("N7 slope 5" ∶ sample (table 512 17 0x000A) 0 gives one 7)
    ∷ ("N7 slope 6" ∶ sample (table 512 21 0x000A) 0 gives one 7)
    ∷ ("N7 slope 7" ∶ sample (table 512 25 0x000A) 0 gives one 7)
    ∷ ("N7 slope 8 at address 992" ∶ sample (table 992 29 0x00A0) 0 gives one 7)
    ∷ []

durations : List Case
durations =
    ("N7 duration 1" ∶ sample (table 512 2 0xA000) 0 gives one 7)
    ∷ ("N7 duration 2" ∶ sample (table 512 6 0xA000) 0 gives one 7)
    ∷ ("N7 duration 3" ∶ sample (table 512 10 0xA000) 0 gives one 7)
    ∷ ("N7 duration 4" ∶ sample (table 512 14 0xA000) 0 gives one 7)
    ∷ ("N7 duration 5" ∶ sample (table 512 18 0xA000) 0 gives one 7)
    ∷ ("N7 duration 6" ∶ sample (table 512 22 0xA000) 0 gives one 7)
    ∷ ("N7 duration 7" ∶ sample (table 512 26 0xA000) 0 gives one 7)
    ∷ ("N7 duration 8 at address 992" ∶ sample (table 992 30 0x0A00) 0 gives one 7)
    ∷ []

elsewhere : List Case
elsewhere =
    ("N7 deviation 1 is no BCD" ∶ sample (table 512 3 0xFFFF) 0 gives one 0)
    ∷ ("N7 deviation 8 is no BCD" ∶ sample (table 512 31 0xFFFF) 0 gives one 0)
    ∷ ("N7 the word before the table" ∶ sample (λ ws. word 0 2048 (word 28 516 (word 514 0x000A ws))) 0 gives one 0)
    ∷ ("N7 the word behind the table" ∶ sample (table 512 33 0x000A) 0 gives one 0)
    ∷ ("N7 address 511" ∶ sample (table 511 1 0x000A) 0 gives one 0)
    ∷ ("N7 address 993" ∶ sample (table 993 1 0x000A) 0 gives one 0)
    ∷ ("N8 address 511" ∶ sample (table 511 0 4096) 0 gives one 0)
    ∷ ("N8 address 993" ∶ sample (table 993 0 4096) 0 gives one 0)
    ∷ ("N7 bit 11 off" ∶ sample (λ ws. word 0 0 (table 512 1 0x000A ws)) 0 gives one 0)
    ∷ ("N8 bit 11 off" ∶ sample (λ ws. word 0 0 (table 512 0 4096 ws)) 0 gives one 0)
    ∷ ("N7 in Cascade" ∶ sample (λ ws. word 0 2052 (table 512 1 0x000A ws)) 0 gives one 7)
    ∷ ("N7 in segment 16" ∶ answer Automatic 16 (table 512 1 0x000A) 0 gives one 7)
    ∷ ("N8 in segment 16" ∶ answer Automatic 16 (table 512 0 4096) 0 gives one 8)
    ∷ ("O3 N8 by an end and N12" ∶ sample (λ ws. word 7 4 (table 512 0 4096 ws)) 0 gives one 8)
    ∷ ("O3 N7 by a slope and N8 by an end" ∶ sample (λ ws. word 513 0x000A (table 512 0 4096 ws)) 0 gives one 7)
    ∷ ("O3 N7 by a slope and N8 by mode 1" ∶ sample (λ ws. word 0 0x0A00 (table 512 1 0x000A ws)) 0 gives one 7)
    ∷ ("O3 N8 by an end and N9" ∶ sample (table 512 0 4096) 4096 gives one 8)
    ∷ []

-- ---- a transfer

-- of loop 1 to loop 2, whose output limits are 1,000 and 2,000
handed : List ℕ → List ℕ
handed ws = word 0 4 (word 26 37 (word 56 1000 (word 57 2000 ws)))

-- N11: p on both sides of each limit; pointers that are no other loop's output, and one that is loop 16's; N7, N14 and N9 before it; no transfer
handing : List Case
handing =
    ("N11 p at the major loop's low limit" ∶ from Automatic handed 1000 gives one 0)
    ∷ ("N11 p below it" ∶ from Automatic handed 999 gives one 11)
    ∷ ("N11 p at the major loop's high limit" ∶ from Automatic handed 2000 gives one 0)
    ∷ ("N11 p above it" ∶ from Automatic handed 2001 gives one 11)
    ∷ ("N11 equal limits" ∶ from Automatic (λ ws. word 57 1000 (handed ws)) 1000 gives one 0)
    ∷ ("N11 low limit above the high one" ∶ from Automatic (λ ws. word 57 999 (handed ws)) 1000 gives one 11)
    ∷ ("N11 the own output word" ∶ from Automatic (λ ws. word 26 5 (handed ws)) 1000 gives one 11)
    ∷ ("N11 word 4 of loop 2" ∶ from Automatic (λ ws. word 26 36 (handed ws)) 1000 gives one 11)
    ∷ ("N11 word 6 of loop 2" ∶ from Automatic (λ ws. word 26 38 (handed ws)) 1000 gives one 11)
    ∷ ("N11 the output of loop 16" ∶ from Automatic (λ ws. word 26 485 (word 505 4095 (handed ws))) 999 gives one 0)
    ∷ ("N11 a free word" ∶ from Automatic (λ ws. word 26 517 (handed ws)) 1000 gives one 11)
    -- what is read where there is no major loop are limits of 0, so p = 0 would pass these
    ∷ ("N11 the own output word, p = 0" ∶ from Automatic (λ ws. word 26 5 (handed ws)) 0 gives one 11)
    ∷ ("N11 a free word, p = 0" ∶ from Automatic (λ ws. word 26 517 (handed ws)) 0 gives one 11)
    ∷ ("N11 word 6 of loop 2, p = 0" ∶ from Automatic (λ ws. word 26 38 (handed ws)) 0 gives one 11)
    ∷ ("O3 N7 and N11" ∶ from Automatic (λ ws. word 8 0x000A (handed ws)) 999 gives one 7)
    ∷ ("O3 N14 and N11" ∶ from Automatic (λ ws. word 37 4096 (handed ws)) 999 gives one 14)
    ∷ ("O3 N9 and N11" ∶ from Automatic handed 4096 gives one 9)
    ∷ ("N11 Bumpless II is no transfer" ∶ from Automatic (λ ws. word 0 12 (handed ws)) 999 gives one 0)
    ∷ ("N11 Automatic requested too" ∶ from Automatic (λ ws. word 0 6 (handed ws)) 999 gives one 0)
    ∷ ("N11 no request" ∶ from Automatic (λ ws. word 0 0 (handed ws)) 999 gives one 0)
    ∷ ("N11 from Manual" ∶ from Manual handed 999 gives one 0)
    ∷ ("N11 in Cascade" ∶ from Cascade handed 999 gives one 0)
    -- X4: the root of raw PV 1,000 is 2,024, outside 1,000 to 2,000; that of raw PV 500 is 1,431 (500 × 4,095 = 2,047,500, above 1,430 × 1,431)
    ∷ ("N11 p is the root, above the high limit" ∶ from Automatic (λ ws. word 0 0x0044 (handed ws)) 1000 gives one 11)
    ∷ ("N11 p is the root, inside" ∶ from Automatic (λ ws. word 0 0x0044 (handed ws)) 500 gives one 0)
    -- nothing is converted: 16 bits in and 12 out, 16,000 would become 1,000
    ∷ ("N11 p is not converted" ∶ from Automatic (λ ws. word 1 0x0600 (handed ws)) 16000 gives one 11)
    ∷ ("N11 p inside limits above G" ∶ from Automatic (λ ws. word 1 0x0600 (word 57 16000 (handed ws))) 16000 gives one 0)
    ∷ []

parts : List (List Case)
parts = numbers ∷ modes ∷ formats ∷ setpoints ∷ order ∷ ends ∷ slopes ∷ durations ∷ elsewhere ∷ handing ∷ []

pub cases : List Case
cases = together parts

pub computed : failing cases ≡ []
unfolding fault_of pair_at any_below bad_digit_in high_end_in no_program program_of bcd bad_digit mode2_of bad_digits tuning_of settings_of mode_after remote_of transfers major_of limits_at major_in root_within root_of pv_of reading_of worked word answer from sample one table handed numbers modes formats setpoints order ends slopes durations elsewhere handing parts cases
computed = in_parts parts (refl, (refl, (refl, (refl, (refl, (refl, (refl, (refl, (refl, (refl, tt))))))))))
