-- Calls on a desk computed of the definitions. Two lists of them, with the plain loops of loops 1 and 9 beside them: one with refused calls between, words
-- written from outside, and a reset; and one of a cascade, from transfer to transfer. Then single calls on a desk whose words and numbers all differ: which
-- of them change, every one of the 1,024 words and 224 numbers being compared; the refusals N4, N5 and N6 (O1, O3); the forecast; and a record copied out.
use Rattle.desk.specs.declared.sampling.Line.{Line}
use Rattle.refusals.specs.declared.Refusal.{Refusal}
use Rattle.std.specs.Prelude.{Result, Ok, Err}
use Prim.Native.Nat.{ℕ, zero, suc, ◌+◌}
use Prim.Native.String.{String}
use mathlib.Core.Path.{◌≡◌, refl}
use mathlib.Core.Bool.{Bool, true, false, cond}
use mathlib.Core.List.{List, [], ◌∷◌, ◌++◌, map}
use lib.Dec.{eqb}
use lib.IntN.{ℤ, pos, neg_ℤ}
use lib.ListN.{get_or, set, replicate, take}
use lib.Seq.{sets}
use Rattle.computed.specs.Cases.{Case, ◌∶◌gives◌, ◌∶◌givesℤ◌, flag, signed, failing}
use Rattle.computed.specs.Cases.Laws.{together, in_parts, each_holds}
use Rattle.numbers.specs.Limits.{clamp_by}
use Rattle.numbers.specs.Rounding.{half_up, half_away}
use Rattle.numbers.specs.Roots.{root_within, root_of}
use Rattle.numbers.specs.Fractions.{over, ◌+ᶠ◌, negᶠ, ltᶠ, round_to}
use Rattle.refusals.specs.Refusals.{number_of, number_of_refusal}
use Rattle.table.specs.Words.{bcd, bad_digit, base_of}
use Rattle.reading.specs.Settings.{mode2_of, bad_digits, tuning_of, settings_of}
use Rattle.reading.specs.Programs.{fault_of, pair_at, any_below, bad_digit_in, high_end_in, no_program, program_of}
use Rattle.reading.specs.Transfers.{major_of, limits_at, major_in}
use Rattle.reading.specs.Transfers.{transfers as isTransfer}
use Rattle.reading.specs.Reading.{mode_after, remote_of, reading_of}
use Rattle.control.specs.Counts.{output_counts}
use Rattle.control.specs.Errors.{in_deadband, squared_over, error_of}
use Rattle.control.specs.Terms.{exact_p, exact_i, exact_d, exact_terms, terms_of}
use Rattle.control.specs.Forms.{outside_of, position_of, velocity_of}
use Rattle.numbers.specs.Distances.{apart}
use Rattle.profile.specs.Moves.{command_of, with_hold, handed_over, jogged_of, toward, ramped_to, ramped_by, soaked_by, worked_by, advanced_by}
use Rattle.profile.specs.Moves.{moved_by as profileMoved}
use Rattle.profile.specs.Flags.{deviates, flags_of}
use Rattle.profile.specs.Samples.{sampled_by}
use Rattle.profile.specs.Forecasts.{count_of, ramps_from, forecast_of}
use Rattle.alarms.specs.Status.{levels_of, status_of}
use Rattle.carried.specs.Layout.{out_of_range, numbers_of, profile_from, record_from}
use Rattle.measuring.specs.Measuring.{pv_of}
use Rattle.engine.specs.Sensing.{setpoint_of, changed, entering, runs_on, target_of, profiled_of, fault_after, error_in, sensed_of}
use Rattle.engine.specs.Driving.{held_of, start_of, kept_in, past_of, position_inputs, velocity_inputs, terms_in, moved_in, moved_of, driven_of}
use Rattle.engine.specs.Writing.{output_word, bias_word, status_word, written_of, next_of, written_to}
use Rattle.engine.specs.Steps.{step_of}
use Rattle.plain.specs.Exact.{exact_sum, exact_output, exact_bias}
use Rattle.plain.specs.Plain.{Plain, begun, count_after, exact_moved, plain_after, plain_marked}
use Rattle.desk.specs.Desk.{Desk, lent, fitting_of, no_loop, reset_desk, reset_answer, reset_left, store_answer, store_left, transfer_left, done_by, sample_answer, sample_left, sampled_at, remaining_of, forecast_at, fields_answer, fields_left}
use Rattle.desk.specs.Lists.{Call, reset, store, sample, answer_to, desk_after, Plains, begun_all, sampled_all, fed}

-- ---- lists of calls

-- its name, what is written before a call, the call, and what is expected after it: the answer's number, of loop 9 and of loop 1 the output word and n,
-- and of loop 1 the mark too
pub record Step : Type 0 where
  pub name : String
  pub write : List ℕ → List ℕ
  pub call : Call
  pub row : List ℕ

-- the plain loops of loops 1 and 9; no other loop is sampled here
pair : Plain → Plain → Plains
pair q1 q9 k = cond (eqb k 1) q1 q9

rows : Desk → Plain → Plain → List Step → List Case
rows d q1 q9 [] = []
rows d q1 q9 (x ∷ xs) =
    let before = lent (x.write d.words) d.numbers in
    let after = desk_after before x.call in
    let qs = fed (pair q1 q9) before x.call in
    let r1 = qs 1 in
    let r9 = qs 9 in
    (x.name ∶ number_of (answer_to before x.call) ∷ get_or after.words (base_of 9 + 5) 0 ∷ r9.n ∷ get_or after.words 5 0 ∷ r1.n ∷ flag r1.state.mark ∷ [] gives x.row)
    ∷ rows after r1 r9 xs

from_reset : List Step → List Case
from_reset xs = rows reset_desk (begun_all reset_desk.numbers 1) (begun_all reset_desk.numbers 9) xs

-- the words of a loop, from its base on, as those of X1's loop
set_up : ℕ → List ℕ → List ℕ
set_up base ws = set (set (set (set (set (set ws (base + 5) 2000) (base + 25) 4095) (base + 7) 0x0100) (base + 8) 0x0200) (base + 9) 0x1000) base 2

-- refused calls between, words written from outside, and a reset: loop 1 stays at reset
writing : String → (List ℕ → List ℕ) → Call → ℕ → ℕ → ℕ → Step
writing name write call number output n = record { name = name; write = write; call = call; row = number ∷ output ∷ n ∷ 0 ∷ 0 ∷ 0 ∷ [] }

step : String → Call → ℕ → ℕ → ℕ → Step
step name call number output n = writing name (λ ws. ws) call number output n

mixed : List Step
mixed =
    writing "X1 entry of loop 9" (set_up 256) (sample 9 1000) 0 2000 1
    ∷ step "N4 a sample of loop 17" (sample 17 0) 4 2000 1
    ∷ step "N9 a refused sample leaves n" (sample 9 4096) 9 2000 1
    ∷ writing "A8 word 5 from outside is written over" (λ ws. set ws 261 9) (sample 9 1000) 0 2000 2
    ∷ step "Q2 a setpoint stored" (store 258 1500) 0 2000 2
    -- gain 3.00, e = 500: 2,000 + 150 + 1,500
    ∷ writing "A7 another gain" (λ ws. set ws 264 0x0300) (sample 9 1000) 0 3650 3
    ∷ step "N12 a sample of loop 1 at reset" (sample 1 1000) 12 3650 3
    ∷ step "N6 a store into word 3" (store 259 5) 6 3650 3
    ∷ step "Q1 a reset" reset 0 0 0
    ∷ writing "E3 loop 9 begins anew" (set_up 256) (sample 9 1000) 0 2000 1
    ∷ step "Q2 the setpoint again" (store 258 1500) 0 2000 1
    ∷ step "X1 line 9 of loop 9" (sample 9 1000) 0 3100 2
    -- A1: with the root p is 2,024, so e = −524: 2,100 − 104.8 − 1,048
    ∷ writing "A1 the root" (λ ws. set ws 256 64) (sample 9 1000) 0 947 3
    ∷ []

-- A13, N11: a cascade, loop 9 the minor and loop 1 the major
both : String → (List ℕ → List ℕ) → Call → ℕ → ℕ → ℕ → ℕ → ℕ → Bool → Step
both name write call number output n output1 n1 mark1 =
    record { name = name; write = write; call = call; row = number ∷ output ∷ n ∷ output1 ∷ n1 ∷ flag mark1 ∷ [] }

-- both from X1's settings, and loop 9's pointer at loop 1's output
cascade : List ℕ → List ℕ
cascade ws = set (set_up 256 (set_up 0 ws)) 282 5

transfers : List Step
transfers =
    both "A4 loop 1 enters" cascade (sample 1 1000) 0 2000 0 2000 1 false
    ∷ both "A4 loop 9 enters" (λ ws. ws) (sample 9 1200) 0 2000 1 2000 1 false
    -- no error in loop 9, so the valve stays; loop 1's output is 1,200
    ∷ both "A13 the transfer" (λ ws. set ws 256 4) (sample 9 1200) 0 2000 2 1200 1 true
    -- its setpoint is kept: e = 100, 1,200 + 20 + 200
    ∷ both "A4 loop 1 enters by the mark from 1,200" (λ ws. set ws 2 1100) (sample 1 1000) 0 2000 2 1420 1 false
    -- e = 220, 2,000 + 44 + 440
    ∷ both "A3 loop 9 follows loop 1's output" (λ ws. ws) (sample 9 1200) 0 2484 3 1420 1 false
    -- 1,220 + 20 + 200
    ∷ both "A8 loop 1 goes on" (λ ws. ws) (sample 1 1000) 0 2484 3 1440 2 false
    -- e = 220, 2,044 + 44 + 440
    ∷ both "A4 Automatic again is no entry" (λ ws. set ws 256 2) (sample 9 1200) 0 2528 4 1440 2 false
    -- loop 1's low limit 1,201, then 1,200; e = 0, bias 2,088
    ∷ both "N11 p below loop 1's low limit" (λ ws. set (set ws 256 4) 24 1201) (sample 9 1200) 11 2528 4 1440 2 false
    ∷ both "N11 p at it" (λ ws. set ws 24 1200) (sample 9 1200) 0 2088 5 1200 2 true
    ∷ both "A11 Manual keeps the mark" (λ ws. set ws 0 1) (sample 1 1000) 0 2088 5 1200 0 true
    ∷ both "A13 a refused sample keeps the mark" (λ ws. set ws 0 2) (sample 1 4096) 9 2088 5 1200 0 true
    -- the setpoint is forced, e = 0
    ∷ both "A4 loop 1 enters from Manual" (λ ws. ws) (sample 1 1000) 0 2088 5 1200 1 false
    ∷ both "A2 loop 9 in Automatic" (λ ws. set ws 256 2) (sample 9 1200) 0 2088 6 1200 1 false
    ∷ both "N11 p above loop 1's high limit" (λ ws. set (set (set ws 256 4) 24 0) 25 1199) (sample 9 1200) 11 2088 6 1200 1 false
    ∷ both "N11 the own output" (λ ws. set (set ws 25 4095) 282 261) (sample 9 1200) 11 2088 6 1200 1 false
    ∷ both "N11 a free word" (λ ws. set ws 282 517) (sample 9 1200) 11 2088 6 1200 1 false
    ∷ both "N11 a word that is no output" (λ ws. set ws 282 6) (sample 9 1200) 11 2088 6 1200 1 false
    ∷ both "O3 N14 before N11" (λ ws. set (set ws 282 261) 261 4096) (sample 9 1200) 14 4096 6 1200 1 false
    ∷ both "O3 N9 before N11" (λ ws. set ws 261 2088) (sample 9 4096) 9 2088 6 1200 1 false
    -- s = 1,300, e = 100, 2,088 + 20 + 200
    ∷ both "A13 Bumpless II forces nothing" (λ ws. set (set (set ws 256 12) 282 5) 5 1300) (sample 9 1200) 0 2308 7 1300 1 false
    -- no entry, 2,108 + 20 + 200
    ∷ both "A13 the minor loop has no mark" (λ ws. set ws 261 7) (sample 9 1200) 0 2328 8 1300 1 false
    ∷ []

-- ---- what a call changes

-- n numbers from a first one on
count : ℕ → ℕ → List ℕ
count from zero = []
count from (suc n) = from ∷ count (suc from) n

minus : ℕ → ℤ
minus n = neg_ℤ (pos n)

-- loop 9's words: mode 1 as given, 12 bits, setpoint 1,100, PV 777, bias 888, output 2,000, status 1, period 1.00 s, gain 2.00, reset time 10.00 s, no
-- rate, words 11 to 23 not watched, limits 0 and 4,095, pointer at loop 1's output, word 27 with a command, words 28 to 31
loop_9 : ℕ → List ℕ
loop_9 mode =
    mode ∷ 0 ∷ 1100 ∷ 777 ∷ 888 ∷ 2000 ∷ 1 ∷ 0x0100 ∷ 0x0200 ∷ 0x1000 ∷ 0 ∷ (count 11 13 ++ (0 ∷ 4095 ∷ 5 ∷ 2 ∷ 28 ∷ 29 ∷ 30 ∷ 31 ∷ []))

-- loop 9's record: Automatic, bias and output 2,000 counts, PVs 1,150 and 1,140, error −50, a held profile in segment 3, fraction 17, time 250
record_9 : List ℤ
record_9 =
    pos 1 ∷ pos 524288000 ∷ pos 524288000 ∷ pos 1150 ∷ pos 1140 ∷ minus 50 ∷ pos 0 ∷ pos 1 ∷ pos 3 ∷ pos 1 ∷ pos 0 ∷ pos 17 ∷ pos 250 ∷ pos 0 ∷ []

-- word i is 2,000 + i and number i is 1,000 + i, but for loop 9's, and for loop 1's output limits. No other record is in range
full : ℕ → Desk
full mode = lent (set (set (sets (count 2000 1024) 256 (loop_9 mode)) 24 1200) 25 1200) (sets (map pos (count 1000 224)) 112 record_9)

-- the places that differ, each with what stands there now
changes : ℕ → List ℕ → List ℕ → List ℕ
changes at [] [] = []
changes at [] (y ∷ ys) = at ∷ y ∷ changes (suc at) [] ys
changes at (x ∷ xs) [] = at ∷ []
changes at (x ∷ xs) (y ∷ ys) = cond (eqb x y) (changes (suc at) xs ys) (at ∷ y ∷ changes (suc at) xs ys)

-- the answer to a call, and the words that it changes; the numbers that it changes
changed_words : Desk → Call → List ℕ
changed_words d call = number_of (answer_to d call) ∷ changes 0 d.words (desk_after d call).words

changed_numbers : Desk → Call → List ℕ
changed_numbers d call = changes 0 (map signed d.numbers) (map signed (desk_after d call).numbers)

all_changes : Desk → Call → List ℕ
all_changes d call = changed_words d call ++ changed_numbers d call

-- A13: s = p = 1,200, so the terms are 0. Request off; words 2, 3, 4 and 6; the output stays; words 27 and 29 and the profile stay in Cascade
-- A8: e = −100, 2,000 − 20 − 200. Bit 15 stays on; the profile ends (G4): words 27 and 29, segment and hold
changing : List Case
changing =
    ("A13 words that a transfer changes" ∶ changed_words (full 4) (sample 9 1200)
    gives (0 ∷ 5 ∷ 1200 ∷ 256 ∷ 0 ∷ 258 ∷ 1200 ∷ 259 ∷ 1200 ∷ 260 ∷ 2000 ∷ 262 ∷ 4 ∷ []))
    ∷ ("A13 numbers that a transfer changes" ∶ changed_numbers (full 4) (sample 9 1200)
    gives (13 ∷ signed (pos 1) ∷ 112 ∷ signed (pos 2) ∷ 115 ∷ signed (pos 1200) ∷ 116 ∷ signed (pos 1150) ∷ 117 ∷ signed (pos 0) ∷ []))
    ∷ ("A12 words that a sample changes" ∶ changed_words (full 0x8002) (sample 9 1200)
    gives (0 ∷ 256 ∷ 0x8000 ∷ 259 ∷ 1200 ∷ 260 ∷ 1980 ∷ 261 ∷ 1780 ∷ 262 ∷ 2 ∷ 283 ∷ 0 ∷ 285 ∷ 0 ∷ []))
    ∷ ("A11 numbers that a sample changes" ∶ changed_numbers (full 0x8002) (sample 9 1200)
    gives (113 ∷ signed (pos 519045120) ∷ 114 ∷ signed (pos 466616320) ∷ 115 ∷ signed (pos 1200) ∷ 116 ∷ signed (pos 1150) ∷ 117 ∷ signed (minus 100)
    ∷ 120 ∷ signed (pos 0) ∷ 121 ∷ signed (pos 0) ∷ []))
    ∷ []

shown : Result Line Refusal → List ℕ
shown (Ok l) = 0 ∷ l.setpoint ∷ l.pv ∷ l.output ∷ l.status ∷ []
shown (Err why) = number_of_refusal why ∷ []

refusing : List Case
refusing =
    ("Q8 a sample refused with 9 leaves all" ∶ all_changes (full 4) (sample 9 4096) gives (9 ∷ []))
    ∷ ("Q8 a transfer refused with 11 leaves all" ∶ all_changes (full 4) (sample 9 1201) gives (11 ∷ []))
    ∷ ("Q8 a sample refused with 5 for its record leaves all" ∶ all_changes (full 4) (sample 1 1200) gives (5 ∷ []))
    ∷ ("Q8 a sample refused with 4 leaves all" ∶ all_changes (full 4) (sample 17 1200) gives (4 ∷ []))
    ∷ ("Q8 a store refused with 6 leaves all" ∶ all_changes (full 4) (store 259 1) gives (6 ∷ []))
    ∷ ("Q8 a reset refused with 5 leaves all" ∶ all_changes (lent (count 2000 1023) (full 4).numbers) reset gives (5 ∷ []))
    ∷ ("Q3 the line of a sample" ∶ shown (sampled_at (full 0x8002) 9 1200) gives (0 ∷ 1100 ∷ 1200 ∷ 1780 ∷ 2 ∷ []))
    ∷ ("Q3 the line of a transfer" ∶ shown (sampled_at (full 4) 9 1200) gives (0 ∷ 1200 ∷ 1200 ∷ 2000 ∷ 4 ∷ []))
    ∷ ("Q3 no line of a refused sample" ∶ shown (sampled_at (full 4) 9 4096) gives (9 ∷ []))
    ∷ []

-- H3: a reset leaves zeros; Q2: a store changes its word and no other
stored : ℕ → List ℕ
stored address = number_of (answer_to reset_desk (store address 7)) ∷ []

storing : List Case
storing =
    ("Q1 a reset leaves 1,024 zeros" ∶ (desk_after (full 4) reset).words gives replicate 1024 0)
    ∷ ("Q1 a reset leaves 224 zeros" ∶ (desk_after (full 4) reset).numbers givesℤ replicate 224 (pos 0))
    ∷ ("Q2 what a store changes" ∶ all_changes (full 4) (store 261 7) gives (0 ∷ 261 ∷ 7 ∷ []))
    ∷ ("Q2 what a store into the last word changes" ∶ all_changes (full 4) (store 1023 7) gives (0 ∷ 1023 ∷ 7 ∷ []))
    ∷ ("N6 words 3, 4, 6 and 29 of loop 1" ∶ stored 3 ++ (stored 4 ++ (stored 6 ++ stored 29)) gives (6 ∷ 6 ∷ 6 ∷ 6 ∷ []))
    ∷ ("N6 their neighbours" ∶ stored 2 ++ (stored 5 ++ (stored 7 ++ (stored 28 ++ stored 30))) gives (0 ∷ 0 ∷ 0 ∷ 0 ∷ 0 ∷ []))
    ∷ ("N6 words 3, 4, 6 and 29 of loop 16" ∶ stored 483 ++ (stored 484 ++ (stored 486 ++ stored 509)) gives (6 ∷ 6 ∷ 6 ∷ 6 ∷ []))
    ∷ ("N6 these offsets at 512" ∶ stored 515 ++ (stored 516 ++ (stored 518 ++ stored 541)) gives (0 ∷ 0 ∷ 0 ∷ 0 ∷ []))
    ∷ ("N6 these offsets at 992" ∶ stored 995 ++ (stored 996 ++ (stored 998 ++ stored 1021)) gives (0 ∷ 0 ∷ 0 ∷ 0 ∷ []))
    ∷ ("N6 address 1,023" ∶ stored 1023 gives (0 ∷ []))
    ∷ ("N6 address 1,024" ∶ stored 1024 gives (6 ∷ []))
    ∷ ("Q7 address 66,000" ∶ stored 66000 gives (6 ∷ []))
    ∷ []

-- ---- N4 and N5, and their order

asked : Desk → ℕ → List ℕ
asked d k = number_of (answer_to d (sample k 0)) ∷ []

-- X1's loop as loop 1, from reset; a number of its record out of range
ready : Desk
ready = lent (set_up 0 reset_desk.words) reset_desk.numbers

damaged : Desk
damaged = lent ready.words (set ready.numbers 3 (pos 65536))

-- words or numbers of another length
words_of : ℕ → Desk
words_of n = lent (take n (ready.words ++ (0 ∷ []))) ready.numbers

with_numbers : ℕ → Desk
with_numbers n = lent ready.words (take n (ready.numbers ++ (pos 0 ∷ [])))

testing : List Case
testing =
    ("N4 loops 0, 17, 257 and 2^64 − 1" ∶ asked ready 0 ++ (asked ready 17 ++ (asked ready 257 ++ asked ready 18446744073709551615)) gives (4 ∷ 4 ∷ 4 ∷ 4 ∷ []))
    ∷ ("N4 loops 1 and 16" ∶ asked ready 1 ++ asked ready 16 gives (0 ∷ 12 ∷ []))
    ∷ ("Q7 raw PV 66,536" ∶ number_of (answer_to ready (sample 1 66536)) ∷ [] gives (9 ∷ []))
    ∷ ("N5 a record out of range" ∶ asked damaged 1 gives (5 ∷ []))
    ∷ ("H5 another loop's record out of range" ∶ asked damaged 2 gives (12 ∷ []))
    ∷ ("O3 N4 before N5 of the record" ∶ asked damaged 0 gives (4 ∷ []))
    ∷ ("O3 N5 of the record before N7" ∶ asked (lent (set damaged.words 8 0x000A) damaged.numbers) 1 gives (5 ∷ []))
    ∷ ("N5 1,023 and 1,025 words" ∶ asked (words_of 1023) 1 ++ asked (words_of 1025) 1 gives (5 ∷ 5 ∷ []))
    ∷ ("N5 1,024 words" ∶ asked (words_of 1024) 1 gives (0 ∷ []))
    ∷ ("N5 223 and 225 numbers" ∶ asked (with_numbers 223) 1 ++ asked (with_numbers 225) 1 gives (5 ∷ 5 ∷ []))
    ∷ ("N5 224 numbers" ∶ asked (with_numbers 224) 1 gives (0 ∷ []))
    ∷ ("O1 wrong lengths before N4" ∶ asked (words_of 1023) 17 ++ asked (with_numbers 223) 17 gives (5 ∷ 5 ∷ []))
    ∷ ("O1 wrong lengths before N6" ∶ number_of (answer_to (words_of 1023) (store 3 1)) ∷ number_of (answer_to (with_numbers 223) (store 1024 1)) ∷ [] gives (5 ∷ 5 ∷ []))
    ∷ ("O1 wrong lengths of a reset" ∶ number_of (answer_to (words_of 1025) reset) ∷ number_of (answer_to (with_numbers 225) reset) ∷ [] gives (5 ∷ 5 ∷ []))
    ∷ ("H5 a store and a reset look at no record" ∶ number_of (answer_to damaged (store 2 1)) ∷ number_of (answer_to damaged reset) ∷ [] gives (0 ∷ 0 ∷ []))
    ∷ []

-- ---- Q11, G12: the forecast

foretold : Result ℕ Refusal → List ℕ
foretold (Ok n) = 0 ∷ n ∷ []
foretold (Err why) = number_of_refusal why ∷ []

-- X1's loop in Automatic with bit 11 on, setpoint 1,000 and a table at 512: to 1,010 by 1.00 a second, a soak of 0.1 minute, and a ramp of slope 0.00
profiled : ℕ → ℕ → Desk
profiled segment hold =
    lent (set (set (set (sets ready.words 512 (1010 ∷ 0x0100 ∷ 0x0001 ∷ [])) 0 0x0800) 2 1000) 28 512)
    (set (set (set ready.numbers 0 (pos 1)) 8 (pos segment)) 9 (pos hold))

-- and with words changed
with_words : (List ℕ → List ℕ) → Desk → Desk
with_words write d = lent (write d.words) d.numbers

-- Cascade requested: a transfer to loop 2, whose limits are 1 and 2,000; p is 0
handed : ℕ → Desk
handed low = with_words (λ ws. set (set (set (set ws 0 0x0804) 26 37) 56 low) 57 2000) (profiled 1 0)

-- loop 9 in Manual with X1's settings, setpoint 1,000.0001 and a table of its own at 600: to 990 by 1.00 a second, and as above
profiled_9 : Desk
profiled_9 =
    lent (set (set (set (sets (set_up 256 reset_desk.words) 600 (990 ∷ 0x0100 ∷ 0x0001 ∷ [])) 256 0x0800) 258 1000) 284 600)
    (set (set reset_desk.numbers 120 (pos 1)) 123 (pos 1))

-- loop 1 in Cascade, its word 2 at 5,000, above F
followed : Desk
followed = lent (set (set (profiled 1 0).words 2 5000) 26 600) (set (profiled 1 0).numbers 0 (pos 2))

-- ten samples of the ramp, six of the soak, and one of the ramp of slope 0.00, which completes
forecasts : List Case
forecasts =
    ("G12 from segment 1" ∶ foretold (forecast_at (profiled 1 0) 1) gives (0 ∷ 17 ∷ []))
    ∷ ("G12 a hold does not count" ∶ foretold (forecast_at (profiled 1 1) 1) gives (0 ∷ 17 ∷ []))
    ∷ ("G12 from segment 2" ∶ foretold (forecast_at (profiled 2 0) 1) gives (0 ∷ 7 ∷ []))
    -- 10.0001 counts are eleven samples; and six, and one
    ∷ ("G12 loop 9 in Manual, by its own table and fraction" ∶ foretold (forecast_at profiled_9 9) gives (0 ∷ 18 ∷ []))
    -- 6.00 s less 2.50 s are four samples, and one
    ∷ ("G12 by the time of the soak" ∶ foretold (forecast_at (lent (profiled 2 0).words (set (profiled 2 0).numbers 12 (pos 250))) 1) gives (0 ∷ 5 ∷ []))
    ∷ ("G12 a command that waits does not count" ∶ foretold (forecast_at (with_words (λ ws. set ws 27 1) (profiled 2 0)) 1) gives (0 ∷ 7 ∷ []))
    -- 3,990 counts down to 1,010; and six, and one
    ∷ ("G12 in Cascade word 2 above F counts as it stands" ∶ foretold (forecast_at followed 1) gives (0 ∷ 3997 ∷ []))
    ∷ ("G12 no segment" ∶ foretold (forecast_at (profiled 0 0) 1) gives (0 ∷ 0 ∷ []))
    ∷ ("G12 bit 11 off" ∶ foretold (forecast_at (with_words (λ ws. set ws 0 0) (profiled 1 0)) 1) gives (0 ∷ 0 ∷ []))
    ∷ ("G12 a bad address" ∶ foretold (forecast_at (with_words (λ ws. set ws 28 511) (profiled 1 0)) 1) gives (0 ∷ 0 ∷ []))
    ∷ ("Q11 1,023 words" ∶ foretold (forecast_at (words_of 1023) 1) gives (5 ∷ []))
    ∷ ("Q11 loop 17" ∶ foretold (forecast_at (profiled 1 0) 17) gives (4 ∷ []))
    ∷ ("Q11 a record out of range" ∶ foretold (forecast_at damaged 1) gives (5 ∷ []))
    ∷ ("Q11 N7" ∶ foretold (forecast_at (with_words (λ ws. set ws 513 0x000A) (profiled 1 0)) 1) gives (7 ∷ []))
    ∷ ("Q11 N8" ∶ foretold (forecast_at (with_words (λ ws. set ws 512 4096) (profiled 1 0)) 1) gives (8 ∷ []))
    ∷ ("Q11 N12" ∶ foretold (forecast_at (with_words (λ ws. set ws 9 0) (profiled 1 0)) 1) gives (12 ∷ []))
    ∷ ("Q11 N13" ∶ foretold (forecast_at (with_words (λ ws. set ws 25 4096) (profiled 1 0)) 1) gives (13 ∷ []))
    ∷ ("Q11 N14" ∶ foretold (forecast_at (with_words (λ ws. set ws 2 4096) (profiled 1 0)) 1) gives (14 ∷ []))
    ∷ ("Q11 N11 with p = 0" ∶ foretold (forecast_at (handed 1) 1) gives (11 ∷ []))
    ∷ ("Q11 p = 0 at the major loop's low limit" ∶ foretold (forecast_at (handed 0) 1) gives (0 ∷ 17 ∷ []))
    ∷ []

-- ---- Q4: a record copied out

-- fourteen numbers lent for it
room : List ℤ
room = map pos (count 500 14)

copied : List ℤ → ℕ → List ℤ
copied ns k = pos (number_of (fields_answer ns k)) ∷ fields_left ns k room

fields : List Case
fields =
    ("Q4 loop 9's record" ∶ copied (full 4).numbers 9 givesℤ (pos 0 ∷ record_9))
    ∷ ("Q4 a record at reset" ∶ copied ready.numbers 16 givesℤ (pos 0 ∷ replicate 14 (pos 0)))
    ∷ ("Q4 a record out of range" ∶ copied (full 4).numbers 8 givesℤ (pos 5 ∷ room))
    ∷ ("Q4 loops 0 and 17" ∶ copied (full 4).numbers 0 ++ copied (full 4).numbers 17 givesℤ (pos 4 ∷ (room ++ (pos 4 ∷ room))))
    ∷ ("Q4 223 numbers, and N4" ∶ copied (with_numbers 223).numbers 17 givesℤ (pos 5 ∷ room))
    ∷ ("Q4 225 numbers" ∶ copied (with_numbers 225).numbers 1 givesℤ (pos 5 ∷ room))
    ∷ []

parts : List (List Case)
parts = from_reset mixed ∷ from_reset transfers ∷ changing ∷ refusing ∷ storing ∷ testing ∷ forecasts ∷ fields ∷ []

pub cases : List Case
cases = together parts

pub computed : failing cases ≡ []
unfolding fault_of pair_at any_below bad_digit_in high_end_in program_of command_of with_hold handed_over jogged_of toward ramped_to ramped_by soaked_by profileMoved worked_by advanced_by deviates flags_of runs_on profiled_of sampled_by no_program fault_after profile_from clamp_by half_up half_away root_within root_of over ◌+ᶠ◌ negᶠ ltᶠ round_to bcd bad_digit mode_after mode2_of bad_digits tuning_of settings_of remote_of isTransfer major_of limits_at major_in reading_of in_deadband squared_over error_of output_counts exact_p exact_i exact_d exact_terms terms_of outside_of position_of velocity_of apart levels_of status_of pv_of setpoint_of changed entering held_of start_of target_of error_in sensed_of kept_in past_of position_inputs velocity_inputs terms_in moved_in moved_of driven_of output_word bias_word status_word written_of next_of step_of written_to exact_sum exact_output exact_bias begun count_after exact_moved plain_after plain_marked out_of_range numbers_of record_from fitting_of no_loop reset_desk reset_answer reset_left store_answer store_left transfer_left done_by sample_answer sample_left answer_to desk_after sampled_all fed count_of ramps_from forecast_of remaining_of forecast_at fields_answer fields_left sampled_at pair rows from_reset set_up writing step mixed both cascade transfers count minus loop_9 record_9 full changes changed_words changed_numbers all_changes changing shown refusing stored storing asked ready damaged words_of with_numbers testing foretold profiled with_words handed profiled_9 followed forecasts room copied fields parts cases
computed = in_parts parts (
  each_holds (from_reset mixed) (refl, (refl, (refl, (refl, (refl, (refl, (refl, (refl, (refl, (refl, (refl, (refl, (refl, tt))))))))))))),
  (
    each_holds (from_reset transfers) (refl, (refl, (refl, (refl, (refl, (refl, (refl, (refl, (refl, (refl, (refl, (refl, (refl, (refl, (refl, (refl, (refl, (refl, (refl, (refl, (refl, tt))))))))))))))))))))),
    (
      each_holds changing (refl, (refl, (refl, (refl, tt)))),
      (
        each_holds refusing (refl, (refl, (refl, (refl, (refl, (refl, (refl, (refl, (refl, tt))))))))),
        (
          each_holds storing (refl, (refl, (refl, (refl, (refl, (refl, (refl, (refl, (refl, (refl, (refl, (refl, tt)))))))))))),
          (
            each_holds testing (refl, (refl, (refl, (refl, (refl, (refl, (refl, (refl, (refl, (refl, (refl, (refl, (refl, (refl, (refl, tt))))))))))))))),
            (
              each_holds forecasts (refl, (refl, (refl, (refl, (refl, (refl, (refl, (refl, (refl, (refl, (refl, (refl, (refl, (refl, (refl, (refl, (refl, (refl, (refl, (refl, tt)))))))))))))))))))),
              (each_holds fields (refl, (refl, (refl, (refl, (refl, (refl, tt)))))), tt),
            ),
          ),
        ),
      ),
    ),
  ),
)
