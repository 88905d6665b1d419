-- How far the claims reach, computed of the definitions. Q9: for each premise of `Demand2.Agree` two samples that agree on all else, and come to something
-- else; and samples that agree on all of it, and come to the same. N1 to N14: each number of `Calls.answers` is the answer to some call or record. O3: the order
-- of `Causes.sample_rows`, and a desk with two causes for each two neighbours. E6: the last n whose tolerance is at most one count.
use Prim.Native.Nat.{ℕ, zero, suc, ◌+◌}
use mathlib.Core.Path.{◌≡◌, refl}
use mathlib.Core.List.{List, [], ◌∷◌, ◌++◌, map}
use lib.Dec.{eqb}
use lib.IntN.{ℤ, pos}
use lib.ListN.{get_or, set, replicate, take, drop}
use lib.Seq.{sets}
use Rattle.computed.specs.Cases.{Case, ◌∶◌gives◌, flag, signed, same, failing}
use Rattle.computed.specs.Cases.Laws.{together, in_parts}
use Rattle.numbers.specs.Fractions.{over, whole, ◌+ᶠ◌, negᶠ, ltᶠ, round_to}
use Rattle.refusals.specs.Refusals.{number_of, Row}
use Rattle.reader.specs.File.{record_at, positions_within, positions_from, records_from}
use Rattle.table.specs.Words.{bcd, bad_digit, base_of, block_at}
use Rattle.reading.specs.Transfers.{transfers, major_of, limits_at, major_in}
use Rattle.carried.specs.Layout.{out_of_range, numbers_of, profile_from, record_from, slot_of, numbers_at}
use Rattle.plain.specs.Plain.{tolerance}
use Rattle.desk.specs.Desk.{Desk, lent, fitting_of, no_loop, reset_desk, reset_answer, reset_left, store_answer, store_left, transfer_left, done_by, sample_answer, sample_left}
use Rattle.desk.specs.Lists.{answer_to, desk_after}
use Rattle.session.specs.Session.{answers_for, answers_of}
use Rattle.numbers.specs.Limits.{clamp_by}
use Rattle.numbers.specs.Rounding.{half_up, half_away}
use Rattle.numbers.specs.Roots.{root_within, root_of}
use Rattle.reading.specs.Settings.{mode2_of, bad_digits, tuning_of, settings_of}
use Rattle.reading.specs.Programs.{fault_of, pair_at, any_below, bad_digit_in, high_end_in, no_program, program_of}
use Rattle.reading.specs.Reading.{mode_after, remote_of, reading_of}
use Rattle.control.specs.Counts.{output_counts}
use Rattle.control.specs.Errors.{in_deadband, squared_over, error_of}
use Rattle.control.specs.Terms.{exact_p, exact_i, exact_d, exact_terms, terms_of}
use Rattle.control.specs.Forms.{outside_of, position_of, velocity_of}
use Rattle.numbers.specs.Distances.{apart}
use Rattle.profile.specs.Moves.{command_of, with_hold, handed_over, jogged_of, toward, ramped_to, ramped_by, soaked_by, worked_by, advanced_by}
use Rattle.profile.specs.Moves.{moved_by as profileMoved}
use Rattle.profile.specs.Flags.{deviates, flags_of}
use Rattle.profile.specs.Samples.{sampled_by}
use Rattle.alarms.specs.Status.{levels_of, status_of}
use Rattle.measuring.specs.Measuring.{pv_of}
use Rattle.engine.specs.Sensing.{setpoint_of, changed, entering, runs_on, target_of, profiled_of, fault_after, error_in, sensed_of}
use Rattle.engine.specs.Driving.{held_of, start_of, kept_in, past_of, position_inputs, velocity_inputs, terms_in, moved_in, moved_of, driven_of}
use Rattle.engine.specs.Writing.{output_word, bias_word, status_word, written_of, next_of, written_to}
use Rattle.engine.specs.Steps.{step_of}
use Rattle.claims.specs.Words.{word_of}
use Rattle.claims.specs.Calls.{answers}
use Rattle.claims.specs.Causes.{sample_rows}

-- ---- Q9: what a sample depends on

-- which of the premises hold of loop k of one desk and loop k' of another: the own words but 28, the record, the word pointed to, the fault of the
-- address in word 28, the table there, the major loop, its low limit, its high limit
agreed : Desk → Desk → ℕ → ℕ → List ℕ
agreed d e k k' =
    let own : Desk → ℕ → List ℕ = λ x n. let block = block_at x.words (base_of n) in take 28 block ++ drop 29 block in
    let numbers : Desk → ℕ → List ℕ = λ x n. map signed (numbers_at x.numbers (slot_of n)) in
    let pointer = word_of d k 26 in
    let j = major_of k pointer in
    flag (same (own d k) (own e k'))
    ∷ flag (same (numbers d k) (numbers e k'))
    ∷ flag (eqb (get_or d.words pointer 0) (get_or e.words pointer 0))
    ∷ flag (eqb (fault_of (word_of d k 28)) (fault_of (word_of e k' 28)))
    ∷ flag (same (block_at d.words (word_of d k 28)) (block_at e.words (word_of e k' 28)))
    ∷ flag (eqb j (major_of k' pointer))
    ∷ flag (eqb (word_of d j 24) (word_of e j 24))
    ∷ flag (eqb (word_of d j 25) (word_of e j 25))
    ∷ []

-- what comes of a sample: the answer, and words 2, 3, 5, 6, 27 and 29 after it
outcome : Desk → ℕ → ℕ → List ℕ
outcome d k raw =
    let e = sample_left d k raw in
    number_of (sample_answer d k raw) ∷ word_of e k 2 ∷ word_of e k 3 ∷ word_of e k 5 ∷ word_of e k 6 ∷ word_of e k 27 ∷ word_of e k 29 ∷ []

-- the premises, and the two outcomes with raw PV 1,000
two : Desk → Desk → ℕ → ℕ → List ℕ
two d e k k' = agreed d e k k' ++ (outcome d k 1000 ++ outcome e k' 1000)

-- X1's loop from line 8 on: setpoint 1,500, output 2,000; the other words as given
settings : ℕ → ℕ → ℕ → List ℕ
settings mode pointer table =
    mode ∷ 0 ∷ 1500 ∷ 0 ∷ 0 ∷ 2000 ∷ 0 ∷ 0x0100 ∷ 0x0200 ∷ 0x1000 ∷ (replicate 14 0 ++ (0 ∷ 4095 ∷ pointer ∷ 0 ∷ table ∷ 0 ∷ 0 ∷ 0 ∷ []))

-- its record: a mode, bias and output 2,000 counts, PVs 1,000, no error, sampled; a segment
past : ℕ → ℕ → List ℤ
past mode segment =
    pos mode ∷ pos 524288000 ∷ pos 524288000 ∷ pos 1000 ∷ pos 1000 ∷ pos 0 ∷ pos 0 ∷ pos 1 ∷ pos segment ∷ pos 0 ∷ pos 0 ∷ pos 0 ∷ pos 0 ∷ pos 0 ∷ []

-- loop k set up so, on words and numbers that are 0
loop : ℕ → List ℕ → List ℤ → Desk → Desk
loop k words numbers d = lent (sets d.words (base_of k) words) (sets d.numbers (slot_of k) numbers)

automatic : Desk
automatic = loop 1 (settings 0 40 700) (past 1 0) reset_desk

cascade : Desk
cascade = loop 1 (settings 0 40 700) (past 2 0) reset_desk

-- with a word, or a number, changed
word : ℕ → ℕ → Desk → Desk
word at value d = lent (set d.words at value) d.numbers

number : ℕ → ℕ → Desk → Desk
number at value d = lent d.words (set d.numbers at (pos value))

-- bit 11 on, in a segment, with a table at an address: a ramp to an end by 1.00 a second
profiled : ℕ → ℕ → ℕ → Desk
profiled segment at end = word at end (word (at + 1) 0x0100 (loop 1 (settings 0x0800 40 at) (past 1 segment) reset_desk))

-- a transfer of loop k to loop 2, whose limits are as given
transfer : ℕ → ℕ → ℕ → Desk
transfer k low high = word 56 low (word 57 high (loop k (settings 4 37 700) (past 1 0) reset_desk))

-- n words from a first one on
count : ℕ → ℕ → List ℕ
count from zero = []
count from (suc n) = from ∷ count (suc from) n

-- e = 500: 2,000 + 100 + 1,000. Gain 3.00: 2,000 + 150 + 1,500. Bias 2,100: 100 more. Following 1,400, e = 400: 2,000 + 80 + 800. The setpoint one count up,
-- e = 501: 2,000 + 100.2 + 1,002; one down, e = 499: 2,000 + 99.8 + 998. At a transfer e = 0. A refused sample leaves words 2, 3, 5 and 6 as they were
needed : List Case
needed =
    ("Q9 the lengths" ∶ two automatic (lent (automatic.words ++ (0 ∷ [])) automatic.numbers) 1 1
    gives (1 ∷ 1 ∷ 1 ∷ 1 ∷ 1 ∷ 1 ∷ 1 ∷ 1 ∷ 0 ∷ 1500 ∷ 1000 ∷ 3100 ∷ 2 ∷ 0 ∷ 0 ∷ 5 ∷ 1500 ∷ 0 ∷ 2000 ∷ 0 ∷ 0 ∷ 0 ∷ []))
    -- in the definitions loop 0 would have the words and the record of loop 1
    ∷ ("Q9 a loop from 1 on" ∶ two automatic automatic 1 0
    gives (1 ∷ 1 ∷ 1 ∷ 1 ∷ 1 ∷ 1 ∷ 1 ∷ 1 ∷ 0 ∷ 1500 ∷ 1000 ∷ 3100 ∷ 2 ∷ 0 ∷ 0 ∷ 4 ∷ 1500 ∷ 0 ∷ 2000 ∷ 0 ∷ 0 ∷ 0 ∷ []))
    ∷ ("Q9 an own word" ∶ two automatic (word 8 0x0300 automatic) 1 1
    gives (0 ∷ 1 ∷ 1 ∷ 1 ∷ 1 ∷ 1 ∷ 1 ∷ 1 ∷ 0 ∷ 1500 ∷ 1000 ∷ 3100 ∷ 2 ∷ 0 ∷ 0 ∷ 0 ∷ 1500 ∷ 1000 ∷ 3650 ∷ 2 ∷ 0 ∷ 0 ∷ []))
    ∷ ("Q9 the record" ∶ two automatic (number 1 550502400 automatic) 1 1
    gives (1 ∷ 0 ∷ 1 ∷ 1 ∷ 1 ∷ 1 ∷ 1 ∷ 1 ∷ 0 ∷ 1500 ∷ 1000 ∷ 3100 ∷ 2 ∷ 0 ∷ 0 ∷ 0 ∷ 1500 ∷ 1000 ∷ 3200 ∷ 2 ∷ 0 ∷ 0 ∷ []))
    ∷ ("Q9 in Cascade the word pointed to" ∶ two (word 40 1500 cascade) (word 40 1400 cascade) 1 1
    gives (1 ∷ 1 ∷ 0 ∷ 1 ∷ 1 ∷ 1 ∷ 1 ∷ 1 ∷ 0 ∷ 1500 ∷ 1000 ∷ 3100 ∷ 4 ∷ 0 ∷ 0 ∷ 0 ∷ 1400 ∷ 1000 ∷ 2880 ∷ 4 ∷ 0 ∷ 0 ∷ []))
    ∷ ("Q9 the fault of the address" ∶ two (profiled 0 600 0) (word 28 400 (word 401 0x0100 (profiled 0 600 0))) 1 1
    gives (1 ∷ 1 ∷ 1 ∷ 0 ∷ 1 ∷ 1 ∷ 1 ∷ 1 ∷ 0 ∷ 1500 ∷ 1000 ∷ 3100 ∷ 2 ∷ 0 ∷ 0 ∷ 0 ∷ 1500 ∷ 1000 ∷ 3100 ∷ 2 ∷ 0 ∷ 1 ∷ []))
    ∷ ("Q9 the table" ∶ two (profiled 1 512 1510) (profiled 1 512 1490) 1 1
    gives (1 ∷ 1 ∷ 1 ∷ 1 ∷ 0 ∷ 1 ∷ 1 ∷ 1 ∷ 0 ∷ 1501 ∷ 1000 ∷ 3102 ∷ 2 ∷ 256 ∷ 0 ∷ 0 ∷ 1499 ∷ 1000 ∷ 3098 ∷ 2 ∷ 256 ∷ 0 ∷ []))
    ∷ ("Q9 at a transfer the major loop" ∶ two (transfer 2 0 4095) (word 37 2000 (transfer 3 0 4095)) 2 3
    gives (1 ∷ 1 ∷ 1 ∷ 1 ∷ 1 ∷ 0 ∷ 1 ∷ 1 ∷ 11 ∷ 1500 ∷ 0 ∷ 2000 ∷ 0 ∷ 0 ∷ 0 ∷ 0 ∷ 1000 ∷ 1000 ∷ 2000 ∷ 4 ∷ 0 ∷ 0 ∷ []))
    ∷ ("Q9 at a transfer the major loop's low limit" ∶ two (transfer 1 1000 2000) (transfer 1 1001 2000) 1 1
    gives (1 ∷ 1 ∷ 1 ∷ 1 ∷ 1 ∷ 1 ∷ 0 ∷ 1 ∷ 0 ∷ 1000 ∷ 1000 ∷ 2000 ∷ 4 ∷ 0 ∷ 0 ∷ 11 ∷ 1500 ∷ 0 ∷ 2000 ∷ 0 ∷ 0 ∷ 0 ∷ []))
    ∷ ("Q9 at a transfer the major loop's high limit" ∶ two (transfer 1 0 1000) (transfer 1 0 999) 1 1
    gives (1 ∷ 1 ∷ 1 ∷ 1 ∷ 1 ∷ 1 ∷ 1 ∷ 0 ∷ 0 ∷ 1000 ∷ 1000 ∷ 2000 ∷ 4 ∷ 0 ∷ 0 ∷ 11 ∷ 1500 ∷ 0 ∷ 2000 ∷ 0 ∷ 0 ∷ 0 ∷ []))
    ∷ []

-- other words and numbers that are 3,000 and up, and no record in range; but the table at 700, the word at 40 and words 24 and 25 of loop 1 as there
elsewhere : Desk
elsewhere = lent (sets (set (set (set (count 3000 1024) 40 0) 24 0) 25 4095) 700 (replicate 32 0)) (map pos (count 3000 224))

-- the same comes of both: loop 9 among other words as loop 1, one table at two addresses, one major loop of two loops; and where its premise does not ask
-- for it the pointed word, the fault, the table and the limits may differ
alike : List Case
alike =
    ("Q9 loop 9 set up like loop 1" ∶ two automatic (loop 9 (settings 0 40 700) (past 1 0) elsewhere) 1 9
    gives (1 ∷ 1 ∷ 1 ∷ 1 ∷ 1 ∷ 1 ∷ 1 ∷ 1 ∷ 0 ∷ 1500 ∷ 1000 ∷ 3100 ∷ 2 ∷ 0 ∷ 0 ∷ 0 ∷ 1500 ∷ 1000 ∷ 3100 ∷ 2 ∷ 0 ∷ 0 ∷ []))
    ∷ ("Q9 a table at two addresses" ∶ two (profiled 1 512 1510) (profiled 1 992 1510) 1 1
    gives (1 ∷ 1 ∷ 1 ∷ 1 ∷ 1 ∷ 1 ∷ 1 ∷ 1 ∷ 0 ∷ 1501 ∷ 1000 ∷ 3102 ∷ 2 ∷ 256 ∷ 0 ∷ 0 ∷ 1501 ∷ 1000 ∷ 3102 ∷ 2 ∷ 256 ∷ 0 ∷ []))
    ∷ ("Q9 one major loop of two loops" ∶ two (transfer 1 1000 1000) (transfer 3 1000 1000) 1 3
    gives (1 ∷ 1 ∷ 1 ∷ 1 ∷ 1 ∷ 1 ∷ 1 ∷ 1 ∷ 0 ∷ 1000 ∷ 1000 ∷ 2000 ∷ 4 ∷ 0 ∷ 0 ∷ 0 ∷ 1000 ∷ 1000 ∷ 2000 ∷ 4 ∷ 0 ∷ 0 ∷ []))
    ∷ ("Q9 outside Cascade the word pointed to" ∶ two (word 40 1500 automatic) (word 40 1400 automatic) 1 1
    gives (1 ∷ 1 ∷ 0 ∷ 1 ∷ 1 ∷ 1 ∷ 1 ∷ 1 ∷ 0 ∷ 1500 ∷ 1000 ∷ 3100 ∷ 2 ∷ 0 ∷ 0 ∷ 0 ∷ 1500 ∷ 1000 ∷ 3100 ∷ 2 ∷ 0 ∷ 0 ∷ []))
    ∷ ("Q9 with bit 11 off fault and table" ∶ two automatic (word 28 400 (word 400 7 automatic)) 1 1
    gives (1 ∷ 1 ∷ 1 ∷ 0 ∷ 0 ∷ 1 ∷ 1 ∷ 1 ∷ 0 ∷ 1500 ∷ 1000 ∷ 3100 ∷ 2 ∷ 0 ∷ 0 ∷ 0 ∷ 1500 ∷ 1000 ∷ 3100 ∷ 2 ∷ 0 ∷ 0 ∷ []))
    ∷ ("Q9 without a transfer another loop's limits" ∶ two (word 26 37 automatic) (word 26 37 (word 56 7 (word 57 8 automatic))) 1 1
    gives (1 ∷ 1 ∷ 1 ∷ 1 ∷ 1 ∷ 1 ∷ 0 ∷ 0 ∷ 0 ∷ 1500 ∷ 1000 ∷ 3100 ∷ 2 ∷ 0 ∷ 0 ∷ 0 ∷ 1500 ∷ 1000 ∷ 3100 ∷ 2 ∷ 0 ∷ 0 ∷ []))
    ∷ []

-- ---- the numbers, and the order

answered : Desk → ℕ → ℕ → ℕ
answered d k raw = number_of (sample_answer d k raw)

-- the numbers of rows, in their order
numbers_in : List Row → List ℕ
numbers_in [] = []
numbers_in (row ∷ rows) = row.number ∷ numbers_in rows

-- loop 1 at a transfer, p below the major loop's low limit: N11
handing : Desk
handing = transfer 1 1001 2000

numbers : List Case
numbers =
    ("N1 to N14 which are answers, from 0 to 15" ∶ map (λ (n : ℕ). flag (answers n)) (count 0 16)
    gives (1 ∷ 1 ∷ 1 ∷ 1 ∷ 1 ∷ 1 ∷ 1 ∷ 1 ∷ 1 ∷ 1 ∷ 0 ∷ 1 ∷ 1 ∷ 1 ∷ 1 ∷ 0 ∷ []))
    -- a kind of 99, a store of length 3, a store of 7 at 2, a store at 3, and a record that is cut
    ∷ ("N1, N2, N3 and N6 of a file's records" ∶ answers_of (2 ∷ 0 ∷ 99 ∷ 0 ∷ 3 ∷ 0 ∷ 1 ∷ 0 ∷ 1 ∷ 6 ∷ 0 ∷ 1 ∷ 0 ∷ 2 ∷ 0 ∷ 7 ∷ 0 ∷ 6 ∷ 0 ∷ 1 ∷ 0 ∷ 3 ∷ 0 ∷ 7 ∷ 0 ∷ 6 ∷ 0 ∷ 1 ∷ []) reset_desk
    gives (2 ∷ 3 ∷ 0 ∷ 6 ∷ 1 ∷ []))
    ∷ ("O3 the rows of a sample" ∶ numbers_in (sample_rows reset_desk 1 0) gives (5 ∷ 4 ∷ 5 ∷ 7 ∷ 8 ∷ 12 ∷ 13 ∷ 14 ∷ 9 ∷ 11 ∷ []))
    ∷ ("O3 no cause, and each alone" ∶ answered automatic 1 1000 ∷ answered automatic 17 1000 ∷ answered (number 3 65536 automatic) 1 1000
    ∷ answered (word 8 0x000A automatic) 1 1000 ∷ answered (word 1 1 automatic) 1 1000 ∷ answered (word 9 0 automatic) 1 1000
    ∷ answered (word 25 4096 automatic) 1 1000 ∷ answered (word 2 4096 automatic) 1 1000 ∷ answered automatic 1 4096 ∷ answered handing 1 1000 ∷ []
    gives (0 ∷ 4 ∷ 5 ∷ 7 ∷ 8 ∷ 12 ∷ 13 ∷ 14 ∷ 9 ∷ 11 ∷ []))
    ∷ ("O3 lengths, and loop 17" ∶ answered (lent [] []) 17 0 ∷ [] gives (5 ∷ []))
    ∷ ("O3 loop 0, and the record out of range" ∶ answered (number 3 65536 automatic) 0 1000 ∷ [] gives (4 ∷ []))
    ∷ ("O3 the record, and 7" ∶ answered (number 3 65536 (word 8 0x000A automatic)) 1 1000 ∷ [] gives (5 ∷ []))
    ∷ ("O3 7 and 8" ∶ answered (word 8 0x000A (word 1 1 automatic)) 1 1000 ∷ [] gives (7 ∷ []))
    ∷ ("O3 8 and 12" ∶ answered (word 1 1 (word 9 0 automatic)) 1 1000 ∷ [] gives (8 ∷ []))
    ∷ ("O3 12 and 13" ∶ answered (word 9 0 (word 25 4096 automatic)) 1 1000 ∷ [] gives (12 ∷ []))
    ∷ ("O3 13 and 14" ∶ answered (word 25 4096 (word 2 4096 automatic)) 1 1000 ∷ [] gives (13 ∷ []))
    ∷ ("O3 14 and 9" ∶ answered (word 2 4096 automatic) 1 4096 ∷ [] gives (14 ∷ []))
    ∷ ("O3 9 and 11" ∶ answered handing 1 4096 ∷ [] gives (9 ∷ []))
    -- 1/2 + 131,072/262,144 is 1
    ∷ ("E6 one count is not below the tolerance of n = 131,071" ∶ flag (ltᶠ (whole (pos 1)) (tolerance 131071)) ∷ [] gives (0 ∷ []))
    ∷ ("E6 nor above it" ∶ flag (ltᶠ (tolerance 131071) (whole (pos 1))) ∷ [] gives (0 ∷ []))
    ∷ ("E6 it is below that of n = 131,072" ∶ flag (ltᶠ (whole (pos 1)) (tolerance 131072)) ∷ [] gives (1 ∷ []))
    ∷ []

parts : List (List Case)
parts = needed ∷ alike ∷ numbers ∷ []

pub cases : List Case
cases = together parts

pub computed : failing cases ≡ []
unfolding fault_of pair_at any_below bad_digit_in high_end_in program_of command_of with_hold handed_over jogged_of toward ramped_to ramped_by soaked_by profileMoved worked_by advanced_by deviates flags_of runs_on profiled_of sampled_by no_program fault_after profile_from clamp_by half_up half_away root_within root_of over ◌+ᶠ◌ negᶠ ltᶠ round_to bcd bad_digit mode_after mode2_of bad_digits tuning_of settings_of remote_of transfers major_of limits_at major_in reading_of in_deadband squared_over error_of output_counts exact_p exact_i exact_d exact_terms terms_of outside_of position_of velocity_of apart levels_of status_of pv_of setpoint_of changed entering held_of start_of target_of error_in sensed_of kept_in past_of position_inputs velocity_inputs terms_in moved_in moved_of driven_of output_word bias_word status_word written_of next_of step_of written_to out_of_range numbers_of record_from fitting_of no_loop reset_desk reset_answer reset_left store_answer store_left transfer_left done_by sample_answer sample_left answer_to desk_after record_at positions_within positions_from records_from answers_for answers_of tolerance agreed outcome two settings past loop automatic cascade word number profiled transfer count needed elsewhere alike answered numbers_in handing numbers parts cases
computed = in_parts parts (refl, (refl, (refl, tt)))
