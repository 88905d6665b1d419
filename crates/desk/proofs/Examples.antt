-- Two lists of calls computed, with the plain loops of loops 1 and 9 beside them: one with refused calls between, words written from outside, and
-- a reset; and one of a cascade, from transfer to transfer.
use Prim.Native.Nat.{ℕ, ◌+◌}
use mathlib.Core.Path.{◌≡◌, refl}
use mathlib.Core.Bool.{Bool, true, false, cond}
use mathlib.Core.List.{List, [], ◌∷◌, map}
use lib.Dec.{eqb}
use lib.ListN.{get_or, set}
use Rattle.numbers.specs.Limits.{clamp_by}
use Rattle.numbers.specs.Rounding.{half_up, half_away}
use Rattle.numbers.specs.Roots.{root_within, root_of}
use Rattle.numbers.specs.Fractions.{over, ◌+ᶠ◌, negᶠ, ltᶠ, round_to}
use Rattle.refusals.specs.Refusals.{number_of}
use Rattle.table.specs.Words.{bcd, bad_digit, base_of}
use Rattle.reading.specs.Settings.{mode2_of, bad_digits, tuning_of, settings_of}
use Rattle.reading.specs.Programs.{fault_of, pair_at, any_below, bad_digit_in, high_end_in, no_program, program_of}
use Rattle.reading.specs.Transfers.{major_of, limits_at, major_in}
use Rattle.reading.specs.Transfers.{transfers as isTransfer}
use Rattle.reading.specs.Reading.{mode_after, remote_of, reading_of}
use Rattle.control.specs.Counts.{output_counts}
use Rattle.control.specs.Errors.{in_deadband, squared_over, error_of}
use Rattle.control.specs.Terms.{exact_p, exact_i, exact_d, exact_terms, terms_of}
use Rattle.control.specs.Forms.{outside_of, position_of, velocity_of}
use Rattle.numbers.specs.Distances.{apart}
use Rattle.profile.specs.Moves.{command_of, with_hold, handed_over, jogged_of, toward, ramped_to, ramped_by, soaked_by, worked_by, advanced_by}
use Rattle.profile.specs.Moves.{moved_by as profileMoved}
use Rattle.profile.specs.Flags.{deviates, flags_of}
use Rattle.profile.specs.Samples.{sampled_by}
use Rattle.alarms.specs.Status.{levels_of, status_of}
use Rattle.carried.specs.Layout.{out_of_range, numbers_of, profile_from, record_from}
use Rattle.measuring.specs.Measuring.{pv_of}
use Rattle.engine.specs.Sensing.{setpoint_of, changed, entering, runs_on, target_of, profiled_of, fault_after, error_in, sensed_of}
use Rattle.engine.specs.Driving.{held_of, start_of, kept_in, past_of, position_inputs, velocity_inputs, terms_in, moved_in, moved_of, driven_of}
use Rattle.engine.specs.Writing.{output_word, bias_word, status_word, written_of, next_of, written_to}
use Rattle.engine.specs.Steps.{step_of}
use Rattle.plain.specs.Exact.{exact_sum, exact_output, exact_bias}
use Rattle.plain.specs.Plain.{Plain, begun, count_after, exact_moved, plain_after, plain_marked}
use Rattle.desk.specs.Desk.{Desk, lent, fitting_of, no_loop, reset_desk, reset_answer, reset_left, store_answer, store_left, transfer_left, done_by, sample_answer, sample_left}
use Rattle.desk.specs.Lists.{Call, reset, store, sample, answer_to, desk_after, Plains, begun_all, sampled_all, fed}

pub record Row : Type 0 where
  pub number : ℕ
  pub output : ℕ
  pub n : ℕ
  pub output1 : ℕ
  pub n1 : ℕ
  pub mark1 : Bool

-- what is written before a call, the call, and what is expected after it: the answer's number, and of loops 9 and 1 the output word and n, of loop 1
-- the mark too
pub record Step : Type 0 where
  pub write : List ℕ → List ℕ
  pub call : Call
  pub row : Row

pub expected : Step → Row
expected x = x.row

-- the plain loops of loops 1 and 9; no other loop is sampled here
pair : Plain → Plain → Plains
pair q1 q9 k = cond (eqb k 1) q1 q9

pub rows : Desk → Plain → Plain → List Step → List Row
rows d q1 q9 [] = []
rows d q1 q9 (x ∷ xs) =
    let before = lent (x.write d.words) d.numbers in
    let after = desk_after before x.call in
    let qs = fed (pair q1 q9) before x.call in
    let r1 = qs 1 in
    let r9 = qs 9 in
    record {
      number = number_of (answer_to before x.call);
      output = get_or after.words (base_of 9 + 5) 0;
      n = r9.n;
      output1 = get_or after.words 5 0;
      n1 = r1.n;
      mark1 = r1.state.mark;
    }
    ∷ rows after r1 r9 xs

pub from_reset : List Step → List Row
from_reset xs = rows reset_desk (begun_all reset_desk.numbers 1) (begun_all reset_desk.numbers 9) xs

-- the words of a loop, from its base on, as those of X1's loop
set_up : ℕ → List ℕ → List ℕ
set_up base ws = set (set (set (set (set (set ws (base + 5) 2000) (base + 25) 4095) (base + 7) 0x0100) (base + 8) 0x0200) (base + 9) 0x1000) base 2

-- ---- refused calls between, words written from outside, and a reset

writing : (List ℕ → List ℕ) → Call → ℕ → ℕ → ℕ → Step
writing write call number output n =
    record { write = write; call = call; row = record { number = number; output = output; n = n; output1 = 0; n1 = 0; mark1 = false } }

step : Call → ℕ → ℕ → ℕ → Step
step call number output n = writing (λ ws. ws) call number output n

pub mixed : List Step
mixed =
    writing (set_up 256) (sample 9 1000) 0 2000 1
    ∷ step (sample 17 0) 4 2000 1
    ∷ step (sample 9 4096) 9 2000 1
    ∷ writing (λ ws. set ws 261 9) (sample 9 1000) 0 2000 2
    ∷ step (store 258 1500) 0 2000 2
    ∷ writing (λ ws. set ws 264 0x0300) (sample 9 1000) 0 3650 3
    ∷ step (sample 1 1000) 12 3650 3
    ∷ step (store 259 5) 6 3650 3
    ∷ step reset 0 0 0
    ∷ writing (set_up 256) (sample 9 1000) 0 2000 1
    ∷ step (store 258 1500) 0 2000 1
    ∷ step (sample 9 1000) 0 3100 2
    -- A1: with the root p is 2,024, so e = −524: 2,100 − 104.8 − 1,048
    ∷ writing (λ ws. set ws 256 64) (sample 9 1000) 0 947 3
    ∷ []

-- ---- A13, N11: a cascade, loop 9 the minor and loop 1 the major

both : (List ℕ → List ℕ) → Call → ℕ → ℕ → ℕ → ℕ → ℕ → Bool → Step
both write call number output n output1 n1 mark1 =
    record { write = write; call = call; row = record { number = number; output = output; n = n; output1 = output1; n1 = n1; mark1 = mark1 } }

-- both from X1's settings, and loop 9's pointer at loop 1's output
cascade : List ℕ → List ℕ
cascade ws = set (set_up 256 (set_up 0 ws)) 282 5

pub transfers : List Step
transfers =
    both cascade (sample 1 1000) 0 2000 0 2000 1 false
    ∷ both (λ ws. ws) (sample 9 1200) 0 2000 1 2000 1 false
    -- the transfer: no error in loop 9, so the valve stays; loop 1's output is 1,200
    ∷ both (λ ws. set ws 256 4) (sample 9 1200) 0 2000 2 1200 1 true
    -- loop 1 enters by the mark from 1,200, its setpoint kept: e = 100, 1,200 + 20 + 200
    ∷ both (λ ws. set ws 2 1100) (sample 1 1000) 0 2000 2 1420 1 false
    -- loop 9: e = 220, 2,000 + 44 + 440; loop 1: 1,220 + 20 + 200
    ∷ both (λ ws. ws) (sample 9 1200) 0 2484 3 1420 1 false
    ∷ both (λ ws. ws) (sample 1 1000) 0 2484 3 1440 2 false
    -- Automatic again: no entry, e = 220, 2,044 + 44 + 440
    ∷ both (λ ws. set ws 256 2) (sample 9 1200) 0 2528 4 1440 2 false
    -- loop 1's low limit 1,201, then 1,200; e = 0, bias 2,088
    ∷ both (λ ws. set (set ws 256 4) 24 1201) (sample 9 1200) 11 2528 4 1440 2 false
    ∷ both (λ ws. set ws 24 1200) (sample 9 1200) 0 2088 5 1200 2 true
    -- Manual keeps the mark, and so does a refused sample
    ∷ both (λ ws. set ws 0 1) (sample 1 1000) 0 2088 5 1200 0 true
    ∷ both (λ ws. set ws 0 2) (sample 1 4096) 9 2088 5 1200 0 true
    -- from Manual: the setpoint is forced, e = 0
    ∷ both (λ ws. ws) (sample 1 1000) 0 2088 5 1200 1 false
    -- loop 9 in Automatic; then loop 1's high limit is 1,199
    ∷ both (λ ws. set ws 256 2) (sample 9 1200) 0 2088 6 1200 1 false
    ∷ both (λ ws. set (set (set ws 256 4) 24 0) 25 1199) (sample 9 1200) 11 2088 6 1200 1 false
    -- the own output, a free word, and a word that is no output
    ∷ both (λ ws. set (set ws 25 4095) 282 261) (sample 9 1200) 11 2088 6 1200 1 false
    ∷ both (λ ws. set ws 282 517) (sample 9 1200) 11 2088 6 1200 1 false
    ∷ both (λ ws. set ws 282 6) (sample 9 1200) 11 2088 6 1200 1 false
    -- N14 and N9 before N11
    ∷ both (λ ws. set (set ws 282 261) 261 4096) (sample 9 1200) 14 4096 6 1200 1 false
    ∷ both (λ ws. set ws 261 2088) (sample 9 4096) 9 2088 6 1200 1 false
    -- Bumpless II forces nothing: s = 1,300, e = 100, 2,088 + 20 + 200
    ∷ both (λ ws. set (set (set ws 256 12) 282 5) 5 1300) (sample 9 1200) 0 2308 7 1300 1 false
    -- and the mark of loop 9 itself stays off: no entry, 2,108 + 20 + 200
    ∷ both (λ ws. set ws 261 7) (sample 9 1200) 0 2328 8 1300 1 false
    ∷ []

pub computed : map from_reset (mixed ∷ transfers ∷ []) ≡ map (map expected) (mixed ∷ transfers ∷ [])
unfolding fault_of pair_at any_below bad_digit_in high_end_in program_of command_of with_hold handed_over jogged_of toward ramped_to ramped_by soaked_by profileMoved worked_by advanced_by deviates flags_of runs_on profiled_of sampled_by no_program fault_after profile_from clamp_by half_up half_away root_within root_of over ◌+ᶠ◌ negᶠ ltᶠ round_to bcd bad_digit mode_after mode2_of bad_digits tuning_of settings_of remote_of isTransfer major_of limits_at major_in reading_of in_deadband squared_over error_of output_counts exact_p exact_i exact_d exact_terms terms_of outside_of position_of velocity_of apart levels_of status_of pv_of setpoint_of changed entering held_of start_of target_of error_in sensed_of kept_in past_of position_inputs velocity_inputs terms_in moved_in moved_of driven_of output_word bias_word status_word written_of next_of step_of written_to exact_sum exact_output exact_bias begun count_after exact_moved plain_after plain_marked out_of_range numbers_of record_from fitting_of no_loop reset_desk reset_answer reset_left store_answer store_left transfer_left done_by sample_answer sample_left answer_to desk_after sampled_all fed expected rows pair from_reset set_up step writing mixed both cascade transfers
computed = refl
