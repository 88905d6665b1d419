-- The plain loop computed beside the engine over five lists of accepted samples of loop 1, so that demand 3 is seen not to be empty.
use Prim.Native.Nat.{ℕ}
use mathlib.Core.Path.{◌≡◌, refl}
use mathlib.Core.Bool.{Bool, true, not, ◌&&◌}
use mathlib.Core.List.{List, [], ◌∷◌, map}
use lib.ListN.{get_or, set, replicate}
use lib.IntN.{pos}
use Rattle.numbers.specs.Limits.{clamp_by}
use Rattle.numbers.specs.Rounding.{half_up, half_away}
use Rattle.numbers.specs.Scales.{converted}
use Rattle.numbers.specs.Roots.{root_within, root_of}
use Rattle.numbers.specs.Fractions.{Fraction, over, whole, ◌+ᶠ◌, negᶠ, ltᶠ, round_to}
use Rattle.table.specs.Words.{bcd, bad_digit}
use Rattle.reading.specs.Settings.{mode2_of, bad_digits, tuning_of, settings_of}
use Rattle.reading.specs.Programs.{fault_of, pair_at, any_below, bad_digit_in, high_end_in, no_program, program_of}
use Rattle.reading.specs.Transfers.{transfers, major_of, limits_at, major_in}
use Rattle.measuring.specs.Measuring.{pv_of, measured_of}
use Rattle.carried.specs.Former.{former_of}
use Rattle.reading.specs.Reading.{mode_after, remote_of, reading_of}
use Rattle.control.specs.Counts.{output_counts}
use Rattle.control.specs.Errors.{in_deadband, squared_over, error_of}
use Rattle.control.specs.Terms.{exact_p, exact_i, exact_d, exact_terms, terms_of}
use Rattle.control.specs.Forms.{outside_of, position_of, velocity_of}
use Rattle.numbers.specs.Distances.{apart}
use Rattle.profile.specs.Moves.{command_of, with_hold, handed_over, jogged_of, toward, ramped_to, ramped_by, soaked_by, worked_by, advanced_by}
use Rattle.profile.specs.Moves.{moved_by as profileMoved}
use Rattle.profile.specs.Flags.{deviates, flags_of}
use Rattle.profile.specs.Samples.{sampled_by}
use Rattle.alarms.specs.Status.{levels_of, status_of}
use Rattle.carried.specs.declared.record.Carried.{Carried}
use Rattle.carried.specs.Layout.{field_count, profile_from, record_from}
use Rattle.engine.specs.Sensing.{setpoint_of, changed, entering, runs_on, target_of, profiled_of, fault_after, error_in, sensed_of}
use Rattle.engine.specs.Driving.{held_of, start_of, kept_in, past_of, position_inputs, velocity_inputs, terms_in, moved_in, moved_of, driven_of}
use Rattle.engine.specs.Writing.{output_word, bias_word, status_word, written_of, next_of, written_to}
use Rattle.engine.specs.Steps.{step_of}
use Rattle.plain.specs.Exact.{exact_sum, exact_output, exact_bias}
use Rattle.plain.specs.Plain.{Plain, begun, count_after, exact_moved, plain_after}

-- what is written into the words before a sample, its raw PV, and what is expected after it: the engine's word, n and the exact output
pub record Sample : Type 0 where
  pub write : List ℕ → List ℕ
  pub raw : ℕ
  pub word : ℕ
  pub n : ℕ
  pub exact : Fraction

pub record Row : Type 0 where
  pub word : ℕ
  pub n : ℕ
  pub exact : Bool

-- two fractions of one value
same : Fraction → Fraction → Bool
same x y = not (ltᶠ x y) && not (ltᶠ y x)

-- the loop's words (and some behind them), its record, and its plain loop, from sample to sample
rows : List ℕ → Carried → Plain → List Sample → List Row
rows ws c q [] = []
rows ws c q (x ∷ xs) =
    let before = x.write ws in
    let r = reading_of before 1 (former_of c.state) in
    let s = step_of r c (measured_of r x.raw) in
    let r' = reading_of before 1 (former_of q.state) in
    let q' = plain_after q r' (measured_of r' x.raw) in
    let after = written_to before 0 s.written in
    record { word = get_or after 5 0; n = q'.n; exact = same q'.output x.exact } ∷ rows after s.carried q' xs

pub expected : Sample → Row
expected x = record { word = x.word; n = x.n; exact = true }

pub from_reset : List Sample → List Row
from_reset xs = let zeros = record_from (replicate field_count (pos 0)) in rows (replicate 64 0) zeros (begun zeros) xs

-- ---- the worked loop: lines 7 and 9 of X1, then PV 0 and PV 1,500 as in X2

counts : ℕ → Fraction
counts n = whole (pos n)

kept : List ℕ → List ℕ
kept ws = ws

-- an Automatic request, output 2,000, period 1.00, gain 2.00, reset 10.00, high limit 4,095
worked : List ℕ → List ℕ
worked ws = set (set (set (set (set (set ws 0 2) 5 2000) 7 0x0100) 8 0x0200) 9 0x1000) 25 4095

pub loop_a : List Sample
loop_a =
    record { write = worked; raw = 1000; word = 2000; n = 1; exact = counts 2000 }
    ∷ record { write = λ ws. set ws 2 1500; raw = 1000; word = 3100; n = 2; exact = counts 3100 }
    ∷ record { write = kept; raw = 0; word = 4095; n = 3; exact = counts 4095 }
    ∷ record { write = kept; raw = 1500; word = 1095; n = 4; exact = counts 1095 }
    ∷ []

-- ---- E4: velocity (bit 5), Manual (request 0) and freeze (bit 10) set n to 0; only an entry starts it again. The PV stands on the setpoint

mode : ℕ → ℕ → Sample
mode bits n = record { write = λ ws. set ws 0 bits; raw = 1000; word = 2000; n = n; exact = counts 2000 }

pub counting : List Sample
counting =
    record { write = worked; raw = 1000; word = 2000; n = 1; exact = counts 2000 }
    ∷ mode 0 2
    ∷ mode 32 0
    ∷ mode 32 0
    ∷ mode 0 1
    ∷ mode 0 2
    ∷ mode 1 0
    ∷ mode 0 0
    ∷ mode 2 1
    ∷ mode 1024 0
    ∷ mode 0 0
    ∷ []

-- ---- an entry after Manual with Bumpless II, word 5 above the limit, a rate and another PV: from 4,095, no rate term: 4,095 − 220 − 22

settled : List ℕ → List ℕ
settled ws = set (set (set (worked ws) 0 0) 2 900) 10 0x0100

pub entered : List Sample
entered =
    record { write = settled; raw = 1000; word = 2000; n = 0; exact = counts 0 }
    ∷ record { write = λ ws. set (set ws 5 5000) 0 10; raw = 1010; word = 3853; n = 1; exact = counts 3853 }
    ∷ record { write = kept; raw = 1010; word = 3831; n = 2; exact = counts 3831 }
    ∷ []

-- ---- Cascade, a rate term at n = 2, and outputs that are not whole. Gain 0.33, reset 7.00, rate 0.50; the setpoint is word 40
-- 1: e 500, P 165, I 165/7: 1,000 + 165 + 165/7 = 8,320/7
-- 2: e 490, P 161.7, D 1.65, I 23.1, B 7,165/7: 168,941/140
-- 3: e 390, P 128.7, D 0, I 1,287/70, B 146,534/140: 167,126/140

followed : List ℕ → List ℕ
followed ws = set (set (set (set (set (set (set (worked ws) 0 4) 5 1000) 8 0x0033) 9 0x0700) 10 0x0050) 26 40) 40 1500

pub cascaded : List Sample
cascaded =
    record { write = followed; raw = 1000; word = 1189; n = 1; exact = over (pos 8320) 7 }
    ∷ record { write = kept; raw = 1010; word = 1207; n = 2; exact = over (pos 168941) 140 }
    ∷ record { write = λ ws. set ws 40 1400; raw = 1010; word = 1194; n = 3; exact = over (pos 167126) 140 }
    ∷ []

-- ---- the same in two formats (M7): 16 bits in and 12 out; 16 out; 12 in and out, with a last PV above F
-- 1: 24,000 and 16,000 become 1,500 and 1,000: 8,320/7 as before
-- 2: 16,100 becomes 1,006; e 494, P 163.02, D 0.99, I 8,151/350, B 7,165/7: 1,208.89
-- 3: nothing changes scale; e 7,900, P 2,607, D 0, I 2,607/7, B 52,343/50: 1,409,201/350
-- 4: the last PV 16,100 becomes 4,095; e 1,000, P 330, D −345.675, I 330/7, B 496,751/350: 2,998,949/1,400

pub formats : List Sample
formats =
    record { write = λ ws. set (set (followed ws) 1 0x0600) 40 24000; raw = 16000; word = 1189; n = 1; exact = over (pos 8320) 7 }
    ∷ record { write = kept; raw = 16100; word = 1209; n = 2; exact = over (pos 120889) 100 }
    ∷ record { write = λ ws. set (set ws 1 0x2600) 25 65535; raw = 16100; word = 4026; n = 3; exact = over (pos 1409201) 350 }
    ∷ record { write = λ ws. set (set (set ws 1 0x0400) 25 4095) 40 3000; raw = 2000; word = 2142; n = 4; exact = over (pos 2998949) 1400 }
    ∷ []

pub computed : map from_reset (loop_a ∷ counting ∷ entered ∷ cascaded ∷ formats ∷ [])
    ≡ map (map expected) (loop_a ∷ counting ∷ entered ∷ cascaded ∷ formats ∷ [])
unfolding fault_of pair_at any_below bad_digit_in high_end_in program_of command_of with_hold handed_over jogged_of toward ramped_to ramped_by soaked_by profileMoved worked_by advanced_by deviates flags_of runs_on profiled_of sampled_by no_program fault_after clamp_by half_up half_away root_within root_of over ◌+ᶠ◌ negᶠ ltᶠ round_to bcd bad_digit mode_after mode2_of bad_digits tuning_of settings_of remote_of transfers major_of limits_at major_in reading_of in_deadband squared_over error_of output_counts converted exact_p exact_i exact_d exact_terms terms_of outside_of position_of velocity_of apart levels_of status_of profile_from record_from pv_of setpoint_of changed entering held_of start_of target_of error_in sensed_of kept_in past_of position_inputs velocity_inputs terms_in moved_in moved_of driven_of output_word bias_word status_word written_of next_of step_of written_to exact_sum exact_output exact_bias begun count_after exact_moved plain_after same rows expected from_reset counts kept worked loop_a mode counting settled entered followed cascaded formats
computed = refl
