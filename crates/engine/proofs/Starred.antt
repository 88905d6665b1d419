-- The worked loop and what one changed setting makes of it (X1 to X3), and the same in two formats (X6, M7), computed of the definitions.
use Rattle.std.specs.Prelude.{Ok, Err}
use Prim.Native.Nat.{ℕ}
use mathlib.Core.Path.{◌≡◌, refl}
use mathlib.Core.List.{List, [], ◌∷◌, ◌++◌, map}
use lib.IntN.{pos}
use lib.ListN.{set, replicate, get_or}
use Rattle.numbers.specs.Limits.{clamp_by}
use Rattle.numbers.specs.Rounding.{half_up, half_away}
use Rattle.numbers.specs.Scales.{converted}
use Rattle.numbers.specs.Roots.{root_within, root_of}
use Rattle.numbers.specs.Fractions.{over, negᶠ, round_to}
use Rattle.refusals.specs.Refusals.{first_of, Answer}
use Rattle.reading.specs.declared.reading.Reading.{Reading}
use Rattle.table.specs.Words.{bcd, bad_digit}
use Rattle.reading.specs.Settings.{mode2_of, bad_digits, tuning_of, settings_of}
use Rattle.reading.specs.Programs.{fault_of, pair_at, any_below, bad_digit_in, high_end_in, no_program, program_of}
use Rattle.reading.specs.Transfers.{transfers}
use Rattle.reading.specs.Transfers.{major_of, limits_at, major_in}
use Rattle.measuring.specs.Measuring.{pv_of, measured_of}
use Rattle.carried.specs.Former.{former_of}
use Rattle.reading.specs.Reading.{mode_after, remote_of, reading_of}
use Rattle.control.specs.Counts.{output_counts}
use Rattle.control.specs.Errors.{in_deadband, squared_over, error_of}
use Rattle.control.specs.Terms.{exact_p, exact_i, exact_d, exact_terms, terms_of}
use Rattle.control.specs.Forms.{outside_of, position_of, velocity_of}
use Rattle.numbers.specs.Distances.{apart}
use Rattle.profile.specs.Moves.{command_of, with_hold, handed_over, jogged_of, toward, ramped_to, ramped_by, soaked_by, moved_by, worked_by, advanced_by}
use Rattle.profile.specs.Flags.{deviates, flags_of}
use Rattle.profile.specs.Samples.{sampled_by}
use Rattle.alarms.specs.Status.{levels_of, status_of}
use Rattle.carried.specs.declared.record.Carried.{Carried}
use Rattle.carried.specs.Layout.{field_count, profile_from, record_from}
use Rattle.judging.specs.Judging.{reading_cases}
use Rattle.engine.specs.Sensing.{setpoint_of, changed, entering, runs_on, target_of, profiled_of, fault_after, error_in, sensed_of}
use Rattle.engine.specs.Driving.{held_of, start_of, kept_in, past_of, position_inputs, velocity_inputs, terms_in, moved_in, moved_of, driven_of}
use Rattle.engine.specs.Writing.{output_word, bias_word, status_word, written_of, next_of, written_to}
use Rattle.engine.specs.Steps.{step_of}

-- a word stored, or a sample of loop 1
pub data Call : Type 0 where
  store : ℕ → ℕ → Call
  sample : ℕ → Call

-- the words and the record of loop 1
record Loop : Type 0 where
  words : List ℕ
  carried : Carried

-- a sample is judged by what it reads, and stepped where it is accepted
sampled : Answer → Loop → Reading → ℕ → Loop
sampled (Err why) l r raw = l
sampled (Ok _) l r raw =
    let s = step_of r l.carried (measured_of r raw) in
    record { words = written_to l.words 0 s.written; carried = s.carried }

after : Loop → Call → Loop
after l (store address value) = record { words = set l.words address value; carried = l.carried }
after l (sample raw) = let r = reading_of l.words 1 (former_of l.carried.state) in sampled (first_of (reading_cases r raw)) l r raw

run : Loop → List Call → Loop
run l [] = l
run l (x ∷ xs) = run (after l x) xs

reset : Loop
reset = record { words = replicate 1024 0; carried = record_from (replicate field_count (pos 0)) }

-- lines 1 to 6 of X1 with mode 1 as given, and line 7
begun : ℕ → List Call
begun mode1 = store 5 2000 ∷ store 25 4095 ∷ store 7 256 ∷ store 8 512 ∷ store 9 4096 ∷ store 0 mode1 ∷ sample 1000 ∷ []

-- lines 8 and 9, and then (X2) PV 0, and then PV 1500
line9 : List Call
line9 = store 2 1500 ∷ sample 1000 ∷ []

low : List Call
low = sample 0 ∷ []

back : List Call
back = sample 1500 ∷ []

-- what the words at some offsets are to be
pub record Case : Type 0 where
  pub calls : List Call
  pub offsets : List ℕ
  pub answers : List ℕ

infix 20 ◌gives◌at◌
◌gives◌at◌ : List Call → List ℕ → List ℕ → Case
calls gives answers at offsets = record { calls = calls; offsets = offsets; answers = answers }

-- offsets: 2 setpoint, 3 PV, 4 bias, 5 output, 6 status. Mode 1 in the place of the automatic request: 16 reverse, 128 squared, 256 deadband,
-- 1024 freeze; 34 is that request with velocity form.
pub starred : List Case
starred =
    (begun 2 gives (1000 ∷ 1000 ∷ 2000 ∷ 2 ∷ []) at (2 ∷ 3 ∷ 5 ∷ 6 ∷ []))
    ∷ ((begun 2 ++ line9) gives (1500 ∷ 1000 ∷ 2100 ∷ 3100 ∷ 2 ∷ []) at (2 ∷ 3 ∷ 4 ∷ 5 ∷ 6 ∷ []))
    ∷ ((begun 2 ++ line9 ++ low) gives (4095 ∷ 1095 ∷ 0x0802 ∷ []) at (5 ∷ 4 ∷ 6 ∷ []))
    ∷ ((begun 2 ++ line9 ++ low ++ back) gives (1095 ∷ []) at (5 ∷ []))
    ∷ ((begun 2 ++ (store 0 1024 ∷ []) ++ line9 ++ low ++ back) gives (2100 ∷ []) at (5 ∷ []))
    ∷ ((begun 2 ++ (store 9 0x9999 ∷ []) ++ line9) gives (3000 ∷ []) at (5 ∷ []))
    ∷ ((begun 2 ++ (store 8 0 ∷ []) ++ line9) gives (2050 ∷ []) at (5 ∷ []))
    ∷ ((begun 2 ++ (store 0 16 ∷ []) ++ line9) gives (900 ∷ []) at (5 ∷ []))
    ∷ ((begun 2 ++ (store 0 128 ∷ []) ++ line9) gives (2134 ∷ []) at (5 ∷ []))
    ∷ ((begun 2 ++ (store 0 256 ∷ store 19 501 ∷ []) ++ line9) gives (2000 ∷ []) at (5 ∷ []))
    ∷ ((begun 2 ++ (store 0 256 ∷ store 19 500 ∷ []) ++ line9) gives (3100 ∷ []) at (5 ∷ []))
    ∷ ((begun 34 ++ line9) gives (3100 ∷ []) at (5 ∷ []))
    ∷ ((begun 2 ++ (store 10 256 ∷ store 2 1500 ∷ sample 1010 ∷ [])) gives (3058 ∷ []) at (5 ∷ []))
    ∷ []

-- the same begun with mode 2 as given, and another PV at the entry
with : ℕ → ℕ → List Call
with mode2 pv = store 1 mode2 ∷ store 5 2000 ∷ store 25 4095 ∷ store 7 256 ∷ store 8 512 ∷ store 9 4096 ∷ store 0 2 ∷ sample pv ∷ []

-- lines 9 and 10 of X6
line10 : List Call
line10 = store 2 24000 ∷ sample 16000 ∷ []

-- 16 bits in and 12 out: line 10 of X6; a deadband of 8,001 and of 8,000 counts of the input; 500 × 500 / 4,095 is 61; at a high limit of 2,000, where
-- 16,000 and 16,008 are both 1,000. 12 bits in and 16 out: 1,000 and 1,500 are 16,004 and 24,005, e 8,001, and after two samples the bias is 5,200.4,
-- the output 21,202.4. Then 12 bits in and out, the last PV 16,000 above them: D is 0.20 × (1,000 − 4,095)
pub formats : List Case
formats =
    ((with 0x0600 16000 ++ line10) gives (24000 ∷ 16000 ∷ 2100 ∷ 3100 ∷ 2 ∷ []) at (2 ∷ 3 ∷ 4 ∷ 5 ∷ 6 ∷ []))
    ∷ ((with 0x0600 16000 ++ (store 0 256 ∷ store 19 8001 ∷ []) ++ line10) gives (2000 ∷ []) at (5 ∷ []))
    ∷ ((with 0x0600 16000 ++ (store 0 256 ∷ store 19 8000 ∷ []) ++ line10) gives (3100 ∷ []) at (5 ∷ []))
    ∷ ((with 0x0600 16000 ++ (store 0 128 ∷ []) ++ line10) gives (2134 ∷ []) at (5 ∷ []))
    ∷ ((with 0x0600 16000 ++ (store 25 2000 ∷ store 2 16008 ∷ sample 16000 ∷ [])) gives (2000 ∷ 0x0802 ∷ []) at (5 ∷ 6 ∷ []))
    ∷ ((with 0x2400 1000 ++ (store 25 65535 ∷ store 2 1500 ∷ sample 1000 ∷ sample 1000 ∷ [])) gives (5200 ∷ 21202 ∷ []) at (4 ∷ 5 ∷ []))
    ∷ ((with 0x0600 16000 ++ (store 10 0x0010 ∷ store 1 0x0400 ∷ store 2 1000 ∷ sample 1000 ∷ [])) gives (2000 ∷ 2619 ∷ []) at (4 ∷ 5 ∷ []))
    ∷ []

pub given : Case → List ℕ
given x = let words = (run reset x.calls).words in map (λ (i : ℕ). get_or words i 0) x.offsets

-- each of the thirteen cases gives the numbers of X1 to X3, and each of the seven those of two formats
pub all_starred : map given (starred ++ formats) ≡ map (λ x. x.answers) (starred ++ formats)
unfolding fault_of pair_at any_below bad_digit_in high_end_in program_of command_of with_hold handed_over jogged_of toward ramped_to ramped_by soaked_by moved_by worked_by advanced_by deviates flags_of runs_on profiled_of sampled_by no_program fault_after clamp_by half_up half_away root_within root_of over negᶠ round_to bcd bad_digit mode_after mode2_of bad_digits tuning_of settings_of remote_of transfers major_of limits_at major_in reading_of in_deadband squared_over error_of output_counts converted exact_p exact_i exact_d exact_terms terms_of outside_of position_of velocity_of apart levels_of status_of profile_from record_from pv_of setpoint_of changed entering held_of start_of target_of error_in sensed_of kept_in past_of position_inputs velocity_inputs terms_in moved_in moved_of driven_of output_word bias_word status_word written_of next_of step_of written_to sampled after run reset begun line9 low back ◌gives◌at◌ starred with line10 formats given
all_starred = refl
