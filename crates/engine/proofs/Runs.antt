-- Words stored and samples taken of loop 1 by the definitions, and what is to stand in its words and its record afterwards: the cases of `Starred` and
-- `Examples` are made here.
use Rattle.std.specs.Prelude.{Ok, Err}
use Prim.Native.Nat.{ℕ}
use Prim.Native.String.{String}
use mathlib.Core.List.{List, [], ◌∷◌, map}
use lib.IntN.{ℤ, pos}
use lib.ListN.{set, replicate, get_or}
use Rattle.computed.specs.Cases.{Case, ◌∶◌givesℤ◌}
use Rattle.numbers.specs.Limits.{clamp_by}
use Rattle.numbers.specs.Rounding.{half_up, half_away}
use Rattle.numbers.specs.Distances.{apart}
use Rattle.numbers.specs.Scales.{converted}
use Rattle.numbers.specs.Roots.{root_within, root_of}
use Rattle.numbers.specs.Fractions.{over, negᶠ, round_to}
use Rattle.refusals.specs.Refusals.{first_of, Answer}
use Rattle.table.specs.Words.{bcd, bad_digit}
use Rattle.reading.specs.declared.reading.Reading.{Reading}
use Rattle.reading.specs.Settings.{mode2_of, bad_digits, tuning_of, settings_of}
use Rattle.reading.specs.Programs.{fault_of, pair_at, any_below, bad_digit_in, high_end_in, no_program, program_of}
use Rattle.reading.specs.Transfers.{transfers, major_of, limits_at, major_in}
use Rattle.reading.specs.Reading.{mode_after, remote_of, reading_of}
use Rattle.measuring.specs.Measuring.{pv_of, measured_of}
use Rattle.control.specs.Counts.{output_counts}
use Rattle.control.specs.Errors.{in_deadband, squared_over, error_of}
use Rattle.control.specs.Terms.{exact_p, exact_i, exact_d, exact_terms, terms_of}
use Rattle.control.specs.Forms.{outside_of, position_of, velocity_of}
use Rattle.profile.specs.Moves.{command_of, with_hold, handed_over, jogged_of, toward, ramped_to, ramped_by, soaked_by, moved_by, worked_by, advanced_by}
use Rattle.profile.specs.Flags.{deviates, flags_of}
use Rattle.profile.specs.Samples.{sampled_by}
use Rattle.alarms.specs.Status.{levels_of, status_of}
use Rattle.carried.specs.declared.record.Carried.{Carried}
use Rattle.carried.specs.Former.{former_of}
use Rattle.carried.specs.Layout.{field_count, numbers_of, profile_from, record_from}
use Rattle.judging.specs.Judging.{reading_cases}
use Rattle.engine.specs.Sensing.{setpoint_of, changed, entering, runs_on, target_of, profiled_of, fault_after, error_in, sensed_of}
use Rattle.engine.specs.Driving.{held_of, start_of, kept_in, past_of, position_inputs, velocity_inputs, terms_in, moved_in, moved_of, driven_of}
use Rattle.engine.specs.Writing.{output_word, bias_word, status_word, written_of, next_of, written_to}
use Rattle.engine.specs.Steps.{step_of}

-- a word stored, any of them; a sample of loop 1; or a number of its record (H1) put in, as a lent record has it, or a transfer the mark
pub data Call : Type 0 where
  store : ℕ → ℕ → Call
  sample : ℕ → Call
  number : ℕ → ℤ → Call

-- the words and the record of loop 1
pub record Loop : Type 0 where
  pub words : List ℕ
  pub carried : Carried

-- a sample is judged by what it reads, and stepped where it is accepted
abbrev pub sampled : Answer → Loop → Reading → ℕ → Loop
sampled (Err why) l r raw = l
sampled (Ok _) l r raw =
    let s = step_of r l.carried (measured_of r raw) in
    record { words = written_to l.words 0 s.written; carried = s.carried }

-- who unfolds this unfolds all definitions of a sample
unfoldable pub after : Loop → Call → Loop
unfolding fault_of pair_at any_below bad_digit_in high_end_in program_of command_of with_hold handed_over jogged_of toward ramped_to ramped_by soaked_by moved_by worked_by advanced_by deviates flags_of runs_on profiled_of sampled_by no_program fault_after clamp_by half_up half_away root_within root_of over negᶠ round_to bcd bad_digit mode_after mode2_of bad_digits tuning_of settings_of remote_of transfers major_of limits_at major_in reading_of in_deadband squared_over error_of output_counts converted exact_p exact_i exact_d exact_terms terms_of outside_of position_of velocity_of apart levels_of status_of numbers_of profile_from record_from pv_of setpoint_of changed entering held_of start_of target_of error_in sensed_of kept_in past_of position_inputs velocity_inputs terms_in moved_in moved_of driven_of output_word bias_word status_word written_of next_of step_of written_to
after l (store address value) = record { words = set l.words address value; carried = l.carried }
after l (sample raw) = let r = reading_of l.words 1 (former_of l.carried.state) in sampled (first_of (reading_cases r raw)) l r raw
after l (number i value) = record { words = l.words; carried = record_from (set (numbers_of l.carried) i value) }

abbrev pub run : Loop → List Call → Loop
run l [] = l
run l (x ∷ xs) = run (after l x) xs

-- H3
abbrev pub reset : Loop
reset = record { words = replicate 1024 0; carried = record_from (replicate field_count (pos 0)) }

-- ---- what is looked at after some calls

-- a word, or a number of the record, and what it is to be
pub data Look : Type 0 where
  word : ℕ → ℕ → Look
  field : ℕ → ℤ → Look

abbrev pub found : Loop → Look → ℤ
found l (word at expected) = pos (get_or l.words at 0)
found l (field i expected) = get_or (numbers_of l.carried) i (pos 0)

abbrev pub wanted : Look → ℤ
wanted (word at expected) = pos expected
wanted (field i expected) = expected

-- calls with a name, and what they are to leave
pub record Step : Type 0 where
  pub name : String
  pub calls : List Call
  pub looks : List Look

infix 20 ◌∶◌leaves◌
abbrev pub ◌∶◌leaves◌ : String → List Call → List Look → Step
name ∶ calls leaves looks = record { name = name; calls = calls; looks = looks }

abbrev pub case_at : Loop → Step → Case
case_at l x = x.name ∶ map (found l) x.looks givesℤ map wanted x.looks

-- each step from there
abbrev pub each : Loop → List Step → List Case
each l [] = []
each l (x ∷ xs) = case_at (run l x.calls) x ∷ each l xs

-- one step after the other
abbrev pub in_turn : Loop → List Step → List Case
in_turn l [] = []
in_turn l (x ∷ xs) = let l' = run l x.calls in case_at l' x ∷ in_turn l' xs
