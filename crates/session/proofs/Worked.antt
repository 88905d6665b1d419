-- The worked loop (X1): what is printed of its ten records, computed of the definitions.
use Prim.Native.Nat.{ℕ}
use mathlib.Core.Path.{◌≡◌, refl}
use mathlib.Core.List.{List, [], ◌∷◌, ◌++◌}
use Rattle.numbers.specs.Limits.{clamp_by}
use Rattle.numbers.specs.Rounding.{half_up, half_away}
use Rattle.numbers.specs.Roots.{root_within, root_of}
use Rattle.numbers.specs.Fractions.{over, negᶠ, round_to}
use Rattle.text.specs.Text.{bytes, digits_within, decimal_of}
use Rattle.reader.specs.File.{record_at, positions_within, positions_from, records_from}
use Rattle.table.specs.Words.{bcd, bad_digit}
use Rattle.reading.specs.Settings.{mode2_of, bad_digits, tuning_of, settings_of}
use Rattle.reading.specs.Programs.{fault_of, pair_at, any_below, bad_digit_in, high_end_in, no_program, program_of}
use Rattle.reading.specs.Transfers.{transfers, major_of, limits_at, major_in}
use Rattle.reading.specs.Reading.{mode_after, remote_of, reading_of}
use Rattle.control.specs.Counts.{output_counts}
use Rattle.control.specs.Errors.{in_deadband, squared_over, error_of}
use Rattle.control.specs.Terms.{exact_p, exact_i, exact_d, exact_terms, terms_of}
use Rattle.control.specs.Forms.{outside_of, position_of, velocity_of}
use Rattle.numbers.specs.Distances.{apart}
use Rattle.profile.specs.Moves.{command_of, with_hold, handed_over, jogged_of, toward, ramped_to, ramped_by, soaked_by, moved_by, worked_by, advanced_by}
use Rattle.profile.specs.Flags.{deviates, flags_of}
use Rattle.profile.specs.Samples.{sampled_by}
use Rattle.alarms.specs.Status.{levels_of, status_of}
use Rattle.carried.specs.Layout.{out_of_range, numbers_of, profile_from, record_from}
use Rattle.measuring.specs.Measuring.{pv_of}
use Rattle.engine.specs.Sensing.{setpoint_of, changed, entering, runs_on, target_of, profiled_of, fault_after, error_in, sensed_of}
use Rattle.engine.specs.Driving.{held_of, start_of, kept_in, past_of, position_inputs, velocity_inputs, terms_in, moved_in, moved_of, driven_of}
use Rattle.engine.specs.Writing.{output_word, bias_word, status_word, written_of, next_of, written_to}
use Rattle.engine.specs.Steps.{step_of}
use Rattle.desk.specs.Desk.{fitting_of, no_loop, reset_desk, reset_answer, reset_left, store_answer, store_left, transfer_left, done_by, sample_answer, sample_left, sampled_at}
use Rattle.desk.specs.Lists.{answer_to, desk_after}
use Rattle.lines.specs.Lines.{line_text, last_text}
use Rattle.session.specs.Printed.{lines_of, printed_of}

pub file : List ℕ
file =
    6 ∷ 0 ∷ 1 ∷ 0 ∷ 5 ∷ 0 ∷ 208 ∷ 7
    ∷ 6 ∷ 0 ∷ 1 ∷ 0 ∷ 25 ∷ 0 ∷ 255 ∷ 15
    ∷ 6 ∷ 0 ∷ 1 ∷ 0 ∷ 7 ∷ 0 ∷ 0 ∷ 1
    ∷ 6 ∷ 0 ∷ 1 ∷ 0 ∷ 8 ∷ 0 ∷ 0 ∷ 2
    ∷ 6 ∷ 0 ∷ 1 ∷ 0 ∷ 9 ∷ 0 ∷ 0 ∷ 16
    ∷ 6 ∷ 0 ∷ 1 ∷ 0 ∷ 0 ∷ 0 ∷ 2 ∷ 0
    ∷ 5 ∷ 0 ∷ 2 ∷ 0 ∷ 1 ∷ 232 ∷ 3
    ∷ 6 ∷ 0 ∷ 1 ∷ 0 ∷ 2 ∷ 0 ∷ 220 ∷ 5
    ∷ 5 ∷ 0 ∷ 2 ∷ 0 ∷ 1 ∷ 232 ∷ 3
    ∷ 5 ∷ 0 ∷ 2 ∷ 0 ∷ 17 ∷ 0 ∷ 0
    ∷ []

pub text : List ℕ
text =
    bytes "1 set 5 2000\n2 set 25 4095\n3 set 7 256\n4 set 8 512\n5 set 9 4096\n6 set 0 2\n"
    ++ bytes "7 loop 1 sp 1000 pv 1000 out 2000 word 0002\n8 set 2 1500\n9 loop 1 sp 1500 pv 1000 out 3100 word 0002\n"
    ++ bytes "10 refused 4\n10 records, 1 refused\n"

pub worked : printed_of file ≡ text
unfolding fault_of pair_at any_below bad_digit_in high_end_in program_of command_of with_hold handed_over jogged_of toward ramped_to ramped_by soaked_by moved_by worked_by advanced_by deviates flags_of runs_on profiled_of sampled_by no_program fault_after profile_from clamp_by half_up half_away root_within root_of over negᶠ round_to digits_within decimal_of record_at positions_within positions_from records_from bcd bad_digit mode_after mode2_of bad_digits tuning_of settings_of remote_of transfers major_of limits_at major_in reading_of in_deadband squared_over error_of output_counts exact_p exact_i exact_d exact_terms terms_of outside_of position_of velocity_of apart levels_of status_of pv_of setpoint_of changed entering held_of start_of target_of error_in sensed_of kept_in past_of position_inputs velocity_inputs terms_in moved_in moved_of driven_of output_word bias_word status_word written_of next_of step_of written_to out_of_range numbers_of record_from fitting_of no_loop reset_desk reset_answer reset_left store_answer store_left transfer_left done_by sample_answer sample_left sampled_at answer_to desk_after line_text last_text lines_of printed_of file text
worked = refl
