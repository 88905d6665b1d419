-- The sum of the groups is the word of the twelve bits.
use Rattle.std.specs.Prelude.{ℕ, ◌+◌, ◌*◌, ◌≡◌, refl, Bool, true, false, cond, not, ◌&&◌}
use Rattle.std.proofs.Common.{arith}
use Rattle.table.specs.declared.mode.Mode.{Mode}
use Rattle.table.specs.declared.mode.Mode.TheVariants.{Manual, Automatic, Cascade}
use Rattle.reading.specs.declared.settings.Mode1.{Mode1}
use Rattle.reading.specs.declared.settings.AlarmLimits.{AlarmLimits}
use Rattle.reading.specs.declared.settings.OutputLimits.{OutputLimits}
use Rattle.table.specs.Words.{flag_of}
use Rattle.table.specs.Modes.{is_manual, is_automatic, is_cascade}
use Rattle.alarms.specs.declared.status.Seen.{Seen}
use Rattle.numbers.specs.Distances.{apart}
use Rattle.alarms.specs.Status.{rate_alarm, unordered, at_limit, levels_of, status_of, number, bits_word, bits_of}
use Rattle.alarms.specs.Sums.{mode_bit, level_bits, deviation_bits}

-- each group, by the numbers of its bits; what is not monitored has none
mode_sum : (mode : Mode) → mode_bit mode ≡ number (is_manual mode) + 2 * number (is_automatic mode) + 4 * number (is_cascade mode)
mode_sum Manual = refl
mode_sum Automatic = refl
mode_sum Cascade = refl

flag_sum : (value : ℕ) (on : Bool) → flag_of on value ≡ value * number on
flag_sum value true = omega arith
flag_sum value false = omega arith

level-sum :
    (on a b c d : Bool)
    → cond on (flag_of a 8 + flag_of b 16 + flag_of c 32 + flag_of d 64) 0
    ≡ 8 * number (on && a) + 16 * number (on && b) + 32 * number (on && c) + 64 * number (on && d)
level-sum true a b c d = rw (flag_sum 8, flag_sum 16, flag_sum 32, flag_sum 64)
level-sum false a b c d = refl

deviation_sum : (on a b : Bool) → cond on (flag_of a 128 + flag_of b 256) 0 ≡ 128 * number (on && a) + 256 * number (on && b)
deviation_sum true a b = rw (flag_sum 128, flag_sum 256)
deviation_sum false a b = refl

-- what the code sums is what the contract of `status_word` says
pub word_sum :
    (mode : Mode) (bits : Mode1) (l : AlarmLimits) (output : OutputLimits) (stored : ℕ) (seen : Seen)
    → mode_bit mode
    + cond bits.level (level_bits l stored seen.pv) 0
    + cond (bits.deviation && not (is_manual mode)) (deviation_bits l stored (apart seen.setpoint seen.pv)) 0
    + flag_of (bits.change && rate_alarm l.change seen.pv seen.last) 512
    + flag_of (unordered bits l) 1024
    + flag_of (at_limit (is_manual mode) output seen.output seen.setpoint seen.pv) 2048
    ≡ bits_word (bits_of (status_of mode bits l output stored seen))
unfolding status_of levels_of
word_sum mode bits l output stored seen =
    rw (mode_sum mode, level-sum, deviation_sum, flag_sum 512, flag_sum 1024, flag_sum 2048) (omega arith)
