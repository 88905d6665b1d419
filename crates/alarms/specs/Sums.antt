-- The status word as the code sums it: the values of its bits, group by group.
use Rattle.std.specs.Prelude.{ℕ, ◌+◌, ◌≤◌, ◌≡◌, Bool, cond}
use Rattle.table.specs.declared.mode.Mode.{Mode}
use Rattle.table.specs.declared.mode.Mode.TheVariants.{Manual, Automatic, Cascade}
use Rattle.reading.specs.declared.settings.AlarmLimits.{AlarmLimits}
use Rattle.table.specs.Words.{bit, flag_of}
use Rattle.alarms.specs.Status.{high_alarm, low_alarm}
pub mod Laws

-- r is the number n, which is at most b
pub record Valued (r n b : ℕ) : Type 0 where
  pub value : r ≡ n
  pub small : r ≤ b

-- B1: bits 0 to 2
abbrev pub mode_bit : Mode → ℕ
mode_bit Manual = 1
mode_bit Automatic = 2
mode_bit Cascade = 4

-- B2, B3: bits 3 to 6 of a watched PV
abbrev pub level_bits : AlarmLimits → ℕ → ℕ → ℕ
level_bits l stored pv =
    flag_of (low_alarm (bit 3 stored) l.lowlow l.hysteresis pv) 8
    + flag_of (low_alarm (bit 4 stored) l.low l.hysteresis pv) 16
    + flag_of (high_alarm (bit 5 stored) l.high l.hysteresis pv) 32
    + flag_of (high_alarm (bit 6 stored) l.highhigh l.hysteresis pv) 64

-- B4, B3: bits 7 and 8 of a watched deviation
abbrev pub deviation_bits : AlarmLimits → ℕ → ℕ → ℕ
deviation_bits l stored deviation =
    flag_of (high_alarm (bit 7 stored) l.yellow l.hysteresis deviation) 128
    + flag_of (high_alarm (bit 8 stored) l.red l.hysteresis deviation) 256
