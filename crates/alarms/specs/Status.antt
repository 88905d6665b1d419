-- The status word, bit by bit (B1 to B8). Sums stand in the place of differences, so nothing wraps (B3).
use Rattle.std.specs.Prelude.{ℕ, ◌+◌, ◌*◌, Bool, false, cond, not, ◌&&◌, ◌||◌, List, [], ◌∷◌, Option, None, Some, ltb, eqb}
use Rattle.numbers.specs.Distances.{apart}
use Rattle.table.specs.declared.mode.Mode.{Mode}
use Rattle.reading.specs.declared.settings.Mode1.{Mode1}
use Rattle.reading.specs.declared.settings.AlarmLimits.{AlarmLimits}
use Rattle.reading.specs.declared.settings.OutputLimits.{OutputLimits}
use Rattle.table.specs.Words.{bit}
use Rattle.table.specs.Modes.{is_manual, is_automatic, is_cascade}
use Rattle.alarms.specs.declared.status.Seen.{Seen}
pub mod Laws

-- ---- single alarms

-- B2, B4: on where x is larger than the limit. B3: one that was on stays while x + hysteresis is
abbrev pub high_alarm : Bool → ℕ → ℕ → ℕ → Bool
high_alarm was limit hysteresis x = ltb limit x || (was && ltb limit (x + hysteresis))

-- B2: on where x is smaller than the limit. B3: one that was on stays while x is smaller than limit + hysteresis
abbrev pub low_alarm : Bool → ℕ → ℕ → ℕ → Bool
low_alarm was limit hysteresis x = ltb x limit || (was && ltb x (limit + hysteresis))

-- B5: on where the PV is off the recorded last one by more than the limit; off where none is recorded, at the first accepted sample
abbrev pub rate_alarm : ℕ → ℕ → Option ℕ → Bool
rate_alarm limit pv None = false
rate_alarm limit pv (Some last) = ltb limit (apart pv last)

-- B6: bit 10, where the settings of watched alarms contradict each other
abbrev pub unordered : Mode1 → AlarmLimits → Bool
unordered bits l =
    (bits.level && not (ltb l.lowlow l.low && ltb l.low l.high && ltb l.high l.highhigh))
    || (bits.deviation && not (ltb l.yellow l.red && ltb l.hysteresis l.yellow))

-- B7: bit 11, not in Manual: the output word is one of its limits, and s is not p
abbrev pub at_limit : Bool → OutputLimits → ℕ → ℕ → ℕ → Bool
at_limit manual limits output setpoint pv = not manual && (eqb output limits.low || eqb output limits.high) && not (eqb pv setpoint)

-- ---- the twelve bits

-- B2: bits 3 to 6
pub record Levels : Type 0 where
  pub lowlow : Bool
  pub low : Bool
  pub high : Bool
  pub highhigh : Bool

-- B1 to B7: bits 0 to 11
pub record Status : Type 0 where
  pub manual : Bool
  pub automatic : Bool
  pub cascade : Bool
  pub levels : Levels
  pub yellow : Bool
  pub red : Bool
  pub change : Bool
  pub fault : Bool
  pub saturated : Bool

-- B2, B3: bits 3 to 6, where the PV is watched. `stored` is word 6 before the sample
unfoldable pub levels_of : Bool → AlarmLimits → ℕ → ℕ → Levels
levels_of on l stored pv = record {
  lowlow = on && low_alarm (bit 3 stored) l.lowlow l.hysteresis pv;
  low = on && low_alarm (bit 4 stored) l.low l.hysteresis pv;
  high = on && high_alarm (bit 5 stored) l.high l.hysteresis pv;
  highhigh = on && high_alarm (bit 6 stored) l.highhigh l.hysteresis pv;
}

-- B1 for bits 0 to 2; B4 with B3 for bits 7 and 8, off in Manual; B5 for bit 9, off at the first accepted sample; B6, B7 for bits 10, 11
unfoldable pub status_of : Mode → Mode1 → AlarmLimits → OutputLimits → ℕ → Seen → Status
status_of mode bits l output stored seen =
    let deviation = apart seen.setpoint seen.pv in
    record {
      manual = is_manual mode;
      automatic = is_automatic mode;
      cascade = is_cascade mode;
      levels = levels_of bits.level l stored seen.pv;
      yellow = bits.deviation && not (is_manual mode) && high_alarm (bit 7 stored) l.yellow l.hysteresis deviation;
      red = bits.deviation && not (is_manual mode) && high_alarm (bit 8 stored) l.red l.hysteresis deviation;
      change = bits.change && rate_alarm l.change seen.pv seen.last;
      fault = unordered bits l;
      saturated = at_limit (is_manual mode) output seen.output seen.setpoint seen.pv;
    }

-- ---- the word of the bits

abbrev pub number : Bool → ℕ
number b = cond b 1 0

-- B8: the word whose bits, lowest first, are those of a list, and 0 above them
abbrev pub bits_word : List Bool → ℕ
bits_word [] = 0
bits_word (b ∷ l) = number b + 2 * bits_word l

-- B1 to B7: bits 0 to 11, in this order
abbrev pub bits_of : Status → List Bool
bits_of s =
    s.manual
    ∷ s.automatic
    ∷ s.cascade
    ∷ s.levels.lowlow
    ∷ s.levels.low
    ∷ s.levels.high
    ∷ s.levels.highhigh
    ∷ s.yellow
    ∷ s.red
    ∷ s.change
    ∷ s.fault
    ∷ s.saturated
    ∷ []
