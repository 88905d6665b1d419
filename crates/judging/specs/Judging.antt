-- The refusals of a sample by what it read and its raw PV: a group of settings for each number, and the list of them in the order of testing (O3).
use Rattle.std.specs.Prelude.{ℕ, ◌≡◌, Bool, false, not, ◌&&◌, ◌||◌, List, [], ◌∷◌, ◌++◌, ltb, eqb}
use Rattle.refusals.specs.declared.Refusal.TheVariants.{Digit, Setting, Times, Limits, Setpoint, Above}
use Rattle.refusals.specs.declared.Refusal.TheVariants.{Transfer as NoTransfer}
use Rattle.refusals.specs.Refusals.{Case, ◌⇒◌}
use Rattle.reading.specs.declared.settings.Mode1.{Mode1}
use Rattle.reading.specs.declared.settings.Tuning.{Tuning}
use Rattle.reading.specs.declared.settings.OutputLimits.{OutputLimits}
use Rattle.reading.specs.declared.transfer.Major.{Major}
use Rattle.reading.specs.declared.reading.Reading.{Reading}
use Rattle.table.specs.Modes.{is_cascade}
use Rattle.measuring.specs.Measuring.{measured_of}
pub mod Laws

-- N8: velocity form together with Bumpless II; a mode bit that has to be off; a hysteresis outside 1 to 200 where PV or deviation is watched
abbrev pub bad_modes : Mode1 → Bool → ℕ → Bool
bad_modes bits unused hysteresis =
    (bits.velocity && bits.bumpless)
    || bits.limited
    || unused
    || ((bits.level || bits.deviation) && (ltb hysteresis 1 || ltb 200 hysteresis))

-- N12: a period below 0.05 s, or a reset time of 0.00
abbrev pub bad_times : Tuning → Bool
bad_times t = ltb t.period 5 || eqb t.reset 0

-- N13: the low output limit above the high one, or that above G
abbrev pub bad_limits : OutputLimits → ℕ → Bool
bad_limits limits G = ltb limits.high limits.low || ltb G limits.high

-- N14: word 2 above F; in Cascade, in its place, word 26 above 1,023, or a word above F at that address
abbrev pub bad_setpoint : Bool → ℕ → ℕ → ℕ → ℕ → Bool
bad_setpoint cascade F setpoint pointer remote = (not cascade && ltb F setpoint) || (cascade && (ltb 1023 pointer || ltb F remote))

-- N11: at a transfer there is no major loop, or p is outside that loop's output limits
abbrev pub bad_major : Bool → Major → ℕ → Bool
bad_major transfer m p = transfer && (eqb m.number 0 || ltb p m.limits.low || ltb m.limits.high p)

-- O3: the order, N7, N8, N12, N13, N14, N9. N7 is of the tuning words and of a ramp/soak table, N8 of the table's ramp ends too
abbrev pub setting_cases : Reading → ℕ → List Case
setting_cases r raw =
    let s = r.settings in
    let F = s.mode2.input.scale in
    let G = s.mode2.output.scale in
    ((s.baddigit || r.program.baddigit) ⇒ Digit)
    ∷ ((bad_modes s.mode1 s.mode2.unused s.alarms.hysteresis || r.program.highend) ⇒ Setting)
    ∷ (bad_times s.tuning ⇒ Times)
    ∷ (bad_limits s.limits G ⇒ Limits)
    ∷ (bad_setpoint (is_cascade r.mode) F s.stored.setpoint s.pointer r.remote ⇒ Setpoint)
    ∷ (ltb F raw ⇒ Above)
    ∷ []

-- O3: and behind them N11, for which the PV is measured
abbrev pub reading_cases : Reading → ℕ → List Case
reading_cases r raw = setting_cases r raw ++ ((bad_major r.transfer r.major (measured_of r raw) ⇒ NoTransfer) ∷ [])

-- O3: none of them holds
pub record Passed (r : Reading) (raw : ℕ) : Type 0 where
  pub digit : (r.settings.baddigit || r.program.baddigit) ≡ false
  pub modes : bad_modes r.settings.mode1 r.settings.mode2.unused r.settings.alarms.hysteresis ≡ false
  pub ends : r.program.highend ≡ false
  pub times : bad_times r.settings.tuning ≡ false
  pub limits : bad_limits r.settings.limits r.settings.mode2.output.scale ≡ false
  pub setpoint : bad_setpoint (is_cascade r.mode) r.settings.mode2.input.scale r.settings.stored.setpoint r.settings.pointer r.remote ≡ false
  pub above : ltb r.settings.mode2.input.scale raw ≡ false
  pub major : bad_major r.transfer r.major (measured_of r raw) ≡ false
