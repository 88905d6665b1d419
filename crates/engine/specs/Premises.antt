-- What is known of an accepted sample: premises of the engine's functions. `Usable` follows from acceptance (`Steps/Laws.usable`), and the
-- others from it and from a record in range. What they say of a format, a tuning, a profile or a drive is no ghost field there: `judging::judge`
-- and `measuring::measure` take any reading, `carried::numbers_of` any record.
use Rattle.std.specs.Prelude.{ℕ, ◌^◌, ◌≤◌, ◌<◌, not, ◌||◌, ℤ, pos, nat_abs, ◌≤ℤ◌}
use Rattle.numbers.specs.Rounding.{units_of}
use Rattle.reading.specs.declared.settings.Settings.{Settings}
use Rattle.reading.specs.declared.reading.Reading.{Reading}
use Rattle.reading.specs.Premises.{Fair}
use Rattle.control.specs.declared.forms.Drive.{Drive}
use Rattle.control.specs.Counts.Laws.{Matched}
use Rattle.control.specs.Premises.{Tuned}
use Rattle.carried.specs.declared.record.Past.{Past}
use Rattle.carried.specs.declared.record.Carried.{Carried}
use Rattle.engine.specs.declared.sensing.Sensed.{Sensed}
use Rattle.engine.specs.Sensing.{setpoint_of}
use Rattle.engine.specs.Driving.{start_of, past_of}

-- the reading and the PV of an accepted sample: F and G are any two words above 0, and with bit 10 off they are one
pub record Usable (r : Reading) (p : ℕ) : Type 0 where
  pub tuned : Tuned r.settings.tuning
  pub limits : r.settings.limits.low ≤ r.settings.limits.high
  pub high : r.settings.limits.high ≤ r.settings.mode2.output.scale
  pub scale : r.settings.mode2.output.scale ≤ 65535
  pub some : 0 < r.settings.mode2.output.scale
  pub full : r.settings.mode2.input.scale ≤ 65535
  pub above : 0 < r.settings.mode2.input.scale
  pub matched : Matched r.settings.mode2
  pub setpoint : setpoint_of r ≤ r.settings.mode2.input.scale
  pub pv : p ≤ r.settings.mode2.input.scale
  pub program : Fair r.program r.settings.mode2.input.scale

-- units of a word
pub record Counted (z : ℤ) : Type 0 where
  pub low : pos 0 ≤ℤ z
  pub high : z ≤ℤ pos (units_of 65535)

-- where the terms run
pub record Movable (s : Settings) (drive : Drive) (past : Past) (p : ℕ) (e : ℤ) : Type 0 where
  pub tuned : Tuned s.tuning
  pub limits : s.limits.low ≤ s.limits.high
  pub high : s.limits.high ≤ 65535
  pub bias : nat_abs drive.bias ≤ 2 ^ 52
  pub output : Counted drive.output
  pub pv : p ≤ 65535
  pub error : nat_abs e ≤ 65535
  pub recorded : nat_abs past.error ≤ 65535
  pub last : past.last ≤ 65535
  pub prior : past.prior ≤ 65535

abbrev pub Drivable : Reading → Carried → Sensed → ℕ → Type 0
Drivable r c x held =
    Movable r.settings (start_of x.entry held c.drive)
    (past_of r.settings.mode2 (not c.sampled || x.entry) c.past x.converted x.error) x.converted x.error
