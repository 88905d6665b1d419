-- A1: the PV of a sample.
use Rattle.std.specs.Prelude.{ℕ, ◌*◌, Bool, cond}
use Rattle.numbers.specs.Roots.{root_of}
use Rattle.reading.specs.declared.reading.Reading.{Reading}
pub mod Laws

-- A1: the raw PV, or the root of raw PV × F
unfoldable pub pv_of : Bool → ℕ → ℕ → ℕ
pv_of root F raw = cond root (root_of (raw * F)) raw

-- A1: p of a sample with the raw PV `raw`
abbrev pub measured_of : Reading → ℕ → ℕ
measured_of r raw = pv_of r.settings.mode1.root r.settings.mode2.input.scale raw
