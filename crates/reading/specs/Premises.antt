-- What the functions above ask of what was read.
use Rattle.std.specs.Prelude.{ℕ, ◌≤◌}
use Rattle.reading.specs.declared.program.Program.{Program}

-- what is known of a program whose table has passed: the pair's numbers are decimal, and its end is within the scale
pub record Fair (p : Program) (scale : ℕ) : Type 0 where
  pub slope : p.pair.slope ≤ 9999
  pub duration : p.pair.duration ≤ 9999
  pub end : p.pair.end ≤ scale
