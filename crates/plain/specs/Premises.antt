-- What ties a loop's carried record to its plain loop, and how near the loop's output is to that of the plain one.
use Rattle.std.specs.Prelude.{ℕ, ◌≤◌, ◌<◌, ◌≡◌, true, pos}
use Rattle.numbers.specs.Fractions.{whole, Near}
use Rattle.carried.specs.declared.record.Carried.{Carried}
use Rattle.plain.specs.Exact.{in_counts}
use Rattle.plain.specs.Plain.{Plain, tolerance}

-- the states are one; and where n is above 0, a sample was accepted, the last PVs agree, and the bias is within n units of the exact one
pub record Tied (c : Carried) (q : Plain) : Type 0 where
  pub state : c.state ≡ q.state
  pub sampled : 0 < q.n → c.sampled ≡ true
  pub last : 0 < q.n → c.past.last ≡ q.last
  pub bias : 0 < q.n → Near (in_counts (pos q.n)) (in_counts c.drive.bias) q.B

-- what is claimed of one accepted sample, q being the plain loop after it. E2: the output word is inside the limits read. E6: where n is above 0, it is
-- near the exact output
pub record Good (word lo hi : ℕ) (q : Plain) : Type 0 where
  pub low : lo ≤ word
  pub high : word ≤ hi
  pub near : 0 < q.n → Near (tolerance q.n) (whole (pos word)) q.output
