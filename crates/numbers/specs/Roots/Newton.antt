-- How close x is to the root of v, told by n: it is above the root by at most 1 and an n-th part of it.
use Rattle.std.specs.Prelude.{ℕ, ◌+◌, ◌*◌, ◌≤◌, ◌<◌}
use Rattle.numbers.specs.Roots.{root_of}

pub record Close (n v x : ℕ) : Type 0 where
  pub some : 0 < x
  pub least : root_of v ≤ x
  pub most : n * x ≤ (n + 1) * root_of v + n
