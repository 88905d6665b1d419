-- How far two numbers are apart.
use Rattle.std.specs.Prelude.{ℕ, ◌-◌, cond, ltb}
pub mod Laws

-- |a − b|
unfoldable pub apart : ℕ → ℕ → ℕ
apart a b = cond (ltb a b) (b - a) (a - b)
