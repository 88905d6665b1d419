-- The square root to the nearest whole number (A1), of a number below 2 ^ 32.
use Rattle.std.specs.Prelude.{ℕ, zero, suc, ◌+◌, ◌*◌, ◌/◌, ◌≤◌, ◌<◌, cond, leb}
pub mod Newton

-- the greatest number whose square is at most v, of v below 4 ^ digits, a binary digit at a time: that of v / 4 doubled, and 1 added
-- where the square of that still fits
unfoldable pub root_within : ℕ → ℕ → ℕ
root_within zero v = 0
root_within (suc digits) v =
    let twice = 2 * root_within digits (v / 4) in
    cond (leb ((twice + 1) * (twice + 1)) v) (twice + 1) twice

-- A1: the root of v below 4 ^ 16 = 2 ^ 32 to the nearest whole number: the greatest r, or r + 1 where v is above r × r + r
unfoldable pub root_of : ℕ → ℕ
root_of v =
    let r = root_within 16 v in
    cond (leb v (r * r + r)) r (r + 1)

-- that r is nearest to the exact root of v, said without roots: r − ½ < √v < r + ½, where (r + ½) × (r + ½) = r × r + r + ¼ and v is whole; 0 is
-- nearest to the root of 0 alone
pub record Nearest (v r : ℕ) : Type 0 where
  pub above : 0 < r → r * r < v + r
  pub below : v ≤ r * r + r
