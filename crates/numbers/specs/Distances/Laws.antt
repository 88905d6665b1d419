-- The laws of a distance.
use Rattle.std.specs.Prelude.{ℕ, ◌+◌, ◌-◌, ◌≡◌, refl, Bool, true, false, cond, ltb, pos, nat_abs, ◌-ℤ◌}
use Rattle.std.proofs.Common.{arith, ltb-true, ltb-false}
use Rattle.std.specs.Int.{abs_diff}
use Rattle.numbers.specs.Whole.{abs, sub}
use Rattle.numbers.specs.Distances.{apart}

-- the distance is the magnitude of the difference
pub apart_is : (a b : ℕ) → apart a b ≡ nat_abs (pos a -ℤ pos b)
unfolding apart
apart_is a b = by_test (ltb a b) refl
  where
    by_test : (t : Bool) → ltb a b ≡ t → cond t (b - a) (a - b) ≡ nat_abs (pos a -ℤ pos b)
    by_test true e = omega (arith, ltb-true, abs (pos a -ℤ pos b), sub (pos a) (pos b))
    by_test false e = omega (arith, ltb-false, abs (pos a -ℤ pos b), sub (pos a) (pos b))

-- and what the library's `abs_diff` gives
pub apart_diff : (a b : ℕ) → abs_diff a b ≡ apart a b
unfolding apart
apart_diff a b = by_test (ltb a b) refl
  where
    by_test : (t : Bool) → ltb a b ≡ t → (a - b) + (b - a) ≡ cond t (b - a) (a - b)
    by_test true e = omega (arith, ltb-true)
    by_test false e = omega (arith, ltb-false)
