-- Fractions, in which the exact loop (E3) reckons. They are never reduced, and two of them are compared by cross products.
use Rattle.std.specs.Prelude.{Bool, ℕ, ◌*◌, ◌<◌, max, ℤ, pos, neg_ℤ, ◌+ℤ◌, ◌*ℤ◌, ◌≤ℤ◌}
use Rattle.std.proofs.Common.{arith, mul-pos}
use Rattle.std.specs.Int.Signed.{lt_z}
use Rattle.numbers.specs.Limits.{clamp_by}
use Rattle.numbers.specs.Rounding.{half_away}

pub record Fraction : Type 0 where
  pub num : ℤ
  pub den : ℕ
  pub above : 0 < den

-- z / d; a divisor 0 counts as 1
unfoldable pub over : ℤ → ℕ → Fraction
over z d = record { num = z; den = max d 1; above = omega arith }

abbrev pub whole : ℤ → Fraction
whole z = over z 1

-- ---- sum, negation, difference

infixl 60 ◌+ᶠ◌ ◌-ᶠ◌
unfoldable pub ◌+ᶠ◌ : Fraction → Fraction → Fraction
x +ᶠ y = record {
  num = (pos y.den *ℤ x.num) +ℤ (pos x.den *ℤ y.num);
  den = x.den * y.den;
  above = mul-pos x.above y.above;
}

unfoldable pub negᶠ : Fraction → Fraction
negᶠ x = record { num = neg_ℤ x.num; den = x.den; above = x.above }

abbrev pub ◌-ᶠ◌ : Fraction → Fraction → Fraction
x -ᶠ y = x +ᶠ negᶠ y

-- ---- the order, its test, and limits

infix 50 ◌≤ᶠ◌
pub record ◌≤ᶠ◌ (x y : Fraction) : Type 0 where
  pub le : (pos y.den *ℤ x.num) ≤ℤ (pos x.den *ℤ y.num)

unfoldable pub ltᶠ : Fraction → Fraction → Bool
ltᶠ x y = lt_z (pos y.den *ℤ x.num) (pos x.den *ℤ y.num)

abbrev pub clampᶠ : Fraction → Fraction → Fraction → Fraction
clampᶠ x lo hi = clamp_by ltᶠ x lo hi

-- the same value
infix 50 ◌≈ᶠ◌
pub record ◌≈ᶠ◌ (x y : Fraction) : Type 0 where
  pub most : x ≤ᶠ y
  pub least : y ≤ᶠ x

-- E6: |x − y| ≤ r
pub record Near (r x y : Fraction) : Type 0 where
  pub most : x ≤ᶠ y +ᶠ r
  pub least : y ≤ᶠ x +ᶠ r

-- A7: x in the nearest of u parts of one, a half away from zero
unfoldable pub round_to : ℕ → Fraction → ℤ
round_to u x = half_away (pos u *ℤ x.num) x.den
