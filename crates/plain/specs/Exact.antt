-- The exact position form (E5), in fractions of a count: A8 on the terms of A7 before rounding.
use Rattle.std.specs.Prelude.{ℕ, ℤ, pos}
use Rattle.numbers.specs.Fractions.{Fraction, over, whole, ◌+ᶠ◌, ◌-ᶠ◌, clampᶠ}
use Rattle.control.specs.Terms.{Exact}
pub mod Laws

-- a number of units in counts: 262,144 of them are one
abbrev pub in_counts : ℤ → Fraction
in_counts z = over z 262144

-- E5: m
unfoldable pub exact_sum : Fraction → Exact → Fraction
exact_sum B t = (t.p -ᶠ t.d) +ᶠ (B +ᶠ t.i)

-- E5: the exact output is m inside the output limits
unfoldable pub exact_output : ℕ → ℕ → Fraction → Exact → Fraction
exact_output low high B t = clampᶠ (exact_sum B t) (whole (pos low)) (whole (pos high))

-- E5: B after it is that output less P − D
unfoldable pub exact_bias : Fraction → Exact → Fraction
exact_bias output t = output -ᶠ (t.p -ᶠ t.d)
