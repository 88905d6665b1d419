-- A quotient rounded to a whole number (A7, A10), for any divisor above 0, and the units that the engine carries (H2).
use Rattle.std.specs.Prelude.{ℕ, ◌+◌, ◌*◌, ◌/◌, ℤ, pos, negsuc, neg_ℤ, nat_abs}

-- A10: n / d to the nearest whole number, a half up
unfoldable pub half_up : ℕ → ℕ → ℕ
half_up n d = (2 * n + d) / (2 * d)

-- the magnitude m with the sign of z
abbrev pub with_sign : ℤ → ℕ → ℤ
with_sign (pos n) m = pos m
with_sign (negsuc n) m = neg_ℤ (pos m)

-- A7: z / d to the nearest whole number, a half away from zero
unfoldable pub half_away : ℤ → ℕ → ℤ
half_away z d = with_sign z (half_up (nat_abs z) d)

-- H2: a count is 262,144 units
abbrev pub units_of : ℕ → ℕ
units_of count = count * 262144

-- A10: units in the nearest count, a half up
abbrev pub nearest_count : ℕ → ℕ
nearest_count units = half_up units 262144
