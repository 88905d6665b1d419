-- A5: the error, in counts of the output, and the deadband, in counts of the input (M7).
use Rattle.std.specs.Prelude.{ℕ, ◌*◌, ◌/◌, Bool, cond, ◌&&◌, ltb, ℤ, pos, nat_abs, ◌-ℤ◌}
use Rattle.numbers.specs.Distances.{apart}
use Rattle.numbers.specs.Rounding.{with_sign}
pub mod Laws

-- A5: the deadband is on and larger than |s − p|, s and p in counts of the input
unfoldable pub in_deadband : Bool → ℕ → ℕ → ℕ → Bool
in_deadband on deadband s p = on && ltb (apart s p) deadband

-- A5, error squared: the square of e over the output's full scale G without the fraction, with the sign of e
unfoldable pub squared_over : ℤ → ℕ → ℤ
squared_over e G = with_sign e (nat_abs e * nat_abs e / G)

-- A5: s − p, s and p in counts of the output; 0 in the deadband (the first argument true); else squared over G, where that is on
unfoldable pub error_of : Bool → Bool → ℕ → ℕ → ℕ → ℤ
error_of quiet squared G s p =
    let e = pos s -ℤ pos p in
    cond quiet (pos 0) (cond squared (squared_over e G) e)
