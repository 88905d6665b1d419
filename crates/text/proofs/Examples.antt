-- The digits of numbers and words (L9), computed of the definitions and worked out by hand.
use Prim.Native.Nat.{ℕ}
use mathlib.Core.Path.{◌≡◌, refl}
use mathlib.Core.List.{List, [], ◌∷◌, map}
use Rattle.text.specs.Text.{bytes, digits_within, decimal_of, hex_of}

-- what a definition gives, and the text that it has to be; 18,446,744,073,709,551,615 is 2 ^ 64 − 1
pub rows : List (List ℕ × List ℕ)
rows =
    (decimal_of 0, bytes "0") ∷ (decimal_of 10, bytes "10") ∷ (decimal_of 18446744073709551615, bytes "18446744073709551615")
    ∷ (hex_of 0, bytes "0000") ∷ (hex_of 2050, bytes "0802") ∷ (hex_of 43981, bytes "ABCD") ∷ (hex_of 65535, bytes "FFFF")
    ∷ []

pub computed : map (λ (r : List ℕ × List ℕ). r.0) rows ≡ map (λ (r : List ℕ × List ℕ). r.1) rows
unfolding rows digits_within decimal_of
computed = refl
