-- The digits of numbers and words (L9), computed of the definitions and worked out by hand.
use mathlib.Core.Path.{◌≡◌, refl}
use mathlib.Core.List.{List, [], ◌∷◌}
use Rattle.computed.specs.Cases.{Case, ◌∶◌gives◌, failing}
use Rattle.text.specs.Text.{bytes, digits_within, decimal_of, hex_of}

-- 18,446,744,073,709,551,615 is 2 ^ 64 − 1
pub cases : List Case
cases =
    ("L9 decimal 0" ∶ decimal_of 0 gives bytes "0")
    ∷ ("L9 decimal 9" ∶ decimal_of 9 gives bytes "9")
    ∷ ("L9 decimal 10" ∶ decimal_of 10 gives bytes "10")
    ∷ ("L9 decimal 4095" ∶ decimal_of 4095 gives bytes "4095")
    ∷ ("L9 decimal 65535" ∶ decimal_of 65535 gives bytes "65535")
    ∷ ("L9 the greatest decimal" ∶ decimal_of 18446744073709551615 gives bytes "18446744073709551615")
    ∷ ("L9 hexadecimal 0" ∶ hex_of 0 gives bytes "0000")
    ∷ ("L9 hexadecimal 802" ∶ hex_of 2050 gives bytes "0802")
    ∷ ("L9 hexadecimal ABCD" ∶ hex_of 43981 gives bytes "ABCD")
    ∷ ("L9 hexadecimal FFFF" ∶ hex_of 65535 gives bytes "FFFF")
    ∷ []

pub computed : failing cases ≡ []
unfolding cases digits_within decimal_of
computed = refl
