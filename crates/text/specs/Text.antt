-- Texts as lists of bytes: the decimal and hexadecimal digits of a number (L9), how digits are read, and what it is to write a text into a buffer.
-- The laws of these definitions are in `Text/Laws`.
use Rattle.std.specs.Prelude.{ℕ, zero, suc, ◌+◌, ◌*◌, ◌-◌, ◌/◌, ◌%◌, ◌≡◌, cond, length, ltb}
use Prim.Native.Char.{code}
use Prim.Native.String.{String, [] as none, ◌∷◌ as ◌then◌}
use mathlib.Core.List.{List, [], ◌∷◌, ◌++◌, foldl}
use Rattle.std.proofs.lemmas.List.Edits.{sets}
pub mod Laws

-- the bytes of a quoted text
abbrev pub bytes : String → List ℕ
bytes none = []
bytes (c then more) = code c ∷ bytes more

-- `after` holds the text from `at` on and is `before` elsewhere; `next` is the place behind the text
pub record Written (before : List ℕ) (at : ℕ) (text after : List ℕ) (next : ℕ) : Type 0 where
  pub buffer : after ≡ sets before at text
  pub place : next ≡ at + length text

-- the last decimal digit of n
abbrev pub last_digit : ℕ → ℕ
last_digit n = 48 + n % 10

-- the decimal digits of n: those of n / 10, where n is 10 or more, and then the last one. `limit` bounds the recursion; n is enough
unfoldable pub digits_within : ℕ → ℕ → List ℕ
digits_within zero n = last_digit n ∷ []
digits_within (suc limit) n =
    let longer = digits_within limit (n / 10) ++ (last_digit n ∷ []) in
    cond (ltb n 10) (last_digit n ∷ []) longer

unfoldable pub decimal_of : ℕ → List ℕ
decimal_of n = digits_within n n

-- two digits of a number below 100
abbrev pub two_digits : ℕ → List ℕ
two_digits n = (48 + n / 10) ∷ (48 + n % 10) ∷ []

-- the number that decimal digits say, behind a number already read
unfoldable pub read_from : ℕ → List ℕ → ℕ
read_from value [] = value
read_from value (digit ∷ more) = read_from (10 * value + (digit - 48)) more

unfoldable pub read_decimal : List ℕ → ℕ
read_decimal digits = read_from 0 digits

-- L9: the upper-case hexadecimal digit of d below 16
abbrev pub hex_digit : ℕ → ℕ
hex_digit d = cond (ltb d 10) (48 + d) (55 + d)

-- L9: the four hexadecimal digits of a word
abbrev pub hex_of : ℕ → List ℕ
hex_of n = hex_digit (n / 4096 % 16) ∷ hex_digit (n / 256 % 16) ∷ hex_digit (n / 16 % 16) ∷ hex_digit (n % 16) ∷ []

-- the number that one hexadecimal digit says
abbrev pub hex_value : ℕ → ℕ
hex_value digit = cond (ltb digit 58) (digit - 48) (digit - 55)

-- the number that hexadecimal digits say
abbrev pub read_hex : List ℕ → ℕ
read_hex digits = foldl (λ value digit. 16 * value + hex_value digit) 0 digits
