-- Single words: bits, BCD digits, the three full scales; and a loop's 32 words.
use Rattle.std.specs.Prelude.{ℕ, ◌+◌, ◌-◌, ◌*◌, ◌/◌, ◌%◌, ◌^◌, Bool, false, cond, ◌||◌, List, [], ◌∷◌, take, drop, ltb, eqb}
use Rattle.table.specs.declared.format.Format.{Format}
pub mod Laws

-- bit k of a word
abbrev pub bit : ℕ → ℕ → Bool
bit k word = eqb (word / 2 ^ k % 2) 1

-- W3: the value of four BCD digits, the highest in the highest four bits
unfoldable pub bcd : ℕ → ℕ
bcd word = word / 4096 % 16 * 1000 + word / 256 % 16 * 100 + word / 16 % 16 * 10 + word % 16

-- N7: one of four BCD digits is above 9
unfoldable pub bad_digit : ℕ → Bool
bad_digit word = ltb 9 (word / 4096 % 16) || ltb 9 (word / 256 % 16) || ltb 9 (word / 16 % 16) || ltb 9 (word % 16)

-- A2: mode 1 with bits 0 to 2, the requests, off
abbrev pub clear_requests : ℕ → ℕ
clear_requests word = word / 8 * 8

-- M3: a format by its bits for 16 and for 15 bits: the first where it is on, whatever the second is; with both off 12
abbrev pub format_by : Bool → Bool → Format
format_by sixteen fifteen = cond sixteen (record { scale = 65535 }) (cond fifteen (record { scale = 32767 }) (record { scale = 4095 }))

-- M3: the input's, of full scale F, by bits 9 and 1 of mode 2
abbrev pub input_format : ℕ → Format
input_format word = format_by (bit 9 word) (bit 1 word)

-- M3: the output's, of full scale G: with bit 10 on by bits 13 and 12, else the input's
abbrev pub output_format : ℕ → Format → Format
output_format word input = cond (bit 10 word) (format_by (bit 13 word) (bit 12 word)) input

-- what a bit adds to a word: its value where it is on
abbrev pub flag_of : Bool → ℕ → ℕ
flag_of on value = cond on value 0

-- W1: the address of word 0 of loop k
abbrev pub base_of : ℕ → ℕ
base_of k = 32 * (k - 1)

-- W1: the 32 words from an address on
abbrev pub block_at : List ℕ → ℕ → List ℕ
block_at words base = take 32 (drop base words)

-- one of the tests of a list holds
abbrev pub any_after : Bool → List Bool → Bool
any_after found [] = found
any_after found (test ∷ tests) = any_after (found || test) tests

abbrev pub any : List Bool → Bool
any [] = false
any (test ∷ tests) = any_after test tests
