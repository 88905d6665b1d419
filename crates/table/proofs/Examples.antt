-- Single words computed of the definitions: bits, BCD digits (W3, N7), requests (A2), full scales (M3), modes (M4) and a loop's words (W1).
use Prim.Native.Nat.{ℕ, zero, suc, ◌+◌}
use mathlib.Core.Path.{◌≡◌, refl}
use mathlib.Core.Bool.{true, false}
use mathlib.Core.List.{List, [], ◌∷◌}
use lib.ListN.{get_or, length}
use Rattle.computed.specs.Cases.{Case, ◌∶◌gives◌, flag, failing}
use Rattle.table.specs.declared.mode.Mode.{Mode}
use Rattle.table.specs.declared.mode.Mode.TheVariants.{Manual, Automatic, Cascade}
use Rattle.table.specs.Words.{bit, bcd, bad_digit, clear_requests, input_format, output_format, base_of, block_at, any}
use Rattle.table.specs.Modes.{is_manual, is_automatic, is_cascade}

one : ℕ → List ℕ
one n = n ∷ []

bad : ℕ → List ℕ
bad word = one (flag (bad_digit word))

-- F and G of mode 2
scales : ℕ → List ℕ
scales word = let input = input_format word in input.scale ∷ (output_format word input).scale ∷ []

-- Manual, Automatic, Cascade
is : Mode → List ℕ
is mode = flag (is_manual mode) ∷ flag (is_automatic mode) ∷ flag (is_cascade mode) ∷ []

-- n words, each the number of its place
counting : ℕ → ℕ → List ℕ
counting zero from = []
counting (suc n) from = from ∷ counting n (from + 1)

-- of the 32 words from an address on, among 100: how many they are, the first, the last and what is behind them
block : ℕ → List ℕ
block base = let b = block_at (counting 100 0) base in length b ∷ get_or b 0 7 ∷ get_or b 31 7 ∷ get_or b 32 7 ∷ []

pub cases : List Case
cases =
    ("M1 bit 0 on" ∶ one (flag (bit 0 0x0001)) gives one 1)
    ∷ ("M1 bit 0 off" ∶ one (flag (bit 0 0xFFFE)) gives one 0)
    ∷ ("M1 bit 9 on" ∶ one (flag (bit 9 0x0200)) gives one 1)
    ∷ ("M1 bit 9 off" ∶ one (flag (bit 9 0xFDFF)) gives one 0)
    ∷ ("M1 bit 15 on" ∶ one (flag (bit 15 0x8000)) gives one 1)
    ∷ ("M1 bit 15 off" ∶ one (flag (bit 15 0x7FFF)) gives one 0)
    ∷ ("W3 0x0000 is 0" ∶ one (bcd 0x0000) gives one 0)
    ∷ ("W3 0x0009 is 9" ∶ one (bcd 0x0009) gives one 9)
    ∷ ("W3 0x0010 is 10" ∶ one (bcd 0x0010) gives one 10)
    ∷ ("W3 0x0100 is 100" ∶ one (bcd 0x0100) gives one 100)
    ∷ ("W3 0x0200 is 200" ∶ one (bcd 0x0200) gives one 200)
    ∷ ("W3 0x1000 is 1,000" ∶ one (bcd 0x1000) gives one 1000)
    ∷ ("W3 0x1234 is 1,234" ∶ one (bcd 0x1234) gives one 1234)
    ∷ ("W3 0x9999 is 9,999" ∶ one (bcd 0x9999) gives one 9999)
    ∷ ("N7 9 in all digits" ∶ bad 0x9999 gives one 0)
    ∷ ("N7 no digit" ∶ bad 0x0000 gives one 0)
    ∷ ("N7 A in the first digit" ∶ bad 0xA000 gives one 1)
    ∷ ("N7 A in the second digit" ∶ bad 0x0A00 gives one 1)
    ∷ ("N7 A in the third digit" ∶ bad 0x00A0 gives one 1)
    ∷ ("N7 A in the last digit" ∶ bad 0x000A gives one 1)
    ∷ ("N7 F in all digits" ∶ bad 0xFFFF gives one 1)
    -- W3: 200 is 0x00C8
    ∷ ("N7 200 in binary" ∶ bad 200 gives one 1)
    ∷ ("A2 Manual's request off" ∶ one (clear_requests 0x0001) gives one 0)
    ∷ ("A2 Automatic's request off" ∶ one (clear_requests 0x0002) gives one 0)
    ∷ ("A2 Cascade's request off" ∶ one (clear_requests 0x0004) gives one 0)
    ∷ ("A2 bit 3 stays" ∶ one (clear_requests 0x000F) gives one 0x0008)
    ∷ ("A2 all other bits stay" ∶ one (clear_requests 0xFFFF) gives one 0xFFF8)
    ∷ ("M3 12 bits" ∶ scales 0x0000 gives (4095 ∷ 4095 ∷ []))
    ∷ ("M3 15 bits by bit 1" ∶ scales 0x0002 gives (32767 ∷ 32767 ∷ []))
    ∷ ("M3 16 bits by bit 9" ∶ scales 0x0200 gives (65535 ∷ 65535 ∷ []))
    ∷ ("M3 bit 9 whatever bit 1 is" ∶ scales 0x0202 gives (65535 ∷ 65535 ∷ []))
    ∷ ("M3 all bits but 1, 9 and 10: 12 bits" ∶ scales 0xF9FD gives (4095 ∷ 4095 ∷ []))
    ∷ ("M3 bit 10: output of 12 bits" ∶ scales 0x0600 gives (65535 ∷ 4095 ∷ []))
    ∷ ("M3 bits 10 and 12: output of 15 bits" ∶ scales 0x1600 gives (65535 ∷ 32767 ∷ []))
    ∷ ("M3 bits 10 and 13: output of 16 bits" ∶ scales 0x2400 gives (4095 ∷ 65535 ∷ []))
    ∷ ("M3 bit 13 whatever bit 12 is" ∶ scales 0x3402 gives (32767 ∷ 65535 ∷ []))
    ∷ ("M3 bit 10, all bits but 12 and 13: output of 12 bits" ∶ scales 0xCFFF gives (65535 ∷ 4095 ∷ []))
    ∷ ("M3 bit 10, all bits but 13: output of 15 bits" ∶ scales 0xDFFF gives (65535 ∷ 32767 ∷ []))
    ∷ ("M3 bits 12 and 13 without bit 10: the input's" ∶ scales 0x3002 gives (32767 ∷ 32767 ∷ []))
    ∷ ("M4 Manual" ∶ is Manual gives (1 ∷ 0 ∷ 0 ∷ []))
    ∷ ("M4 Automatic" ∶ is Automatic gives (0 ∷ 1 ∷ 0 ∷ []))
    ∷ ("M4 Cascade" ∶ is Cascade gives (0 ∷ 0 ∷ 1 ∷ []))
    ∷ ("W1 loop 1 at 0" ∶ one (base_of 1) gives one 0)
    ∷ ("W1 loop 2 at 32" ∶ one (base_of 2) gives one 32)
    ∷ ("W1 loop 16 at 480" ∶ one (base_of 16) gives one 480)
    ∷ ("W1 32 words from 0" ∶ block 0 gives (32 ∷ 0 ∷ 31 ∷ 7 ∷ []))
    ∷ ("W1 32 words from 33" ∶ block 33 gives (32 ∷ 33 ∷ 64 ∷ 7 ∷ []))
    ∷ ("N8 no test holds of none" ∶ one (flag (any [])) gives one 0)
    ∷ ("N8 no test holds" ∶ one (flag (any (false ∷ false ∷ []))) gives one 0)
    ∷ ("N8 the first test holds" ∶ one (flag (any (true ∷ false ∷ []))) gives one 1)
    ∷ ("N8 a test in the middle holds" ∶ one (flag (any (false ∷ true ∷ false ∷ []))) gives one 1)
    ∷ ("N8 the last test holds" ∶ one (flag (any (false ∷ false ∷ true ∷ []))) gives one 1)
    ∷ []

pub computed : failing cases ≡ []
unfolding bcd bad_digit one bad scales is counting block cases
computed = refl
