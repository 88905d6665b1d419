-- Computed of the definitions: which loop is the major one of loop 2 (N11): the outputs of loops 1, 3 and 16, its own, the words beside one, and word 5
-- of the free half; and the two full scales of mode 2 words (M3).
use Prim.Native.Nat.{ℕ}
use mathlib.Core.Path.{◌≡◌, refl}
use mathlib.Core.List.{List, [], ◌∷◌, map}
use Rattle.reading.specs.Settings.{mode2_of}
use Rattle.reading.specs.Transfers.{major_of}

pub pointers : List ℕ
pointers = 5 ∷ 69 ∷ 485 ∷ 37 ∷ 4 ∷ 6 ∷ 0 ∷ 511 ∷ 512 ∷ 517 ∷ 65535 ∷ []

pub majors : map (major_of 2) pointers ≡ 1 ∷ 3 ∷ 16 ∷ 0 ∷ 0 ∷ 0 ∷ 0 ∷ 0 ∷ 0 ∷ 0 ∷ 0 ∷ []
unfolding major_of pointers
majors = refl

-- F and G
pub scales : ℕ → List ℕ
scales word = let m = mode2_of word in m.input.scale ∷ m.output.scale ∷ []

-- bit 10 off, the input's two bits; bit 10 on, the output's two bits beside them
pub words : List ℕ
words = 0x0000 ∷ 0x0002 ∷ 0x0200 ∷ 0x0202 ∷ 0x0400 ∷ 0x1402 ∷ 0x2400 ∷ 0x3402 ∷ 0x0600 ∷ 0x1602 ∷ []

pub full_scales : map scales words
    ≡ (4095 ∷ 4095 ∷ []) ∷ (32767 ∷ 32767 ∷ []) ∷ (65535 ∷ 65535 ∷ []) ∷ (65535 ∷ 65535 ∷ [])
    ∷ (4095 ∷ 4095 ∷ []) ∷ (32767 ∷ 32767 ∷ []) ∷ (4095 ∷ 65535 ∷ []) ∷ (32767 ∷ 65535 ∷ []) ∷ (65535 ∷ 4095 ∷ []) ∷ (65535 ∷ 32767 ∷ []) ∷ []
unfolding mode2_of scales words
full_scales = refl
