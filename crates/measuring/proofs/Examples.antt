-- The PV computed of the definitions (A1, X4): as the raw PV, and its root in the three scales, worked out by hand.
use Prim.Native.Nat.{ℕ}
use mathlib.Core.Path.{◌≡◌, refl}
use mathlib.Core.Bool.{true, false}
use mathlib.Core.List.{List, [], ◌∷◌}
use Rattle.computed.specs.Cases.{Case, ◌∶◌gives◌, failing}
use Rattle.numbers.specs.Roots.{root_within, root_of}
use Rattle.table.specs.declared.mode.Mode.TheVariants.{Manual}
use Rattle.reading.specs.Settings.{mode2_of, settings_of}
use Rattle.reading.specs.Reading.{reading_of}
use Rattle.measuring.specs.Measuring.{pv_of, measured_of}

one : ℕ → List ℕ
one n = n ∷ []

linear : ℕ → ℕ → List ℕ
linear F raw = one (pv_of false F raw)

root : ℕ → ℕ → List ℕ
root F raw = one (pv_of true F raw)

-- of loop 1 with these words 0 and 1, raw PV 1,000
measured : ℕ → ℕ → List ℕ
measured first second = one (measured_of (reading_of (first ∷ second ∷ []) 1 (record { mode = Manual; segment = 0 })) 1000)

pub cases : List Case
cases =
    ("A1 linear, 0" ∶ linear 4095 0 gives one 0)
    ∷ ("A1 linear, 1,000 in 12 bits" ∶ linear 4095 1000 gives one 1000)
    ∷ ("A1 linear, full scale in 15 bits" ∶ linear 32767 32767 gives one 32767)
    ∷ ("A1 linear, full scale in 16 bits" ∶ linear 65535 65535 gives one 65535)
    ∷ ("A1 root of 0" ∶ root 4095 0 gives one 0)
    -- 63 × 63 + 63 is 4,032, below 4,095
    ∷ ("A1 root of 1 in 12 bits" ∶ root 4095 1 gives one 64)
    ∷ ("X4 root of 2 in 12 bits" ∶ root 4095 2 gives one 90)
    ∷ ("X4 root of 1,000 in 12 bits" ∶ root 4095 1000 gives one 2024)
    ∷ ("A1 root of 4,094 in 12 bits" ∶ root 4095 4094 gives one 4094)
    ∷ ("A1 root of full scale in 12 bits" ∶ root 4095 4095 gives one 4095)
    -- 181 × 181 is 32,761, and with 181 more 32,942, above 32,767
    ∷ ("A1 root of 1 in 15 bits" ∶ root 32767 1 gives one 181)
    -- 5,724 × 5,724 is 32,764,176, and with 5,724 more 32,769,900, above 32,767,000
    ∷ ("A1 root of 1,000 in 15 bits" ∶ root 32767 1000 gives one 5724)
    ∷ ("A1 root of full scale in 15 bits" ∶ root 32767 32767 gives one 32767)
    -- 255 × 255 is 65,025, and with 255 more 65,280, below 65,535
    ∷ ("A1 root of 1 in 16 bits" ∶ root 65535 1 gives one 256)
    -- 8,095 × 8,095 is 65,529,025, and with 8,095 more 65,537,120, above 65,535,000
    ∷ ("A1 root of 1,000 in 16 bits" ∶ root 65535 1000 gives one 8095)
    ∷ ("A1 root of full scale in 16 bits" ∶ root 65535 65535 gives one 65535)
    ∷ ("A1 bit 6 off" ∶ measured 0x0000 0x0000 gives one 1000)
    ∷ ("A1 all other bits on" ∶ measured 0xFFBF 0x0000 gives one 1000)
    ∷ ("A1 bit 6 on, 12 bits" ∶ measured 0x0040 0x0000 gives one 2024)
    ∷ ("A1 bit 6 on, 15 bits" ∶ measured 0x0040 0x0002 gives one 5724)
    ∷ ("A1 bit 6 on, 16 bits" ∶ measured 0x0040 0x0200 gives one 8095)
    ∷ ("A1 root by F, output of 16 bits" ∶ measured 0x0040 0x2400 gives one 2024)
    ∷ ("A1 root by F, output of 12 bits" ∶ measured 0x0040 0x0600 gives one 8095)
    ∷ []

pub computed : failing cases ≡ []
unfolding root_within root_of mode2_of settings_of reading_of pv_of one linear root measured cases
computed = refl
