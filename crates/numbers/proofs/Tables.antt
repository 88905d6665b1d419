-- Roots (A1, X4), conversions (M7, X6), quotients (A7, A10), units (H2), signs and limits computed of the definitions, worked out by hand.
use Prim.Native.Nat.{ℕ}
use lib.IntN.{ℤ, pos, neg_ℤ, nat_abs, ◌-ℤ◌, ◌*ℤ◌}
use mathlib.Core.Path.{◌≡◌, refl}
use mathlib.Core.List.{List, [], ◌∷◌}
use Rattle.computed.specs.Cases.{Case, ◌∶◌gives◌, ◌∶◌givesℤ◌, failing}
use Rattle.numbers.specs.Distances.{apart}
use Rattle.numbers.specs.Limits.{clamp_by, clampℕ, clampℤ}
use Rattle.numbers.specs.Rounding.{half_up, with_sign, half_away, units_of, nearest_count}
use Rattle.numbers.specs.Scales.{converted}
use Rattle.numbers.specs.Roots.{root_within, root_of}

one : ℕ → List ℕ
one n = n ∷ []

oneℤ : ℤ → List ℤ
oneℤ z = z ∷ []

-- a number below zero
minus : ℕ → ℤ
minus n = neg_ℤ (pos n)

root : ℕ → List ℕ
root v = one (root_of v)

-- from full scale F to full scale G
convert : ℕ → ℕ → ℕ → List ℕ
convert F G v = one (converted F G v)

-- 4,611,686,018,427,387,903 is 2 ^ 62 − 1
pub cases : List Case
cases =
    ("A1 root of 0" ∶ root 0 gives one 0)
    ∷ ("A1 root of 1" ∶ root 1 gives one 1)
    ∷ ("A1 root of 2, 1 × 1 + 1: down" ∶ root 2 gives one 1)
    ∷ ("A1 root of 3: up" ∶ root 3 gives one 2)
    ∷ ("A1 root of a square" ∶ root 4 gives one 2)
    ∷ ("A1 root of 6, 2 × 2 + 2: down" ∶ root 6 gives one 2)
    ∷ ("A1 root of 7: up" ∶ root 7 gives one 3)
    ∷ ("A1 raw PV 1 in 12 bits" ∶ root 4095 gives one 64)
    ∷ ("X4 raw PV 2 in 12 bits, 90 × 90 + 90" ∶ root 8190 gives one 90)
    ∷ ("X4 raw PV 1,000 in 12 bits" ∶ root 4095000 gives one 2024)
    ∷ ("A1 raw PV 4,094 in 12 bits, 4,094 × 4,094 + 4,094" ∶ root 16764930 gives one 4094)
    ∷ ("A1 full scale in 12 bits" ∶ root 16769025 gives one 4095)
    ∷ ("A1 full scale in 15 bits" ∶ root 1073676289 gives one 32767)
    ∷ ("A1 full scale in 16 bits" ∶ root 4294836225 gives one 65535)
    ∷ ("A1 raw PV 65,534 in 16 bits, 65,534 × 65,534 + 65,534" ∶ root 4294770690 gives one 65534)
    ∷ ("A1 one above 65,534 × 65,534 + 65,534" ∶ root 4294770691 gives one 65535)
    -- above the engine's range
    ∷ ("A1 65,535 × 65,535 + 65,535" ∶ root 4294901760 gives one 65535)
    ∷ ("A1 one above 65,535 × 65,535 + 65,535" ∶ root 4294901761 gives one 65536)
    ∷ ("A1 root of 2 ^ 32 − 1" ∶ root 4294967295 gives one 65536)
    -- no half occurs between the engine's scales
    ∷ ("M7 1/2 up" ∶ convert 2 1 1 gives one 1)
    ∷ ("M7 3/2 up" ∶ convert 2 3 1 gives one 2)
    ∷ ("M7 2/4 up" ∶ convert 4 2 1 gives one 1)
    ∷ ("M7 10/4 up" ∶ convert 4 10 1 gives one 3)
    ∷ ("M7 0 stays 0" ∶ convert 65535 4095 0 gives one 0)
    ∷ ("M7 16 to 12 bits: 0.4999" ∶ convert 65535 4095 8 gives one 0)
    ∷ ("M7 16 to 12 bits: 0.5624" ∶ convert 65535 4095 9 gives one 1)
    ∷ ("X6 16 to 12 bits: 999.77" ∶ convert 65535 4095 16000 gives one 1000)
    ∷ ("X6 16 to 12 bits: 1,499.66" ∶ convert 65535 4095 24000 gives one 1500)
    ∷ ("X6 16 to 12 bits: 1,000.27" ∶ convert 65535 4095 16008 gives one 1000)
    ∷ ("M7 16 to 12 bits: 4,094.44" ∶ convert 65535 4095 65526 gives one 4094)
    ∷ ("M7 16 to 12 bits: 4,094.5001" ∶ convert 65535 4095 65527 gives one 4095)
    ∷ ("M7 16 to 12 bits: full scale" ∶ convert 65535 4095 65535 gives one 4095)
    ∷ ("M7 12 to 16 bits: 16.004" ∶ convert 4095 65535 1 gives one 16)
    ∷ ("M7 12 to 16 bits: 16,003.66" ∶ convert 4095 65535 1000 gives one 16004)
    ∷ ("M7 12 to 16 bits: full scale" ∶ convert 4095 65535 4095 gives one 65535)
    ∷ ("M7 15 to 16 bits: 2.00003" ∶ convert 32767 65535 1 gives one 2)
    ∷ ("M7 15 to 16 bits: 50,000.76" ∶ convert 32767 65535 25000 gives one 50001)
    ∷ ("M7 15 to 16 bits: 65,532.99997" ∶ convert 32767 65535 32766 gives one 65533)
    ∷ ("M7 16 to 15 bits: 0.49999" ∶ convert 65535 32767 1 gives one 0)
    ∷ ("M7 16 to 15 bits: 0.99998" ∶ convert 65535 32767 2 gives one 1)
    ∷ ("M7 above F it is G, 12 to 16 bits" ∶ convert 4095 65535 4096 gives one 65535)
    ∷ ("M7 above F it is G, 15 to 12 bits" ∶ convert 32767 4095 65535 gives one 4095)
    ∷ ("M7 equal scales" ∶ convert 4095 4095 4094 gives one 4094)
    ∷ ("M7 above F it is G, equal scales" ∶ convert 4095 4095 5000 gives one 4095)
    ∷ ("A10 nothing" ∶ one (half_up 0 1) gives one 0)
    ∷ ("A10 1/2 up" ∶ one (half_up 1 2) gives one 1)
    ∷ ("A10 3/2 up" ∶ one (half_up 3 2) gives one 2)
    ∷ ("A10 1/3 down" ∶ one (half_up 1 3) gives one 0)
    ∷ ("A10 2/3 up" ∶ one (half_up 2 3) gives one 1)
    -- the greatest that `half_up` takes
    ∷ ("A10 the greatest number whole" ∶ one (half_up 4611686018427387903 1) gives one 4611686018427387903)
    ∷ ("A10 the greatest number halved" ∶ one (half_up 4611686018427387903 2) gives one 2305843009213693952)
    ∷ ("A10 the greatest divisor" ∶ one (half_up 4611686018427387903 4611686018427387903) gives one 1)
    ∷ ("A10 units one below a half" ∶ one (nearest_count 131071) gives one 0)
    ∷ ("A10 half a count of units" ∶ one (nearest_count 131072) gives one 1)
    ∷ ("A10 units one below 3/2" ∶ one (nearest_count 393215) gives one 1)
    ∷ ("A10 3/2 counts of units" ∶ one (nearest_count 393216) gives one 2)
    ∷ ("H2 units of 0" ∶ one (units_of 0) gives one 0)
    ∷ ("H2 units of 65,535" ∶ one (units_of 65535) gives one 17179607040)
    ∷ ("H2 the greatest output in counts" ∶ one (nearest_count 17179607040) gives one 65535)
    ∷ ("A7 the size of −2 ^ 63" ∶ one (nat_abs (minus 9223372036854775808)) gives one 9223372036854775808)
    ∷ ("A7 the size of 2 ^ 63 − 1" ∶ one (nat_abs (pos 9223372036854775807)) gives one 9223372036854775807)
    ∷ ("A4 below the low limit" ∶ one (clampℕ 99 100 200) gives one 100)
    ∷ ("A4 on the low limit" ∶ one (clampℕ 100 100 200) gives one 100)
    ∷ ("A4 inside the limits" ∶ one (clampℕ 150 100 200) gives one 150)
    ∷ ("A4 on the high limit" ∶ one (clampℕ 200 100 200) gives one 200)
    ∷ ("A4 above the high limit" ∶ one (clampℕ 65535 100 200) gives one 200)
    ∷ ("B4 a distance upward" ∶ one (apart 3 10) gives one 7)
    ∷ ("B4 a distance downward" ∶ one (apart 10 3) gives one 7)
    ∷ ("B4 no distance" ∶ one (apart 10 10) gives one 0)
    ∷ ("A7 1/2 away from zero" ∶ oneℤ (half_away (pos 1) 2) givesℤ oneℤ (pos 1))
    ∷ ("A7 −1/2 away from zero" ∶ oneℤ (half_away (minus 1) 2) givesℤ oneℤ (minus 1))
    ∷ ("A7 5/2 away from zero" ∶ oneℤ (half_away (pos 5) 2) givesℤ oneℤ (pos 3))
    ∷ ("A7 −5/2 away from zero" ∶ oneℤ (half_away (minus 5) 2) givesℤ oneℤ (minus 3))
    ∷ ("A7 −49/100" ∶ oneℤ (half_away (minus 49) 100) givesℤ oneℤ (pos 0))
    ∷ ("A7 −50/100" ∶ oneℤ (half_away (minus 50) 100) givesℤ oneℤ (minus 1))
    ∷ ("A7 −51/100" ∶ oneℤ (half_away (minus 51) 100) givesℤ oneℤ (minus 1))
    ∷ ("A7 the greatest quotient" ∶ oneℤ (half_away (pos 4611686018427387903) 1) givesℤ oneℤ (pos 4611686018427387903))
    ∷ ("A7 the least quotient" ∶ oneℤ (half_away (minus 4611686018427387903) 1) givesℤ oneℤ (minus 4611686018427387903))
    -- a product in units: a gain of 2.00 and an error of 500; the widest, two settings of 9,999 and a second difference of 131,070
    ∷ ("A7 gain 2.00, error 500" ∶ oneℤ (half_away (pos (units_of 200) *ℤ pos 500) 100) givesℤ oneℤ (pos 262144000))
    ∷ ("A7 the widest product" ∶ oneℤ (half_away (pos 26209157382144 *ℤ pos 131070) 1) givesℤ oneℤ (pos 3435234258077614080))
    ∷ ("A7 the widest, negative, over 500" ∶ oneℤ (half_away (pos 26209157382144 *ℤ minus 131070) 500) givesℤ oneℤ (minus 6870468516155228))
    ∷ ("A5 the sign of −1" ∶ oneℤ (with_sign (minus 1) 9223372036854775807) givesℤ oneℤ (minus 9223372036854775807))
    ∷ ("A5 the sign of 0" ∶ oneℤ (with_sign (pos 0) 5) givesℤ oneℤ (pos 5))
    ∷ ("A5 0 − 65,535" ∶ oneℤ (pos 0 -ℤ pos 65535) givesℤ oneℤ (minus 65535))
    ∷ ("A5 65,535 − 0" ∶ oneℤ (pos 65535 -ℤ pos 0) givesℤ oneℤ (pos 65535))
    ∷ ("A8 below the low limit" ∶ oneℤ (clampℤ (minus 1) (pos 0) (pos 4095)) givesℤ oneℤ (pos 0))
    ∷ ("A8 on the high limit" ∶ oneℤ (clampℤ (pos 4095) (pos 0) (pos 4095)) givesℤ oneℤ (pos 4095))
    ∷ ("A8 above the high limit" ∶ oneℤ (clampℤ (pos 4096) (pos 0) (pos 4095)) givesℤ oneℤ (pos 4095))
    ∷ []

pub computed : failing cases ≡ []
unfolding apart clamp_by half_up half_away converted root_within root_of one oneℤ minus root convert cases
computed = refl
