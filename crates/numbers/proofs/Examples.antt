-- Roots (A1, X4), conversions (M7, X6), quotients (A7, A10), units (H2), signs and limits computed of the definitions, worked out by hand.
use Prim.Native.Nat.{ℕ}
use lib.IntN.{ℤ, pos, neg_ℤ, nat_abs, ◌-ℤ◌, ◌*ℤ◌}
use mathlib.Core.Path.{◌≡◌, refl}
use mathlib.Core.List.{List, [], ◌∷◌, map}
use Rattle.numbers.specs.Limits.{clamp_by, clampℕ, clampℤ}
use Rattle.numbers.specs.Rounding.{half_up, with_sign, half_away, units_of, nearest_count}
use Rattle.numbers.specs.Scales.{converted}
use Rattle.numbers.specs.Roots.{root_within, root_of}

pub record Case : Type 0 where
  pub v : ℕ
  pub root : ℕ

case : ℕ → ℕ → Case
case v root = record { v = v; root = root }

pub cases : List Case
cases =
    case 0 0 ∷ case 1 1
    -- 1 × 1 + 1 and 2 × 2 + 2 go down, what follows them up
    ∷ case 2 1 ∷ case 3 2 ∷ case 4 2 ∷ case 6 2 ∷ case 7 3
    -- raw PVs 1, 2, 1,000, 4,094 and 4,095 in 12 bits; 8,190 is 90 × 90 + 90 and 4,094 × 4,095 is 4,094 × 4,094 + 4,094
    ∷ case 4095 64 ∷ case 8190 90 ∷ case 4095000 2024 ∷ case 16764930 4094 ∷ case 16769025 4095
    -- full scale in 15 and 16 bits; 65,534 × 65,534 + 65,534 and the number after it
    ∷ case 1073676289 32767 ∷ case 4294836225 65535 ∷ case 4294770690 65534 ∷ case 4294770691 65535
    -- above the engine's range: 65,535 × 65,535 + 65,535, the number after it, and 2 ^ 32 − 1
    ∷ case 4294901760 65535 ∷ case 4294901761 65536 ∷ case 4294967295 65536
    ∷ []

pub computed : map (λ (c : Case). root_of c.v) cases ≡ map (λ (c : Case). c.root) cases
unfolding case cases root_within root_of
computed = refl

-- a count, its full scale F, the full scale G, and what it is converted to
pub record Conversion : Type 0 where
  pub F : ℕ
  pub G : ℕ
  pub v : ℕ
  pub count : ℕ

convert : ℕ → ℕ → ℕ → ℕ → Conversion
convert F G v count = record { F = F; G = G; v = v; count = count }

pub conversions : List Conversion
conversions =
    -- halves go up: 1/2, 3/2 and 5/2; none occurs between the engine's scales
    convert 2 1 1 1 ∷ convert 2 3 1 2 ∷ convert 4 2 1 1 ∷ convert 4 10 1 3
    -- 16 to 12 bits: 0.4999 down and 0.5624 up, 999.77, 1,000.27, 4,094.44 and 4,094.5001; full scale; above it
    ∷ convert 65535 4095 8 0 ∷ convert 65535 4095 9 1 ∷ convert 65535 4095 16000 1000 ∷ convert 65535 4095 16008 1000
    ∷ convert 65535 4095 65526 4094 ∷ convert 65535 4095 65527 4095 ∷ convert 65535 4095 65535 4095
    -- 12 to 16 bits: 16.004, 16,003.66; full scale
    ∷ convert 4095 65535 1 16 ∷ convert 4095 65535 1000 16004 ∷ convert 4095 65535 4095 65535
    -- 15 and 16 bits: 2.00003, 50,000.76 and 65,532.99997; 0.49999 and 0.99998
    ∷ convert 32767 65535 1 2 ∷ convert 32767 65535 25000 50001 ∷ convert 32767 65535 32766 65533
    ∷ convert 65535 32767 1 0 ∷ convert 65535 32767 2 1
    -- above F all is G, also between equal scales
    ∷ convert 4095 65535 4096 65535 ∷ convert 32767 4095 65535 4095 ∷ convert 4095 4095 4094 4094 ∷ convert 4095 4095 5000 4095
    ∷ []

pub computed_conversions : map (λ (c : Conversion). converted c.F c.G c.v) conversions ≡ map (λ (c : Conversion). c.count) conversions
unfolding convert conversions converted half_up
computed_conversions = refl

-- ---- rows: what a definition gives, and the number that it has to be. 4,611,686,018,427,387,903 is 2 ^ 62 − 1

pub naturals : List (ℕ × ℕ)
naturals =
    -- halves go up; the greatest that `half_up` takes
    (half_up 0 1, 0) ∷ (half_up 1 2, 1) ∷ (half_up 3 2, 2) ∷ (half_up 1 3, 0) ∷ (half_up 2 3, 1)
    ∷ (half_up 4611686018427387903 1, 4611686018427387903)
    ∷ (half_up 4611686018427387903 2, 2305843009213693952)
    ∷ (half_up 4611686018427387903 4611686018427387903, 1)
    -- units below a half and on it, and those of 65,535
    ∷ (nearest_count 131071, 0) ∷ (nearest_count 131072, 1) ∷ (nearest_count 393215, 1) ∷ (nearest_count 393216, 2)
    ∷ (units_of 0, 0) ∷ (units_of 65535, 17179607040) ∷ (nearest_count 17179607040, 65535)
    -- −2 ^ 63 and 2 ^ 63 − 1
    ∷ (nat_abs (neg_ℤ (pos 9223372036854775808)), 9223372036854775808) ∷ (nat_abs (pos 9223372036854775807), 9223372036854775807)
    -- below the limits, inside and above them
    ∷ (clampℕ 99 100 200, 100) ∷ (clampℕ 150 100 200, 150) ∷ (clampℕ 65535 100 200, 200)
    ∷ []

pub computed_naturals : map (λ (r : ℕ × ℕ). r.0) naturals ≡ map (λ (r : ℕ × ℕ). r.1) naturals
unfolding naturals half_up clamp_by
computed_naturals = refl

pub integers : List (ℤ × ℤ)
integers =
    -- halves go away from zero
    (half_away (pos 1) 2, pos 1) ∷ (half_away (neg_ℤ (pos 1)) 2, neg_ℤ (pos 1)) ∷ (half_away (pos 5) 2, pos 3) ∷ (half_away (neg_ℤ (pos 5)) 2, neg_ℤ (pos 3))
    ∷ (half_away (neg_ℤ (pos 49)) 100, pos 0) ∷ (half_away (neg_ℤ (pos 50)) 100, neg_ℤ (pos 1)) ∷ (half_away (neg_ℤ (pos 51)) 100, neg_ℤ (pos 1))
    ∷ (half_away (pos 4611686018427387903) 1, pos 4611686018427387903)
    ∷ (half_away (neg_ℤ (pos 4611686018427387903)) 1, neg_ℤ (pos 4611686018427387903))
    -- a product in units: a gain of 2.00 and an error of 500; the widest, two settings of 9,999 and a second difference of 131,070
    ∷ (half_away (pos (units_of 200) *ℤ pos 500) 100, pos 262144000)
    ∷ (half_away (pos 26209157382144 *ℤ pos 131070) 1, pos 3435234258077614080)
    ∷ (half_away (pos 26209157382144 *ℤ neg_ℤ (pos 131070)) 500, neg_ℤ (pos 6870468516155228))
    ∷ (with_sign (neg_ℤ (pos 1)) 9223372036854775807, neg_ℤ (pos 9223372036854775807)) ∷ (with_sign (pos 0) 5, pos 5)
    ∷ (pos 0 -ℤ pos 65535, neg_ℤ (pos 65535)) ∷ (pos 65535 -ℤ pos 0, pos 65535)
    ∷ (clampℤ (neg_ℤ (pos 1)) (pos 0) (pos 4095), pos 0) ∷ (clampℤ (pos 4095) (pos 0) (pos 4095), pos 4095)
    ∷ (clampℤ (pos 4096) (pos 0) (pos 4095), pos 4095)
    ∷ []

pub computed_integers : map (λ (r : ℤ × ℤ). r.0) integers ≡ map (λ (r : ℤ × ℤ). r.1) integers
unfolding integers half_up half_away clamp_by
computed_integers = refl
