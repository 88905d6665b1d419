-- From a bound on a magnitude to the range of 64 bits, of words to that of 32, and from what the machine reads back of a number's bits to the number itself.
use mathlib.Core.Path.{◌≡◌, sym, subst, ◌∙◌}
use mathlib.Core.Bool.{Bool, false, not}
use Prim.Native.Nat.{ℕ, ◌+◌, ◌*◌, ◌^◌, ◌≤◌, ◌<◌}
use native.Mathlib.Omega.{arith}
use native.Mathlib.Nat.{mul-le-mul}
use lib.Dec.{T}
use lib.IntN.{ℤ, pos, negsuc, nat_abs, ◌-ℤ◌}
use lib.Signed.{mag, lt_z, ◌≤ℤ◌, lt_z_no}
use mir.Syntax.{w64}
use mir.Val.{SFits, to_z, of_z}
use mir.Facts as F
use Rattle.numbers.specs.Whole.{abs_sub}

-- ---- the range of 64 bits

-- z fits where its magnitude is below 2 ^ 63; a difference where the magnitudes add up to less
pub small : {z : ℤ} → nat_abs z < 2 ^ 63 → SFits w64 z
small {z = pos n} h = record { sfits = h }
small {z = negsuc n} h = record { sfits = omega arith }

pub sub_fits : (a b : ℤ) → nat_abs a + nat_abs b < 2 ^ 63 → SFits w64 (a -ℤ b)
sub_fits a b h = small (omega (arith, abs_sub a b))

-- The widest product of the engine: two BCD settings, the second difference of three PVs, in units. Doubled, as rounding asks, it fits.
pub widest_product : (k m : ℕ) → k ≤ 9999 * 9999 → m ≤ 131070 → 2 * (k * 262144 * m) < 2 ^ 63
widest_product k m h l = omega (arith, mul-le-mul h l)

-- two words multiply to what 32 bits hold
pub word_product : {a b : ℕ} → a ≤ 65535 → b ≤ 65535 → a * b ≤ 65535 * 65535
word_product h l = mul-le-mul h l

-- ---- what the machine reads back

-- of a parameter: `back c.fits.x`
pub back : {z : ℤ} → SFits w64 z → to_z w64 (of_z w64 z) ≡ z
back f = F.to_z-of_z f

-- the same for `grind`: of any number that fits
pub ruleset read_back = (F.to_z-of_z)

-- of a call's result: `got c.f.result c.f.ok`
pub got : (z : ℤ) → mag z < 2 ^ 63 → to_z w64 (of_z w64 z) ≡ z
got z h = F.to_z-of_z {w = w64} (record { sfits = h })

-- ---- a test of `<` that failed

pub left : {a b : ℤ} → lt_z a b ≡ false → b ≤ℤ a
left e = lt_z_no (subst (λ (t : Bool). T (not t)) (sym e) tt)

-- an equation through the middle term m: `via c.f.result (search needs) (c.f.ensures ∙ ..)`
pub via : (m : ℤ) {a b : ℤ} → a ≡ m → m ≡ b → a ≡ b
via m p q = p ∙ q
