-- The laws of conversion, for any two full scales F and G above 0 (G = 0 makes every count 0).
use Rattle.std.specs.Prelude.{◌≡◌, ℕ, ◌+◌, ◌*◌, ◌≤◌, ◌<◌}
use Rattle.std.proofs.Common.{ap, ◌∙◌, arith, mul_comm, mul-le-mul_right}
use Rattle.numbers.specs.Rounding.{half_up}
use Rattle.numbers.proofs.Laws.Rounding.{half_up_near, half_up_tie, half_up_whole, half_up_mono, half_up_low, half_up_high}
use Rattle.numbers.specs.Scales.{converted}

-- it is never above G, whatever is converted
pub converted_high : (F G v : ℕ) → converted F G v ≤ G
unfolding converted
converted_high F G v = omega arith

-- a higher count is never converted to less
pub converted_mono : (F G : ℕ) {v w : ℕ} → v ≤ w → converted F G v ≤ converted F G w
unfolding converted
converted_mono F G h = omega (arith, half_up_mono (mul-le-mul_right G h) F)

module _ {F : ℕ} (some : 0 < F) (G : ℕ) where
  -- up to F it is the nearest count, and the limit G does nothing
  pub converted_nearest : {v : ℕ} → v ≤ F → converted F G v ≡ half_up (v * G) F
  unfolding converted
  converted_nearest {v} h = omega (arith, half_up_high {n = v * G} some G (mul-le-mul_right G h))

  -- where v × G / F is k and a half, k + 1
  pub converted_tie : {v : ℕ} → v ≤ F → (k : ℕ) → 2 * (v * G) ≡ (2 * k + 1) * F → converted F G v ≡ k + 1
  converted_tie {v} h k e = converted_nearest h ∙ half_up_tie (v * G) some k e

  -- so it is within half a count of v × G / F
  pub converted_near : {v : ℕ} → v ≤ F → (2 * (F * converted F G v) ≤ 2 * (v * G) + F) × (2 * (v * G) < 2 * (F * converted F G v) + F)
  converted_near {v} h = rw (converted_nearest h) (half_up_near (v * G) some)

  -- 0 to 0, and from F on to G
  pub converted_zero : converted F G 0 ≡ 0
  unfolding converted
  converted_zero = omega (arith, half_up_high {n = 0 * G} some 0 (omega arith))

  pub converted_full : {v : ℕ} → F ≤ v → converted F G v ≡ G
  unfolding converted
  converted_full {v} h = omega (arith, half_up_low {n = v * G} some G (mul-le-mul_right G h))

-- between equal scales a count is itself, up to the full scale
pub converted_same : {F v : ℕ} → 0 < F → v ≤ F → converted F F v ≡ v
converted_same {F} {v} some h = converted_nearest some F h ∙ ap (λ (n : ℕ). half_up n F) (mul_comm v F) ∙ half_up_whole v some

-- an odd scale meets no half
pub converted_no_tie : (m G v k : ℕ) → 2 * (v * G) ≡ (2 * k + 1) * (2 * m + 1) → ⊥
converted_no_tie m G v k e = omega arith
