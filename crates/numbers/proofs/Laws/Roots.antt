-- The laws of the root. The greatest number r whose square is at most v has r × r ≤ v < (r + 1) × (r + 1); the root of v, to the nearest
-- whole number, is the one r within a half of the exact root.
use Rattle.std.specs.Prelude.{◌≡◌, ℕ, zero, suc, ◌+◌, ◌*◌, ◌-◌, ◌/◌, ◌^◌, ◌≤◌, ◌<◌, leb}
use Rattle.std.proofs.Common.{ap, arith, mul-le-mul_right, pow-suc, lt_of_not-le, leb→le}
use Rattle.std.proofs.Math.Dec.{nleb→lt}
use Rattle.numbers.specs.Limits.Laws.{by_test}
use Rattle.numbers.specs.Roots.{root_within, root_of, Nearest}

-- ---- the greatest number whose square is at most v

pub record Greatest (v r : ℕ) : Type 0 where
  pub most : r * r ≤ v
  pub next : v < (r + 1) * (r + 1)

pub greatest_within : (digits v : ℕ) → v < 4 ^ digits → Greatest v (root_within digits v)
unfolding root_within
greatest_within zero v h = record { most = omega arith; next = omega arith }
greatest_within (suc digits) v h =
    let s = root_within digits (v / 4) in
    let ih = greatest_within digits (v / 4) (omega (arith, pow-suc 4 digits)) in
    by_test (Greatest v) (leb ((2 * s + 1) * (2 * s + 1)) v)
    (λ t. record { most = leb→le _ _ t; next = omega (arith, ih.next) })
    (λ t. record { most = omega (arith, ih.most); next = nleb→lt _ _ t })

-- ---- the nearest

pub root_exact : (v : ℕ) → v < 2 ^ 32 → Nearest v (root_of v)
unfolding root_of
root_exact v h =
    let r = root_within 16 v in
    let g = greatest_within 16 v h in
    by_test (Nearest v) (leb v (r * r + r))
    (λ t. record { above = λ p. omega (arith, g.most); below = leb→le _ _ t })
    (λ t. record { above = λ p. omega (arith, nleb→lt v (r * r + r) t); below = omega (arith, g.next) })

-- the exact root is never halfway between two numbers: (2 × r − 1)² < 4 × v < (2 × r + 1)²
pub root_no_tie : {v r : ℕ} → Nearest v r → (0 < r → (2 * r - 1) * (2 * r - 1) < 4 * v) × (4 * v < (2 * r + 1) * (2 * r + 1))
root_no_tie {v} {r} p =
    (λ h. let e : 2 * r - 1 + 1 ≡ 2 * r = omega arith in omega (arith, p.above h, ap (λ (n : ℕ). n * n) e), omega (arith, p.below))

-- a number k is at least the root where v is at most k × k + k, or at most its square
pub root_low : {v r : ℕ} → Nearest v r → (k : ℕ) → v ≤ k * k + k → r ≤ k
root_low {v} {r} p k h =
    let no : k + 1 ≤ r → ⊥ = λ l. omega (arith, p.above (omega arith), mul-le-mul_right r l, mul-le-mul_right k l) in
    omega (arith, lt_of_not-le no)

pub root_high : {v r : ℕ} → Nearest v r → (k : ℕ) → v ≤ k * k → r ≤ k
root_high p k h = root_low p k (omega arith)

-- roots are in the order of their numbers
pub root_order : {v w r s : ℕ} → Nearest v r → Nearest w s → v ≤ w → r ≤ s
root_order {s} p q h = root_low p s (omega (arith, q.below))

pub root_monotone : {v w : ℕ} → v ≤ w → w < 2 ^ 32 → root_of v ≤ root_of w
root_monotone {v} {w} h l = root_order (root_exact v (omega arith)) (root_exact w l) h

-- no other number is the root
pub root_only : {v r s : ℕ} → Nearest v r → Nearest v s → r ≡ s
root_only p q = omega (arith, root_order p q (omega arith), root_order q p (omega arith))

-- a square has its own root
pub square_root : (k : ℕ) → Nearest (k * k) k
square_root k = record { above = λ h. omega arith; below = omega arith }
