-- The laws of the PV: a root is a word, and the PV within full scale.
use Rattle.std.specs.Prelude.{ℕ, ◌*◌, ◌≤◌, Bool}
use Rattle.std.proofs.Common.{arith, mul-le-mul, mul-le-mul_right}
use Rattle.numbers.specs.Limits.Laws.{by_test}
use Rattle.numbers.proofs.Laws.Roots.{root_exact, root_high}
use Rattle.numbers.specs.Roots.{root_of}
use Rattle.numbers.proofs.Machine.{word_product}
use Rattle.measuring.specs.Measuring.{pv_of}

pub root_word : (raw scale : ℕ) → raw ≤ 65535 → scale ≤ 65535 → root_of (raw * scale) ≤ 65535
root_word raw scale l h =
    let product = word_product {a = raw} {b = scale} l h in
    root_high (root_exact (raw * scale) (omega (arith, product))) 65535 product

pub pv_high : (root : Bool) {scale raw : ℕ} → scale ≤ 65535 → raw ≤ scale → pv_of root scale raw ≤ scale
unfolding pv_of
pv_high root {scale} {raw} h l =
    by_test (λ p. p ≤ scale) root
    (λ _. root_high (root_exact (raw * scale) (omega (arith, mul-le-mul {n₁ = raw} {m₁ = scale} {n₂ = 65535} {m₂ = 65535} (omega arith) h)))
    scale (omega (arith, mul-le-mul_right scale l)))
    (λ _. l)
