-- `engine::bias_word` meets its contract: the bias is brought into 0 to full scale, so its nearest count is a word.
use Rattle.std.proofs.Common.{◌≡◌, ◌∙◌, arith, ℕ, ◌≤◌, ℤ, pos, ◌≤ℤ◌}
use Rattle.numbers.specs.Whole.{linear}
use Rattle.numbers.specs.Limits.{clampℤ}
use Rattle.numbers.specs.Limits.Laws.{clamp_int_is, clamp_low, clamp_high}
use Rattle.numbers.specs.Rounding.{units_of}
use Rattle.numbers.proofs.Machine.{got}
use Rattle.engine.proofs.writing.bias_word.Goals as goal

within : (bias : ℤ) (scale : ℕ) {x high : ℤ} → scale ≤ 65535 → high ≡ pos (units_of scale) → x ≡ clampℤ bias (pos 0) high
    → (pos 0 ≤ℤ x) × (x ≤ℤ pos (units_of 65535))
within bias scale h k e =
    let l : pos 0 ≤ℤ pos (units_of scale) = omega (arith, linear) in
    rw (e, k) (clamp_low l bias, omega (arith, linear, clamp_high l bias))

pub nearest_count-requires : goal.nearest_count-requires
nearest_count-requires c =
    let high = got c.units.result c.units.type_inv ∙ c.units.ensures in
    simp (got c.clamp.result c.clamp.type_inv) (within _ c.args.scale (omega arith) high (c.clamp.ensures ∙ clamp_int_is _ _ _))
