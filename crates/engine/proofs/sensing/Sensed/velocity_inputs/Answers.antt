-- `engine::velocity_inputs` meets its contract: the change less the change before is the second difference, and nothing wraps.
use borrow.Author.Rules.{rules}
use mathlib.Core.Path.{◌≡◌}
use native.Mathlib.Omega.{arith}
use Prim.Native.Nat.{ℕ, ◌*◌, ◌≤◌}
use lib.IntN.{ℤ, pos, ◌+ℤ◌, ◌-ℤ◌}
use mir.Syntax.{w64}
use mir.Val.{SFits}
use Rattle.numbers.specs.Whole.{linear, add, sub, abs_add, abs_sub}
use Rattle.control.specs.declared.terms.Inputs.{Inputs}
use Rattle.numbers.proofs.Machine.{sub_fits, small, via}
use Rattle.engine.specs.Driving.{velocity_inputs}
use Rattle.engine.proofs.sensing.Sensed.velocity_inputs.Goals as goal

-- p − 2 × last + prior
second-difference : (p last prior : ℕ) → (pos p -ℤ pos last) -ℤ (pos last -ℤ pos prior) ≡ (pos p -ℤ pos (2 * last)) +ℤ pos prior
second-difference p last prior =
    let change = pos p -ℤ pos last in
    let before = pos last -ℤ pos prior in
    let first = pos p -ℤ pos (2 * last) in
    omega (
      arith,
      linear,
      sub change before,
      sub (pos p) (pos last),
      sub (pos last) (pos prior),
      add first (pos prior),
      sub (pos p) (pos (2 * last)),
    )

-- what the two calls give, and that it fits
exact : (p last prior : ℕ) {change before : ℤ} → change ≡ pos p -ℤ pos last → before ≡ pos last -ℤ pos prior
    → change -ℤ before ≡ (pos p -ℤ pos (2 * last)) +ℤ pos prior
exact p last prior h k = rw (h, k) (second-difference p last prior)

exact-fits : (p last prior : ℕ) {z : ℤ} → p ≤ 65535 → last ≤ 65535 → prior ≤ 65535 → z ≡ (pos p -ℤ pos (2 * last)) +ℤ pos prior → SFits w64 z
exact-fits p last prior h k l e =
    rw e (small (omega (arith, abs_add (pos p -ℤ pos (2 * last)) (pos prior), abs_sub (pos p) (pos (2 * last)))))

same : {x y : Inputs} → x.p ≡ y.p → x.i ≡ y.i → x.d ≡ y.d → x ≡ y
same p q r = λ i. record { p = p i; i = q i; d = r i }

pub returns : goal.returns
unfolding velocity_inputs
returns c =
    let a = c.args in
    let h = sub_fits a.self.error a.past.error (omega arith) in
    let e = exact a.self.converted a.past.last a.past.prior c.difference-change.ensures c.difference-before.ensures in
    let k = exact-fits a.self.converted a.past.last a.past.prior (omega arith) (omega arith) (omega arith) e in
    same (search rules) (search rules) (via (c.difference-change.result -ℤ c.difference-before.result) (search rules) e)
