-- `control::forms::velocity` meets its contract: no sum leaves 64 bits.
use borrow.Author.Rules.{rules}
use mathlib.Core.Path.{◌≡◌, ◌∙◌}
use native.Mathlib.Omega.{arith}
use lib.IntN.{ℤ, ◌+ℤ◌, ◌-ℤ◌}
use mir.Syntax.{w64}
use mir.Val.{SFits}
use Rattle.numbers.specs.Whole.{abs_add, abs_sub}
use Rattle.numbers.specs.Limits.{clampℤ}
use Rattle.numbers.specs.Limits.Laws.{clamp_int_is}
use Rattle.numbers.proofs.Machine.{small}
use Rattle.control.specs.declared.forms.Drive.{Drive}
use Rattle.control.specs.declared.terms.Terms.{Terms}
use Rattle.control.specs.Premises.{Ready}
use Rattle.control.specs.Forms.{velocity_of}
use Rattle.control.proofs.forms.velocity.Goals as goal

-- the sum, part by part
sums : (drive : Drive) (t : Terms) {low high : ℤ} → Ready drive t low high
    → SFits w64 (drive.output +ℤ t.p) × SFits w64 ((drive.output +ℤ t.p) +ℤ t.i) × SFits w64 (((drive.output +ℤ t.p) +ℤ t.i) -ℤ t.d)
sums drive t ready =
    let one = drive.output +ℤ t.p in
    let two = one +ℤ t.i in
    let h = abs_add drive.output t.p in
    let k = abs_add one t.i in
    (small (omega arith), small (omega arith), small (omega (arith, abs_sub two t.d)))

pub returns : goal.returns
unfolding velocity_of
returns c =
    let d = c.args.drive in
    let t = c.args.terms in
    let h = sums d t c.requires in
    let e : c.clamp-output.result ≡ clampℤ (((d.output +ℤ t.p) +ℤ t.i) -ℤ t.d) c.args.limits.low c.args.limits.high
    = c.clamp-output.ensures ∙ clamp_int_is _ _ _ ∙ (search rules) in
    rw (← e) (search rules)
