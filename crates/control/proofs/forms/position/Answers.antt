-- `control::forms::position` meets its contract: no sum leaves 64 bits, and each arm is the definition's, by the tests that led there.
use borrow.Author.Rules.{rules}
use mathlib.Core.Path.{◌≡◌, ◌∙◌}
use mathlib.Core.Bool.{true, false}
use Prim.Native.Nat.{◌^◌, ◌≤◌}
use native.Mathlib.Omega.{arith}
use lib.IntN.{ℤ, nat_abs, ◌+ℤ◌, ◌-ℤ◌}
use lib.Signed.{lt_z}
use mir.Syntax.{w64}
use mir.Val.{SFits, to_z, of_z}
use Rattle.numbers.specs.Whole.{abs_add, abs_sub}
use Rattle.numbers.specs.Limits.{clamp_by}
use Rattle.numbers.proofs.Machine.{small, back}
use Rattle.control.specs.declared.forms.Drive.{Drive}
use Rattle.control.specs.declared.terms.Terms.{Terms}
use Rattle.control.specs.Premises.{Ready}
use Rattle.control.specs.Forms.{position_of}
use Rattle.control.proofs.forms.position.Goals as goal

sums : (drive : Drive) (t : Terms) {low high : ℤ} → Ready drive t low high
    → SFits w64 (t.p -ℤ t.d) × SFits w64 (drive.bias +ℤ t.i) × SFits w64 ((t.p -ℤ t.d) +ℤ (drive.bias +ℤ t.i))
sums drive t ready =
    let base = t.p -ℤ t.d in
    let trial = drive.bias +ℤ t.i in
    let h = abs_sub t.p t.d in
    let k = abs_add drive.bias t.i in
    (small (omega arith), small (omega arith), small (omega (arith, abs_add base trial)))

abbrev Read : ℤ → ℤ
Read z = to_z w64 (of_z w64 z)

-- what `outside` asks
bounds : (drive : Drive) (t : Terms) {low high : ℤ} → Ready drive t low high
    → (nat_abs (Read (Read t.p -ℤ Read t.d)) ≤ 2 ^ 60) × (nat_abs (Read high) ≤ 2 ^ 34)
bounds drive t {low} {high} ready =
    let p : Read t.p ≡ t.p = back (small (omega arith)) in
    let d : Read t.d ≡ t.d = back (small (omega arith)) in
    let base : Read (t.p -ℤ t.d) ≡ t.p -ℤ t.d = back (sums drive t ready).0 in
    let limit : Read high ≡ high = back (small (omega arith)) in
    rw (p, d, base, limit) (omega (arith, abs_sub t.p t.d))

pub outside-requires-then-high-m : goal.outside-requires-then-high-m
outside-requires-then-high-m c = bounds c.args.drive c.args.terms c.requires

pub returns-then-m-low : goal.returns-then-m-low
unfolding position_of clamp_by
returns-then-m-low c =
    let t = c.args.terms in
    let m = (t.p -ℤ t.d) +ℤ (c.args.drive.bias +ℤ t.i) in
    let h = sums c.args.drive t c.requires in
    let below : lt_z m c.args.limits.low ≡ true = (search rules) ∙ c.if-m-low.true in
    simp below (c.outside.ensures ∙ (search rules))

pub returns-then-high-m : goal.returns-then-high-m
unfolding position_of clamp_by
returns-then-high-m c =
    let t = c.args.terms in
    let m = (t.p -ℤ t.d) +ℤ (c.args.drive.bias +ℤ t.i) in
    let h = sums c.args.drive t c.requires in
    let not-below : lt_z m c.args.limits.low ≡ false = (search rules) ∙ c.if-m-low.false in
    let above : lt_z c.args.limits.high m ≡ true = (search rules) ∙ c.if-high-m.true in
    simp (not-below, above) (c.outside-then-high-m.ensures ∙ (search rules))

pub returns-else-high-m : goal.returns-else-high-m
unfolding position_of clamp_by
returns-else-high-m c =
    let t = c.args.terms in
    let m = (t.p -ℤ t.d) +ℤ (c.args.drive.bias +ℤ t.i) in
    let h = sums c.args.drive t c.requires in
    let not-below : lt_z m c.args.limits.low ≡ false = (search rules) ∙ c.if-m-low.false in
    let not-above : lt_z c.args.limits.high m ≡ false = (search rules) ∙ c.if-high-m.false in
    simp (not-below, not-above) (search rules)
