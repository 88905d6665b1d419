-- `text::Writer::long` meets its contract: a turn stores the last digit of the rest (`decimal_more`, `sets_behind`), and behind the loop its only one is stored (`decimal_one`).
use mathlib.Core.Path.{◌≡◌, refl, ap, ◌∙◌}
use mathlib.Core.Bool.{Bool, true, false}
use Prim.Native.Nat.{ℕ, ◌+◌, ◌-◌, ◌/◌, ◌≤◌, ◌<◌}
use native.Mathlib.Omega.{arith}
use lib.Dec.{ltb}
use lib.ListN.{length, length-append, length-set}
use borrow.Author.Tests.{ltb-true, ltb-false}
use Rattle.text.specs.Text.{decimal_of, last_digit}
use Rattle.text.specs.Text.Laws.{decimal_one, decimal_more, decimal_some, sets_behind}
use Rattle.text.proofs.Writer.long.Goals as goal

-- a number of more than one digit, and of one
tens : (n : ℕ) → 1 < length (decimal_of n) → 10 ≤ n
tens n h = go (ltb n 10) refl
  where
    go : (b : Bool) → ltb n 10 ≡ b → 10 ≤ n
    go true e = absurd (omega (arith, ap length (decimal_one n (ltb-true n 10 e))))
    go false e = ltb-false n 10 e

ones : (n : ℕ) → length (decimal_of n) ≡ 1 → n < 10
ones n h = go (ltb n 10) refl
  where
    go : (b : Bool) → ltb n 10 ≡ b → n < 10
    go true e = ltb-true n 10 e
    go false e = absurd (omega (arith, simp length-append at (ap length (decimal_more n (ltb-false n 10 e))), decimal_some (n / 10)))

pub loop-place-init : goal.loop-place-init
loop-place-init c = (refl, refl, refl, omega (arith, decimal_some c.args.n), omega arith, refl)

pub loop-place-preserved : goal.loop-place-preserved
loop-place-preserved c =
    let l = c.loop-place in
    let out = l.self.out.now in
    let at = c.args.self.now.at in
    let i = l.invariant in
    let e = decimal_more l.rest (tens l.rest (omega (arith, c.loop-place-test.true, i.4))) in
    let p : l.place - 1 ≡ at + length (decimal_of (l.rest / 10)) = omega (arith, i.4, simp length-append at (ap length e)) in
    (i.0, i.1, simp length-set i.2, omega arith, p, rw p (sets_behind out at (decimal_of (l.rest / 10)) (last_digit l.rest) ∙ (rw e at i.5)))

pub returns : goal.returns
returns c =
    let l = c.loop-place in
    let i = l.invariant in
    let e = decimal_one l.rest (ones l.rest (omega (arith, i.4))) in
    record { same = i.1; size = simp length-set i.2; written = record { buffer = rw i.0 (rw e at i.5); place = omega arith } }
