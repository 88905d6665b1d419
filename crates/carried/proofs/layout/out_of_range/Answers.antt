-- `carried::out_of_range` meets its contract: at first the numbers stand beside the definition's rows, and each turn takes one of each off.
use mathlib.Core.Path.{sym}
use mathlib.Core.Logic.{inl, inr}
use borrow.Author.Rules.{rules}
use Rattle.numbers.proofs.Machine.{back}
use Rattle.carried.proofs.Rows.{is_beside, beside_more, beside_end}
use Rattle.carried.proofs.layout.out_of_range.Goals as goal

pub loop-n-init : goal.loop-n-init
loop-n-init c =
    let z = c.zip-n-items.ensures in
    rw (c.into_iter-n-iterator.ensures.into_iter_gives, z.first, z.second.0, c.iter.ensures.rest) (sym (is_beside c.args.n (search rules)))

pub loop-n-preserved : goal.loop-n-preserved
loop-n-preserved c =
    rw (back {z = c.in-Some.n.now} (search rules), back {z = c.in-Some.field-0-1.now.0} (search rules), back {z = c.in-Some.field-0-1.now.1} (search rules))
    (beside_more _ _ _ _ _ _ _ _ c.in-Some.ensures.steps.0 c.in-Some.ensures.steps.1 c.loop-n.invariant)

pub returns : goal.returns
returns c = beside_end _ _ _ _ (elim c.in-None.ensures.steps [ inl e ↦ inl e.1.0 | inr e ↦ inr e.1.0 ]) c.loop-n.invariant
