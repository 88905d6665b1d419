-- `session::carry_all` meets its contract: the records left lead from the state reached to where all records lead.
use mathlib.Core.Path.{◌∙◌}
use Rattle.session.proofs.Loops.{answer}
use Rattle.session.proofs.running.carry_all.Goals as goal

pub loop-item-preserved : goal.loop-item-preserved
loop-item-preserved c =
    let i = c.loop-item.invariant.1.1 in
    let a = c.act-acted in (
      tt,
      (
        tt,
        (
          answer _ _ _ _ i.0 c.in-Some.ensures.steps
              (record { acted_lem = a.ensures.acted; left = a.ensures.left; count = rw (← c.is_err.ensures.value) c.from-refused.ensures }) (c.keep.ensures ∙ rw c.number_in.ensures),
          (a.auto.words ∙ i.1.0, a.auto.numbers ∙ i.1.1),
        ),
      ),
    )
