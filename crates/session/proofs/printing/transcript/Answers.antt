-- `session::transcript` meets its contract: the lines of the records left, written at the place reached, would complete the text.
use mathlib.Core.Path.{refl, ap, ◌∙◌}
use Rattle.std.proofs.Common.{arith}
use Rattle.std.proofs.lemmas.Grind.{common_steps}
use Rattle.reader.specs.File.{records_left}
use Rattle.session.proofs.Loops.{start_telling, tell, end_telling}
use Rattle.session.proofs.printing.transcript.Goals as goal

pub loop-item-init : goal.loop-item-init
loop-item-init c = (tt, (tt, (rw c.new-text.ensures.at (start_telling _ _ _ _ (ap records_left c.into_iter-item-iterator.ensures.into_iter_gives ∙ c.read_records-item-items.ensures)), (refl, refl, refl))))

pub loop-item-preserved : goal.loop-item-preserved
loop-item-preserved c =
    let i = c.loop-item.invariant.1.1 in
    let a = c.act-acted in (
      tt,
      (
        tt,
        (
          tell _ _ _ _ i.0 c.in-Some.ensures.steps
              (record { acted_lem = a.ensures.acted; left = a.ensures.left; count = rw (← c.is_err.ensures.value) c.from-refused.ensures }) (rw (← c.number_in.ensures, ← c.unwrap_or.ensures) c.put_line.ensures.written.written) c.put_line.ensures.upper_bound,
          (a.auto.words ∙ i.1.0, a.auto.numbers ∙ i.1.1, c.put_line.ensures.written.same ∙ i.1.2),
        ),
      ),
    )

pub returns-clause-written : goal.returns-clause-written
returns-clause-written c =
    let told = end_telling _ _ _ _ c.loop-item.invariant.1.1.0 c.in-None.ensures.steps.0 c.put_last.ensures.written.written in
    record { buffer = grind (arith, common_steps, told.buffer); place = omega (arith, told.place) }
