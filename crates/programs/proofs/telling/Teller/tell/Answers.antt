-- What is written is the line's start.
use Rattle.std.proofs.Common.{arith}
use Rattle.std.proofs.lemmas.Grind.{common_steps}
use Rattle.text.specs.Writing.Laws.{writes_whole}
use Rattle.programs.proofs.Lines.{appends_line}
use Rattle.programs.proofs.telling.Teller.tell.Goals as goal

pub returns-clause-line : goal.returns-clause-line
returns-clause-line g c =
    let begun = c.new-writer.ensures in
    (_, appends_line _ _ (writes_whole begun.now begun.at c.put_failure.ensures c.end-n.ensures.at (grind (arith, common_steps))) (grind (arith, common_steps)) c.write_whole.ensures.start)
