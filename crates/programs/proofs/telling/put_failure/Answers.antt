-- Behind what is told stand a colon, the reason and a line feed.
use Rattle.text.specs.Writing.Laws.{writes_append}
use Rattle.programs.proofs.telling.put_failure.Goals as goal

pub returns : goal.returns
returns c = writes_append c.put_told.ensures (writes_append c.text.ensures (writes_append c.text-2.ensures c.byte.ensures))
