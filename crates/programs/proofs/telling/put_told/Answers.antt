-- The three texts stand one behind the other.
use Rattle.text.specs.Writing.Laws.{writes_append}
use Rattle.programs.proofs.telling.put_told.Goals as goal

pub returns : goal.returns
returns c = writes_append c.text.ensures (writes_append c.text-2.ensures c.text-3.ensures)
