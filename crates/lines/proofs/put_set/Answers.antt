-- `lines::put_set` meets its contract: two fields in a row.
use Rattle.text.specs.Writing.Laws.{writes_append}
use Rattle.lines.proofs.put_set.Goals as goal

pub returns-clause-written : goal.returns-clause-written
returns-clause-written c = writes_append c.put_field.ensures.written c.put_field-2.ensures.written
