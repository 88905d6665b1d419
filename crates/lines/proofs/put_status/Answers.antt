-- `lines::put_status` meets its contract: a text and the digits of the number in a row.
use Rattle.text.specs.Writing.Laws.{writes_append}
use Rattle.lines.proofs.put_status.Goals as goal

pub returns : goal.returns
returns c =
    writes_append c.text.ensures c.hex.ensures
