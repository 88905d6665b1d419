-- `text::Writer::up_to_four` meets its contract: the last two digits are written behind the others (`writes_behind`).
use Rattle.std.proofs.Common.{arith}
use Rattle.text.specs.Text.Laws.{width_behind}
use Rattle.text.specs.Writing.Laws.{writes_behind}
use Rattle.text.proofs.Writer.up_to_four.Goals as goal

pub up_to_two-requires-2-clause-room : goal.up_to_two-requires-2-clause-room
up_to_two-requires-2-clause-room c = omega (arith, width_behind c.args.n (omega arith))

pub two-requires-clause-room : goal.two-requires-clause-room
two-requires-clause-room c = omega (arith, width_behind c.args.n (omega arith))

pub returns : goal.returns
returns c = writes_behind c.args.n (omega arith) c.up_to_two-2.ensures c.two.ensures
