-- `lines::put_line` meets its contract: the number, what is said of the record, and a line feed in a row.
use native.Mathlib.Omega.{arith}
use Rattle.text.specs.Text.Laws.{decimal_length}
use Rattle.text.specs.Writing.Laws.{writes_append}
use Rattle.lines.proofs.Widths.{width_bounds}
use Rattle.lines.specs.Lines.{line_text}
use Rattle.lines.proofs.put_line.Goals as goal

pub decimal-requires : goal.decimal-requires
decimal-requires c = omega (arith, decimal_length 4 c.args.n (omega arith))

pub put_said-requires : goal.put_said-requires
put_said-requires c = omega (arith, decimal_length 4 c.args.n (omega arith))

pub byte-requires : goal.byte-requires
byte-requires c =
    omega (arith, decimal_length 4 c.args.n (omega arith), width_bounds c.args.item)

pub returns-clause-written : goal.returns-clause-written
unfolding line_text
returns-clause-written c = writes_append (writes_append c.decimal.ensures c.put_said.ensures.written) c.byte.ensures

pub returns-clause-upper_bound : goal.returns-clause-upper_bound
returns-clause-upper_bound c = omega (arith, decimal_length 4 c.args.n (omega arith))
