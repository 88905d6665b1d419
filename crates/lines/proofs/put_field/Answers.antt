-- `lines::put_field` meets its contract: a text and a decimal in a row. A word of the table has at most five digits.
use native.Mathlib.Omega.{arith}
use Rattle.text.specs.Text.Laws.{decimal_length}
use Rattle.text.specs.Writing.Laws.{writes_append}
use Rattle.lines.proofs.put_field.Goals as goal

pub decimal-requires : goal.decimal-requires
decimal-requires c =
    omega (arith, decimal_length 4 c.args.n (omega arith))

pub returns-clause-written : goal.returns-clause-written
returns-clause-written c = writes_append c.text.ensures c.decimal.ensures

pub returns-clause-upper_bound : goal.returns-clause-upper_bound
returns-clause-upper_bound c = omega (arith, decimal_length 4 c.args.n (omega arith))
