-- `lines::put_last` meets its contract: two decimals, each with a text behind it, in a row.
use native.Mathlib.Omega.{arith}
use Rattle.text.specs.Text.Laws.{decimal_length}
use Rattle.text.specs.Writing.Laws.{writes_append}
use Rattle.lines.specs.Lines.{last_text}
use Rattle.lines.proofs.put_last.Goals as goal

pub decimal-requires : goal.decimal-requires
decimal-requires c = omega (arith, decimal_length 19 c.args.count (omega arith))

pub text-requires : goal.text-requires
text-requires c =
    let a = c.args in
    omega (arith, decimal_length 19 a.count (omega arith))

pub decimal-requires-2 : goal.decimal-requires-2
decimal-requires-2 c =
    let a = c.args in
    omega (arith, decimal_length 19 a.count (omega arith), decimal_length 19 a.refused (omega arith))

pub text-requires-2 : goal.text-requires-2
text-requires-2 c =
    let a = c.args in
    omega (arith, decimal_length 19 a.count (omega arith), decimal_length 19 a.refused (omega arith))

pub returns-clause-written : goal.returns-clause-written
unfolding last_text
returns-clause-written c =
    let count = c.decimal.ensures in
    let refused = c.decimal-2.ensures in
    writes_append (writes_append (writes_append count c.text.ensures) refused) c.text-2.ensures

pub returns-clause-upper_bound : goal.returns-clause-upper_bound
returns-clause-upper_bound c =
    let a = c.args in
    omega (arith, decimal_length 19 a.count (omega arith), decimal_length 19 a.refused (omega arith))
