-- `lines::put_loop` meets its contract: five fields in a row.
use Rattle.text.specs.Writing.Laws.{writes_append}
use Rattle.lines.proofs.put_loop.Goals as goal

pub returns-clause-written : goal.returns-clause-written
returns-clause-written c =
    let loop = c.put_field.ensures.written in
    let sp = c.put_field-2.ensures.written in
    let pv = c.put_field-3.ensures.written in
    let out = c.put_field-4.ensures.written in
    writes_append (writes_append (writes_append (writes_append loop sp) pv) out) c.put_status.ensures
