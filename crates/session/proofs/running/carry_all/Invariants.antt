-- `session::carry_all` meets its contract: the records left lead from the state reached to where all records lead.
use mathlib.Core.Path.{◌≡◌}
use lib.ListN.{length}
use Rattle.reader.specs.File.{records_left}
use Rattle.session.proofs.Loops.{Answering}
use Rattle.session.proofs.running.carry_all.Given as goal

abbrev pub invariant-loop-item : goal.invariant-loop-item
invariant-loop-item l =
    (goal.iterator-loop-item).can_next l.item-iterator
    × ((goal.iterator-loop-item).is_finite l.item-iterator
    × (Answering l.file l.initial.words l.initial.numbers l.initial.answers l.words l.numbers l.count l.refused (records_left l.item-iterator) l.answers
    × ((length l.words ≡ length l.initial.words) × (length l.numbers ≡ length l.initial.numbers))))
