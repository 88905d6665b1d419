-- `session::transcript` meets its contract: the lines of the records left, written at the place reached, would complete the text.
use mathlib.Core.Path.{◌≡◌}
use lib.ListN.{length}
use Rattle.reader.specs.File.{records_left}
use Rattle.session.proofs.Loops.{Telling}
use Rattle.session.proofs.printing.transcript.Given as goal

abbrev pub invariant-loop-item : goal.invariant-loop-item
invariant-loop-item l =
    (goal.iterator-loop-item).can_next l.item-iterator
    × ((goal.iterator-loop-item).is_finite l.item-iterator
    × (Telling l.file l.initial.words l.initial.numbers l.initial.text.out.now l.words l.numbers l.count l.refused (records_left l.item-iterator) l.text.out.now l.text.at
    × ((length l.words ≡ length l.initial.words) × (length l.numbers ≡ length l.initial.numbers) × (l.text.out.ghost_name ≡ l.initial.text.out.ghost_name))))
