-- `engine::step` meets its contract: that the terms can run follows from acceptance (`drivable`).
use Rattle.table.specs.Modes.{is_manual}
use Rattle.engine.specs.Driving.{driven_of}
use Rattle.engine.proofs.Laws.Steps.{drivable}
use Rattle.engine.proofs.Laws.Driving.{moved_output}
use Rattle.engine.proofs.stepping.step.Goals as goal

pub driven-drive-requires : goal.driven-drive-requires
driven-drive-requires c =
    let p = c.requires in
    simp (c.held_word-held.ensures, c.sensed_by-sensed.ensures) (p.0.above, drivable p.0 p.1)

pub words_after-requires : goal.words_after-requires
unfolding driven_of
words_after-requires c =
    let p = c.requires in
    simp (c.driven-drive.ensures, c.held_word-held.ensures, c.sensed_by-sensed.ensures)
    (moved_output (drivable p.0 p.1) (is_manual c.args.reading.mode))
