-- `engine::driven` meets its contract: the terms fit, as an accepted sample's do.
use Rattle.engine.proofs.Laws.Driving.{inputs_bounded, ready}
use Rattle.engine.proofs.driving.driven.Goals as goal

pub moved_in-requires : goal.moved_in-requires
moved_in-requires c =
    let m = c.requires.1 in
    let v = c.args.reading.settings.mode1.velocity in
    simp (c.inputs_for.ensures, c.past_in-past.ensures, c.started-start.ensures)
    (m.tuned, inputs_bounded m v, ready m _ (inputs_bounded m v))
