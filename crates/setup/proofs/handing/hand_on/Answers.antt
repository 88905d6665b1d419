-- `setup::handing::hand_on` meets its contract: the desk is fresh from a reset, the run leaves its words, and the writer has room for them.
use Rattle.std.proofs.Common.{arith, refl, ◌∙◌, rules}
use Rattle.desk.specs.Desk.{fitting_of}
use Rattle.desk.proofs.Laws.Desk.{reset_fresh}
use Rattle.setup.proofs.Written.{reset_taken, run_taken, too_long, Handed, handed, written}
use Rattle.setup.proofs.handing.hand_on.Goals as goal
use Rattle.setup.proofs.handing.hand_on.Goals.{After-write_setup}

-- the writer's answer and the room behind it
done : (w : After-write_setup) → Handed w.args.file.now w.args.out.now w.write_setup.result w.write_setup.new.out
done w =
    let left = rw (w.reset.ensures.left ∙ reset_fresh) at w.run.ensures.left in
    handed w.args.file.now w.args.out.now _ _ _ (omega (arith, w.if-file-gt-LONGEST.false)) left (search rules) w.requires
    w.write_setup.ensures.answer w.write_setup.ensures.left

pub returns-then-file-gt-LONGEST-clause-text : goal.returns-then-file-gt-LONGEST-clause-text
returns-then-file-gt-LONGEST-clause-text c = (too_long c.args.file.now c.args.out.now (omega (arith, c.if-file-gt-LONGEST.true))).0

pub unwrap-requires : goal.unwrap-requires
unfolding fitting_of
unwrap-requires c = rw c.reset.ensures.answer (reset_taken _ refl)

pub unwrap-requires-2 : goal.unwrap-requires-2
unwrap-requires-2 c = rw (c.run.ensures.ended, c.reset.ensures.left ∙ reset_fresh) (run_taken _)

pub unwrap-requires-3 : goal.unwrap-requires-3
unwrap-requires-3 c = rw (done (goal.at.unwrap-requires-3 c).After-write_setup).answer refl

pub returns-clause-text : goal.returns-clause-text
returns-clause-text c = (written _ _ _ (done (goal.at.returns-clause-text c).After-write_setup) _ c.unwrap-3.ensures).0

pub returns-clause-within : goal.returns-clause-within
returns-clause-within c = (written _ _ _ (done (goal.at.returns-clause-within c).After-write_setup) _ c.unwrap-3.ensures).1
