-- `profile::sample` meets its contract: what is moved stays in its ranges.
use mathlib.Core.Path.{◌≡◌}
use Rattle.std.specs.Prelude.{ℕ, true}
use Rattle.reading.specs.declared.program.Program.{Program}
use Rattle.profile.specs.declared.state.Profile.{Profile}
use Rattle.profile.specs.Moves.{command_of, worked_by, advanced_by}
use Rattle.profile.proofs.Laws.Moves.{advanced_within}
use Rattle.profile.proofs.sampling.sample.Goals as goal

with_program : (program : Program) (flags period : ℕ) (p : Profile) (setpoint : ℕ)
    → program.on ≡ true → advanced_by program flags period p setpoint ≡ worked_by (command_of flags) program.pair period p setpoint
unfolding advanced_by
with_program program flags period p setpoint on = rw on

pub flags_word-requires : goal.flags_word-requires
flags_word-requires c =
    let a = c.args in
    let within = advanced_within c.requires.0 a.program c.requires.1 a.flags a.period a.setpoint in
    simp (c.worked-moved.ensures, c.of.ensures) (rw (with_program a.program a.flags a.period a.p a.setpoint c.if-program.true) at within.segment)
