-- The laws of what is sensed: the setpoint is within the full scale, the profile is in its ranges.
use Rattle.std.specs.Prelude.{ℕ, ◌≤◌, ◌<◌, ◌≡◌, Bool, not, ◌&&◌, ◌||◌, pos, nat_abs}
use Rattle.numbers.specs.Limits.Laws.{by_test}
use Rattle.reading.specs.declared.settings.Settings.{Settings}
use Rattle.reading.specs.declared.reading.Reading.{Reading}
use Rattle.table.specs.Modes.{is_automatic, is_cascade}
use Rattle.control.specs.Counts.{output_counts}
use Rattle.control.specs.Counts.Laws.{Matched, counts_high}
use Rattle.control.specs.Errors.{in_deadband}
use Rattle.control.specs.Errors.Laws.{error_none, error_high}
use Rattle.profile.specs.declared.state.Profile.{Profile}
use Rattle.profile.specs.declared.sampling.Profiled.{Profiled}
use Rattle.profile.specs.Premises.{Within}
use Rattle.profile.proofs.Laws.Moves.{advanced_within, advanced_scale}
use Rattle.profile.specs.Samples.{sampled_by}
use Rattle.engine.specs.Sensing.{setpoint_of, target_of, profiled_of, error_in}

pub target_high : (r : Reading) (change runs : Bool) {p scale : ℕ} → p ≤ scale → setpoint_of r ≤ scale → target_of r change runs p ≤ scale
unfolding target_of
target_high r change runs {p} {scale} h l =
    by_test (λ n. n ≤ scale) (r.transfer || (change && is_automatic r.mode && not r.settings.mode1.bumpless && not runs)) (λ _. h) (λ _. l)

-- the profile stays in its ranges, and its setpoint within the scale, in Cascade too
module _ (r : Reading) {q : Profile} (w : Within q) (target p : ℕ) where
  pub profiled_within : r.program.pair.duration ≤ 9999 → Within (profiled_of r q target p).profile
  unfolding profiled_of sampled_by
  profiled_within d =
      by_test (λ (m : Profiled). Within m.profile) (is_cascade r.mode) (λ _. w)
      (λ _. advanced_within w r.program d r.settings.stored.flags r.settings.tuning.period target)

  pub profiled_scale : {scale : ℕ} → target ≤ scale → r.program.pair.end ≤ scale → (profiled_of r q target p).setpoint ≤ scale
  unfolding profiled_of sampled_by
  profiled_scale {scale} h e =
      by_test (λ (m : Profiled). m.setpoint ≤ scale) (is_cascade r.mode) (λ _. h)
      (λ _. advanced_scale r.program q target scale w.fraction h e r.settings.stored.flags r.settings.tuning.period)

-- with the setpoint at the PV there is no error
pub settled_error : (s : Settings) (p : ℕ) → 0 < s.mode2.output.scale → error_in s p p (output_counts s.mode2 p) ≡ pos 0
unfolding error_in
settled_error s p some = error_none (in_deadband s.mode1.deadband s.deadband p p) s.mode1.squared (output_counts s.mode2 p) some

-- setpoint and PV within the input's full scale leave an error within the output's
pub sensed_error : (s : Settings) → Matched s.mode2 → 0 < s.mode2.output.scale → {target p : ℕ} → target ≤ s.mode2.input.scale
    → p ≤ s.mode2.input.scale → nat_abs (error_in s target p (output_counts s.mode2 p)) ≤ s.mode2.output.scale
unfolding error_in
sensed_error s matched some {target} {p} h l =
    error_high (in_deadband s.mode1.deadband s.deadband target p) s.mode1.squared some
    (counts_high s.mode2 matched h) (counts_high s.mode2 matched l)
