-- What a sample senses of its PV p: A2 to A5, with the transfer (A13) at A3 and A4, and the profile between A4 and A5 (G3).
use Rattle.std.specs.Prelude.{ℕ, Bool, cond, not, ◌&&◌, ◌||◌, eqb, ℤ}
use Rattle.std.specs.Bool.{beq}
use Rattle.table.specs.declared.mode.Mode.{Mode}
use Rattle.reading.specs.declared.settings.Settings.{Settings}
use Rattle.reading.specs.declared.program.Program.{Program}
use Rattle.reading.specs.declared.reading.Reading.{Reading}
use Rattle.table.specs.Modes.{is_manual, is_automatic, is_cascade}
use Rattle.control.specs.Counts.{output_counts}
use Rattle.control.specs.Errors.{in_deadband, error_of}
use Rattle.profile.specs.declared.state.Profile.{Profile}
use Rattle.profile.specs.declared.sampling.Profiled.{Profiled}
use Rattle.profile.specs.Samples.{sampled_by}
use Rattle.carried.specs.declared.record.State.{State}
use Rattle.engine.specs.declared.sensing.Sensed.{Sensed}

-- A1 is `measured_of` of measuring: every definition below is given p
-- A2 is `mode_after` of the table: the reading has the mode that it gives

-- A3: the word pointed to in Cascade, else word 2
unfoldable pub setpoint_of : Reading → ℕ
setpoint_of r = cond (is_cascade r.mode) r.remote r.settings.stored.setpoint

-- A4: the carried mode is Manual, or the carried form is the other one
unfoldable pub changed : State → Bool → Bool
changed state velocity = is_manual state.mode || not (beq state.velocity velocity)

-- A4: an entry has a mode other than Manual, and such a change or the mark of a transfer (A13) before it
unfoldable pub entering : State → Mode → Bool → Bool
entering state mode velocity = not (is_manual mode) && (changed state velocity || state.mark)

-- G11: a profile runs, held or not: there is a program, and the carried segment is above 0
unfoldable pub runs_on : Program → Profile → Bool
runs_on program q = program.on && not (eqb q.segment 0)

-- A13: at a transfer the setpoint becomes p. A4: and at an entry to Automatic with Bumpless I, by such a change, unless a profile runs (G11)
unfoldable pub target_of : Reading → Bool → Bool → ℕ → ℕ
target_of r change runs p =
    cond (r.transfer || (change && is_automatic r.mode && not r.settings.mode1.bumpless && not runs)) p (setpoint_of r)

-- G3: the profile, its setpoint and word 27 after the sample; in Cascade they wait
unfoldable pub profiled_of : Reading → Profile → ℕ → ℕ → Profiled
profiled_of r q target p =
    let flags = r.settings.stored.flags in
    cond (is_cascade r.mode) (record { profile = q; setpoint = target; flags = flags })
    (sampled_by r.program flags r.settings.tuning.period q target p)

-- G2: word 29 after the sample; in Cascade it stays
unfoldable pub fault_after : Reading → ℕ
fault_after r = cond (is_cascade r.mode) r.settings.stored.fault r.program.fault

-- A5, with the loop's settings: the deadband by s and p in counts of the input, the error of both in counts of the output, squared over G. `converted` is
-- p in counts of the output
unfoldable pub error_in : Settings → ℕ → ℕ → ℕ → ℤ
error_in s target p converted =
    let quiet = in_deadband s.mode1.deadband s.deadband target p in
    error_of quiet s.mode1.squared s.mode2.output.scale (output_counts s.mode2 target) converted

-- A2 to A5 together, from the carried mode, form, profile and mark; p in counts of the output as well (M7); and (A11) mode, form, profile and mark
-- after them: in Manual a mark stays
unfoldable pub sensed_of : Reading → State → ℕ → Sensed
sensed_of r state p =
    let s = r.settings in
    let converted = output_counts s.mode2 p in
    let change = changed state s.mode1.velocity in
    let after = profiled_of r state.profile (target_of r change (runs_on r.program state.profile) p) p in
    record {
      pv = p;
      converted = converted;
      entry = entering state r.mode s.mode1.velocity;
      setpoint = after.setpoint;
      error = error_in s after.setpoint p converted;
      flags = after.flags;
      fault = fault_after r;
      state = record { mode = r.mode; velocity = s.mode1.velocity; profile = after.profile; mark = is_manual r.mode && state.mark };
    }
