-- The laws of a sample whole: an accepted one can be stepped, and leaves a record in range.
use Rattle.std.specs.Prelude.{ℕ, ◌≤◌, ◌≡◌, refl, Bool, true, false, cond, not, ◌||◌, List, pos, nat_abs}
use Rattle.std.proofs.Common.{arith, mul_comm, ap, ◌∙◌, lit<, ltb-false}
use Rattle.std.proofs.Math.Bool.{or-true}
use Rattle.numbers.specs.Limits.Laws.{by_test}
use Rattle.numbers.specs.Rounding.{nearest_count}
use Rattle.numbers.proofs.Laws.Rounding.{half_up_whole}
use Rattle.refusals.specs.Refusals.{first_of, accepted}
use Rattle.table.specs.declared.format.Format.{Format}
use Rattle.reading.specs.declared.settings.Settings.{Settings}
use Rattle.reading.specs.declared.reading.Former.{Former}
use Rattle.reading.specs.declared.reading.Reading.{Reading}
use Rattle.table.specs.Modes.{is_manual, is_cascade}
use Rattle.reading.specs.Reading.{reading_of}
use Rattle.table.specs.Words.Laws.{or_false}
use Rattle.reading.proofs.Laws.Reading.{input_scale, output_scale, one_format, decimals, fair}
use Rattle.control.specs.Counts.Laws.{counts_high}
use Rattle.profile.specs.Premises.{Within}
use Rattle.carried.specs.declared.record.State.{State}
use Rattle.carried.specs.declared.record.Carried.{Carried}
use Rattle.carried.specs.Ranged.{Ranged}
use Rattle.measuring.specs.Measuring.{measured_of}
use Rattle.measuring.specs.Measuring.Laws.{pv_high}
use Rattle.judging.specs.Judging.{reading_cases}
use Rattle.judging.specs.Judging.Laws.{passed, times_good, limits_good, setpoint_good}
use Rattle.engine.specs.declared.sensing.Sensed.{Sensed}
use Rattle.engine.specs.Sensing.{setpoint_of, changed, runs_on, target_of, sensed_of}
use Rattle.engine.proofs.Laws.Sensing.{target_high, profiled_within, profiled_scale, sensed_error}
use Rattle.engine.specs.Driving.{held_of, start_of, past_of, moved_of, driven_of}
use Rattle.engine.proofs.Laws.Driving.{held_high, start_bias, start_output, Remembered, past_high, moved_output, moved_bias, entry_still}
use Rattle.engine.specs.Writing.{output_word, written_of, next_of}
use Rattle.engine.specs.Steps.{step_of}
use Rattle.engine.specs.Premises.{Usable, Drivable}

-- the reading and the PV of an accepted sample
pub usable : (ws : List ℕ) (k : ℕ) (former : Former) (raw : ℕ) → former.segment ≤ 16 → let r = reading_of ws k former in
    first_of (reading_cases r raw) ≡ accepted → Usable r (measured_of r raw)
unfolding setpoint_of
usable ws k former raw few e =
    let r = reading_of ws k former in
    let s = r.settings in
    let p = passed r raw e in
    let clean = or_false s.baddigit r.program.baddigit p.digit in
    let digits = decimals ws k former clean.0 in
    let times = times_good s.tuning p.times in
    let limits = limits_good s.limits s.mode2.output.scale p.limits in
    let input = input_scale ws k former in
    let output = output_scale ws k former in
    record {
      tuned = record {
        period = digits.period;
        gain = digits.gain;
        reset = digits.reset;
        rate = digits.rate;
        sampling = times.0;
        resetting = times.1;
      };
      limits = limits.0;
      high = limits.1;
      scale = output.high;
      some = omega (arith, output.low);
      full = input.high;
      above = omega (arith, input.low);
      matched = λ off. ap (λ (f : Format). f.scale) (one_format ws k former off);
      setpoint = setpoint_good (is_cascade r.mode) _ s.stored.setpoint s.pointer r.remote p.setpoint;
      pv = pv_high s.mode1.root input.high (ltb-false s.mode2.input.scale raw p.above);
      program = fair ws k former few clean.1 p.ends;
    }

-- it senses a PV and a setpoint within the input's full scale, and so, within the output's, the PV converted and an error
pub record Scaled (s : Settings) (x : Sensed) : Type 0 where
  pub pv : x.pv ≤ s.mode2.input.scale
  pub setpoint : x.setpoint ≤ s.mode2.input.scale
  pub converted : x.converted ≤ s.mode2.output.scale
  pub error : nat_abs x.error ≤ s.mode2.output.scale

pub sensed_scaled : {r : Reading} {p : ℕ} → Usable r p → (state : State) → Within state.profile → Scaled r.settings (sensed_of r state p)
unfolding sensed_of
sensed_scaled {r} {p} u state w =
    let s = r.settings in
    let runs = runs_on r.program state.profile in
    let change = changed state s.mode1.velocity in
    let target = profiled_scale r w (target_of r change runs p) p (target_high r change runs u.pv u.setpoint) u.program.end in
    record {
      pv = u.pv;
      setpoint = target;
      converted = counts_high s.mode2 u.matched u.pv;
      error = sensed_error s u.matched u.some target u.pv;
    }

-- so the terms can run
pub drivable : {r : Reading} {c : Carried} {p : ℕ} → Usable r p → Ranged c → Drivable r c (sensed_of r c.state p) (held_of r.settings)
drivable {r} {c} {p} u g =
    let s = r.settings in
    let x = sensed_of r c.state p in
    let scaled = sensed_scaled u c.state g.profile in
    let held : held_of s ≤ 65535 = omega (arith, held_high s u.limits, u.high, u.scale) in
    let kept : Remembered c.past = record { last = g.last; prior = g.prior; error = g.error } in
    let pv : x.converted ≤ 65535 = omega (arith, scaled.converted, u.scale) in
    let error : nat_abs x.error ≤ 65535 = omega (arith, scaled.error, u.scale) in
    let past = past_high s.mode2 u.scale (not c.sampled || x.entry) c.past x.error pv error kept in
    record {
      tuned = u.tuned;
      limits = u.limits;
      high = omega (arith, u.high, u.scale);
      bias = start_bias x.entry c.drive held g.bias;
      output = start_output x.entry c.drive held (record { low = g.positive; high = g.output });
      pv = pv;
      error = error;
      recorded = past.error;
      last = past.last;
      prior = past.prior;
    }

-- and the record is in range again
pub stepped_ranged : {r : Reading} {c : Carried} {p : ℕ} → Usable r p → Ranged c → Ranged (step_of r c p).carried
unfolding step_of next_of driven_of sensed_of
stepped_ranged {r} {c} {p} u g =
    let m = drivable u g in
    let out = moved_output m (is_manual r.mode) in
    let pv : (sensed_of r c.state p).pv ≤ 65535 = omega (arith, (sensed_scaled u c.state g.profile).pv, u.full) in
    record {
      bias = moved_bias m (is_manual r.mode);
      positive = out.low;
      output = out.high;
      error = m.error;
      last = pv;
      prior = by_test (λ n. n ≤ 65535) c.sampled (λ _. g.last) (λ _. pv);
      profile = profiled_within r g.profile _ _ u.program.duration;
    }

-- A4: an entry without an error leaves word 5 as it is, inside the limits
pub entry_output : {r : Reading} {p : ℕ} (c : Carried) → Usable r p → (sensed_of r c.state p).entry ≡ true → (sensed_of r c.state p).error ≡ pos 0
    → (step_of r c p).written.output ≡ held_of r.settings
unfolding step_of written_of driven_of output_word
entry_output {r} {p} c u entry none = rw (entry, none, or-true (not c.sampled)) (go (is_manual r.mode))
  where
    go : (manual : Bool)
        → cond manual (held_of r.settings) (nearest_count (nat_abs (moved_of r.settings manual (start_of true (held_of r.settings) c.drive) (past_of r.settings.mode2 true c.past (sensed_of r c.state p).converted (pos 0)) (sensed_of r c.state p).converted (pos 0)).output)) ≡ held_of r.settings
    go true = refl
    go false = rw (entry_still r.settings u.tuned u.limits c.drive c.past (sensed_of r c.state p).converted) (ap nearest_count (mul_comm (held_of r.settings) 262144) ∙ half_up_whole (held_of r.settings) {d = 262144} (lit< tt))
