-- What is promised of an output with a format of its own, proved.
use Prim.Native.Nat.{ℕ, ◌+◌, ◌*◌, ◌≤◌, ◌<◌}
use native.Mathlib.Omega.{arith}
use mathlib.Core.Path.{◌≡◌, refl, sym, ap, ◌∙◌}
use mathlib.Core.Bool.{Bool, true, false, or-true}
use lib.Dec.{eqb, lit<}
use lib.IntN.{ℤ, pos, nat_abs, ◌-ℤ◌}
use lib.ListN.{get_or}
use lib.Signed.{◌≤ℤ◌}
use borrow.Author.Tests.{lt-ltb, eq-eqb}
use Rattle.numbers.specs.Whole.{linear, abs}
use Rattle.numbers.specs.Limits.{clampℤ}
use Rattle.numbers.specs.Limits.Laws.{clamp_low, clamp_high}
use Rattle.numbers.specs.Distances.{apart}
use Rattle.numbers.specs.Distances.Laws.{apart_is}
use Rattle.numbers.specs.Rounding.{units_of}
use Rattle.numbers.proofs.Laws.Rounding.{half_up_high}
use Rattle.numbers.specs.Scales.{converted}
use Rattle.numbers.proofs.Laws.Scales.{converted_high, converted_mono, converted_tie, converted_near, converted_zero, converted_full, converted_no_tie}
use Rattle.refusals.specs.Refusals.{number_of}
use Rattle.refusals.specs.Refusals.Laws.{accepted_only}
use Rattle.table.specs.declared.format.Format.{Format}
use Rattle.reading.specs.declared.settings.Mode1.{Mode1}
use Rattle.table.specs.Words.{bit, format_by}
use Rattle.table.specs.Modes.{is_manual}
use Rattle.control.specs.Counts.{output_counts}
use Rattle.control.specs.Errors.{in_deadband, error_of}
use Rattle.control.specs.Errors.Laws.{squared_toward_zero}
use Rattle.std.specs.Bool.{then_some}
use Rattle.alarms.specs.Status.{Status}
use Rattle.alarms.specs.Status.{status_of, bits_of}
use Rattle.alarms.specs.Status.{bits_word as statusBits}
use Rattle.alarms.specs.Status.Laws.{status_bit}
use Rattle.carried.specs.Layout.{carried_at}
use Rattle.engine.specs.Sensing.{error_in, sensed_of}
use Rattle.engine.specs.Driving.{kept_in, past_of, driven_of}
use Rattle.engine.specs.Writing.{bias_word, status_word, written_of, next_of}
use Rattle.engine.specs.Steps.{step_of}
use Rattle.engine.proofs.Laws.Steps.{drivable, sensed_scaled, stepped_ranged}
use Rattle.engine.proofs.Limits.{word_inside}
use Rattle.plain.proofs.Laws.Plain.{start_tied, sample_good}
use Rattle.desk.specs.Desk.{Desk, reading_at, sample_answer}
use Rattle.desk.proofs.Laws.Desk.{Sampled, sampled}
use Rattle.claims.specs.Formats.{Conversion, full_by, output_count, Formats}
use Rattle.claims.specs.Words.{word_of, word_left, input_full, output_full}
use Rattle.claims.proofs.Calls.{by_words}
use Rattle.claims.proofs.Demand2.{demand_2}

conversion : (F G : ℕ) → 0 < F → 0 < G → Conversion F G
conversion F G some other = record {
  near = λ v h. converted_near some G h;
  half = λ v k h e. converted_tie some G h k e;
  zero = converted_zero some G;
  full = λ v h. converted_full some G h;
  high = λ v. converted_high F G v;
  order = λ v w h. converted_mono F G h;
}

scale_by : (sixteen fifteen : Bool) → (format_by sixteen fifteen).scale ≡ full_by sixteen fifteen
scale_by true fifteen = refl
scale_by false true = refl
scale_by false false = refl

-- ---- by the bits of word 1

module _ (d : Desk) (k : ℕ) where
  input : input_full d k ≡ full_by (bit 9 (word_of d k 1)) (bit 1 (word_of d k 1))
  input = ap (λ (f : Format). f.scale) (by_words d k).input ∙ scale_by (bit 9 (word_of d k 1)) (bit 1 (word_of d k 1))

  own : bit 10 (word_of d k 1) ≡ true
      → (output_full d k ≡ full_by (bit 13 (word_of d k 1)) (bit 12 (word_of d k 1))) × ((v : ℕ) → output_count d k v ≡ converted (input_full d k) (output_full d k) v)
  unfolding output_counts
  own on = (ap (λ (f : Format). f.scale) (by_words d k).own ∙ rw on (scale_by (bit 13 (word_of d k 1)) (bit 12 (word_of d k 1))), λ v. rw ((by_words d k).separate, on))

  one : bit 10 (word_of d k 1) ≡ false → (output_full d k ≡ input_full d k) × ((v : ℕ) → output_count d k v ≡ v)
  unfolding output_counts
  one off = (
    ap (λ (f : Format). f.scale) (by_words d k).own ∙ rw off (sym (ap (λ (f : Format). f.scale) (by_words d k).input)),
    λ v. rw ((by_words d k).separate, off),
  )

  -- each full scale is odd
  none : (v j : ℕ) → 2 * (v * output_full d k) ≡ (2 * j + 1) * input_full d k → ⊥
  none v j e = go (bit 9 (word_of d k 1)) (bit 1 (word_of d k 1)) (e ∙ ap (λ (n : ℕ). (2 * j + 1) * n) input)
    where
      go : (a b : Bool) → 2 * (v * output_full d k) ≡ (2 * j + 1) * full_by a b → ⊥
      go true b h = converted_no_tie 32767 (output_full d k) v j h
      go false true h = converted_no_tie 16383 (output_full d k) v j h
      go false false h = converted_no_tie 2047 (output_full d k) v j h

-- ---- what an accepted sample leaves

bias_high : (G : ℕ) (stored : ℕ) (bias : ℤ) → bias_word false stored G bias ≤ G
unfolding bias_word
bias_high G stored bias =
    let z = clampℤ bias (pos 0) (pos (units_of G)) in
    let order : pos 0 ≤ℤ pos (units_of G) = omega (arith, linear) in
    half_up_high {d = 262144} (lit< tt) G (omega (arith, linear, abs z, clamp_low order bias, clamp_high order bias))

-- the size of an error
sized : (quiet square : Bool) {G : ℕ} → 0 < G → (s p : ℕ) → let e = nat_abs (error_of quiet square G s p) in
    let way = apart s p in
    (quiet ≡ true → e ≡ 0) × (quiet ≡ false → square ≡ false → e ≡ way)
    × (quiet ≡ false → square ≡ true → (e * G ≤ way * way) × (way * way < (e + 1) * G))
unfolding error_of
sized quiet square some s p = (
  λ on. rw on,
  λ off plain. rw (off, plain, apart_is s p),
  λ off on. let q = squared_toward_zero (pos s -ℤ pos p) some in rw (off, on, apart_is s p) (q.1, q.2),
)

module _ (d : Desk) (k raw : ℕ) (e : number_of (sample_answer d k raw) ≡ 0) where
  known : Sampled d k raw
  known = sampled d k raw (accepted_only (sample_answer d k raw) e)

  -- word 6 is of words 2, 3 and 5 as they are left, and of the carried last PV
  abbrev bits : Status
  bits =
      let r = reading_at d k in
      let s = r.settings in
      let c = carried_at d.numbers k in
      status_of r.mode s.mode1 s.alarms s.limits s.stored.status
      (record { pv = word_left d k raw 3; setpoint = word_left d k raw 2; last = then_some c.sampled c.past.last; output = word_left d k raw 5 })

  word6 : word_left d k raw 6 ≡ statusBits (bits_of bits)
  unfolding step_of written_of status_word
  word6 = let done = demand_2.exact d k raw e in rw (done.status, done.output, done.pv, done.setpoint)

  status : (i : ℕ) → bit i (word_left d k raw 6) ≡ get_or (bits_of bits) i false
  status i = ap (bit i) word6 ∙ status_bit (bits_of bits) i

pub formats : Formats
unfolding step_of written_of next_of driven_of sensed_of error_in in_deadband past_of kept_in status_of
formats = record {
  conversion = conversion;
  none = none;
  input = input;
  own = own;
  one = one;
  within = λ d k raw e.
      let done = demand_2.exact d k raw e in
      let s = known d k raw e in
      let scaled = sensed_scaled s.reading (carried_at d.numbers k).state s.carried.profile in
      let inside = word_inside (is_manual (reading_at d k).mode) (drivable s.reading s.carried) in
      record {
        setpoint = rw done.setpoint scaled.setpoint;
        pv = rw done.pv scaled.pv;
        last = sym done.pv;
        output = rw done.output (omega (arith, inside.high, s.reading.high));
        error = scaled.error;
        bias = λ automatic position. rw done.bias (rw (automatic, position) (bias_high (output_full d k) _ _));
      };
  error = λ d k raw e.
      let done = demand_2.exact d k raw e in
      let w = by_words d k in
      rw (done.setpoint, done.pv, ← ap (λ (m : Mode1). m.deadband) w.mode1, ← ap (λ (m : Mode1). m.squared) w.mode1, ← w.deadband)
      (sized _ _ (known d k raw e).reading.some _ _);
  past = λ r c raw last prior same before. rw (same, before);
  deviation = λ d k raw e automatic on far.
      let w = by_words d k in
      status d k raw e 7 ∙ rw (w.mode1, w.alarms, automatic, on, lt-ltb _ _ far);
  change = λ d k raw e before on. let w = by_words d k in status d k raw e 9 ∙ rw (w.mode1, w.alarms, before, on);
  limit = λ d k raw e automatic high.
      status d k raw e 11
      ∙ rw (automatic, (by_words d k).high, eq-eqb _ _ high, or-true (eqb (word_left d k raw 5) (reading_at d k).settings.limits.low));
  begins = start_tied;
  accurate = λ r c raw q u g t. let good = sample_good u g q t in (good.0, good.1, stepped_ranged u g);
}
