-- The laws of what moves the output: the terms of an accepted sample fit, the output is within its limits, and bias and output within their ranges.
use Rattle.std.specs.Prelude.{ℕ, ◌*◌, ◌^◌, ◌≤◌, ◌≡◌, Bool, cond, ℤ, ◌+ℤ◌, ◌-ℤ◌, ◌≤ℤ◌}
use Rattle.std.proofs.Common.{arith}
use Rattle.std.proofs.Math.Bool.{true, false}
use Rattle.std.proofs.Math.IntN.{pos, nat_abs}
use Rattle.numbers.specs.Whole.{linear, add, sub, abs, abs_in, abs_sub}
use Rattle.numbers.specs.Limits.Laws.{by_test, clamped, orderℕ}
use Rattle.numbers.specs.Rounding.{units_of}
use Rattle.reading.specs.declared.settings.Mode2.{Mode2}
use Rattle.reading.specs.declared.settings.Settings.{Settings}
use Rattle.control.specs.declared.forms.Drive.{Drive}
use Rattle.control.specs.declared.terms.Inputs.{Inputs}
use Rattle.control.specs.Counts.Laws.{counts_word, counts_same}
use Rattle.control.specs.Premises.{Tuned, Bounded, Ready}
use Rattle.control.specs.Terms.Laws.{terms_high, terms_still, terms_close}
use Rattle.control.specs.Forms.{position_of, velocity_of}
use Rattle.control.specs.Forms.Laws.{Inside, position_inside, velocity_inside, position_still, velocity_still, position_bias}
use Rattle.carried.specs.declared.record.Past.{Past}
use Rattle.engine.specs.Driving.{held_of, start_of, kept_in, past_of, position_inputs, velocity_inputs, inputs_of, terms_in, low_units, high_units, moved_in, moved_of}
use Rattle.engine.specs.Premises.{Counted, Movable}

-- word 5 brought inside the limits is within them
pub held_low : (s : Settings) → s.limits.low ≤ s.limits.high → s.limits.low ≤ held_of s
unfolding held_of
held_low s l = (clamped orderℕ l s.stored.output).low

pub held_high : (s : Settings) → s.limits.low ≤ s.limits.high → held_of s ≤ s.limits.high
unfolding held_of
held_high s l = (clamped orderℕ l s.stored.output).high

-- ---- where the terms start, whether the sample is an entry or the first one or not

pub start_bias : (entry : Bool) {held : ℕ} (drive : Drive) → held ≤ 65535 → nat_abs drive.bias ≤ 2 ^ 52
    → nat_abs (start_of entry held drive).bias ≤ 2 ^ 52
unfolding start_of
start_bias entry {held} drive h l = by_test (λ (d : Drive). nat_abs d.bias ≤ 2 ^ 52) entry (λ _. omega arith) (λ _. l)

counted : (n : ℕ) → n ≤ 65535 → Counted (pos (units_of n))
counted n h = record { low = omega (arith, linear); high = omega (arith, linear) }

pub start_output : (entry : Bool) {held : ℕ} (drive : Drive) → held ≤ 65535 → Counted drive.output → Counted (start_of entry held drive).output
unfolding start_of
start_output entry {held} drive h l = by_test (λ (d : Drive). Counted d.output) entry (λ _. counted held h) (λ _. l)

pub record Remembered (past : Past) : Type 0 where
  pub last : past.last ≤ 65535
  pub prior : past.prior ≤ 65535
  pub error : nat_abs past.error ≤ 65535

pub past_high : (m : Mode2) → m.output.scale ≤ 65535 → (fresh : Bool) (kept : Past) {p : ℕ} (e : ℤ) → p ≤ 65535 → nat_abs e ≤ 65535 → Remembered kept
    → Remembered (past_of m fresh kept p e)
unfolding past_of kept_in
past_high m word fresh kept e h l g =
    by_test Remembered fresh (λ _. record { last = h; prior = h; error = l })
    (λ _. record { last = counts_word m word g.last; prior = counts_word m word g.prior; error = g.error })

-- with bit 10 off the carried PVs stand as they are
pub kept_same : (m : Mode2) → m.separate ≡ false → (kept : Past) → kept_in m kept ≡ kept
unfolding kept_in
kept_same m off kept = λ i. record { last = counts_same m off kept.last i; prior = counts_same m off kept.prior i; error = kept.error }

-- ---- what the terms act on, and so how large they are

module _ {s : Settings} {drive : Drive} {past : Past} {p : ℕ} {e : ℤ} (m : Movable s drive past p e) where
  pub position_bounded : Bounded (position_inputs past p e)
  unfolding position_inputs
  position_bounded =
      let change = pos p -ℤ pos past.last in
      record { p = omega (arith, m.error); i = m.error; d = abs_in change (omega (arith, sub (pos p) (pos past.last), m.pv, m.last)) }

  pub velocity_bounded : Bounded (velocity_inputs past p e)
  unfolding velocity_inputs
  velocity_bounded =
      let first = pos p -ℤ pos (2 * past.last) in
      let change = first +ℤ pos past.prior in
      record {
        p = omega (arith, abs_sub e past.error, m.error, m.recorded);
        i = m.error;
        d = abs_in change (omega (arith, add first (pos past.prior), sub (pos p) (pos (2 * past.last)), m.pv, m.last, m.prior));
      }

  pub inputs_bounded : (velocity : Bool) → Bounded (inputs_of velocity past p e)
  inputs_bounded true = velocity_bounded
  inputs_bounded false = position_bounded

  -- so no sum of the moves leaves 64 bits
  pub ready : (x : Inputs) → Bounded x → Ready drive (terms_in s x) (low_units s) (high_units s)
  unfolding terms_in
  ready x b =
      record {
        bias = m.bias;
        output = omega (arith, linear, m.output.low, m.output.high, abs drive.output);
        terms = terms_high m.tuned s.mode2.minutes s.mode1.reverse x b;
        low = omega (arith, m.limits, m.high);
        high = omega (arith, m.high);
      }

-- ---- what the moves leave

-- what holds of the velocity form and of the position form holds of the loop's
pub by_form : (s : Settings) (drive : Drive) (past : Past) (p : ℕ) (e : ℤ) (P : Drive → Type 0)
    → P (velocity_of drive (terms_in s (velocity_inputs past p e)) (low_units s) (high_units s))
    → P (position_of s.mode1.freeze drive (terms_in s (position_inputs past p e)) (low_units s) (high_units s)) → P (moved_of s false drive past p e)
unfolding moved_of moved_in
by_form s drive past p e P one two = go s.mode1.velocity
  where
    go : (velocity : Bool) → let t = terms_in s (inputs_of velocity past p e) in
        P (cond velocity (velocity_of drive t (low_units s) (high_units s)) (position_of s.mode1.freeze drive t (low_units s) (high_units s)))
    go true = one
    go false = two

limits_units : (s : Settings) → s.limits.low ≤ s.limits.high → low_units s ≤ℤ high_units s
limits_units s l = omega (arith, linear)

module _ {s : Settings} {drive : Drive} {past : Past} {p : ℕ} {e : ℤ} (m : Movable s drive past p e) where
  -- the output is within its limits
  pub moved_inside : Inside (low_units s) (high_units s) (moved_of s false drive past p e).output
  moved_inside =
      by_form s drive past p e (λ (d : Drive). Inside (low_units s) (high_units s) d.output)
      (velocity_inside drive (terms_in s (velocity_inputs past p e)) (limits_units s m.limits))
      (position_inside s.mode1.freeze drive (terms_in s (position_inputs past p e)) (limits_units s m.limits))

  -- the carried output is within its range, in Manual too
  pub moved_output : (manual : Bool) → Counted (moved_of s manual drive past p e).output
  unfolding moved_of
  moved_output true = m.output
  moved_output false =
      let i = moved_inside in
      record { low = omega (arith, linear, i.low); high = omega (arith, linear, i.high, m.high) }

  -- the carried bias is within its range
  pub moved_bias : (manual : Bool) → nat_abs (moved_of s manual drive past p e).bias ≤ 2 ^ 52
  unfolding moved_of velocity_of terms_in position_inputs
  moved_bias true = m.bias
  moved_bias false =
      let x = position_inputs past p e in
      let close = terms_close m.tuned s.mode2.minutes s.mode1.reverse x m.error (abs_in (pos p -ℤ pos past.last) (omega (arith, sub (pos p) (pos past.last)))) in
      by_form s drive past p e (λ (d : Drive). nat_abs d.bias ≤ 2 ^ 52) m.bias
      (position_bias s.mode1.freeze drive (terms_in s x) m.bias close (omega arith) (omega arith) (limits_units s m.limits))

-- ---- an entry without an error

-- it goes on from word 5 inside the limits, in either form, whatever was carried
pub entry_still : (s : Settings) → Tuned s.tuning → s.limits.low ≤ s.limits.high → (drive : Drive) (kept : Past) (p : ℕ)
    → (moved_of s false (start_of true (held_of s) drive) (past_of s.mode2 true kept p (pos 0)) p (pos 0)).output ≡ pos (units_of (held_of s))
unfolding terms_in start_of past_of position_inputs velocity_inputs
entry_still s tuned l drive kept p =
    let held : Drive = record { bias = pos (units_of (held_of s)); output = pos (units_of (held_of s)) } in
    let inside : Inside (low_units s) (high_units s) (pos (units_of (held_of s)))
    = record { low = omega (arith, linear, held_low s l); high = omega (arith, linear, held_high s l) } in
    let twice = pos p -ℤ pos (2 * p) in
    by_form s held (record { last = p; prior = p; error = pos 0 }) p (pos 0) (λ (d : Drive). d.output ≡ pos (units_of (held_of s)))
    (velocity_still held (terms_still tuned s.mode2.minutes s.mode1.reverse _ (omega arith) (omega arith)
    (abs_in (twice +ℤ pos p) (omega (arith, sub (pos p) (pos (2 * p)), add twice (pos p))))) inside)
    (position_still s.mode1.freeze held (terms_still tuned s.mode2.minutes s.mode1.reverse _ (omega arith) (omega arith)
    (abs_in (pos p -ℤ pos p) (omega (arith, sub (pos p) (pos p))))) inside)
