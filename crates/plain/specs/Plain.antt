-- The plain loop is the exact loop of E3: the exact output, in fractions, beside the engine. It is fed the reading and the PV of each accepted
-- sample of its loop, told of another loop's transfer to it, and fed no number that the engine carries.
use Rattle.std.specs.Prelude.{ℕ, zero, suc, ◌+◌, Bool, true, false, cond, ◌||◌, ℤ, pos, ◌-ℤ◌}
use Rattle.numbers.specs.Fractions.{Fraction, over, whole, ◌+ᶠ◌}
use Rattle.reading.specs.declared.reading.Reading.{Reading}
use Rattle.table.specs.Modes.{is_manual}
use Rattle.control.specs.declared.terms.Inputs.{Inputs}
use Rattle.control.specs.Counts.{output_counts}
use Rattle.control.specs.Terms.{exact_terms}
use Rattle.carried.specs.declared.record.State.{State}
use Rattle.carried.specs.declared.record.Carried.{Carried}
use Rattle.carried.specs.Layout.{marked}
use Rattle.engine.specs.declared.sensing.Sensed.{Sensed}
use Rattle.engine.specs.Sensing.{sensed_of}
use Rattle.engine.specs.Driving.{held_of}
use Rattle.plain.specs.Exact.{in_counts, exact_output, exact_bias}

-- E3: mode, form, profile and mark (its state), the last PV, the bias B and the number n; and the last exact output (E5)
pub record Plain : Type 0 where
  pub state : State
  pub last : ℕ
  pub B : Fraction
  pub n : ℕ
  pub output : Fraction

-- E3: at the start the state is that of the loop's record, and n is 0
unfoldable pub begun : Carried → Plain
begun c = record { state = c.state; last = 0; B = whole (pos 0); n = 0; output = whole (pos 0) }

-- E4: n after a sample in Manual, with freeze or in velocity form (the first argument true), at an entry, and at any other
unfoldable pub count_after : Bool → Bool → ℕ → ℕ
count_after true entry n = 0
count_after false true n = 1
count_after false false zero = 0
count_after false false (suc n) = suc (suc n)

-- E5: what the terms act on, as in position form
abbrev pub inputs_of : ℕ → ℕ → ℤ → Inputs
inputs_of last p e = record { p = e; i = e; d = pos p -ℤ pos last }

-- E5: where n is now above 0, the exact terms, the exact output, and B after it; `start` is B to start from, and `last` the last PV in counts of the
-- output (M7). Where n is 0, B stays: the next entry sets it before it counts. State and p are kept whatever n is, p in counts of the input
unfoldable pub exact_moved : ℕ → Plain → Reading → Sensed → Fraction → ℕ → Plain
exact_moved zero q r x start last = record { state = x.state; last = x.pv; B = q.B; n = 0; output = q.output }
exact_moved (suc n) q r x start last =
    let s = r.settings in
    let terms = exact_terms s.tuning s.mode2.minutes s.mode1.reverse (inputs_of last x.converted x.error) in
    let output = exact_output s.limits.low s.limits.high start terms in
    record { state = x.state; last = x.pv; B = exact_bias output terms; n = suc n; output = output }

-- E3 to E5: an accepted sample of its loop. p, s and e are those of A1 to A5 from its own state; an entry starts B at word 5 inside its
-- limits, and the last PV at p; else the last PV is converted by this sample's formats (A6)
unfoldable pub plain_after : Plain → Reading → ℕ → Plain
plain_after q r p =
    let s = r.settings in
    let x = sensed_of r q.state p in
    let n = count_after (is_manual r.mode || s.mode1.freeze || s.mode1.velocity) x.entry q.n in
    exact_moved n q r x (cond x.entry (whole (pos (held_of s))) q.B) (cond x.entry x.converted (output_counts s.mode2 q.last))

-- E3, A13: another loop's transfer to it sets the mark, and nothing else
unfoldable pub plain_marked : Plain → Plain
plain_marked q = record { state = marked q.state; last = q.last; B = q.B; n = q.n; output = q.output }

-- E6: 1/2 + (n + 1)/262,144 of a count
unfoldable pub tolerance : ℕ → Fraction
tolerance n = over (pos 1) 2 +ᶠ in_counts (pos (n + 1))
