-- What a sample writes: A10 to A12, eight words and the record that the loop carries on.
use Rattle.std.specs.Prelude.{ℕ, ◌+◌, Bool, true, cond, ◌||◌, List, set, ℤ, pos, nat_abs}
use Rattle.std.specs.Bool.{then_some}
use Rattle.numbers.specs.Limits.{clampℤ}
use Rattle.numbers.specs.Rounding.{units_of, nearest_count}
use Rattle.reading.specs.declared.reading.Reading.{Reading}
use Rattle.table.specs.Words.{clear_requests}
use Rattle.table.specs.Modes.{is_manual}
use Rattle.control.specs.declared.forms.Drive.{Drive}
use Rattle.alarms.specs.declared.status.Seen.{Seen}
use Rattle.alarms.specs.Status.{status_of, bits_of, bits_word}
use Rattle.carried.specs.declared.record.Carried.{Carried}
use Rattle.engine.specs.declared.sensing.Sensed.{Sensed}
use Rattle.engine.specs.declared.writing.Written.{Written}
pub mod Laws

-- A10: word 5: in Manual itself inside its limits, else the carried output in the nearest count
unfoldable pub output_word : Bool → ℕ → ℤ → ℕ
output_word manual held output = cond manual held (nearest_count (nat_abs output))

-- A10: word 4: in position form the bias, brought inside 0 to G, in the nearest count; `kept` in velocity form and in Manual
unfoldable pub bias_word : Bool → ℕ → ℕ → ℤ → ℕ
bias_word kept stored G bias = cond kept stored (nearest_count (nat_abs (clampℤ bias (pos 0) (pos (units_of G)))))

-- B1 to B8: word 6, with p and s of A1 to A4 and the last PV as it was carried, where a sample was accepted
unfoldable pub status_word : Reading → Carried → Sensed → ℕ → ℕ
status_word r c x output =
    let s = r.settings in
    let seen : Seen = record { pv = x.pv; setpoint = x.setpoint; last = then_some c.sampled c.past.last; output = output } in
    bits_word (bits_of (status_of r.mode s.mode1 s.alarms s.limits s.stored.status seen))

-- A12: the eight words: mode 1 with its requests off (A2), setpoint (A3, A4, G3), PV (A11), bias and output (A10), status (B1 to B8), and of the
-- profile words 27 (G10) and 29 (G2)
unfoldable pub written_of : Reading → Carried → Sensed → ℕ → Drive → Written
written_of r c x held drive =
    let s = r.settings in
    let output = output_word (is_manual r.mode) held drive.output in
    record {
      word = clear_requests s.stored.word;
      setpoint = x.setpoint;
      pv = x.pv;
      bias = bias_word (is_manual r.mode || s.mode1.velocity) s.stored.bias s.mode2.output.scale drive.bias;
      output = output;
      status = status_word r c x output;
      flags = x.flags;
      fault = x.fault;
    }

-- A12: and where they go: words 0, 2, 3, 4, 5, 6, 27 and 29 of the loop at `base`
unfoldable pub written_to : List ℕ → ℕ → Written → List ℕ
written_to ws base w =
    let at : ℕ → ℕ → List ℕ → List ℕ = λ i value l. set l (base + i) value in
    at 29 w.fault
    (at 27 w.flags
    (at 6 w.status (at 5 w.output (at 4 w.bias (at 3 w.pv (at 2 w.setpoint (set ws base w.word)))))))

-- A11, in every mode: mode, form, profile and mark as this sample leaves them, the PV before (p at the first accepted sample), the last PV, the error, and that one was accepted
unfoldable pub next_of : Carried → Sensed → Drive → Carried
next_of c x drive = record {
  state = x.state;
  drive = drive;
  past = record { last = x.pv; prior = cond c.sampled c.past.last x.pv; error = x.error };
  sampled = true;
}
