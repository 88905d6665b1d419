-- What is promised of the transfer, proved.
use Prim.Native.Nat.{ℕ, ◌<◌}
use mathlib.Core.Path.{◌≡◌, refl, sym, ap, ◌∙◌}
use mathlib.Core.Bool.{Bool, true, false, not, ◌&&◌, ◌||◌, beq, or-true, and-false}
use native.Mathlib.Omega.{arith}
use lib.ListN.{get_or}
use borrow.Author.Tests.{not-true}
use Rattle.refusals.specs.Refusals.Laws.{accepted_only}
use Rattle.table.specs.declared.mode.Mode.{Mode}
use Rattle.table.specs.declared.mode.Mode.TheVariants.{Manual, Automatic, Cascade}
use Rattle.table.specs.declared.format.Format.{Format}
use Rattle.reading.specs.declared.reading.Reading.{Reading}
use Rattle.table.specs.Words.Laws.{and_true, output_scaled}
use Rattle.table.specs.Modes.{is_manual, is_automatic, is_cascade}
use Rattle.reading.specs.Transfers.{transfers}
use Rattle.reading.proofs.Laws.Transfers.{major_found, major_none}
use Rattle.reading.specs.Reading.{remote_of, reading_of}
use Rattle.carried.specs.declared.record.State.{State}
use Rattle.carried.specs.Layout.{carried_at}
use Rattle.engine.specs.Sensing.{setpoint_of, changed, entering, target_of, profiled_of, sensed_of}
use Rattle.engine.proofs.Laws.Sensing.{settled_error}
use Rattle.engine.specs.Driving.{held_of}
use Rattle.engine.specs.Writing.{written_of, next_of}
use Rattle.engine.specs.Steps.{step_of}
use Rattle.engine.proofs.Laws.Steps.{entry_output}
use Rattle.desk.specs.Desk.{Desk, reading_at, sample_answer, pv_at}
use Rattle.desk.proofs.Laws.Desk.{sampled}
use Rattle.claims.specs.Calls.{transfer_at}
use Rattle.claims.specs.Words.{word_of, output_full}
use Rattle.claims.specs.Transfers.{Bumpless, Transferred}
use Rattle.claims.proofs.Calls.{by_words}
use Rattle.claims.proofs.Causes.{receives}
use Rattle.claims.proofs.Demand2.{demand_2}

-- ---- when a sample is one

from_automatic : (m : Mode) → is_automatic m ≡ true → m ≡ Automatic
from_automatic Automatic e = refl
from_automatic Manual e = let z : false ≡ true = e in cc
from_automatic Cascade e = let z : false ≡ true = e in cc

to_cascade : (m : Mode) → is_cascade m ≡ true → m ≡ Cascade
to_cascade Cascade e = refl
to_cascade Manual e = let z : false ≡ true = e in cc
to_cascade Automatic e = let z : false ≡ true = e in cc

by_three : (before after : Mode) (two : Bool) → before ≡ Automatic → after ≡ Cascade → two ≡ false → transfers before after two ≡ true
unfolding transfers
by_three before after two e f g = rw (e, f, g)

module _ (d : Desk) (k : ℕ) where
  abbrev former : Mode
  former = (carried_at d.numbers k).state.mode

  abbrev r : Reading
  r = reading_at d k

  read : transfer_at d k ≡ transfers former r.mode r.settings.mode1.bumpless
  unfolding reading_of
  read = refl

  is_one : Bumpless d k → transfer_at d k ≡ true
  is_one b = read ∙ by_three former r.mode r.settings.mode1.bumpless b.before b.after b.one

  only_one : transfer_at d k ≡ true → Bumpless d k
  unfolding transfers
  only_one on =
      let p = and_true (is_automatic former && is_cascade r.mode) (not r.settings.mode1.bumpless) (sym read ∙ on) in
      let q = and_true (is_automatic former) (is_cascade r.mode) p.0 in
      record { before = from_automatic former q.0; after = to_cascade r.mode q.1; one = not-true r.settings.mode1.bumpless p.1 }

-- ---- what it leaves, and what a mark does

same_form : (v : Bool) → (not (beq v v) || false) ≡ false
same_form true = refl
same_form false = refl

pointed : (d : Desk) (k : ℕ) → is_cascade (reading_at d k).mode ≡ true → (reading_at d k).remote ≡ get_or d.words (word_of d k 26) 0
unfolding reading_of remote_of
pointed d k e = rw e (ap (λ (n : ℕ). get_or d.words n 0) (by_words d k).pointer)

marked_entry : (r : Reading) (state : State) (p : ℕ) → state.mark ≡ true → is_manual r.mode ≡ false → (sensed_of r state p).entry ≡ true
unfolding sensed_of entering changed
marked_entry r state raw on automatic = rw (on, automatic) (or-true (changed state r.settings.mode1.velocity))

pub transferred : Transferred
unfolding step_of written_of next_of sensed_of profiled_of target_of setpoint_of entering changed held_of
transferred = record {
  is = is_one;
  only = only_one;
  found = major_found;
  none = major_none;
  inside = λ d k raw e on. let m = receives d k raw ((sampled d k raw (accepted_only (sample_answer d k raw) e)).transfer on) in rw (demand_2.handed d k raw e on).1 (m.low, m.high);
  settles = λ d k raw on.
      let cascade : is_cascade (reading_at d k).mode ≡ true = rw (only_one d k on).after in
      let some : 0 < output_full d k = omega (arith, (output_scaled (word_of d k 1)).low, ap (λ (f : Format). f.scale) (by_words d k).own) in
      (rw (cascade, on), refl, rw (cascade, on) (settled_error (reading_at d k).settings (pv_at d k raw) some));
  no_entry = λ d k raw on same off.
      let b = only_one d k on in
      let manual : is_manual (carried_at d.numbers k).state.mode ≡ false = rw b.before in
      rw (b.after, manual, same, off) (same_form (reading_at d k).settings.mode1.velocity);
  follows = λ d k raw cascade off.
      let c = (carried_at d.numbers k).state in
      rw (to_cascade (reading_at d k).mode cascade, off, and-false (changed c (reading_at d k).settings.mode1.velocity)) (pointed d k cascade);
  entry = marked_entry;
  goes_on = λ d k raw e on automatic none.
      let c = carried_at d.numbers k in
      let s = sampled d k raw (accepted_only (sample_answer d k raw) e) in
      (demand_2.exact d k raw e).output
      ∙ entry_output c s.reading (marked_entry (reading_at d k) c.state (pv_at d k raw) on automatic) none
      ∙ rw ((by_words d k).output, (by_words d k).low, (by_words d k).high);
  cleared = λ d k raw automatic. rw automatic;
  manual = λ d k raw manual. (rw manual, rw manual);
  unforced = λ r state raw. (refl, refl, refl, refl, refl, refl);
}
