-- Demand 3, proved: a turn keeps the records tied to the plain loops, whatever it lends; so the claim holds of every turn behind any others.
use Rattle.std.specs.Prelude.{Err}
use Prim.Native.Nat.{ℕ, zero, suc, ◌+◌, ◌≤◌, ◌<◌}
use native.Mathlib.Omega.{arith}
use mathlib.Core.Path.{◌≡◌, refl, sym, ap, ◌∙◌}
use mathlib.Core.Bool.{Bool, true, false, ◌||◌}
use mathlib.Core.List.{List, [], ◌∷◌, ◌++◌}
use Rattle.numbers.specs.Fractions.{Fraction}
use Rattle.refusals.specs.declared.Refusal.TheVariants.{Memory}
use Rattle.refusals.specs.Refusals.Laws.{never}
use Rattle.reader.specs.File.{records_of}
use Rattle.reading.specs.declared.reading.Reading.{Reading}
use Rattle.table.specs.Modes.{is_manual}
use Rattle.engine.specs.declared.sensing.Sensed.{Sensed}
use Rattle.engine.specs.Sensing.{sensed_of}
use Rattle.plain.specs.Plain.{Plain, count_after, exact_moved, plain_after, tolerance}
use Rattle.plain.proofs.Laws.Plain.{within_one}
use Rattle.desk.specs.Desk.{Desk, fitting_of}
use Rattle.desk.specs.Lists.{Call, reset, store, sample, answer_to, desk_behind, Plains, begun_all, fed, Claim}
use Rattle.desk.proofs.Laws.Lists.{unfit, plains_append}
use Rattle.desk.proofs.Accuracy.{TiedAll, all_begun}
use Rattle.desk.proofs.Accuracy as accuracy
use Rattle.session.specs.Session.{begun as started, run_of, calls_of, left_of}
use Rattle.session.specs.Session.Laws.{run_desk}
use Rattle.kexbardi_files.specs.Files.{Ran}
use Rattle.claims.specs.Turns.{Made, one, file, Turn, found, number_to, made_left, behind, behind_all, fed_made, fed_all}
use Rattle.claims.proofs.Turns.{unfit_behind, record_found, record_behind}
use Rattle.claims.proofs.Demand1.{demand_1}
use Rattle.claims.specs.Demand3.{Claimed, Counting, Demand3}

-- what is claimed of a call, of each loop
abbrev ClaimedAll : Plains → Desk → Made → Type 0
ClaimedAll qs d m = (k : ℕ) → 1 ≤ k → k ≤ 16 → Claimed k qs d m

-- ---- memory of the right lengths

module _ (d : Desk) (qs : Plains) (fit : fitting_of d ≡ true) (tied : TiedAll d.numbers qs) where
  good : (m : Made) → ClaimedAll qs d m × TiedAll (made_left d m).numbers (fed_made qs d m)
  unfolding made_left fed_made left_of fed
  good (one call) = accuracy.one d qs tied call
  good (file bytes) =
      let calls = calls_of (records_of bytes) in
      let r = accuracy.all calls d qs tied in
      let left : (run_of (started d) (records_of bytes)).desk ≡ desk_behind d calls = run_desk (started d) (records_of bytes) in
      (λ k above below _. (r.0 k above below, rw fit left), rw (fit, left) r.1)

-- ---- memory of the wrong lengths: every call is refused, and leaves it

module _ (d : Desk) (qs : Plains) (wrong : fitting_of d ≡ false) where
  stopped : (bytes : List ℕ) → number_to d (file bytes) ≡ 5
  unfolding number_to
  stopped bytes = ap (λ (c : Ran). c.number) (demand_1.memory bytes d 0 0 [] wrong).0

  idle : (m : Made) → ClaimedAll qs d m × (fed_made qs d m ≡ qs)
  unfolding fed_made fed Claim
  idle (one call) = let a = unfit d wrong call in (λ k above below. none k call a, rw a)
    where
      none : (k : ℕ) (call : Call) → answer_to d call ≡ Err Memory → Claim k d (fed qs d call k) call
      none k reset e = tt
      none k (store address value) e = tt
      none k (sample j raw) e = λ same ok. absurd (never (sym e ∙ ok))
  idle (file bytes) = (λ k above below zero. absurd (omega (arith, stopped bytes)), rw wrong)

-- ---- a turn

turn : (d : Desk) (qs : Plains) → TiedAll d.numbers qs → (t : Turn)
    → ClaimedAll qs (found d t) t.made × TiedAll (behind d t).numbers (fed_made qs (found d t) t.made)
turn d qs tied t = go (fitting_of (found d t)) refl
  where
    go : (b : Bool) → fitting_of (found d t) ≡ b
        → ClaimedAll qs (found d t) t.made × TiedAll (behind d t).numbers (fed_made qs (found d t) t.made)
    go true fit =
        let r = good (found d t) qs fit (λ k above below. rw (record_found d t fit k above below) at (tied k above below)) t.made in
        (r.0, λ k above below. rw (record_behind d t fit k above below) (r.1 k above below))
    go false wrong = let r = idle (found d t) qs wrong t.made in (r.0, rw (unfit_behind d t wrong, r.1) tied)

-- the turn behind some others
next : (before : List Turn) (d : Desk) (qs : Plains) → TiedAll d.numbers qs → (t : Turn)
    → ClaimedAll (fed_all qs d before) (found (behind_all d before) t) t.made
unfolding fed_all behind_all
next [] d qs tied t = (turn d qs tied t).0
next (s ∷ before) d qs tied t = next before (behind d s) (fed_made qs (found d s) s.made) (turn d qs tied s).1 t

-- ---- n

moved_count : (n : ℕ) (q : Plain) (r : Reading) (x : Sensed) (start : Fraction) (last : ℕ) → (exact_moved n q r x start last).n ≡ n
unfolding exact_moved
moved_count zero q r x start last = refl
moved_count (suc n) q r x start last = refl

module _ (q : Plain) (r : Reading) (raw : ℕ) where
  count : (plain_after q r raw).n ≡ count_after (is_manual r.mode || r.settings.mode1.freeze || r.settings.mode1.velocity) (sensed_of r q.state raw).entry q.n
  unfolding plain_after
  count = moved_count _ _ _ _ _ _

  going : (n : ℕ) → (n ≡ 0 → count_after false false n ≡ 0) × (0 < n → count_after false false n ≡ n + 1)
  unfolding count_after
  going zero = (λ _. refl, λ h. absurd (omega arith))
  going (suc n) = (λ e. absurd (omega (arith, e)), λ h. omega arith)

  count_after_lem : Counting q r raw
  unfolding count_after
  count_after_lem = record {
    ended = λ e. count ∙ rw e;
    begins = λ e. (λ f. count ∙ rw (e, f), λ f. rw (count, e, f) (going q.n));
  }

-- ---- turns one behind the other

fed_append : (qs : Plains) (d : Desk) (xs ys : List Turn) → fed_all qs d (xs ++ ys) ≡ fed_all (fed_all qs d xs) (behind_all d xs) ys
unfolding fed_all behind_all
fed_append qs d [] ys = refl
fed_append qs d (t ∷ xs) ys = fed_append (fed_made qs (found d t) t.made) (behind d t) xs ys

pub demand_3 : Demand3
unfolding tolerance
demand_3 = record {
  accurate = λ d before t k above below. next before d (begun_all d.numbers) (all_begun d.numbers) t k above below;
  counted = count_after_lem;
  tolerated = λ n. refl;
  one_count = within_one;
  append = fed_append;
  calls = plains_append;
}
