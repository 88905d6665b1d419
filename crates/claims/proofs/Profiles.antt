-- What is promised of a profile, proved.
use Prim.Native.Nat.{ℕ, ◌+◌, ◌*◌, ◌/◌, ◌%◌, ◌≤◌, ◌<◌}
use native.Mathlib.Omega.{arith}
use mathlib.Core.Path.{◌≡◌, refl, ap, ◌∙◌}
use mathlib.Core.Bool.{Bool, true, false, cond, not, ◌&&◌}
use mathlib.Core.Logic.{◌⊎◌, inl, inr}
use lib.Dec.{eqb, ltb}
use borrow.Author.Tests.{lt-ltb, le-ltb, ltb-true, eqb-true}
use Rattle.numbers.specs.Limits.Laws.{by_test}
use Rattle.numbers.specs.Distances.{apart}
use Rattle.reading.specs.declared.program.Program.{Program}
use Rattle.reading.specs.declared.settings.Mode1.{Mode1}
use Rattle.table.specs.Words.{bit, flag_of}
use Rattle.table.specs.Words.Laws.{and_true}
use Rattle.table.specs.Modes.{is_automatic, is_cascade}
use Rattle.reading.specs.Programs.{fault_of}
use Rattle.reading.proofs.Laws.Programs.{program_on, program_fault}
use Rattle.reading.specs.Reading.{reading_of}
use Rattle.reading.proofs.Laws.Reading.{no_transfer}
use Rattle.profile.specs.declared.state.Profile.{Profile}
use Rattle.profile.specs.declared.state.Moved.{Moved}
use Rattle.profile.specs.declared.moves.Command.{Command}
use Rattle.profile.specs.declared.moves.Command.TheVariants.{Start, Hold, Resume, Jog, Nothing}
use Rattle.profile.specs.Moves.{command_of, with_hold, handed_over, jogged_of, moved_by, worked_by, advanced_by}
use Rattle.profile.proofs.Laws.Moves.{advanced_stays}
use Rattle.profile.specs.Flags.{is_soak, deviates, flags_of}
use Rattle.profile.specs.Samples.{sampled_by}
use Rattle.profile.proofs.Laws.Forecasts.{none_left, one_less}
use Rattle.carried.specs.Former.{former_of}
use Rattle.carried.specs.Layout.{carried_at}
use Rattle.engine.specs.Sensing.{setpoint_of, target_of, profiled_of, fault_after, sensed_of}
use Rattle.engine.specs.Writing.{written_of, next_of}
use Rattle.engine.specs.Steps.{step_of}
use Rattle.desk.specs.Desk.{Desk, reading_at, step_at}
use Rattle.claims.specs.Words.{word_of}
use Rattle.claims.specs.Profiles.{Profiled}
use Rattle.claims.proofs.Calls.{by_words}

-- ---- word 27

flags_tell : (q : Profile) (deviation s p : ℕ) → let w = flags_of q deviation s p in
    (w % 16 ≡ 0) × (w / 256 ≡ q.segment) × (bit 5 w ≡ true → deviation < apart s p)
unfolding flags_of deviates
flags_tell q deviation s p =
    let g = go q.hold (is_soak q.segment && deviates deviation s p) q.complete in
    (g.0, g.1, λ on. ltb-true _ _ (and_true (not (eqb deviation 0)) (ltb deviation (apart s p)) (and_true (is_soak q.segment) (deviates deviation s p) (g.2 (eqb-true _ _ on))).1).1)
  where
    go : (hold far complete : Bool) → let w = 256 * q.segment + flag_of hold 64 + flag_of far 32 + flag_of complete 16 in
        (w % 16 ≡ 0) × (w / 256 ≡ q.segment) × (w / 32 % 2 ≡ 1 → far ≡ true)
    go true true true = (omega arith, omega arith, λ _. refl)
    go true true false = (omega arith, omega arith, λ _. refl)
    go true false true = (omega arith, omega arith, λ e. absurd (omega arith))
    go true false false = (omega arith, omega arith, λ e. absurd (omega arith))
    go false true true = (omega arith, omega arith, λ _. refl)
    go false true false = (omega arith, omega arith, λ _. refl)
    go false false true = (omega arith, omega arith, λ e. absurd (omega arith))
    go false false false = (omega arith, omega arith, λ e. absurd (omega arith))

-- ---- a command or a hold

hand_time : (q : Profile) → (handed_over q).time ≤ 0
unfolding handed_over
hand_time q = by_test (λ (x : Profile). x.time ≤ 0) (ltb q.segment 16) (λ _. omega arith) (λ _. omega arith)

module _ (q : Profile) (period setpoint : ℕ) where
  abbrev Still : Moved → Type 0
  Still m = (m.setpoint ≡ setpoint) × (m.profile.time ≤ q.time)

  still : (program : Program) (flags : ℕ) → (q.hold ≡ true) ⊎ (command_of flags ≡ Nothing → ⊥) → Still (advanced_by program flags period q setpoint)
  unfolding advanced_by worked_by with_hold jogged_of moved_by
  still program flags quiet = by_test Still program.on (λ _. go (command_of flags) quiet) (λ _. (refl, omega arith))
    where
      held : (hold : Bool) → Still (record { profile = with_hold hold q; setpoint = setpoint })
      held hold = (refl, by_test (λ (x : Profile). x.time ≤ q.time) (eqb q.segment 0) (λ _. omega arith) (λ _. omega arith))

      jogged : Still (record { profile = jogged_of q; setpoint = setpoint })
      jogged = (refl, by_test (λ (x : Profile). x.time ≤ q.time) (eqb q.segment 0) (λ _. omega arith) (λ _. omega (arith, hand_time q)))

      go : (command : Command) → (q.hold ≡ true) ⊎ (command ≡ Nothing → ⊥) → Still (worked_by command program.pair period q setpoint)
      go Start _ = (refl, omega arith)
      go Hold _ = held true
      go Resume _ = held false
      go Jog _ = jogged
      go Nothing (inl on) = rw on (refl, omega arith)
      go Nothing (inr other) = absurd (other refl)

low_bits : (n : ℕ) → (n % 16 / 1 % 2 ≡ n / 1 % 2) × (n % 16 / 2 % 2 ≡ n / 2 % 2) × (n % 16 / 4 % 2 ≡ n / 4 % 2) × (n % 16 / 8 % 2 ≡ n / 8 % 2)
low_bits n = (omega arith, omega arith, omega arith, omega arith)

-- ---- a sample of a loop outside Cascade

module _ (d : Desk) (k raw : ℕ) (e : is_cascade (reading_at d k).mode ≡ false) where
  fault_is : (step_at d k raw).written.fault ≡ cond (bit 11 (word_of d k 0)) (fault_of (word_of d k 28)) 0
  unfolding step_of written_of sensed_of fault_after reading_of
  fault_is = rw e (program_fault d.words (word_of d k 28) _ _ _ ∙ ap (λ (m : Mode1). cond m.profile (fault_of (word_of d k 28)) 0) (by_words d k).mode1)

  none_on : (bit 11 (word_of d k 0) && eqb (step_at d k raw).written.fault 0) ≡ false → (reading_at d k).program.on ≡ false
  unfolding reading_of
  none_on off = go (reading_at d k).program.on refl
    where
      go : (b : Bool) → (reading_at d k).program.on ≡ b → (reading_at d k).program.on ≡ false
      go false h = h
      go true h =
          let p = program_on d.words (word_of d k 28) _ _ _ h in
          let on : bit 11 (word_of d k 0) ≡ true = rw (by_words d k).mode1 at p.0 in
          let good : (step_at d k raw).written.fault ≡ 0 = fault_is ∙ rw on p.1 in
          let z : true ≡ false = rw (on, good) at off in
          cc

  telling : let s = step_at d k raw in
      (s.written.flags % 16 ≡ 0) × (s.written.flags / 256 ≡ s.carried.state.profile.segment)
      × (bit 5 s.written.flags ≡ true → (reading_at d k).program.pair.deviation < apart s.written.setpoint s.written.pv)
  unfolding step_of written_of next_of sensed_of profiled_of sampled_by
  telling = rw e (flags_tell _ _ _ _)

  -- where a profile runs, the setpoint is word 2, at an entry too
  target : (change : Bool) (p : ℕ) → target_of (reading_at d k) change true p ≡ word_of d k 2
  unfolding target_of setpoint_of
  target change p =
      let state = (carried_at d.numbers k).state in
      rw (no_transfer d.words k (former_of state) e)
      (go (change && is_automatic (reading_at d k).mode && not (reading_at d k).settings.mode1.bumpless) ∙ rw e (by_words d k).setpoint)
    where
      go : (a : Bool) → cond (a && not true) p (setpoint_of (reading_at d k)) ≡ setpoint_of (reading_at d k)
      go true = refl
      go false = refl

pub profiled : Profiled
unfolding step_of written_of next_of sensed_of profiled_of sampled_by advanced_by flags_of fault_after fault_of command_of
profiled = record {
  waits = λ d k raw e. (rw e (by_words d k).flags, rw e (by_words d k).fault, rw e);
  faults = λ d k raw e.
      let is = fault_is d k raw e in (
        λ off. is ∙ rw off,
        λ on. (
          λ low. is ∙ rw (on, lt-ltb _ _ low),
          λ high. is ∙ rw (on, le-ltb (word_of d k 28) 512 (omega arith), lt-ltb _ _ high),
          λ low high. is ∙ rw (on, le-ltb _ _ low, le-ltb _ _ high),
        ),
      );
  ends = λ d k raw e off. let f = none_on d k raw e off in (rw (e, f), rw (e, f), rw (e, f), rw (e, f));
  commands = λ flags. let l = low_bits flags in rw (l.0, l.1, l.2, l.3);
  tells = telling;
  still = λ program q flags period setpoint. still q period setpoint program flags;
  own = λ program q flags period setpoint e. advanced_stays program q flags period setpoint e;
  runs = λ d k raw other e f. (rw (e, f, target d k raw e, target d k other e), rw (e, f, target d k raw e, target d k other e));
  less = one_less;
  none = none_left;
}
