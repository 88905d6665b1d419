-- `desk::sample` meets its contract, by its admission: a refusal, or what is stepped and written back.
use Rattle.std.specs.Prelude.{Ok}
use Rattle.refusals.specs.Refusals.{accepted}
use native.Mathlib.Omega.{arith}
use Rattle.std.proofs.Common.{rules, Err}
use Rattle.refusals.specs.declared.Refusal.{Refusal}
use Prim.Native.Nat.{ℕ}
use mathlib.Core.Path.{◌≡◌, sym, ap, ◌∙◌}
use Rattle.engine.specs.Steps.{step_of}
use Rattle.desk.specs.declared.admitting.Admitted.{Admitted}
use Rattle.desk.specs.Desk.{Desk, lent, sample_answer, admitted_at, admission_at, step_at, sampled_at, sample_left}
use Rattle.desk.proofs.Laws.Desk.{admission_refused, admission_sample, Sampled, sampled, shown_refused, shown_done, major_few}
use Rattle.desk.proofs.sampling.sample.Goals as goal

-- what is known of an admitted sample
record Known (d : Desk) (k raw : ℕ) (a : Admitted) : Type 0 where
  answer : sample_answer d k raw ≡ accepted
  is : a ≡ admitted_at d k raw
  facts : Sampled d k raw

known : (d : Desk) (k raw : ℕ) {a : Admitted} → admission_at d k raw ≡ Ok a → Known d k raw a
known d k raw e =
    let p = admission_sample d k raw e in record { answer = p.0; is = p.1; facts = sampled d k raw p.0 }

pub step-done-requires : goal.step-done-requires
step-done-requires c =
    let s = known _ _ _ (sym c.admit.ensures ∙ c.in_ok-a.was) in rw s.is (s.facts.reading, s.facts.carried)

pub overflow_cast-number : goal.overflow_cast-number
overflow_cast-number c =
    let s = known _ _ _ (sym c.admit.ensures ∙ c.in_ok-a.was) in omega (arith, s.facts.below)

pub write_back-requires : goal.write_back-requires
write_back-requires c =
    let d = lent c.args.words.now c.args.numbers.now in
    let s = known d c.args.number c.args.raw (sym c.admit.ensures ∙ c.in_ok-a.was) in
    (s.facts.memory.words, s.facts.memory.numbers, s.facts.below, rw s.is (major_few d c.args.number))

module _ (d : Desk) (k raw : ℕ) {why : Refusal} (e : admission_at d k raw ≡ Err why) where
  refused : (Err why ≡ sampled_at d k raw) × (d ≡ sample_left d k raw)
  refused = shown_refused d k raw (admission_refused d k raw e)

pub returns-in_err-a-clause-sampled : goal.returns-in_err-a-clause-sampled
returns-in_err-a-clause-sampled c = let p = (refused _ _ _ (sym c.admit.ensures ∙ c.in_err-a.was)).0 in search rules

pub returns-in_err-a-clause-left : goal.returns-in_err-a-clause-left
returns-in_err-a-clause-left c = (refused _ _ _ (sym c.admit.ensures ∙ c.in_err-a.was)).1

pub returns : goal.returns
returns c =
    let d = lent c.args.words.now c.args.numbers.now in
    let s = known d c.args.number c.args.raw (sym c.admit.ensures ∙ c.in_ok-a.was) in
    let stepped : c.step-done.result ≡ step_at d c.args.number c.args.raw
    = c.step-done.ensures ∙ ap (λ (a : Admitted). step_of a.reading a.carried a.pv) s.is in
    let p = shown_done d c.args.number c.args.raw s.answer in
    record { sampled = rw stepped p.0; left = rw (c.write_back.ensures, s.is, stepped) p.1 }
