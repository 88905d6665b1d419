-- `desk::forecast` meets its contract, by the admission of a sample with raw PV 0.
use Rattle.std.specs.Prelude.{Ok}
use Rattle.refusals.specs.Refusals.{Answer, accepted, accepted_with}
use native.Mathlib.Omega.{arith}
use Rattle.std.proofs.Common.{rules, Err}
use Prim.Native.Nat.{ℕ}
use mathlib.Core.Path.{◌≡◌, sym, ap, ◌∙◌}
use Rattle.reading.proofs.Laws.Reading.{table_inside}
use Rattle.carried.specs.Former.{former_of}
use Rattle.carried.specs.Layout.{carried_at}
use Rattle.desk.specs.declared.admitting.Admitted.{Admitted}
use Rattle.desk.specs.Desk.{Desk, lent, sample_answer, admitted_at, admission_at, remaining_of, forecast_at}
use Rattle.desk.proofs.Laws.Desk.{admission_refused, admission_sample, Sampled, sampled}
use Rattle.desk.proofs.forecasting.forecast.Goals as goal

-- what is known of an admitted sample with raw PV 0
record Known (d : Desk) (k : ℕ) (a : Admitted) : Type 0 where
  answer : sample_answer d k 0 ≡ accepted
  is : a ≡ admitted_at d k 0
  facts : Sampled d k 0

known : (d : Desk) (k : ℕ) {a : Admitted} → admission_at d k 0 ≡ Ok a → Known d k a
known d k e = let p = admission_sample d k 0 e in record { answer = p.0; is = p.1; facts = sampled d k 0 p.0 }

pub overflow_cast-number : goal.overflow_cast-number
overflow_cast-number c =
    let s = known _ _ (sym c.admit.ensures ∙ c.in_ok-a.was) in omega (arith, s.facts.below)

pub remaining-requires : goal.remaining-requires
remaining-requires c =
    let d = lent c.args.words.now c.args.numbers.now in
    let k = c.args.number in
    let s = known d k (sym c.admit.ensures ∙ c.in_ok-a.was) in
    rw s.is
    (λ on. (let inside = table_inside d.words k (former_of (carried_at d.numbers k).state) on in omega (arith, s.facts.memory.words)), s.facts.carried.profile.segment, omega (arith, s.facts.reading.tuned.sampling))

pub returns-in_err-a : goal.returns-in_err-a
unfolding forecast_at
returns-in_err-a c =
    let d = lent c.args.words.now c.args.numbers.now in
    let k = c.args.number in
    let refused : accepted_with (sample_answer d k 0) (remaining_of d k) ≡ Err c.in_err-a.field-0.0
    = ap (λ (x : Answer). accepted_with x (remaining_of d k)) (admission_refused d k 0 (sym c.admit.ensures ∙ c.in_err-a.was)) in
    search rules

pub returns : goal.returns
unfolding forecast_at remaining_of
returns c = let s = known _ _ (sym c.admit.ensures ∙ c.in_ok-a.was) in rw (s.answer, c.remaining.ensures, s.is)
