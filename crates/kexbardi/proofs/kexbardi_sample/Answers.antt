-- `kexbardi::kexbardi_sample` meets its contract: it is the desk's call, and the line is the one that the call shows.
use Rattle.std.specs.Prelude.{Err, Ok}
use Prim.Native.Nat.{ℕ}
use native.Mathlib.Omega.{arith}
use mathlib.Core.Path.{◌≡◌, sym, ap, ◌∙◌}
use mathlib.Core.List.{List, [], ◌∷◌}
use borrow.Author.Tests.{ne_eqb}
use Rattle.refusals.specs.declared.Refusal.{Refusal}
use Rattle.refusals.specs.Refusals.{number_of_refusal, number_of, accepted}
use Rattle.refusals.specs.Refusals.Laws.{in_table}
use Rattle.desk.specs.declared.sampling.Line.{Line}
use Rattle.desk.specs.Desk.{Desk, sample_answer, answer_shown, sampled_at}
use Rattle.desk.proofs.Laws.Desk.{answer_shown_lem, line_shown}
use Rattle.kexbardi.specs.Interface.{line_left}
use Rattle.kexbardi.proofs.kexbardi_sample.Goals as goal

-- a refused sample leaves the line, and one that is shown writes it
refused_line : (d : Desk) (k raw : ℕ) (line : List ℕ) {why : Refusal} → sampled_at d k raw ≡ Err why
    → (number_of (sample_answer d k raw) ≡ number_of_refusal why) × (line_left d k raw line ≡ line)
unfolding line_left
refused_line d k raw line {why} e =
    let answer : sample_answer d k raw ≡ Err why = sym (answer_shown_lem d k raw) ∙ ap answer_shown e in
    let some = (in_table why).0 in
    (rw answer, rw (answer, ne_eqb (number_of_refusal why) 0 (λ z. omega (arith, some))))

shown_line : (d : Desk) (k raw : ℕ) (line : List ℕ) {l : Line} → sampled_at d k raw ≡ Ok l
    → (number_of (sample_answer d k raw) ≡ 0) × (line_left d k raw line ≡ l.setpoint ∷ l.pv ∷ l.output ∷ l.status ∷ [])
unfolding line_left
shown_line d k raw line {l} e =
    let answer : sample_answer d k raw ≡ accepted = sym (answer_shown_lem d k raw) ∙ ap answer_shown e in
    (rw answer, rw answer (sym (ap (λ (m : Line). m.setpoint ∷ m.pv ∷ m.output ∷ m.status ∷ []) (line_shown d k raw e))))

pub returns-in-Err-clause-number : goal.returns-in-Err-clause-number
returns-in-Err-clause-number c =
    c.number_of.ensures ∙ sym (refused_line _ _ _ c.args.line.now (sym c.sample.ensures.sampled ∙ c.in-Err.is)).0

pub returns-in-Err-clause-line : goal.returns-in-Err-clause-line
returns-in-Err-clause-line c = sym (refused_line _ _ _ _ (sym c.sample.ensures.sampled ∙ c.in-Err.is)).1

pub returns-in-Ok-clause-number : goal.returns-in-Ok-clause-number
returns-in-Ok-clause-number c = sym (shown_line _ _ _ c.args.line.now (sym c.sample.ensures.sampled ∙ c.in-Ok.is)).0

pub returns-in-Ok-clause-line : goal.returns-in-Ok-clause-line
returns-in-Ok-clause-line c = c.into.ensures ∙ sym (shown_line _ _ _ _ (sym c.sample.ensures.sampled ∙ c.in-Ok.is)).1
