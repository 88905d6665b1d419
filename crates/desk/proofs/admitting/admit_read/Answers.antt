-- `desk::admit_read` meets its contract: judged, and at a transfer by the major loop.
use native.Mathlib.Omega.{arith}
use Prim.Native.Nat.{ℕ}
use mathlib.Core.Path.{◌≡◌, sym, ap, ◌∙◌}
use mathlib.Core.List.{List, [], ◌∷◌}
use borrow.Author.Tests.{ltb-false}
use Rattle.std.proofs.Common.{rules, Err}
use Rattle.refusals.specs.declared.Refusal.TheVariants.{Transfer as NoTransfer}
use Rattle.refusals.specs.Refusals.{Case, ◌⇒◌, first_of, Answer, accepted, accepted_with}
use Rattle.refusals.specs.Refusals.Laws.{accepted_at, refused_first, accepted_first}
use Rattle.reading.specs.declared.reading.Reading.{Reading}
use Rattle.measuring.specs.Measuring.{measured_of}
use Rattle.judging.specs.Judging.{setting_cases, bad_major, reading_cases}
use Rattle.desk.specs.Desk.{admitted_of, admission_of}
use Rattle.desk.proofs.admitting.admit_read.Goals as goal

-- N11, behind the others
abbrev last : Reading → ℕ → List Case
last r raw = (bad_major r.transfer r.major (measured_of r raw) ⇒ NoTransfer) ∷ []

-- past the others
pub overflow_cast-raw : goal.overflow_cast-raw
overflow_cast-raw c =
    let a = c.args in
    let passed : first_of (setting_cases a.reading a.raw) ≡ accepted = sym c.judge.ensures ∙ c.in_ok-judge.was in
    omega (arith, c.requires, ltb-false a.reading.settings.mode2.input.scale a.raw (accepted_at (setting_cases a.reading a.raw) passed 5))

-- it is N11 that decides
pub returns-then-bad_major : goal.returns-then-bad_major
returns-then-bad_major c =
    let a = c.args in
    let passed : first_of (setting_cases a.reading a.raw) ≡ accepted = sym c.judge.ensures ∙ c.in_ok-judge.was in
    let bad : bad_major a.reading.transfer a.reading.major (measured_of a.reading a.raw) ≡ c.bad_major.result = cc in
    let e : first_of (reading_cases a.reading a.raw) ≡ Err NoTransfer
    = accepted_first (setting_cases a.reading a.raw) (last a.reading a.raw) passed ∙ rw (bad, c.if-bad_major.true) in
    sym (ap (λ (x : Answer). accepted_with x (admitted_of a.carried a.reading a.raw)) e)

pub returns-in_err-judge : goal.returns-in_err-judge
returns-in_err-judge c =
    let a = c.args in
    let refused : admission_of a.carried a.reading a.raw ≡ Err c.in_err-judge.field-0.0
    = ap (λ (x : Answer). accepted_with x (admitted_of a.carried a.reading a.raw))
    (refused_first (setting_cases a.reading a.raw) (last a.reading a.raw) (sym c.judge.ensures ∙ c.in_err-judge.was)) in
    search rules
