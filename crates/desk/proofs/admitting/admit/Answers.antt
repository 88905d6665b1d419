-- `desk::admit` meets its contract: at each answer, the tests that led there pick the case, one group after the other.
use native.Mathlib.Omega.{arith}
use Rattle.std.proofs.Common.{rules, Err}
use Prim.Native.Nat.{ℕ}
use mathlib.Core.Path.{◌≡◌, sym, ap, ◌∙◌}
use mathlib.Core.List.{List}
use lib.IntN.{ℤ}
use Rattle.reading.specs.declared.reading.Reading.{Reading}
use Rattle.reading.specs.declared.reading.Former.{Former}
use Rattle.reading.specs.Reading.{reading_of}
use Rattle.carried.specs.declared.record.Carried.{Carried}
use Rattle.carried.specs.Former.{former_of}
use Rattle.carried.specs.Layout.{slot_of, numbers_at, carried_at}
use Rattle.carried.specs.Layout.Laws.{ranged}
use Rattle.refusals.specs.Refusals.{first_of, Answer, accepted, accepted_with}
use Rattle.judging.specs.Judging.{reading_cases}
use Rattle.desk.specs.Desk.{Desk, lent, loop_cases, reading_at, sample_answer, admitted_at, admission_of, admission_at}
use Rattle.desk.proofs.Laws.Desk.{sound, Known, known_loop_lem, loop_refused, past_loop}
use Rattle.desk.proofs.admitting.admit.Goals as goal

pub returns-then-not-fitting : goal.returns-then-not-fitting
unfolding admission_at sample_answer
returns-then-not-fitting c = simp (sym c.fitting.ensures ∙ c.if-not-fitting.true)

-- memory of the right lengths
pub known_loop-requires : goal.known_loop-requires
known_loop-requires c = (sound (lent c.args.words.now c.args.numbers.now) (sym c.fitting.ensures ∙ c.if-not-fitting.false)).numbers

pub returns-in_err-known_loop : goal.returns-in_err-known_loop
unfolding admission_at
returns-in_err-known_loop c =
    let a = c.args in
    let d : Desk = lent a.words.now a.numbers.now in
    let refused : accepted_with (sample_answer d a.number a.raw) (admitted_at d a.number a.raw) ≡ Err c.in_err-known_loop.field-0.0
    = ap (λ (x : Answer). accepted_with x (admitted_at d a.number a.raw))
    (loop_refused d a.number a.raw (sym c.fitting.ensures ∙ c.if-not-fitting.false) (sym c.known_loop.ensures ∙ c.in_err-known_loop.was)) in
    search rules

-- the loop, with its record in range
loop : (ns : List ℤ) (k : ℕ) {a : Answer} → a ≡ first_of (loop_cases ns k) → a ≡ accepted → Known ns k
loop ns k e f = known_loop_lem ns k (sym e ∙ f)

pub overflow_cast-k : goal.overflow_cast-k
overflow_cast-k c = omega (arith, (loop c.args.numbers.now c.args.number c.known_loop.ensures c.in_ok-known_loop.was).below)

pub numbers_at-requires : goal.numbers_at-requires
numbers_at-requires c =
    omega (
      arith,
      c.slot_of.ensures,
      (sound (lent c.args.words.now c.args.numbers.now) (sym c.fitting.ensures ∙ c.if-not-fitting.false)).numbers,
      (loop c.args.numbers.now c.args.number c.known_loop.ensures c.in_ok-known_loop.was).below,
    )

pub read_loop-reading-requires : goal.read_loop-reading-requires
read_loop-reading-requires c =
    let ns = c.args.numbers.now in
    let k = c.args.number in
    let size = (sound (lent c.args.words.now ns) (sym c.fitting.ensures ∙ c.if-not-fitting.false)).words in
    let l = loop ns k c.known_loop.ensures c.in_ok-known_loop.was in
    let former : c.from.result ≡ former_of (carried_at ns k).state = cc in
    (omega (arith, size, l.below), omega (arith, size), rw former (ranged (numbers_at ns (slot_of k)) l.range).profile.segment)

-- what is read is the loop's, and so is what is judged of it
pub returns : goal.returns
unfolding admission_at
returns c =
    let d : Desk = lent c.args.words.now c.args.numbers.now in
    let k = c.args.number in
    let raw = c.args.raw in
    let carried : c.record_of-carried.result ≡ carried_at d.numbers k = cc in
    let former : c.from.result ≡ former_of (carried_at d.numbers k).state = cc in
    let reading : c.read_loop-reading.result ≡ reading_at d k = c.read_loop-reading.ensures ∙ ap (λ (f : Former). reading_of d.words k f) former in
    let answer : sample_answer d k raw ≡ first_of (reading_cases (reading_at d k) raw)
    = past_loop d k raw (sym c.fitting.ensures ∙ c.if-not-fitting.false) (sym c.known_loop.ensures ∙ c.in_ok-known_loop.was) in
    c.admit_read.ensures
    ∙ ap (λ (x : Carried). admission_of x c.read_loop-reading.result raw) carried
    ∙ ap (λ (r : Reading). admission_of (carried_at d.numbers k) r raw) reading
    ∙ sym (ap (λ (x : Answer). accepted_with x (admitted_at d k raw)) answer)
