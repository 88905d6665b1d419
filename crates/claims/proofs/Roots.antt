-- What is promised of the PV with the root on, proved.
use Prim.Native.Nat.{ℕ, ◌*◌, ◌≤◌}
use native.Mathlib.Omega.{arith}
use native.Mathlib.Nat.{mul-le-mul}
use mathlib.Core.Path.{◌≡◌, ap, ◌∙◌}
use mathlib.Core.Bool.{true, false}
use mathlib.Core.List.{◌++◌}
use borrow.Author.Tests.{ltb-false}
use Rattle.numbers.specs.Roots.{Nearest}
use Rattle.numbers.proofs.Laws.Roots.{root_exact, root_no_tie, root_only, root_order, square_root}
use Rattle.refusals.specs.Refusals.{number_of, accepted}
use Rattle.refusals.specs.Refusals.Laws.{accepted_only, accepted_rest}
use Rattle.table.specs.declared.format.Format.{Format}
use Rattle.table.specs.Words.{bit}
use Rattle.table.specs.Words.Laws.{input_scaled}
use Rattle.measuring.specs.Measuring.{pv_of}
use Rattle.judging.specs.Judging.{reading_cases}
use Rattle.judging.specs.Judging.Laws.{passed}
use Rattle.engine.specs.Sensing.{sensed_of}
use Rattle.engine.specs.Writing.{written_of}
use Rattle.engine.specs.Steps.{step_of}
use Rattle.desk.specs.Desk.{Desk, memory_cases, loop_cases, reading_at, sample_answer}
use Rattle.claims.specs.Words.{word_of, word_left, input_full}
use Rattle.claims.specs.Roots.{Rooted}
use Rattle.claims.proofs.Calls.{by_words}
use Rattle.claims.proofs.Demand2.{demand_2}

-- N9: the raw PV of an accepted sample is within full scale
within : (d : Desk) (k raw : ℕ) → sample_answer d k raw ≡ accepted → raw ≤ input_full d k
unfolding sample_answer
within d k raw e =
    let p = accepted_rest (memory_cases d) (loop_cases d.numbers k ++ reading_cases (reading_at d k) raw) e in
    let q = accepted_rest (loop_cases d.numbers k) (reading_cases (reading_at d k) raw) p.1 in
    ltb-false (input_full d k) raw (passed (reading_at d k) raw q.1).above

module _ (d : Desk) (k raw : ℕ) (e : number_of (sample_answer d k raw) ≡ 0) where
  near : bit 6 (word_of d k 0) ≡ true → Nearest (raw * input_full d k) (word_left d k raw 3)
  unfolding step_of written_of sensed_of pv_of
  near on =
      let below : raw ≤ input_full d k = within d k raw (accepted_only (sample_answer d k raw) e) in
      let high : input_full d k ≤ 65535 = omega (arith, (input_scaled (word_of d k 1)).high, ap (λ (f : Format). f.scale) (by_words d k).input) in
      let small : raw ≤ 65535 = omega arith in
      rw ((demand_2.exact d k raw e).pv, (by_words d k).mode1, on) (root_exact (raw * input_full d k) (omega (arith, mul-le-mul small high)))

  bare : bit 6 (word_of d k 0) ≡ false → word_left d k raw 3 ≡ raw
  unfolding step_of written_of sensed_of pv_of
  bare off = (demand_2.exact d k raw e).pv ∙ rw ((by_words d k).mode1, off)

pub rooted : Rooted
rooted = record {
  near = near;
  bare = bare;
  only = λ v r s p q. root_only p q;
  half = λ v r p. root_no_tie p;
  full = square_root;
  order = λ v w r s h p q. root_order p q h;
}
