-- A line that was put at the start of a buffer is what stands there, and what is written of it.
use Rattle.std.proofs.Common.{◌≡◌, ℕ, ◌≤◌, List, Option, arith, length, take, ap, ◌∙◌, subst}
use lib.Seq.{length-sets}
use Rattle.text.specs.Text.{Written}
use Rattle.text.specs.Text.Laws.{take_sets}
use Rattle.streams.specs.Steps.{AppendsStart}

pub written_line : {line out text : List ℕ} {n : ℕ} → Written line 0 text out n → n ≤ length out → take n out ≡ text
written_line {line} {out} {text} {n} h fits =
    let size : length out ≡ length line = ap (λ (l : List ℕ). length l) h.buffer ∙ length-sets line 0 text in
    let place : n ≡ length text = omega (arith, h.place) in
    ap (λ m. take m out) place ∙ ap (λ l. take (length text) l) h.buffer ∙ take_sets line text (omega (arith, size, h.place, fits))

pub appends_line : {line out text : List ℕ} {n : ℕ} (old new : Option (List ℕ)) → Written line 0 text out n → n ≤ length out
    → AppendsStart old new (take n out) → AppendsStart old new text
appends_line old new h fits start = subst (AppendsStart old new) (written_line h fits) start
