-- What `hand_on` comes to, in plain values: the words that a file leaves, their setup file, and room for it.
use Prim.Native.Nat.{ℕ, ◌≤◌, ◌<◌}
use native.Mathlib.Omega.{arith}
use mathlib.Core.Path.{◌≡◌, refl, sym, ap, ◌∙◌}
use mathlib.Core.List.{List}
use lib.IntN.{ℤ}
use lib.ListN.{length}
use Rattle.std.proofs.Common.{length-take-le, true, Result, Ok, IsOk}
use lib.Seq.{sets, length-sets}
use borrow.Author.Tests.{lt-ltb, le-ltb}
use Rattle.streams.specs.Counts.{IsPrefixLen}
use Rattle.text.specs.Text.{Written}
use Rattle.refusals.specs.declared.Refusal.{Refusal}
use Rattle.desk.specs.Desk.{Desk, lent, fitting_of, reset_desk, reset_answer}
use Rattle.desk.proofs.Laws.Desk.{reset_fits}
use Rattle.setups.specs.Setup.{setup_of, setup_answer, setup_left}
use Rattle.setups.proofs.Laws.Setup.{setup_short, setup_fits}
use Rattle.session.specs.Session.{left_of, ended_of}
use Rattle.setup.specs.Handing.{written_of}

-- memory that has its lengths is reset, and any file is run on what that leaves
pub reset_taken : (d : Desk) → fitting_of d ≡ true → IsOk (reset_answer d)
unfolding reset_answer
reset_taken d fit = rw fit refl

pub run_taken : (file : List ℕ) → IsOk (ended_of file reset_desk)
unfolding ended_of
run_taken file = rw reset_fits refl

prefix : (n : ℕ) (xs : List ℕ) → n ≤ length xs → IsPrefixLen n xs
prefix n xs h = (h, sym (length-take-le n xs h))

-- of a file that is too long, nothing
pub too_long : (file out : List ℕ) → 65536 < length file → Written out 0 (written_of file) out 0 × IsPrefixLen 0 out
unfolding written_of
too_long file out h = rw (lt-ltb 65536 (length file) h) (record { buffer = refl; place = refl }, prefix 0 out (omega arith))

-- of any other, the setup file of the words that it leaves
pub record Handed (file out : List ℕ) (wrote : Result ℕ Refusal) (after : List ℕ) : Type 0 where
  pub answer : wrote ≡ Ok (length (written_of file))
  pub left : after ≡ sets out 0 (written_of file)
  pub room : length (written_of file) ≤ length out

file_there : (file words : List ℕ) (numbers : List ℤ) → length file ≤ 65536 → lent words numbers ≡ left_of file reset_desk → written_of file ≡ setup_of words
unfolding written_of
file_there file words numbers low left = rw (le-ltb 65536 (length file) low, ← left)

pub handed : (file out words after : List ℕ) (numbers : List ℤ) {wrote : Result ℕ Refusal} → length file ≤ 65536 → lent words numbers ≡ left_of file reset_desk
    → length words ≡ 1024 → 7680 ≤ length out → wrote ≡ setup_answer words (length out) → after ≡ setup_left words out → Handed file out wrote after
handed file out words after numbers low left size room answer put =
    let same = file_there file words numbers low left in
    let enough : length (setup_of words) ≤ length out = omega (arith, setup_short words size) in
    let fits = setup_fits words out size enough in
    record { answer = rw same (answer ∙ fits.0); left = rw same (put ∙ fits.1); room = rw same enough }

module _ (file out after : List ℕ) {wrote : Result ℕ Refusal} (h : Handed file out wrote after) where
  pub written : (n : ℕ) → wrote ≡ Ok n → Written out 0 (written_of file) after n × IsPrefixLen n after
  written n e =
      let same : n ≡ length (written_of file) = cc h.answer in
      let long : length after ≡ length out = ap (λ (l : List ℕ). length l) h.left ∙ length-sets out 0 (written_of file) in
      (record { buffer = h.left; place = omega (arith, same) }, prefix n after (omega (arith, h.room)))
