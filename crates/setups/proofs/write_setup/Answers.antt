-- `setups::write_setup` meets its contract: at each answer, the tests that led there pick the case.
use Rattle.std.specs.Prelude.{Err}
use native.Mathlib.Omega.{arith}
use mathlib.Core.Path.{◌≡◌, ap, ◌∙◌}
use lib.ListN.{length}
use borrow.Author.Tests.{ne_eqb, lt-ltb, le-ltb}
use Rattle.std.specs.Prelude.{Ok, Err}
use Rattle.refusals.specs.declared.Refusal.TheVariants.{Memory, Room}
use Rattle.refusals.specs.Refusals.{first_of, accepted}
use Rattle.setups.specs.Setup.{setup_of, setup_cases, setup_answer, setup_left}
use Rattle.setups.proofs.Laws.Setup.{promised}
use Rattle.setups.proofs.write_setup.Goals as goal

pub returns-then-words-ne-WORDS : goal.returns-then-words-ne-WORDS
unfolding setup_answer setup_left
returns-then-words-ne-WORDS c =
    let a = c.args in
    let words = a.words.now in
    let out = a.out.now in
    let e : first_of (setup_cases words (length out)) ≡ Err Memory = rw (ne_eqb (length words) 1024 c.if-words-ne-WORDS.true) in
    let p = promised (setup_of words) out e in
    record { answer = p.0; left = p.1 }

pub returns-then-out-file_length : goal.returns-then-out-file_length
unfolding setup_answer setup_left
returns-then-out-file_length c =
    let a = c.args in
    let words = a.words.now in
    let out = a.out.now in
    let short = lt-ltb (length out) (length (setup_of words)) (omega (arith, c.if-out-file_length.true, c.file_length.ensures)) in
    let e : first_of (setup_cases words (length out)) ≡ Err Room = rw (c.if-words-ne-WORDS.false, short) in
    let p = promised (setup_of words) out e in
    record { answer = p.0; left = p.1 }

pub returns : goal.returns
unfolding setup_answer setup_left
returns c =
    let put = c.put_file.ensures in
    let a = c.args in
    let words = a.words.now in
    let out = a.out.now in
    let enough = le-ltb (length out) (length (setup_of words)) (omega (arith, c.if-out-file_length.false, c.file_length.ensures)) in
    let e : first_of (setup_cases words (length out)) ≡ accepted = rw (c.if-words-ne-WORDS.false, enough) in
    let p = promised (setup_of words) out e in
    let size : c.put_file.result ≡ length (setup_of words) = omega (arith, put.place) in
    record { answer = ap (λ n. Ok n) size ∙ p.0; left = put.buffer ∙ p.1 }
