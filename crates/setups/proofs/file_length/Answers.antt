-- `setups::file_length` meets its contract: with the bytes of the words that are left it would be the file's length.
use Rattle.std.proofs.Common.{◌≡◌, sym, ◌∙◌, ◌+◌, ◌≤◌, ◌<◌, arith, length, get_or, drop}
use Rattle.setups.specs.Setup.{bytes_of, bytes_from}
use Rattle.setups.proofs.Laws.Setup.{bytes_few, bytes_none, length_step}
use Rattle.setups.proofs.file_length.Goals as goal
use Rattle.setups.proofs.file_length.Goals.{then-handed_on, else-handed_on}

pub loop-address-preserved : goal.loop-address-preserved
loop-address-preserved c =
    let l = c.loop-address in
    let words = c.args.words.now in
    let test = sym c.handed_on.ensures in
    let added : c.if-handed_on.n ≡ l.n + length (bytes_of l.address (get_or words l.address 0)) =
    elim c.if-handed_on.branch [
      | then-handed_on w ↦ rw (test ∙ w.if-handed_on.true) w.n-is
      | else-handed_on w ↦ rw (test ∙ w.if-handed_on.false) (omega (arith, w.n-is))
    ] in
    let on : l.address < length words = omega arith in
    (omega (arith, bytes_few l.address (get_or words l.address 0)), omega (arith, length_step words l.address on, l.invariant.1))

pub returns : goal.returns
returns c =
    let l = c.loop-address in
    let words = c.args.words.now in
    let all : length words ≤ l.address = omega arith in
    let none : length (bytes_from l.address (drop l.address words)) ≡ 0 = rw (bytes_none words l.address all) in
    omega (arith, l.invariant.1)
