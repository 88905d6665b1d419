-- `setups::put_file` meets its contract: writing the bytes of the words that are left, from the place on, would complete the file.
use Rattle.std.proofs.Common.{◌≡◌, ◌+◌, length, drop}
use Rattle.std.proofs.lemmas.List.Edits.{sets}
use Rattle.setups.specs.Setup.{bytes_from, setup_of}
use Rattle.setups.proofs.put_file.Given as goal

abbrev pub invariant-loop-address : goal.invariant-loop-address
invariant-loop-address l =
    let file = l.file in
    let start = l.initial.file in
    let left = bytes_from l.address (drop l.address l.words) in
    (file.out.ghost_name ≡ start.out.ghost_name) × (length file.out.now ≡ length start.out.now) × (file.at + length left ≡ start.at + length (setup_of l.words))
    × (sets file.out.now file.at left ≡ sets start.out.now start.at (setup_of l.words))
