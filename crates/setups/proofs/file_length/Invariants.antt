-- `setups::file_length`: with the bytes of the words that are left it would be the file's length.
use Rattle.std.proofs.Common.{◌≡◌, ◌+◌, ◌*◌, ◌≤◌, length, drop}
use Rattle.setups.specs.Setup.{bytes_from, setup_of}
use Rattle.setups.proofs.file_length.Given as goal

abbrev pub invariant-loop-address : goal.invariant-loop-address
invariant-loop-address l = (l.n ≤ 8 * l.address) × (l.n + length (bytes_from l.address (drop l.address l.words)) ≡ length (setup_of l.words))
