-- Each round moves a byte or uses up a try, and the writer holds the part of the text in front of what is left.
use Rattle.std.proofs.Common.{◌≡◌, ◌+◌, ◌≤◌, ℕ, length, take, drop}
use Rattle.std.specs.Io.KnownBytes.{Appends}
use Rattle.streams.proofs.writing.write_whole.Given as goal

abbrev pub invariant-loop-rest : goal.invariant-loop-rest
invariant-loop-rest g l = (n : ℕ) × (n ≤ length l.fn.buf) × (l.rest ≡ drop n l.fn.buf) × Appends (g.W.Write.contents l.fn.writer) (g.W.Write.contents l.writer) (take n l.fn.buf)

abbrev pub decreases-loop-rest : goal.decreases-loop-rest
decreases-loop-rest g l = length l.rest + l.tries
