-- `carried::put_numbers` meets its contract: after i turns the first i numbers are stored.
use lib.Seq.{sets}
use lib.ListN.{length, drop}
use Prim.Native.Nat.{◌+◌}
use mathlib.Core.Path.{◌≡◌}
use Rattle.carried.proofs.layout.put_numbers.Given as goal

abbrev pub invariant-loop-i : goal.invariant-loop-i
invariant-loop-i l = (length l.numbers ≡ length l.initial.numbers) × (sets l.numbers (l.at + l.i) (drop l.i l.fn.fields) ≡ sets l.initial.numbers l.at l.fn.fields)
