-- `carried::out_of_range` meets its contract: what was found so far, and the numbers that are left beside the rows that are left.
use mathlib.Core.Path.{◌≡◌}
use mathlib.Core.Bool.{◌||◌}
use Rattle.carried.specs.Layout.{out_of_range}
use Rattle.carried.proofs.Rows.{beside}
use Rattle.carried.proofs.layout.out_of_range.Given as goal

abbrev pub invariant-loop-n : goal.invariant-loop-n
invariant-loop-n l = (l.found || beside l.n-iterator.a.rest.now l.n-iterator.b.rest.now) ≡ out_of_range l.fn.n
