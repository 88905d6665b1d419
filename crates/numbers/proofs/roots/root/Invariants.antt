-- `numbers::root` meets its contract. The invariant: after some rounds x is as close to the root as `closeness` says.
use Prim.Native.Nat.{◌-◌, ◌≤◌}
use Rattle.numbers.specs.Roots.Newton.{Close}
use Rattle.numbers.proofs.Laws.Newton.{closeness}
use Rattle.numbers.proofs.roots.root.Given as goal

abbrev pub invariant-loop : goal.invariant-loop
invariant-loop l = (l.counter ≤ 2) × Close (closeness l.counter) l.v l.x

abbrev pub decreases-loop : goal.decreases-loop
decreases-loop l = 2 - l.counter
