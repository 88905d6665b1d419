-- `numbers::root` meets its contract. The invariant: after some rounds x is as close to the root as `closeness` says.
use Rattle.std.proofs.Common.{◌≡◌, ℕ, ◌-◌, arith}
use Rattle.numbers.specs.Roots.Newton.{Close}
use Rattle.numbers.proofs.Laws.Newton.{closeness, close_after, round_fits, ends_at, ends_before}
use Rattle.numbers.proofs.roots.root.Goals as goal

-- after both rounds
last : {counter v x : ℕ} → counter ≡ 2 → Close (closeness counter) v x → Close 80000 v x
unfolding closeness
last e h = rw e at h

pub loop-init : goal.loop-init
unfolding closeness
loop-init c = (omega arith, c.first_guess-x.ensures)

pub overflow_add-x : goal.overflow_add-x
overflow_add-x c = omega (arith, round_fits c.loop.counter (omega arith) c.loop.invariant.1)

pub overflow_add-x-in-loop : goal.overflow_add-x-in-loop
overflow_add-x-in-loop c = omega (arith, round_fits c.loop.counter (omega arith) c.loop.invariant.1)

pub loop-preserved : goal.loop-preserved
loop-preserved c = (omega arith, close_after c.loop.counter (omega arith) c.loop.invariant.1)

pub returns-then-from : goal.returns-then-from
returns-then-from c =
    let x = c.loop.x in
    let e : c.loop.counter ≡ 2 = omega arith in
    let h = last e c.loop.invariant.1 in
    ends_at (x - 1) (omega arith) h (omega (arith, h.some)) (omega (arith, simp (c.from.ensures, c.from-2.ensures) at c.if-from.true))

pub returns-else-from : goal.returns-else-from
returns-else-from c =
    let x = c.loop.x in
    let e : c.loop.counter ≡ 2 = omega arith in
    let h = last e c.loop.invariant.1 in
    ends_before (x - 1) (omega arith) h (omega (arith, h.some)) (omega (arith, simp (c.from.ensures, c.from-2.ensures) at c.if-from.false))
