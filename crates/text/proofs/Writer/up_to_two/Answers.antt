-- `text::Writer::up_to_two` meets its contract: one digit below 10 (`decimal_one`), two from there on (`decimal_two`).
use mathlib.Core.Path.{◌≡◌, ap}
use mathlib.Core.List.{[], ◌∷◌}
use Prim.Native.Nat.{ℕ, ◌+◌, ◌%◌, ◌<◌}
use native.Mathlib.Omega.{arith}
use lib.ListN.{length}
use Rattle.text.specs.Text.{decimal_of}
use Rattle.text.specs.Text.Laws.{decimal_one, decimal_two}
use Rattle.text.proofs.Writer.up_to_two.Goals as goal

-- the digit of a number below 10
one : (n : ℕ) → n < 10 → decimal_of n ≡ (48 + n) ∷ []
one n h = let e : n % 10 ≡ n = omega arith in rw e at (decimal_one n h)

pub byte-requires : goal.byte-requires
byte-requires c = omega (arith, ap length (one c.args.n c.if-n-lt10.true))

pub two-requires-clause-room : goal.two-requires-clause-room
two-requires-clause-room c =
    omega (arith, ap length (decimal_two c.args.n c.if-n-lt10.false (omega arith)))

pub returns-then-n-lt10 : goal.returns-then-n-lt10
returns-then-n-lt10 c =
    rw (one c.args.n c.if-n-lt10.true) c.byte.ensures

pub returns-else-n-lt10 : goal.returns-else-n-lt10
returns-else-n-lt10 c =
    rw (decimal_two c.args.n c.if-n-lt10.false (omega arith)) c.two.ensures
