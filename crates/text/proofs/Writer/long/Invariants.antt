-- `text::Writer::long`: writing the digits of the rest at the first place would complete the decimal, and `place` is the place behind them.
use mathlib.Core.Path.{◌≡◌}
use Prim.Native.Nat.{◌+◌, ◌<◌}
use lib.ListN.{length}
use lib.Seq.{sets}
use Rattle.text.specs.Text.{decimal_of}
use Rattle.text.proofs.Writer.long.Given as goal

abbrev pub invariant-loop-place : goal.invariant-loop-place
invariant-loop-place l =
    let out = l.self.out.now in
    let start = l.initial.self in
    let at = start.at in
    (l.self.at ≡ at) × (l.self.out.ghost_name ≡ start.out.ghost_name) × (length out ≡ length start.out.now)
    × (at < l.place) × (l.place ≡ at + length (decimal_of l.rest)) × (sets out at (decimal_of l.rest) ≡ sets start.out.now at (decimal_of l.n))
