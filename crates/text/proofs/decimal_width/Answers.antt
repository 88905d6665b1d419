-- `text::decimal_width` meets its contract: one digit more than the power of ten that is in it (`decimal_width`); 0 has one digit.
use Prim.Native.Nat.{ℕ, ◌+◌, ◌*◌, ◌^◌, ◌≤◌, ◌<◌}
use Rattle.std.proofs.Common.{◌≡◌, arith, length, Option, Some, None, ap, IfNone, IfSome}
use Rattle.std.specs.Option.{unwrap_or}
use Rattle.text.specs.Text.{decimal_of}
use Rattle.text.specs.Text.Laws.{decimal_width, decimal_zero}
use Rattle.text.proofs.decimal_width.Goals as goal

width : (n : ℕ) (o : Option ℕ) → IfNone o (n ≡ 0) → IfSome o (λ k. 10 ^ k ≤ n) → IfSome o (λ k. n < 10 * 10 ^ k) → unwrap_or o 0 + 1 ≡ length (decimal_of n)
width n None zero low high = rw zero (omega (arith, ap length decimal_zero))
width n (Some k) none low high = omega (arith, decimal_width k n low high)

pub returns : goal.returns
returns c = let a = c.checked_ilog10.ensures in let w = width c.args.n _ a.none a.power_le a.next_power_gt in rw c.unwrap_or.ensures w
