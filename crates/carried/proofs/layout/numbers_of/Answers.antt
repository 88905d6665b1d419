-- `carried::numbers_of` meets its contract: the numbers of the record fit 64 bits.
use mathlib.Core.Path.{◌≡◌, refl, ◌∙◌}
use mathlib.Core.Bool.{Bool, true, false}
use lib.IntN.{pos}
use mir.Val.{bool_byte}
use borrow.Author.Rules.{rules}
use Rattle.numbers.proofs.Machine.{got}
use Rattle.carried.specs.Layout.{flag, numbers_of}
use Rattle.carried.proofs.Numbers.{Same}
use Rattle.carried.proofs.layout.numbers_of.Goals as goal

flag_same : (b : Bool) → pos (bool_byte b) ≡ flag b
flag_same true = refl
flag_same false = refl

pub returns : goal.returns
unfolding numbers_of
returns c =
    let a = c.args.c in
    let h : Same a.drive.bias × Same a.drive.output × Same a.past.error = search rules in
    simp (
      got c.mode_number.result c.mode_number.type_inv ∙ c.mode_number.ensures,
      got c.from.result c.from.type_inv ∙ c.from.ensures,
      got c.from-2.result c.from-2.type_inv ∙ c.from-2.ensures,
      got c.from-3.result c.from-3.type_inv ∙ c.from-3.ensures,
      got c.from-4.result c.from-4.type_inv ∙ c.from-4.ensures,
      got c.from-5.result c.from-5.type_inv ∙ c.from-5.ensures,
      got c.from-6.result c.from-6.type_inv ∙ c.from-6.ensures,
      got c.from-7.result c.from-7.type_inv ∙ c.from-7.ensures,
      got c.from-8.result c.from-8.type_inv ∙ c.from-8.ensures,
      got c.from-9.result c.from-9.type_inv ∙ c.from-9.ensures,
      got c.from-10.result c.from-10.type_inv ∙ c.from-10.ensures,
      flag_same,
      h.0,
      h.1,
      h.2,
    )
