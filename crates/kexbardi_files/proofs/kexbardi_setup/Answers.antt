-- `kexbardi_files::kexbardi_setup` meets its contract: by what the writer answers.
use Prim.Native.Nat.{ℕ}
use mathlib.Core.Path.{◌≡◌, sym, ◌∙◌}
use mathlib.Core.List.{List}
use lib.ListN.{length}
use Rattle.std.specs.Prelude.{Result}
use Rattle.refusals.specs.declared.Refusal.{Refusal}
use Rattle.setups.specs.Setup.{setup_answer, setup_left}
use Rattle.kexbardi_files.specs.Files.{handed_by, setup_filled}
use Rattle.kexbardi_files.proofs.kexbardi_setup.Goals as goal

-- the writer's answer and the room behind it, as the call tells them
told : (words out : List ℕ) (size : ℕ) {w : Result ℕ Refusal} {after : List ℕ} → w ≡ setup_answer words (length out) → after ≡ setup_left words out
    → handed_by w after size ≡ setup_filled words out size
unfolding setup_filled
told words out size answer left = rw (answer, left)

pub returns-in-Err : goal.returns-in-Err
returns-in-Err c =
    let a = c.args in
    rw c.number_of.ensures
    (told a.words.now a.out.now a.size.now (sym c.in-Err.is ∙ c.write_setup.ensures.answer) c.write_setup.ensures.left)

pub returns-in-Ok : goal.returns-in-Ok
returns-in-Ok c =
    let a = c.args in
    told a.words.now a.out.now a.size.now (sym c.in-Ok.is ∙ c.write_setup.ensures.answer) c.write_setup.ensures.left
