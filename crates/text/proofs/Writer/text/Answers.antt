-- `text::Writer::text` meets its contract: the bytes before the text, the text and those behind it are the buffer with the text written (`sets-eq`).
use Rattle.std.proofs.Common.{arith, refl}
use Rattle.std.proofs.lemmas.Grind.{common_steps}
use Rattle.std.proofs.lemmas.List.Edits.{sets-eq}
use Rattle.text.proofs.Writer.text.Goals as goal

pub returns : goal.returns
returns c =
    let w = c.args.self.now in
    let e = sets-eq c.args.text.now w.out.now w.at c.requires in
    record { same = refl; size = grind (arith, common_steps); written = record { buffer = grind (arith, common_steps, e); place = refl } }
