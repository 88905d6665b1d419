use Rattle.std.proofs.Common.{◌+◌, ◌≤◌, ◌++◌, arith, length, take, drop, sym, ap, ◌∙◌, subst, take-add, drop-drop, length-drop}
use Rattle.std.proofs.lemmas.List.{take_rest}
use Rattle.std.specs.Io.KnownBytes.{Appends}
use Rattle.std.proofs.KnownBytes.{Appends-trans}
use Rattle.streams.specs.Steps.Laws.{fits}
use Rattle.streams.proofs.writing.write_whole.Goals as goal

pub loop-rest-preserved-in-Ok : goal.loop-rest-preserved-in-Ok
loop-rest-preserved-in-Ok g c =
    let (a, within, split, appended) = c.loop-rest.invariant in
    let all = c.args.buf.now in
    let n = c.in-Ok.n in
    let fits : a + n ≤ length all = grind (arith, split, length-drop a all, fits _ n c.in-Ok.ensures.within) in
    let left = take_rest c.loop-rest.rest.now n ∙ ap (drop n) split ∙ drop-drop n a all in
    let front = ap (λ l. take a all ++ take n l) split ∙ sym (take-add a n all) in
    (a + n, fits, left, subst (Appends _ _) front (Appends-trans _ _ _ _ _ appended c.in-Ok.ensures.bytes))
