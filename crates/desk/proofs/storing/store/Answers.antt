-- `desk::store` meets its contract: past the tests the address is that of a lent word.
use Rattle.std.proofs.Common.{sym, ◌∙◌, arith}
use Rattle.desk.proofs.Laws.Desk.{sound}
use Rattle.desk.proofs.storing.store.Goals as goal

pub bounds-words-address : goal.bounds-words-address
bounds-words-address c =
    omega (arith, (sound _ (sym c.fitting.ensures ∙ c.if-not-fitting.false)).words, c.if-address-gt-LAST_ADDRESS.false)
