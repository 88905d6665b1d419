-- the negation of terms meets its contract, term by term.
use Rattle.std.proofs.Common.{arith}
use Rattle.std.proofs.lemmas.Int.{ints}
use Rattle.control.specs.Terms.Laws.{terms_same}
use Rattle.control.proofs.terms.TermsNeg.neg.Goals as goal

pub returns : goal.returns
returns c = terms_same (omega (arith, ints)) (omega (arith, ints)) (omega (arith, ints))
