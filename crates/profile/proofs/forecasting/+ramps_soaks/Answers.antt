-- The cycle of calls {ramps, soaks}: a ramp that has a slope goes to its end, and its soak follows.
use Rattle.std.proofs.Common.{arith}
use Rattle.numbers.specs.Distances.Laws.{apart_diff}
use Rattle.profile.proofs.Laws.Forecasts.{ramp_then}
use Rattle.profile.proofs.forecasting.+ramps_soaks.Goals as goal

pub ramps-returns-clause-equal : goal.ramps-returns-clause-equal
ramps-returns-clause-equal t c =
    let a = c.args in
    let then = ramp_then c.read_pair-pair.result a.table.now a.left a.period a.at (omega arith) c.read_pair-pair.ensures c.if-pair-eq0.false in
    simp (then, c.parts-to.ensures, c.abs_diff.ensures, apart_diff, c.from.ensures, c.from-2.ensures, c.count.ensures, c.soaks.ensures.equal)
