-- `carried::record_of` meets its contract: what the machine reads back of each number is that number.
use Rattle.carried.specs.Layout.{record_from}
use Rattle.carried.proofs.Numbers.{same}
use Rattle.carried.proofs.layout.record_of.Goals as goal

pub returns : goal.returns
unfolding record_from
returns c =
    simp (
      same c.args.n c.well_formed.0.0 c.well_formed.0.1.1,
      c.profile_of.ensures,
      c.mode_from.ensures,
    )
