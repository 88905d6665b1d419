-- What a profile's functions ask of the carried numbers.
use Rattle.std.specs.Prelude.{◌≤◌}
use Rattle.profile.specs.declared.state.Profile.{Profile}

-- the numbers of a profile are within H1's rows
pub record Within (p : Profile) : Type 0 where
  pub segment : p.segment ≤ 16
  pub fraction : p.fraction ≤ 9999
  pub time : p.time ≤ 6000000
