-- What a record in range (H1) is known to be: the premise of the engine, and what it leaves again (H2).
use Rattle.std.specs.Prelude.{◌*◌, ◌^◌, ◌≤◌, pos, nat_abs, ◌≤ℤ◌}
use Rattle.profile.specs.Premises.{Within}
use Rattle.carried.specs.declared.record.Carried.{Carried}

pub record Ranged (c : Carried) : Type 0 where
  pub bias : nat_abs c.drive.bias ≤ 2 ^ 52
  -- from 0
  pub positive : pos 0 ≤ℤ c.drive.output
  pub output : c.drive.output ≤ℤ pos (65535 * 262144)
  pub error : nat_abs c.past.error ≤ 65535
  pub last : c.past.last ≤ 65535
  pub prior : c.past.prior ≤ 65535
  pub profile : Within c.state.profile
