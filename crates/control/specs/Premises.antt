-- What an accepted sample's settings, inputs and terms are known to be: premises of the functions, met by laws beside the definitions.
-- They are not invariants of the types: `measuring::measure` and `carried::numbers_of` take any tuning and any drive, and the definitions
-- `inputs_of` and `terms_of` give inputs and terms of any size.
use Rattle.std.specs.Prelude.{◌^◌, ◌≤◌, ◌<◌, ℤ, nat_abs}
use Rattle.reading.specs.declared.settings.Tuning.{Tuning}
use Rattle.control.specs.declared.terms.Inputs.{Inputs}
use Rattle.control.specs.declared.terms.Terms.{Terms}
use Rattle.control.specs.declared.forms.Drive.{Drive}

pub record Tuned (t : Tuning) : Type 0 where
  pub period : t.period ≤ 9999
  pub gain : t.gain ≤ 9999
  pub reset : t.reset ≤ 9999
  pub rate : t.rate ≤ 9999
  pub sampling : 5 ≤ t.period
  pub resetting : 0 < t.reset

pub record Bounded (x : Inputs) : Type 0 where
  pub p : nat_abs x.p ≤ 131070
  pub i : nat_abs x.i ≤ 65535
  pub d : nat_abs x.d ≤ 131070

pub record Small (t : Terms) : Type 0 where
  pub p : nat_abs t.p ≤ 2 ^ 42
  pub i : nat_abs t.i ≤ 2 ^ 54
  pub d : nat_abs t.d ≤ 2 ^ 53

-- terms that move nothing
pub record Still (t : Terms) : Type 0 where
  pub p : nat_abs t.p ≤ 0
  pub i : nat_abs t.i ≤ 0
  pub d : nat_abs t.d ≤ 0

-- numbers of which no sum leaves 64 bits
pub record Ready (drive : Drive) (t : Terms) (lo hi : ℤ) : Type 0 where
  pub bias : nat_abs drive.bias ≤ 2 ^ 52
  pub output : nat_abs drive.output ≤ 2 ^ 34
  pub terms : Small t
  pub low : nat_abs lo ≤ 2 ^ 34
  pub high : nat_abs hi ≤ 2 ^ 34
