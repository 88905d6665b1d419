-- A call stays within the room that it was given.
use Rattle.std.specs.Prelude.{ℕ, zero, suc, ◌≤◌, ◌≡◌, Ok, Err, IfOk}
use native.Mathlib.Omega.{arith}
use Rattle.std.specs.declared.result.Result.{Result}
use Rattle.std.specs.declared.io.Error.{Error}
use Rattle.streams.specs.Steps.{Within}

module _ (room : ℕ) where
  -- a call that failed moves none
  moves_none : (error : Error) → Within room (Err error)
  moves_none error = tt

  pub within : (moved : Result ℕ Error) → IfOk moved (λ n. n ≤ room) → Within room moved
  within (Ok zero) h = tt
  within (Ok (suc n)) h = (omega arith, h)
  within (Err error) h = moves_none error

  pub fits : (n : ℕ) → Within room (Ok n) → n ≤ room
  fits zero h = omega arith
  fits (suc n) h = h.1

  -- what is known of a call that turned out to move n + 1 bytes
  pub moved : (n : ℕ) {r : Result ℕ Error} → r ≡ Ok (suc n) → Within room r → (1 ≤ suc n) × (suc n ≤ room)
  moved n e h = rw e at h
