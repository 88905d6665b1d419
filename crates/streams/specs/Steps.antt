-- What one call of `read` or `write` came to, by its answer.
use Rattle.std.specs.Prelude.{ℕ, zero, suc, ◌≤◌, Bool, true, false, List, take, Ok, Err, Option}
use Rattle.std.specs.declared.result.Result.{Result}
use Rattle.std.specs.declared.io.Error.{Error}
use Rattle.std.specs.declared.io.ErrorKind.{ErrorKind}
use Rattle.std.specs.declared.io.ErrorKind.TheVariants.{Interrupted as Interruption}
use Rattle.std.specs.Io.KnownBytes.{Appends}
pub mod Laws

-- a signal came before the call moved a byte
abbrev pub is_interruption : ErrorKind → Bool
is_interruption Interruption = true
is_interruption _ = false

-- a call that moves bytes moves one at least, and no more than there is room for
abbrev pub Within : ℕ → Result ℕ Error → Type 0
Within room (Ok zero) = Unit {0}
Within room (Ok (suc n)) = (1 ≤ suc n) × (suc n ≤ room)
Within room (Err error) = Unit {0}

-- what is known of a writer's bytes grows by some of the start of `buf`
abbrev pub AppendsStart : Option (List ℕ) → Option (List ℕ) → List ℕ → Type 0
AppendsStart old new buf = (n : ℕ) × Appends old new (take n buf)
