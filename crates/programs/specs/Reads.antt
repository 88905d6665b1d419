-- What a program reads.
use Rattle.std.specs.Prelude.{ℕ, List}
use Rattle.streams.specs.Counts.{IsPrefixLen}
use Rattle.programs.specs.declared.asking.Asked.{Asked}
use Rattle.programs.specs.declared.asking.Asked.TheVariants.{File, Help, Nothing}

-- the bytes of a file that was read are those at the start of the buffer
abbrev pub IsStartOf : Asked → List ℕ → Type 0
IsStartOf (File n) input = IsPrefixLen n input
IsStartOf Help input = Unit {0}
IsStartOf Nothing input = Unit {0}
