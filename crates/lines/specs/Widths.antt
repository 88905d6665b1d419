-- How wide what is said of a record can be.
use Rattle.std.specs.Prelude.{ℕ, Ok, Err}
use Rattle.reader.specs.declared.Record.TheVariants.{Store, Sample}
use Rattle.reader.specs.File.{Item}

-- the most bytes of what is said of a record
abbrev pub width_of : Item → ℕ
width_of (Ok (Store address value)) = 16
width_of (Ok (Sample k raw)) = 49
width_of (Err why) = 14
