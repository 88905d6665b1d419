-- The examples of N1 to N3, and the edges of L5 to L7, computed of the definitions.
use Prim.Native.Nat.{ℕ}
use mathlib.Core.Path.{◌≡◌, refl}
use mathlib.Core.List.{List, [], ◌∷◌, map, flatten}
use Rattle.refusals.specs.declared.Refusal.TheVariants.{Cut, Kind, Length}
use Rattle.std.specs.Prelude.{Ok, Err}
use Rattle.reader.specs.declared.Record.TheVariants.{Store, Sample}
use Rattle.reader.specs.File.{Item, record_at, positions_within, positions_from, records_from, records_of, spans_from, spans_of}

-- bytes, and the record read of them
pub record Case : Type 0 where
  pub bytes : List ℕ
  pub item : Item

-- sound records; N2 by the length, by the kind and by the kind's high byte; N3 with no body and with a short one; N1
abbrev pub cases : List Case
cases =
    record { bytes = 0x06 ∷ 0x00 ∷ 0x01 ∷ 0x00 ∷ 0x03 ∷ 0x00 ∷ 0x05 ∷ 0x01 ∷ []; item = Ok (Store 3 261) }
    ∷ record { bytes = 0x05 ∷ 0x00 ∷ 0x02 ∷ 0x00 ∷ 0x11 ∷ 0x00 ∷ 0x10 ∷ []; item = Ok (Sample 17 4096) }
    ∷ record { bytes = 0x00 ∷ 0x00 ∷ []; item = Err Kind }
    ∷ record { bytes = 0x01 ∷ 0x00 ∷ 0x63 ∷ []; item = Err Kind }
    ∷ record { bytes = 0x02 ∷ 0x00 ∷ 0x63 ∷ 0x00 ∷ []; item = Err Kind }
    ∷ record { bytes = 0x05 ∷ 0x00 ∷ 0x02 ∷ 0x01 ∷ 0x11 ∷ 0x00 ∷ 0x00 ∷ []; item = Err Kind }
    ∷ record { bytes = 0x02 ∷ 0x00 ∷ 0x01 ∷ 0x00 ∷ []; item = Err Length }
    ∷ record { bytes = 0x03 ∷ 0x00 ∷ 0x02 ∷ 0x00 ∷ 0x01 ∷ []; item = Err Length }
    ∷ record { bytes = 0x06 ∷ 0x00 ∷ 0x01 ∷ []; item = Err Cut }
    ∷ []

abbrev pub file : List ℕ
file = flatten (map (λ c. c.bytes) cases)

-- one file of all the cases is read as they say, each by its own bytes
pub all_cases : (records_of file ≡ map (λ c. c.item) cases) × (spans_of file ≡ map (λ c. c.bytes) cases)
unfolding flatten record_at positions_within positions_from records_from spans_from
all_cases = (refl, refl)

-- no bytes, one byte, and a length of 1 with nothing behind it
pub ends : (records_of [] ≡ []) × (records_of (0x06 ∷ []) ≡ Err Cut ∷ []) × (records_of (0x01 ∷ 0x00 ∷ []) ≡ Err Cut ∷ [])
unfolding record_at positions_within positions_from records_from
ends = (refl, refl, refl)
