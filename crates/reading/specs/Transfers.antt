-- The transfer from Automatic to Cascade with Bumpless I (A13): whether a sample is one, and what it reads of the major loop.
use Rattle.std.specs.Prelude.{ℕ, ◌+◌, ◌/◌, ◌%◌, Bool, cond, not, ◌&&◌, List, ltb, eqb, get_or}
use Rattle.table.specs.declared.mode.Mode.{Mode}
use Rattle.reading.specs.declared.settings.OutputLimits.{OutputLimits}
use Rattle.reading.specs.declared.transfer.Major.{Major}
use Rattle.table.specs.Words.{base_of}
use Rattle.table.specs.Modes.{is_automatic, is_cascade}

-- A13: the carried mode is Automatic, the sample's is Cascade, and bit 3 of mode 1 is off
unfoldable pub transfers : Mode → Mode → Bool → Bool
transfers former mode bumpless = is_automatic former && is_cascade mode && not bumpless

-- N11: the loop, other than loop k, whose output word has the address; 0 where there is none
unfoldable pub major_of : ℕ → ℕ → ℕ
major_of k pointer = let j = pointer / 32 + 1 in cond (ltb pointer 512 && eqb (pointer % 32) 5 && not (eqb j k)) j 0

-- A13: words 24 and 25 of the major loop, as they are stored
unfoldable pub limits_at : List ℕ → ℕ → OutputLimits
limits_at words major =
    cond (eqb major 0) (record { low = 0; high = 0 })
    (record { low = get_or words (base_of major + 24) 0; high = get_or words (base_of major + 25) 0 })

-- A13: what a sample of loop k reads of the major loop; 0 is its number, and the limits are 0, where it is no transfer
unfoldable pub major_in : List ℕ → Bool → ℕ → ℕ → Major
major_in words transfer k pointer = let j = cond transfer (major_of k pointer) 0 in record { number = j; limits = limits_at words j }
