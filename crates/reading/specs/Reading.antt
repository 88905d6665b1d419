-- All that a sample reads of the words: the loop's settings (W2), the mode after the requests (A2), in Cascade the word pointed to (A3), whether
-- it is a transfer (A13) and what it reads of the major loop, and the ramp/soak program (G1).
use Rattle.std.specs.Prelude.{ℕ, ◌+◌, cond, List, get_or}
use Rattle.table.specs.declared.mode.Mode.{Mode}
use Rattle.table.specs.declared.mode.Mode.TheVariants.{Manual, Automatic, Cascade}
use Rattle.reading.specs.declared.settings.Mode1.{Mode1}
use Rattle.reading.specs.declared.reading.Former.{Former}
use Rattle.reading.specs.declared.reading.Reading.{Reading}
use Rattle.table.specs.Words.{base_of, block_at}
use Rattle.table.specs.Modes.{is_cascade}
use Rattle.reading.specs.Settings.{settings_of}
use Rattle.reading.specs.Transfers.{transfers, major_in}
use Rattle.reading.specs.Programs.{program_of}

-- A2: the lowest request bit that is on names the mode; with all three off the former one goes on
unfoldable pub mode_after : Mode1 → Mode → Mode
mode_after bits former = cond bits.manual Manual (cond bits.automatic Automatic (cond bits.cascade Cascade former))

-- A3: in Cascade, the word whose address is in word 26; else 0
unfoldable pub remote_of : List ℕ → Mode → ℕ → ℕ
remote_of words mode pointer = cond (is_cascade mode) (get_or words pointer 0) 0

-- G1: word 28 of loop k, where its ramp/soak table begins
abbrev pub table_of : List ℕ → ℕ → ℕ
table_of words k = get_or words (base_of k + 28) 0

-- Q9: all that a sample of loop k reads, `former` being what is read of the loop's past
unfoldable pub reading_of : List ℕ → ℕ → Former → Reading
reading_of words k former =
    let s = settings_of (block_at words (base_of k)) in
    let mode = mode_after s.mode1 former.mode in
    let transfer = transfers former.mode mode s.mode1.bumpless in
    record {
      number = k;
      settings = s;
      mode = mode;
      remote = remote_of words mode s.pointer;
      transfer = transfer;
      major = major_in words transfer k s.pointer;
      program = program_of words s.mode1.profile (table_of words k) s.mode2.input.scale former.segment;
    }
