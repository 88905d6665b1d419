-- The words of a desk by which the claims speak: those of a loop, before and after a sample, and its two full scales.
use Rattle.std.specs.Prelude.{ℕ, ◌+◌, get_or}
use Rattle.table.specs.Words.{base_of}
use Rattle.desk.specs.Desk.{Desk, reading_at, sample_left}

-- W1: word i of loop k, and as a sample leaves it
abbrev pub word_of : Desk → ℕ → ℕ → ℕ
word_of d k i = get_or d.words (base_of k + i) 0

abbrev pub word_left : Desk → ℕ → ℕ → ℕ → ℕ
word_left d k raw i = word_of (sample_left d k raw) k i

-- M3: F and G of loop k; which bits give them is said in `Formats`
abbrev pub input_full : Desk → ℕ → ℕ
input_full d k = (reading_at d k).settings.mode2.input.scale

abbrev pub output_full : Desk → ℕ → ℕ
output_full d k = (reading_at d k).settings.mode2.output.scale
