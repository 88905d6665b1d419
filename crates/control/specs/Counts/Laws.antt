-- The laws of counts of the output. With bit 10 off the two formats are one (`Matched`), as every reading has it.
use Rattle.std.specs.Prelude.{◌≡◌, refl, Bool, true, false, cond, ℕ, ◌≤◌}
use Rattle.std.proofs.Common.{arith}
use Rattle.numbers.specs.Scales.{converted}
use Rattle.numbers.proofs.Laws.Scales.{converted_high}
use Rattle.reading.specs.declared.settings.Mode2.{Mode2}
use Rattle.control.specs.Counts.{output_counts}

-- the output's full scale is the input's where bit 10 is off
abbrev pub Matched : Mode2 → Type 0
Matched m = m.separate ≡ false → m.output.scale ≡ m.input.scale

-- a count within the input's full scale is within the output's
pub counts_high : (m : Mode2) → Matched m → {v : ℕ} → v ≤ m.input.scale → output_counts m v ≤ m.output.scale
unfolding output_counts
counts_high m same {v} h = go m.separate same
  where
    go : (separate : Bool) → (separate ≡ false → m.output.scale ≡ m.input.scale)
        → cond separate (converted m.input.scale m.output.scale v) v ≤ m.output.scale
    go true one = converted_high m.input.scale m.output.scale v
    go false one = omega (arith, one refl)

-- and a word, whatever its size, is a word
pub counts_word : (m : Mode2) → m.output.scale ≤ 65535 → {v : ℕ} → v ≤ 65535 → output_counts m v ≤ 65535
unfolding output_counts
counts_word m h {v} l = go m.separate
  where
    go : (separate : Bool) → cond separate (converted m.input.scale m.output.scale v) v ≤ 65535
    go true = omega (arith, converted_high m.input.scale m.output.scale v)
    go false = l

-- with bit 10 off nothing is converted
pub counts_same : (m : Mode2) → m.separate ≡ false → (v : ℕ) → output_counts m v ≡ v
unfolding output_counts
counts_same m e v = rw e
