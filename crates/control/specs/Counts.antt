-- M7: counts of the input in counts of the output.
use Rattle.std.specs.Prelude.{ℕ, cond}
use Rattle.numbers.specs.Scales.{converted}
use Rattle.reading.specs.declared.settings.Mode2.{Mode2}
pub mod Laws

-- M7: with bit 10 on a count of the input is converted, from full scale F to G; with bit 10 off it stays as it is
unfoldable pub output_counts : Mode2 → ℕ → ℕ
output_counts m v = cond m.separate (converted m.input.scale m.output.scale v) v
