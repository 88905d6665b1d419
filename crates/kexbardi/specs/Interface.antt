-- The line that a sample from C writes (Q3): what is shown of the loop after it, where the answer is 0.
use Rattle.std.specs.Prelude.{ℕ, cond, List, eqb}
use Rattle.refusals.specs.Refusals.{number_of}
use Rattle.desk.specs.Desk.{Desk, sample_answer, sample_left, line_of}

abbrev pub line_by : ℕ → List ℕ → List ℕ → List ℕ
line_by number line shown = cond (eqb number 0) shown line

-- Q3: the line after the sample. Q8: of a refused one, the line as it was
unfoldable pub line_left : Desk → ℕ → ℕ → List ℕ → List ℕ
line_left d k raw line = line_by (number_of (sample_answer d k raw)) line (line_of (sample_left d k raw).words k)
