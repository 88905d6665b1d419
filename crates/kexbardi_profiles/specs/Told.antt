-- What a forecast from C tells (Q11): the answer and the count.
use Rattle.refusals.specs.declared.Refusal.{Refusal}
use Rattle.std.specs.Prelude.{ℕ, Result, Ok, Err}
use Rattle.refusals.specs.Refusals.{number_of_refusal}

pub record Told : Type 0 where
  pub number : ℕ
  pub samples : ℕ

abbrev pub told : ℕ → ℕ → Told
told number samples = record { number = number; samples = samples }

-- Q11: the samples that remain. Q8: of a refused forecast the count stays
abbrev pub told_by : Result ℕ Refusal → ℕ → Told
told_by (Err why) samples = told (number_of_refusal why) samples
told_by (Ok n) samples = told 0 n
