-- What is promised of the PV with bit 6 of mode 1 on (A1): an accepted sample shows the root of raw PV × F to the nearest whole number, said without roots.
use Rattle.std.specs.Prelude.{ℕ, ◌+◌, ◌*◌, ◌-◌, ◌≤◌, ◌<◌, ◌≡◌, true, false}
use Rattle.numbers.specs.Roots.{Nearest}
use Rattle.refusals.specs.Refusals.{number_of}
use Rattle.table.specs.Words.{bit}
use Rattle.desk.specs.Desk.{Desk, sample_answer}
use Rattle.claims.specs.Words.{word_of, word_left, input_full}

pub record Rooted : Type 0 where
  -- word 3 is nearest to the exact root; with bit 6 off it is the raw PV
  pub near : (d : Desk) (k raw : ℕ) → number_of (sample_answer d k raw) ≡ 0 → bit 6 (word_of d k 0) ≡ true → Nearest (raw * input_full d k) (word_left d k raw 3)
  pub bare : (d : Desk) (k raw : ℕ) → number_of (sample_answer d k raw) ≡ 0 → bit 6 (word_of d k 0) ≡ false → word_left d k raw 3 ≡ raw
  -- no other number is nearest, and it is less than half a count from the root, never halfway: (2 × r − 1)² < 4 × v < (2 × r + 1)²
  pub only : (v r s : ℕ) → Nearest v r → Nearest v s → r ≡ s
  pub half : (v r : ℕ) → Nearest v r → (0 < r → (2 * r - 1) * (2 * r - 1) < 4 * v) × (4 * v < (2 * r + 1) * (2 * r + 1))
  -- F gives F, and a higher raw PV never gives a lower PV: so none gives more than F
  pub full : (F : ℕ) → Nearest (F * F) F
  pub order : (v w r s : ℕ) → v ≤ w → Nearest v r → Nearest w s → r ≤ s
