-- The forecast (G12): the samples that remain of a profile.
use Rattle.std.specs.Prelude.{ℕ, zero, suc, ◌+◌, ◌-◌, ◌*◌, ◌/◌, ◌%◌, cond, List, eqb}
use Rattle.numbers.specs.Distances.{apart}
use Rattle.reading.specs.declared.program.Pair.{Pair}
use Rattle.reading.specs.Programs.{pair_at, pair_number}
use Rattle.profile.specs.declared.state.Profile.{Profile}
use Rattle.profile.specs.Moves.{parts_of}

-- the samples that a way takes by steps: at least one, and as many as cover it
unfoldable pub count_of : ℕ → ℕ → ℕ
count_of way step = 1 + (way - 1) / step

-- the pair of segment 16 − n
abbrev pub pair_from : ℕ → List ℕ → Pair
pair_from n table = pair_at table (pair_number (16 - n))

-- `left` segments remain, with the present one, whose number is 17 − left; a ramp begins at `at`, a soak has lasted `time`
unfoldable mutual
  -- G7: a slope of 0 completes at its first sample; else the way to the end, by slope × period, and then the soak
  pub ramps_from : ℕ → List ℕ → ℕ → ℕ → ℕ
  ramps_from zero table period at = 0
  ramps_from (suc n) table period at =
      let pair = pair_from n table in
      let to = parts_of pair.end 0 in
      cond (eqb pair.slope 0) 1 (count_of (apart at to) (pair.slope * period) + soaks_from n table period to 0)

  -- G8: what is left of the duration, by the period, and then the next ramp
  pub soaks_from : ℕ → List ℕ → ℕ → ℕ → ℕ → ℕ
  soaks_from zero table period at time = 0
  soaks_from (suc n) table period at time = count_of (600 * (pair_from n table).duration - time) period + ramps_from n table period at

-- G12: from the present segment on; 0 where none runs
unfoldable pub forecast_of : List ℕ → ℕ → Profile → ℕ → ℕ
forecast_of table period p setpoint =
    let at = parts_of setpoint p.fraction in
    let left = 17 - p.segment in
    cond (eqb p.segment 0) 0
    (cond (eqb (p.segment % 2) 1) (ramps_from left table period at) (soaks_from left table period at p.time))
