-- A profile computed of the definitions (G4 to G10, G12), sample by sample, with hand-worked numbers: two ramps and two soaks at a period of 1.00 s,
-- and every command.
use Prim.Native.Nat.{ℕ}
use mathlib.Core.Path.{◌≡◌, refl}
use mathlib.Core.Bool.{Bool, true, false, cond}
use mathlib.Core.List.{List, [], ◌∷◌}
use Rattle.numbers.specs.Distances.{apart}
use Rattle.reading.specs.declared.program.Program.{Program}
use Rattle.table.specs.Words.{bcd}
use Rattle.reading.specs.Programs.{pair_at, pair_number}
use Rattle.profile.specs.declared.state.Profile.{Profile}
use Rattle.profile.specs.Moves.{command_of, with_hold, handed_over, jogged_of, toward, ramped_to, ramped_by, soaked_by, moved_by, worked_by, advanced_by}
use Rattle.profile.specs.Flags.{deviates, flags_of}
use Rattle.profile.specs.Forecasts.{count_of, ramps_from, forecast_of}

-- ramp 1 to 10 by 2.50 a second; soak 2 of 0.1 minute, deviation 3; ramp 3 to 4 by 4.00; soak 4 of 0; ramp 5 has no slope
table : List ℕ
table = 10 ∷ 0x0250 ∷ 0x0001 ∷ 3 ∷ 4 ∷ 0x0400 ∷ 0 ∷ 0 ∷ 20 ∷ 0 ∷ []

program : Bool → ℕ → Program
program on segment = record { on = on; fault = 0; baddigit = false; highend = false; pair = pair_at table (pair_number segment) }

-- bit 11 and word 27 before a sample; and after it the setpoint, the five numbers, word 27 (the PV is 6) and the forecast
pub record Sample : Type 0 where
  pub on : Bool
  pub flags : ℕ
  pub row : List ℕ

number : Bool → ℕ
number b = cond b 1 0

shown : Profile → ℕ → List ℕ
shown p s =
    s ∷ p.fraction ∷ p.segment ∷ number p.hold ∷ number p.complete ∷ p.time ∷ flags_of p (pair_at table (pair_number p.segment)).deviation s 6 ∷ forecast_of table 100 p s ∷ []

pub rows : Profile → ℕ → List Sample → List (List ℕ)
rows p s [] = []
rows p s (x ∷ xs) =
    let m = advanced_by (program x.on p.segment) x.flags 100 p s in
    shown m.profile m.setpoint ∷ rows m.profile m.setpoint xs

pub expected : List Sample → List (List ℕ)
expected [] = []
expected (x ∷ xs) = x.row ∷ expected xs

pub fresh : Profile
fresh = record { segment = 0; hold = false; complete = false; fraction = 0; time = 0 }

infix 20 ◌gives◌
◌gives◌ : ℕ → List ℕ → Sample
flags gives row = record { on = true; flags = flags; row = row }

pub oven : List Sample
oven =
    (0 gives (0 ∷ 0 ∷ 0 ∷ 0 ∷ 0 ∷ 0 ∷ 0 ∷ 0 ∷ []))
    -- Start; the ramp moves 2.5 counts a sample; Hold and Resume move nothing
    ∷ (1 gives (0 ∷ 0 ∷ 1 ∷ 0 ∷ 0 ∷ 0 ∷ 0x0100 ∷ 14 ∷ []))
    ∷ (0 gives (2 ∷ 5000 ∷ 1 ∷ 0 ∷ 0 ∷ 0 ∷ 0x0100 ∷ 13 ∷ []))
    ∷ (2 gives (2 ∷ 5000 ∷ 1 ∷ 1 ∷ 0 ∷ 0 ∷ 0x0140 ∷ 13 ∷ []))
    ∷ (0 gives (2 ∷ 5000 ∷ 1 ∷ 1 ∷ 0 ∷ 0 ∷ 0x0140 ∷ 13 ∷ []))
    ∷ (4 gives (2 ∷ 5000 ∷ 1 ∷ 0 ∷ 0 ∷ 0 ∷ 0x0100 ∷ 13 ∷ []))
    ∷ (0 gives (5 ∷ 0 ∷ 1 ∷ 0 ∷ 0 ∷ 0 ∷ 0x0100 ∷ 12 ∷ []))
    ∷ (0 gives (7 ∷ 5000 ∷ 1 ∷ 0 ∷ 0 ∷ 0 ∷ 0x0100 ∷ 11 ∷ []))
    -- the soak: 10 is 4 from the PV; of Hold and Resume together Hold counts; Jog keeps the hold
    ∷ (0 gives (10 ∷ 0 ∷ 2 ∷ 0 ∷ 0 ∷ 0 ∷ 0x0220 ∷ 10 ∷ []))
    ∷ (0 gives (10 ∷ 0 ∷ 2 ∷ 0 ∷ 0 ∷ 100 ∷ 0x0220 ∷ 9 ∷ []))
    ∷ (6 gives (10 ∷ 0 ∷ 2 ∷ 1 ∷ 0 ∷ 100 ∷ 0x0260 ∷ 9 ∷ []))
    ∷ (0 gives (10 ∷ 0 ∷ 2 ∷ 1 ∷ 0 ∷ 100 ∷ 0x0260 ∷ 9 ∷ []))
    ∷ (8 gives (10 ∷ 0 ∷ 3 ∷ 1 ∷ 0 ∷ 0 ∷ 0x0340 ∷ 4 ∷ []))
    ∷ (4 gives (10 ∷ 0 ∷ 3 ∷ 0 ∷ 0 ∷ 0 ∷ 0x0300 ∷ 4 ∷ []))
    -- down by 4, and onto the end; a soak of 0 lasts one sample; a slope of 0 completes
    ∷ (0 gives (6 ∷ 0 ∷ 3 ∷ 0 ∷ 0 ∷ 0 ∷ 0x0300 ∷ 3 ∷ []))
    ∷ (0 gives (4 ∷ 0 ∷ 4 ∷ 0 ∷ 0 ∷ 0 ∷ 0x0400 ∷ 2 ∷ []))
    ∷ (0 gives (4 ∷ 0 ∷ 5 ∷ 0 ∷ 0 ∷ 0 ∷ 0x0500 ∷ 1 ∷ []))
    ∷ (0 gives (4 ∷ 0 ∷ 0 ∷ 0 ∷ 1 ∷ 0 ∷ 0x0010 ∷ 0 ∷ []))
    ∷ (8 gives (4 ∷ 0 ∷ 0 ∷ 0 ∷ 1 ∷ 0 ∷ 0x0010 ∷ 0 ∷ []))
    -- again from 4, a fraction of 5000 left over, through the whole soak: six periods
    ∷ (1 gives (4 ∷ 0 ∷ 1 ∷ 0 ∷ 0 ∷ 0 ∷ 0x0100 ∷ 13 ∷ []))
    ∷ (0 gives (6 ∷ 5000 ∷ 1 ∷ 0 ∷ 0 ∷ 0 ∷ 0x0100 ∷ 12 ∷ []))
    ∷ (0 gives (9 ∷ 0 ∷ 1 ∷ 0 ∷ 0 ∷ 0 ∷ 0x0100 ∷ 11 ∷ []))
    ∷ (0 gives (10 ∷ 0 ∷ 2 ∷ 0 ∷ 0 ∷ 0 ∷ 0x0220 ∷ 10 ∷ []))
    ∷ (0 gives (10 ∷ 0 ∷ 2 ∷ 0 ∷ 0 ∷ 100 ∷ 0x0220 ∷ 9 ∷ []))
    ∷ (0 gives (10 ∷ 0 ∷ 2 ∷ 0 ∷ 0 ∷ 200 ∷ 0x0220 ∷ 8 ∷ []))
    ∷ (0 gives (10 ∷ 0 ∷ 2 ∷ 0 ∷ 0 ∷ 300 ∷ 0x0220 ∷ 7 ∷ []))
    ∷ (0 gives (10 ∷ 0 ∷ 2 ∷ 0 ∷ 0 ∷ 400 ∷ 0x0220 ∷ 6 ∷ []))
    ∷ (0 gives (10 ∷ 0 ∷ 2 ∷ 0 ∷ 0 ∷ 500 ∷ 0x0220 ∷ 5 ∷ []))
    ∷ (0 gives (10 ∷ 0 ∷ 3 ∷ 0 ∷ 0 ∷ 0 ∷ 0x0300 ∷ 4 ∷ []))
    -- bit 11 off ends it
    ∷ record { on = false; flags = 1; row = 10 ∷ 0 ∷ 0 ∷ 0 ∷ 0 ∷ 0 ∷ 0 ∷ 0 ∷ [] }
    ∷ []

pub computed : rows fresh 0 oven ≡ expected oven
unfolding apart bcd pair_at command_of with_hold handed_over jogged_of toward ramped_to ramped_by soaked_by moved_by worked_by advanced_by deviates flags_of count_of ramps_from forecast_of table program number shown rows expected fresh ◌gives◌ oven
computed = refl
