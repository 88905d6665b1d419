-- A profile computed of the definitions, worked out by hand: each command from each state (G5, G6), ramps and soaks at their edges (G7, G8), what ends a
-- segment and a profile (G4, G9), word 27 (G10), the forecast (G12), and a profile of two ramps and two soaks sample by sample.
use Prim.Native.Nat.{ℕ}
use Prim.Native.String.{String}
use mathlib.Core.Path.{◌≡◌, refl}
use mathlib.Core.Bool.{Bool, true, false}
use mathlib.Core.List.{List, [], ◌∷◌, ◌++◌}
use Rattle.computed.specs.Cases.{Case, ◌∶◌gives◌, flag, failing}
use Rattle.numbers.specs.Distances.{apart}
use Rattle.table.specs.Words.{bcd}
use Rattle.reading.specs.declared.program.Pair.{Pair}
use Rattle.reading.specs.declared.program.Program.{Program}
use Rattle.reading.specs.Programs.{pair_at, pair_number, no_program}
use Rattle.computed.specs.Cases.Laws.{together, in_parts}
use Rattle.profile.specs.declared.state.Profile.{Profile}
use Rattle.profile.specs.declared.sampling.Profiled.{Profiled}
use Rattle.profile.specs.Moves.{command_of, with_hold, handed_over, jogged_of, toward, ramped_to, ramped_by, soaked_by, moved_by, worked_by, advanced_by}
use Rattle.profile.specs.Flags.{deviates, flags_of}
use Rattle.profile.specs.Samples.{sampled_by}
use Rattle.profile.specs.Forecasts.{count_of, ramps_from, forecast_of}

one : ℕ → List ℕ
one n = n ∷ []

-- where a loop stands: segment, hold, completion, fraction and time
stands : ℕ → Bool → Bool → ℕ → ℕ → Profile
stands segment hold complete fraction time = record { segment = segment; hold = hold; complete = complete; fraction = fraction; time = time }

-- a ramp's end and slope in hundredths, its soak's duration in tenths and deviation
pair : ℕ → ℕ → ℕ → ℕ → Pair
pair end slope duration deviation = record { end = end; slope = slope; duration = duration; deviation = deviation }

program : Pair → Program
program q = record { on = true; fault = 0; baddigit = false; highend = false; pair = q }

-- what a sample leaves: setpoint, fraction, segment, hold, completion, time and word 27
shown : Profiled → List ℕ
shown r =
    let p = r.profile in
    r.setpoint ∷ p.fraction ∷ p.segment ∷ flag p.hold ∷ flag p.complete ∷ p.time ∷ r.flags ∷ []

-- ---- one sample at the setpoint 10, period 1.00 s, PV 6: ramp to 20 by 2.50 a second, soak of 0.1 minute, deviation 3

usual : Pair
usual = pair 20 250 1 3

-- word 27 before the sample
sample : ℕ → Profile → List ℕ
sample flags p = shown (sampled_by (program usual) flags 100 p 10 6)

none : Profile
none = stands 0 false false 1234 56

complete : Profile
complete = stands 0 false true 1234 0

ramp : Profile
ramp = stands 3 false false 5000 700

soak : Profile
soak = stands 4 false false 5000 200

held_ramp : Profile
held_ramp = stands 3 true false 5000 700

held_soak : Profile
held_soak = stands 4 true false 5000 200

started : List ℕ
started = 10 ∷ 0 ∷ 1 ∷ 0 ∷ 0 ∷ 0 ∷ 0x0100 ∷ []

-- G5, G6: nothing moves but by the last lines of ramp and soak: 10.5 + 2.5, and 200 + 100
commands : List Case
commands =
    ("G5 Start, no profile" ∶ sample 1 none gives started)
    ∷ ("G5 Hold, no profile" ∶ sample 2 none gives (10 ∷ 1234 ∷ 0 ∷ 0 ∷ 0 ∷ 56 ∷ 0 ∷ []))
    ∷ ("G5 Resume, no profile" ∶ sample 4 none gives (10 ∷ 1234 ∷ 0 ∷ 0 ∷ 0 ∷ 56 ∷ 0 ∷ []))
    ∷ ("G5 Jog, no profile" ∶ sample 8 none gives (10 ∷ 1234 ∷ 0 ∷ 0 ∷ 0 ∷ 56 ∷ 0 ∷ []))
    ∷ ("G6 no command, no profile" ∶ sample 0 none gives (10 ∷ 1234 ∷ 0 ∷ 0 ∷ 0 ∷ 56 ∷ 0 ∷ []))
    ∷ ("G5 Start, complete" ∶ sample 1 complete gives started)
    ∷ ("G5 Hold, complete" ∶ sample 2 complete gives (10 ∷ 1234 ∷ 0 ∷ 0 ∷ 1 ∷ 0 ∷ 0x0010 ∷ []))
    ∷ ("G5 Resume, complete" ∶ sample 4 complete gives (10 ∷ 1234 ∷ 0 ∷ 0 ∷ 1 ∷ 0 ∷ 0x0010 ∷ []))
    ∷ ("G5 Jog, complete" ∶ sample 8 complete gives (10 ∷ 1234 ∷ 0 ∷ 0 ∷ 1 ∷ 0 ∷ 0x0010 ∷ []))
    ∷ ("G6 no command, complete" ∶ sample 0 complete gives (10 ∷ 1234 ∷ 0 ∷ 0 ∷ 1 ∷ 0 ∷ 0x0010 ∷ []))
    ∷ ("G5 Start, ramp" ∶ sample 1 ramp gives started)
    ∷ ("G5 Hold, ramp" ∶ sample 2 ramp gives (10 ∷ 5000 ∷ 3 ∷ 1 ∷ 0 ∷ 700 ∷ 0x0340 ∷ []))
    ∷ ("G5 Resume, ramp" ∶ sample 4 ramp gives (10 ∷ 5000 ∷ 3 ∷ 0 ∷ 0 ∷ 700 ∷ 0x0300 ∷ []))
    ∷ ("G5 Jog, ramp" ∶ sample 8 ramp gives (10 ∷ 5000 ∷ 4 ∷ 0 ∷ 0 ∷ 0 ∷ 0x0420 ∷ []))
    ∷ ("G6 no command, ramp" ∶ sample 0 ramp gives (13 ∷ 0 ∷ 3 ∷ 0 ∷ 0 ∷ 700 ∷ 0x0300 ∷ []))
    ∷ ("G5 Start, soak" ∶ sample 1 soak gives started)
    ∷ ("G5 Hold, soak" ∶ sample 2 soak gives (10 ∷ 5000 ∷ 4 ∷ 1 ∷ 0 ∷ 200 ∷ 0x0460 ∷ []))
    ∷ ("G5 Resume, soak" ∶ sample 4 soak gives (10 ∷ 5000 ∷ 4 ∷ 0 ∷ 0 ∷ 200 ∷ 0x0420 ∷ []))
    ∷ ("G5 Jog, soak" ∶ sample 8 soak gives (10 ∷ 5000 ∷ 5 ∷ 0 ∷ 0 ∷ 0 ∷ 0x0500 ∷ []))
    ∷ ("G6 no command, soak" ∶ sample 0 soak gives (10 ∷ 5000 ∷ 4 ∷ 0 ∷ 0 ∷ 300 ∷ 0x0420 ∷ []))
    ∷ ("G5 Start, held ramp" ∶ sample 1 held_ramp gives started)
    ∷ ("G5 Hold, held ramp" ∶ sample 2 held_ramp gives (10 ∷ 5000 ∷ 3 ∷ 1 ∷ 0 ∷ 700 ∷ 0x0340 ∷ []))
    ∷ ("G5 Resume, held ramp" ∶ sample 4 held_ramp gives (10 ∷ 5000 ∷ 3 ∷ 0 ∷ 0 ∷ 700 ∷ 0x0300 ∷ []))
    ∷ ("G5 Jog, held ramp" ∶ sample 8 held_ramp gives (10 ∷ 5000 ∷ 4 ∷ 1 ∷ 0 ∷ 0 ∷ 0x0460 ∷ []))
    ∷ ("G6 no command, held ramp" ∶ sample 0 held_ramp gives (10 ∷ 5000 ∷ 3 ∷ 1 ∷ 0 ∷ 700 ∷ 0x0340 ∷ []))
    ∷ ("G5 Start, held soak" ∶ sample 1 held_soak gives started)
    ∷ ("G5 Hold, held soak" ∶ sample 2 held_soak gives (10 ∷ 5000 ∷ 4 ∷ 1 ∷ 0 ∷ 200 ∷ 0x0460 ∷ []))
    ∷ ("G5 Resume, held soak" ∶ sample 4 held_soak gives (10 ∷ 5000 ∷ 4 ∷ 0 ∷ 0 ∷ 200 ∷ 0x0420 ∷ []))
    ∷ ("G5 Jog, held soak" ∶ sample 8 held_soak gives (10 ∷ 5000 ∷ 5 ∷ 1 ∷ 0 ∷ 0 ∷ 0x0540 ∷ []))
    ∷ ("G6 no command, held soak" ∶ sample 0 held_soak gives (10 ∷ 5000 ∷ 4 ∷ 1 ∷ 0 ∷ 200 ∷ 0x0460 ∷ []))
    -- a hold without a segment, which only a caller can write (H4)
    ∷ ("G5 Resume, a hold without a profile" ∶ sample 4 (stands 0 true false 0 0) gives (10 ∷ 0 ∷ 0 ∷ 1 ∷ 0 ∷ 0 ∷ 0x0040 ∷ []))
    -- several at once
    ∷ ("G5 Start before Hold" ∶ sample 3 ramp gives started)
    ∷ ("G5 Start before Resume" ∶ sample 5 held_ramp gives started)
    ∷ ("G5 Start before Jog" ∶ sample 9 ramp gives started)
    ∷ ("G5 Hold before Resume" ∶ sample 6 ramp gives (10 ∷ 5000 ∷ 3 ∷ 1 ∷ 0 ∷ 700 ∷ 0x0340 ∷ []))
    ∷ ("G5 Hold before Jog" ∶ sample 10 ramp gives (10 ∷ 5000 ∷ 3 ∷ 1 ∷ 0 ∷ 700 ∷ 0x0340 ∷ []))
    ∷ ("G5 Resume before Jog" ∶ sample 12 held_ramp gives (10 ∷ 5000 ∷ 3 ∷ 0 ∷ 0 ∷ 700 ∷ 0x0300 ∷ []))
    ∷ ("G5 Hold before Resume and Jog" ∶ sample 14 ramp gives (10 ∷ 5000 ∷ 3 ∷ 1 ∷ 0 ∷ 700 ∷ 0x0340 ∷ []))
    ∷ ("G5 Start before all" ∶ sample 15 ramp gives started)
    ∷ ("G10 bits 4 to 15 are not read" ∶ sample 0xFFF0 ramp gives (13 ∷ 0 ∷ 3 ∷ 0 ∷ 0 ∷ 700 ∷ 0x0300 ∷ []))
    ∷ ("G10 nor with a command" ∶ sample 0xFFF8 ramp gives (10 ∷ 5000 ∷ 4 ∷ 0 ∷ 0 ∷ 0 ∷ 0x0420 ∷ []))
    -- G3: completion stays while a profile runs; only a caller can have written it (H4)
    ∷ ("G3 a ramp keeps completion" ∶ sample 0 (stands 3 false true 5000 700) gives (13 ∷ 0 ∷ 3 ∷ 0 ∷ 1 ∷ 700 ∷ 0x0310 ∷ []))
    ∷ ("G3 a soak keeps completion" ∶ sample 0 (stands 4 false true 5000 200) gives (10 ∷ 5000 ∷ 4 ∷ 0 ∷ 1 ∷ 300 ∷ 0x0430 ∷ []))
    ∷ ("G3 Hold keeps completion" ∶ sample 2 (stands 4 false true 5000 200) gives (10 ∷ 5000 ∷ 4 ∷ 1 ∷ 1 ∷ 200 ∷ 0x0470 ∷ []))
    ∷ ("G3 Jog keeps completion" ∶ sample 8 (stands 3 false true 5000 700) gives (10 ∷ 5000 ∷ 4 ∷ 0 ∷ 1 ∷ 0 ∷ 0x0430 ∷ []))
    ∷ []

-- ---- ramps

-- segment 1, no command: end, slope, period, setpoint and fraction; the time is 700
ramped : ℕ → ℕ → ℕ → ℕ → ℕ → List ℕ
ramped end slope period s fraction = shown (sampled_by (program (pair end slope 1 0)) 0 period (stands 1 false false fraction 700) s 6)

-- on its way, and on its end
moving : ℕ → ℕ → List ℕ
moving s fraction = s ∷ fraction ∷ 1 ∷ 0 ∷ 0 ∷ 700 ∷ 0x0100 ∷ []

over : ℕ → List ℕ
over s = s ∷ 0 ∷ 2 ∷ 0 ∷ 0 ∷ 0 ∷ 0x0200 ∷ []

ramps : List Case
ramps =
    ("G7 up by 2.5" ∶ ramped 20 250 100 10 0 gives moving 12 5000)
    ∷ ("G7 down by 2.5" ∶ ramped 4 250 100 10 0 gives moving 7 5000)
    ∷ ("G7 up, the fraction carried over" ∶ ramped 20 250 100 12 7500 gives moving 15 2500)
    ∷ ("G7 down, the fraction carried over" ∶ ramped 4 250 100 12 2500 gives moving 9 7500)
    ∷ ("G7 up, less than a count" ∶ ramped 20 1 5 10 0 gives moving 10 5)
    ∷ ("G7 up, over a whole count" ∶ ramped 20 1 5 10 9999 gives moving 11 4)
    ∷ ("G7 down, below a whole count" ∶ ramped 4 1 5 10 0 gives moving 9 9995)
    ∷ ("G7 by the period" ∶ ramped 20 250 200 10 0 gives moving 15 0)
    ∷ ("G7 up, stops on its end" ∶ ramped 20 250 100 18 0 gives over 20)
    ∷ ("G7 up, just reaches its end" ∶ ramped 20 250 100 17 5000 gives over 20)
    ∷ ("G7 up, a ten-thousandth short" ∶ ramped 20 250 100 17 4999 gives moving 19 9999)
    ∷ ("G7 down, stops on its end" ∶ ramped 4 250 100 6 0 gives over 4)
    ∷ ("G7 down, just reaches its end" ∶ ramped 4 250 100 6 5000 gives over 4)
    ∷ ("G7 down, a ten-thousandth short" ∶ ramped 4 250 100 6 5001 gives moving 4 1)
    ∷ ("G7 from its end" ∶ ramped 20 250 100 20 0 gives over 20)
    ∷ ("G7 from a fraction above its end" ∶ ramped 20 250 100 20 1 gives over 20)
    ∷ ("G7 from 0 to 0" ∶ ramped 0 250 100 0 0 gives over 0)
    -- 99.99 × 99.99 is 9,998.0001; 65,535 less that is 55,536.9999
    ∷ ("G7 up, the longest step" ∶ ramped 65535 9999 9999 0 0 gives moving 9998 1)
    ∷ ("G7 down, the longest step" ∶ ramped 0 9999 9999 65535 0 gives moving 55536 9999)
    ∷ ("G7 slope 0 completes" ∶ ramped 20 0 100 10 5000 gives (10 ∷ 5000 ∷ 0 ∷ 0 ∷ 1 ∷ 0 ∷ 0x0010 ∷ []))
    ∷ ("G7 slope 0 completes on its end" ∶ ramped 20 0 100 20 0 gives (20 ∷ 0 ∷ 0 ∷ 0 ∷ 1 ∷ 0 ∷ 0x0010 ∷ []))
    ∷ []

-- slope 0 in segment 3: word 27 and the hold
flat : ℕ → Bool → List ℕ
flat flags hold = shown (sampled_by (program (pair 20 0 1 0)) flags 100 (stands 3 hold false 5000 700) 10 6)

flats : List Case
flats =
    ("G7 slope 0, Start" ∶ flat 1 false gives started)
    ∷ ("G7 slope 0, Hold" ∶ flat 2 false gives (10 ∷ 5000 ∷ 3 ∷ 1 ∷ 0 ∷ 700 ∷ 0x0340 ∷ []))
    ∷ ("G7 slope 0, Resume" ∶ flat 4 true gives (10 ∷ 5000 ∷ 3 ∷ 0 ∷ 0 ∷ 700 ∷ 0x0300 ∷ []))
    ∷ ("G7 slope 0, Jog" ∶ flat 8 false gives (10 ∷ 5000 ∷ 4 ∷ 0 ∷ 0 ∷ 0 ∷ 0x0400 ∷ []))
    ∷ ("G7 slope 0, held" ∶ flat 0 true gives (10 ∷ 5000 ∷ 3 ∷ 1 ∷ 0 ∷ 700 ∷ 0x0340 ∷ []))
    ∷ ("G7 slope 0 completes segment 3" ∶ flat 0 false gives (10 ∷ 5000 ∷ 0 ∷ 0 ∷ 1 ∷ 0 ∷ 0x0010 ∷ []))
    ∷ []

-- ---- soaks and the ends of segments

-- segment 2 at 10.5, no command: duration, period and time so far
soaked : ℕ → ℕ → ℕ → List ℕ
soaked duration period time = shown (sampled_by (program (pair 20 250 duration 0)) 0 period (stands 2 false false 5000 time) 10 6)

goes_on : ℕ → List ℕ
goes_on time = 10 ∷ 5000 ∷ 2 ∷ 0 ∷ 0 ∷ time ∷ 0x0200 ∷ []

ends : List ℕ
ends = 10 ∷ 5000 ∷ 3 ∷ 0 ∷ 0 ∷ 0 ∷ 0x0300 ∷ []

-- the pair `usual` without deviation, at 20: word 27, and where the loop stands
at_the_end : ℕ → Profile → List ℕ
at_the_end flags p = shown (sampled_by (program (pair 20 250 1 0)) flags 100 p 20 6)

completed : ℕ → List ℕ
completed fraction = 20 ∷ fraction ∷ 0 ∷ 0 ∷ 1 ∷ 0 ∷ 0x0010 ∷ []

soaks : List Case
soaks =
    ("G8 0.1 minute, 5.99 s" ∶ soaked 1 100 499 gives goes_on 599)
    ∷ ("G8 0.1 minute, 6.00 s" ∶ soaked 1 100 500 gives ends)
    ∷ ("G8 0.1 minute, 6.50 s" ∶ soaked 1 100 550 gives ends)
    ∷ ("G8 0.1 minute, by 0.05 s" ∶ soaked 1 5 590 gives goes_on 595)
    ∷ ("G8 0.1 minute, the last 0.05 s" ∶ soaked 1 5 595 gives ends)
    ∷ ("G8 1.0 minute, 59.99 s" ∶ soaked 10 100 5899 gives goes_on 5999)
    ∷ ("G8 1.0 minute, 60.00 s" ∶ soaked 10 100 5900 gives ends)
    ∷ ("G8 999.9 minutes less 0.01 s" ∶ soaked 9999 100 5999299 gives goes_on 5999399)
    ∷ ("G8 999.9 minutes" ∶ soaked 9999 100 5999300 gives ends)
    ∷ ("G8 the highest time" ∶ soaked 9999 100 6000000 gives ends)
    ∷ ("G8 the first sample" ∶ soaked 1 100 0 gives goes_on 100)
    ∷ ("G8 a duration of 0" ∶ soaked 0 5 0 gives ends)
    ∷ ("G9 ramp 1 hands over" ∶ at_the_end 0 (stands 1 false false 0 700) gives (20 ∷ 0 ∷ 2 ∷ 0 ∷ 0 ∷ 0 ∷ 0x0200 ∷ []))
    ∷ ("G9 ramp 15 hands over" ∶ at_the_end 0 (stands 15 false false 0 700) gives (20 ∷ 0 ∷ 16 ∷ 0 ∷ 0 ∷ 0 ∷ 0x1000 ∷ []))
    ∷ ("G9 soak 14 hands over" ∶ at_the_end 0 (stands 14 false false 7 500) gives (20 ∷ 7 ∷ 15 ∷ 0 ∷ 0 ∷ 0 ∷ 0x0F00 ∷ []))
    ∷ ("G9 soak 16 goes on" ∶ at_the_end 0 (stands 16 false false 7 499) gives (20 ∷ 7 ∷ 16 ∷ 0 ∷ 0 ∷ 599 ∷ 0x1000 ∷ []))
    ∷ ("G9 soak 16 completes" ∶ at_the_end 0 (stands 16 false false 7 500) gives completed 7)
    ∷ ("G9 soak 16 is held" ∶ at_the_end 0 (stands 16 true false 7 500) gives (20 ∷ 7 ∷ 16 ∷ 1 ∷ 0 ∷ 500 ∷ 0x1040 ∷ []))
    ∷ ("G5 Jog from 15" ∶ at_the_end 8 (stands 15 false false 7 500) gives (20 ∷ 7 ∷ 16 ∷ 0 ∷ 0 ∷ 0 ∷ 0x1000 ∷ []))
    ∷ ("G5 Jog from 16" ∶ at_the_end 8 (stands 16 false false 7 100) gives completed 7)
    ∷ ("G5 Jog from 16, held" ∶ at_the_end 8 (stands 16 true false 7 100) gives completed 7)
    ∷ []

-- ---- G4: no program: word 29's fault; a Start stands in word 27

off : ℕ → Profile → List ℕ
off fault p = shown (sampled_by (no_program fault) 1 100 p 10 6)

offs : List Case
offs =
    ("G4 bit 11 off, ramp" ∶ off 0 ramp gives (10 ∷ 5000 ∷ 0 ∷ 0 ∷ 0 ∷ 700 ∷ 0 ∷ []))
    ∷ ("G4 bit 11 off, held soak" ∶ off 0 held_soak gives (10 ∷ 5000 ∷ 0 ∷ 0 ∷ 0 ∷ 200 ∷ 0 ∷ []))
    ∷ ("G4 bit 11 off, complete" ∶ off 0 complete gives (10 ∷ 1234 ∷ 0 ∷ 0 ∷ 0 ∷ 0 ∷ 0 ∷ []))
    ∷ ("G4 bit 11 off, no profile" ∶ off 0 none gives (10 ∷ 1234 ∷ 0 ∷ 0 ∷ 0 ∷ 56 ∷ 0 ∷ []))
    ∷ ("G4 address below, held soak" ∶ off 1 held_soak gives (10 ∷ 5000 ∷ 0 ∷ 0 ∷ 0 ∷ 200 ∷ 0 ∷ []))
    ∷ ("G4 address above, held soak" ∶ off 2 held_soak gives (10 ∷ 5000 ∷ 0 ∷ 0 ∷ 0 ∷ 200 ∷ 0 ∷ []))
    ∷ []

-- ---- G10: word 27 of segment, hold and completion, by deviation, setpoint and PV

word : ℕ → Bool → Bool → ℕ → ℕ → ℕ → List ℕ
word segment hold complete deviation s p = one (flags_of (stands segment hold complete 5000 200) deviation s p)

-- a sample of segment 3 or 4 toward 20 by 2.50, deviation 3: setpoint and PV
watched : ℕ → ℕ → ℕ → List ℕ
watched segment s p = one (sampled_by (program usual) 0 100 (stands segment false false 0 200) s p).flags

words : List Case
words =
    ("G10 segment 1" ∶ word 1 false false 0 10 10 gives one 0x0100)
    ∷ ("G10 segment 16" ∶ word 16 false false 0 10 10 gives one 0x1000)
    ∷ ("G10 held" ∶ word 1 true false 0 10 10 gives one 0x0140)
    ∷ ("G10 complete" ∶ word 0 false true 0 10 10 gives one 0x0010)
    ∷ ("G10 all of it" ∶ word 16 true true 3 10 6 gives one 0x1070)
    ∷ ("G10 PV below by more than the deviation" ∶ word 2 false false 3 10 6 gives one 0x0220)
    ∷ ("G10 PV below by the deviation" ∶ word 2 false false 3 10 7 gives one 0x0200)
    ∷ ("G10 PV above by more than the deviation" ∶ word 2 false false 3 10 14 gives one 0x0220)
    ∷ ("G10 PV above by the deviation" ∶ word 2 false false 3 10 13 gives one 0x0200)
    ∷ ("G10 PV on the setpoint" ∶ word 2 false false 3 10 10 gives one 0x0200)
    ∷ ("G10 a deviation of 0" ∶ word 2 false false 0 65535 0 gives one 0x0200)
    ∷ ("G10 a deviation of 1" ∶ word 2 false false 1 10 12 gives one 0x0220)
    ∷ ("G10 the highest deviation" ∶ word 2 false false 65535 65535 0 gives one 0x0200)
    ∷ ("G10 a held soak" ∶ word 4 true false 3 10 6 gives one 0x0460)
    ∷ ("G10 soaks 6, 8, 10, 12 and 14" ∶ word 6 false false 3 10 6 ++ (word 8 false false 3 10 6 ++ (word 10 false false 3 10 6 ++ (word 12 false false 3 10 6 ++ word 14 false false 3 10 6))) gives (0x0620 ∷ 0x0820 ∷ 0x0A20 ∷ 0x0C20 ∷ 0x0E20 ∷ []))
    ∷ ("G10 not in ramps 5, 7, 9, 11 and 13" ∶ word 5 false false 3 10 6 ++ (word 7 false false 3 10 6 ++ (word 9 false false 3 10 6 ++ (word 11 false false 3 10 6 ++ word 13 false false 3 10 6))) gives (0x0500 ∷ 0x0700 ∷ 0x0900 ∷ 0x0B00 ∷ 0x0D00 ∷ []))
    ∷ ("G10 never in a ramp" ∶ word 3 false false 3 10 6 gives one 0x0300)
    ∷ ("G10 never in a held ramp" ∶ word 15 true false 3 10 6 gives one 0x0F40)
    ∷ ("G10 never without a segment" ∶ word 0 false true 3 10 6 gives one 0x0010)
    -- from 19 to 20: a setpoint that was 3 from the PV is 4 from it; and one that was 4 from it is 3 from it
    ∷ ("G10 handed over to a soak, now further" ∶ watched 3 19 16 gives one 0x0420)
    ∷ ("G10 handed over to a soak, now nearer" ∶ watched 3 19 23 gives one 0x0400)
    ∷ ("G10 the ramp goes on" ∶ watched 3 10 60 gives one 0x0300)
    ∷ ("G10 the soak goes on" ∶ watched 4 20 16 gives one 0x0420)
    ∷ []

-- ---- G12

-- ramps by 2.50 to 10 and by 4.00 to 4, soaks of 0.1 minute and of 0; ramp 5 has no slope
table : List ℕ
table = 10 ∷ 0x0250 ∷ 0x0001 ∷ 3 ∷ 4 ∷ 0x0400 ∷ 0 ∷ 0 ∷ 20 ∷ 0 ∷ []

-- eight ramps between 65,535 and 0 by 0.01, soaks of 0
slow : List ℕ
slow =
    65535 ∷ 1 ∷ 0 ∷ 0 ∷ 0 ∷ 1 ∷ 0 ∷ 0 ∷ 65535 ∷ 1 ∷ 0 ∷ 0 ∷ 0 ∷ 1 ∷ 0 ∷ 0 ∷ 65535 ∷ 1 ∷ 0 ∷ 0 ∷ 0 ∷ 1 ∷ 0 ∷ 0 ∷ 65535 ∷ 1 ∷ 0 ∷ 0 ∷ 0 ∷ 1 ∷ 0 ∷ 0 ∷ []

-- eight ramps to 10 by 2.50, soaks of 999.9 minutes
long : List ℕ
long =
    10 ∷ 0x0250 ∷ 0x9999 ∷ 0 ∷ 10 ∷ 0x0250 ∷ 0x9999 ∷ 0 ∷ 10 ∷ 0x0250 ∷ 0x9999 ∷ 0 ∷ 10 ∷ 0x0250 ∷ 0x9999 ∷ 0 ∷ 10 ∷ 0x0250 ∷ 0x9999 ∷ 0 ∷ 10 ∷ 0x0250 ∷ 0x9999 ∷ 0
    ∷ 10 ∷ 0x0250 ∷ 0x9999 ∷ 0 ∷ 10 ∷ 0x0250 ∷ 0x9999 ∷ 0 ∷ []

-- the first table at 1.00 s: from ramp 1 on its end soak 2 has 6 samples, ramp 3 of 6 counts by 4 has 2, soak 4 has 1, ramp 5 has 1: 10
ahead : Profile → ℕ → List ℕ
ahead p s = one (forecast_of table 100 p s)

-- segment 1 by 2.50 from s and fraction: its samples and 10
from : ℕ → ℕ → List ℕ
from s fraction = ahead (stands 1 false false fraction 700) s

-- segment 2 with a time: its samples and 4
lasted : ℕ → List ℕ
lasted time = ahead (stands 2 false false 0 time) 10

forecasts : List Case
forecasts =
    ("G12 no profile" ∶ ahead (stands 0 false false 5000 300) 0 gives one 0)
    ∷ ("G12 complete" ∶ ahead (stands 0 false true 5000 0) 0 gives one 0)
    ∷ ("G12 ramp from 0: 4" ∶ from 0 0 gives one 14)
    ∷ ("G12 ramp from 0.0001: 4" ∶ from 0 1 gives one 14)
    ∷ ("G12 ramp of just three steps" ∶ from 2 5000 gives one 13)
    ∷ ("G12 ramp of a ten-thousandth more" ∶ from 2 4999 gives one 14)
    ∷ ("G12 ramp of one step" ∶ from 7 5000 gives one 11)
    ∷ ("G12 ramp of less than a step" ∶ from 9 9999 gives one 11)
    ∷ ("G12 ramp on its end" ∶ from 10 0 gives one 11)
    ∷ ("G12 ramp down, less than a step" ∶ from 10 1 gives one 11)
    ∷ ("G12 ramp down of just two steps" ∶ from 15 0 gives one 12)
    ∷ ("G12 ramp down of a ten-thousandth more" ∶ from 15 1 gives one 13)
    ∷ ("G12 held ramp" ∶ ahead (stands 1 true false 0 0) 0 gives one 14)
    ∷ ("G12 soak, no time yet" ∶ lasted 0 gives one 10)
    ∷ ("G12 soak, one sample" ∶ lasted 100 gives one 9)
    ∷ ("G12 soak, a hundredth less" ∶ lasted 99 gives one 10)
    ∷ ("G12 soak, the last sample" ∶ lasted 500 gives one 5)
    ∷ ("G12 soak, a hundredth left" ∶ lasted 599 gives one 5)
    ∷ ("G12 soak, nothing left" ∶ lasted 600 gives one 5)
    ∷ ("G12 soak, longer than its duration" ∶ lasted 6000000 gives one 5)
    ∷ ("G12 held soak" ∶ ahead (stands 2 true false 0 100) 10 gives one 9)
    -- ramp 3 begins where the setpoint stands: 10.5 to 4 is 6.5 by 4
    ∷ ("G12 soak with a fraction" ∶ ahead (stands 2 false false 5000 500) 10 gives one 5)
    ∷ ("G12 ramp 3 from 12" ∶ ahead (stands 3 false false 0 0) 12 gives one 4)
    ∷ ("G12 ramp 3 from 12.0001" ∶ ahead (stands 3 false false 1 0) 12 gives one 5)
    ∷ ("G12 soak 2 before a ramp of 12.0001 to 4" ∶ ahead (stands 2 false false 1 500) 12 gives one 6)
    ∷ ("G12 soak of 0" ∶ ahead (stands 4 false false 0 0) 4 gives one 2)
    ∷ ("G12 slope 0 is the last" ∶ ahead (stands 5 false false 0 0) 4 gives one 1)
    ∷ ("G12 slope 0, on its end" ∶ ahead (stands 5 false false 0 0) 20 gives one 1)
    ∷ ("G12 by a period of 2.00 s" ∶ one (forecast_of table 200 (stands 1 false false 0 0) 0) gives one 8)
    -- 655,350,000 by 1 × 5 is 131,070,000, eight times, and a sample for each soak
    ∷ ("G12 sixteen segments" ∶ one (forecast_of slow 5 (stands 1 false false 0 0) 0) gives one 1048560008)
    ∷ ("G12 segment 2 of sixteen" ∶ one (forecast_of slow 5 (stands 2 false false 0 0) 65535) gives one 917490008)
    ∷ ("G12 ramp 15" ∶ one (forecast_of slow 5 (stands 15 false false 0 0) 65535) gives one 131070001)
    -- 5,999,400 by 5 is 1,199,880: soak 16 alone; with ramp 15 on its end; eight times, with eight ramps on their ends
    ∷ ("G12 soak 16" ∶ one (forecast_of long 5 (stands 16 false false 0 0) 10) gives one 1199880)
    ∷ ("G12 soak 16, a time" ∶ one (forecast_of long 5 (stands 16 false false 0 5999395) 10) gives one 1)
    ∷ ("G12 ramp 15 does not count its time" ∶ one (forecast_of long 5 (stands 15 false false 0 5999395) 10) gives one 1199881)
    ∷ ("G12 the time is the present soak's" ∶ one (forecast_of long 5 (stands 14 false false 0 5999395) 10) gives one 1199882)
    ∷ ("G12 eight soaks" ∶ one (forecast_of long 5 (stands 1 false false 0 0) 10) gives one 9599048)
    ∷ []

-- ---- the first table at 1.00 s, PV 6, sample by sample

-- word 27 before a sample, and what it leaves: as `shown`, and the forecast then
record Step : Type 0 where
  name : String
  flags : ℕ
  on : Bool
  left : List ℕ

infix 20 ◌∶◌leaves◌
◌∶◌leaves◌ : String → ℕ → List ℕ → Step
name ∶ flags leaves left = record { name = name; flags = flags; on = true; left = left }

program_at : Bool → ℕ → Program
program_at on segment = record { on = on; fault = 0; baddigit = false; highend = false; pair = pair_at table (pair_number segment) }

run : Profile → ℕ → List Step → List Case
run p s [] = []
run p s (x ∷ xs) =
    let r = sampled_by (program_at x.on p.segment) x.flags 100 p s 6 in
    (x.name ∶ (shown r ++ ahead r.profile r.setpoint) gives x.left) ∷ run r.profile r.setpoint xs

oven : List Step
oven =
    ("oven 1: nothing runs" ∶ 0 leaves (0 ∷ 0 ∷ 0 ∷ 0 ∷ 0 ∷ 0 ∷ 0 ∷ 0 ∷ []))
    ∷ ("oven 2: Start" ∶ 1 leaves (0 ∷ 0 ∷ 1 ∷ 0 ∷ 0 ∷ 0 ∷ 0x0100 ∷ 14 ∷ []))
    ∷ ("oven 3: ramp" ∶ 0 leaves (2 ∷ 5000 ∷ 1 ∷ 0 ∷ 0 ∷ 0 ∷ 0x0100 ∷ 13 ∷ []))
    ∷ ("oven 4: Hold" ∶ 2 leaves (2 ∷ 5000 ∷ 1 ∷ 1 ∷ 0 ∷ 0 ∷ 0x0140 ∷ 13 ∷ []))
    ∷ ("oven 5: held" ∶ 0 leaves (2 ∷ 5000 ∷ 1 ∷ 1 ∷ 0 ∷ 0 ∷ 0x0140 ∷ 13 ∷ []))
    ∷ ("oven 6: Resume" ∶ 4 leaves (2 ∷ 5000 ∷ 1 ∷ 0 ∷ 0 ∷ 0 ∷ 0x0100 ∷ 13 ∷ []))
    ∷ ("oven 7: ramp" ∶ 0 leaves (5 ∷ 0 ∷ 1 ∷ 0 ∷ 0 ∷ 0 ∷ 0x0100 ∷ 12 ∷ []))
    ∷ ("oven 8: ramp" ∶ 0 leaves (7 ∷ 5000 ∷ 1 ∷ 0 ∷ 0 ∷ 0 ∷ 0x0100 ∷ 11 ∷ []))
    -- 10 is 4 from the PV, and the deviation 3
    ∷ ("oven 9: on its end" ∶ 0 leaves (10 ∷ 0 ∷ 2 ∷ 0 ∷ 0 ∷ 0 ∷ 0x0220 ∷ 10 ∷ []))
    ∷ ("oven 10: soak" ∶ 0 leaves (10 ∷ 0 ∷ 2 ∷ 0 ∷ 0 ∷ 100 ∷ 0x0220 ∷ 9 ∷ []))
    ∷ ("oven 11: Hold, not Resume" ∶ 6 leaves (10 ∷ 0 ∷ 2 ∷ 1 ∷ 0 ∷ 100 ∷ 0x0260 ∷ 9 ∷ []))
    ∷ ("oven 12: held" ∶ 0 leaves (10 ∷ 0 ∷ 2 ∷ 1 ∷ 0 ∷ 100 ∷ 0x0260 ∷ 9 ∷ []))
    ∷ ("oven 13: Jog keeps the hold" ∶ 8 leaves (10 ∷ 0 ∷ 3 ∷ 1 ∷ 0 ∷ 0 ∷ 0x0340 ∷ 4 ∷ []))
    ∷ ("oven 14: Resume" ∶ 4 leaves (10 ∷ 0 ∷ 3 ∷ 0 ∷ 0 ∷ 0 ∷ 0x0300 ∷ 4 ∷ []))
    ∷ ("oven 15: down" ∶ 0 leaves (6 ∷ 0 ∷ 3 ∷ 0 ∷ 0 ∷ 0 ∷ 0x0300 ∷ 3 ∷ []))
    ∷ ("oven 16: on its end" ∶ 0 leaves (4 ∷ 0 ∷ 4 ∷ 0 ∷ 0 ∷ 0 ∷ 0x0400 ∷ 2 ∷ []))
    ∷ ("oven 17: a soak of 0" ∶ 0 leaves (4 ∷ 0 ∷ 5 ∷ 0 ∷ 0 ∷ 0 ∷ 0x0500 ∷ 1 ∷ []))
    ∷ ("oven 18: slope 0" ∶ 0 leaves (4 ∷ 0 ∷ 0 ∷ 0 ∷ 1 ∷ 0 ∷ 0x0010 ∷ 0 ∷ []))
    ∷ ("oven 19: Jog, complete" ∶ 8 leaves (4 ∷ 0 ∷ 0 ∷ 0 ∷ 1 ∷ 0 ∷ 0x0010 ∷ 0 ∷ []))
    -- again from 4, through the whole soak: six periods
    ∷ ("oven 20: Start again" ∶ 1 leaves (4 ∷ 0 ∷ 1 ∷ 0 ∷ 0 ∷ 0 ∷ 0x0100 ∷ 13 ∷ []))
    ∷ ("oven 21: ramp" ∶ 0 leaves (6 ∷ 5000 ∷ 1 ∷ 0 ∷ 0 ∷ 0 ∷ 0x0100 ∷ 12 ∷ []))
    ∷ ("oven 22: ramp" ∶ 0 leaves (9 ∷ 0 ∷ 1 ∷ 0 ∷ 0 ∷ 0 ∷ 0x0100 ∷ 11 ∷ []))
    ∷ ("oven 23: stops on its end" ∶ 0 leaves (10 ∷ 0 ∷ 2 ∷ 0 ∷ 0 ∷ 0 ∷ 0x0220 ∷ 10 ∷ []))
    ∷ ("oven 24: soak, 1 s" ∶ 0 leaves (10 ∷ 0 ∷ 2 ∷ 0 ∷ 0 ∷ 100 ∷ 0x0220 ∷ 9 ∷ []))
    ∷ ("oven 25: soak, 2 s" ∶ 0 leaves (10 ∷ 0 ∷ 2 ∷ 0 ∷ 0 ∷ 200 ∷ 0x0220 ∷ 8 ∷ []))
    ∷ ("oven 26: soak, 3 s" ∶ 0 leaves (10 ∷ 0 ∷ 2 ∷ 0 ∷ 0 ∷ 300 ∷ 0x0220 ∷ 7 ∷ []))
    ∷ ("oven 27: soak, 4 s" ∶ 0 leaves (10 ∷ 0 ∷ 2 ∷ 0 ∷ 0 ∷ 400 ∷ 0x0220 ∷ 6 ∷ []))
    ∷ ("oven 28: soak, 5 s" ∶ 0 leaves (10 ∷ 0 ∷ 2 ∷ 0 ∷ 0 ∷ 500 ∷ 0x0220 ∷ 5 ∷ []))
    ∷ ("oven 29: soak, 6 s" ∶ 0 leaves (10 ∷ 0 ∷ 3 ∷ 0 ∷ 0 ∷ 0 ∷ 0x0300 ∷ 4 ∷ []))
    ∷ record { name = "oven 30: bit 11 off"; flags = 1; on = false; left = 10 ∷ 0 ∷ 0 ∷ 0 ∷ 0 ∷ 0 ∷ 0 ∷ 0 ∷ [] }
    ∷ []

-- ---- all of it, in parts

moves : List Case
moves = commands ++ ramps ++ flats ++ soaks ++ offs

computed_moves : failing moves ≡ []
unfolding apart no_program command_of with_hold handed_over jogged_of toward ramped_to ramped_by soaked_by moved_by worked_by advanced_by deviates flags_of sampled_by stands pair program shown usual sample none complete ramp soak held_ramp held_soak started commands ramped moving over ramps flat flats soaked goes_on ends at_the_end completed soaks off offs moves
computed_moves = refl

told : List Case
told = words ++ forecasts ++ run (stands 0 false false 0 0) 0 oven

computed_told : failing told ≡ []
unfolding apart bcd pair_at command_of with_hold handed_over jogged_of toward ramped_to ramped_by soaked_by moved_by worked_by advanced_by deviates flags_of sampled_by count_of ramps_from forecast_of one stands pair program shown usual word watched words table slow long ahead from lasted forecasts ◌∶◌leaves◌ program_at run oven told
computed_told = refl

parts : List (List Case)
parts = moves ∷ told ∷ []

pub cases : List Case
cases = together parts

pub computed : failing cases ≡ []
unfolding parts cases
computed = in_parts parts (computed_moves, (computed_told, tt))
