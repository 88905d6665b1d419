-- One sample of a profile (G4 to G9): the commands of word 27, and what moves without one.
use Rattle.std.specs.Prelude.{ℕ, ◌+◌, ◌-◌, ◌*◌, ◌/◌, ◌%◌, Bool, true, false, cond, ◌||◌, ltb, leb, eqb}
use Rattle.reading.specs.declared.program.Pair.{Pair}
use Rattle.reading.specs.declared.program.Program.{Program}
use Rattle.table.specs.Words.{bit}
use Rattle.profile.specs.declared.state.Profile.{Profile}
use Rattle.profile.specs.declared.state.Moved.{Moved}
use Rattle.profile.specs.declared.moves.Command.{Command}
use Rattle.profile.specs.declared.moves.Command.TheVariants.{Start, Hold, Resume, Jog, Nothing}

-- G5: of bits 0 to 3 of word 27 the lowest one that is on
unfoldable pub command_of : ℕ → Command
command_of flags = cond (bit 0 flags) Start (cond (bit 1 flags) Hold (cond (bit 2 flags) Resume (cond (bit 3 flags) Jog Nothing)))

-- G4: without a program segment, hold and completion are off
abbrev pub ended_of : Profile → Profile
ended_of p = record { segment = 0; hold = false; complete = false; fraction = p.fraction; time = p.time }

-- G5: Start
abbrev pub started_of : Profile
started_of = record { segment = 1; hold = false; complete = false; fraction = 0; time = 0 }

-- G5: Hold and Resume, where a profile runs
unfoldable pub with_hold : Bool → Profile → Profile
with_hold hold p =
    cond (eqb p.segment 0) p
    (record { segment = p.segment; hold = hold; complete = p.complete; fraction = p.fraction; time = p.time })

-- G9: the profile completes
abbrev pub completed_of : Profile → Profile
completed_of p = record { segment = 0; hold = false; complete = true; fraction = p.fraction; time = 0 }

-- G9: a segment ends: the next one begins, and behind the sixteenth the profile completes
unfoldable pub handed_over : Profile → Profile
handed_over p =
    cond (ltb p.segment 16)
    (record { segment = p.segment + 1; hold = p.hold; complete = p.complete; fraction = p.fraction; time = 0 })
    (completed_of p)

-- G5: Jog, where a profile runs
unfoldable pub jogged_of : Profile → Profile
jogged_of p = cond (eqb p.segment 0) p (handed_over p)

-- G7: a number moved by a step toward another, where it stops
unfoldable pub toward : ℕ → ℕ → ℕ → ℕ
toward at to step =
    cond (ltb at to) (cond (leb (to - at) step) to (at + step)) (cond (leb (at - to) step) to (at - step))

-- G7: the setpoint with its fraction, in ten-thousandths of a count
abbrev pub parts_of : ℕ → ℕ → ℕ
parts_of setpoint fraction = 10000 * setpoint + fraction

-- G7: the ramp has come to `at`; on its end it hands over
unfoldable pub ramped_to : ℕ → ℕ → Profile → Moved
ramped_to at to p =
    let q : Profile = record { segment = p.segment; hold = p.hold; complete = p.complete; fraction = at % 10000; time = p.time } in
    record { profile = cond (eqb at to) (handed_over q) q; setpoint = at / 10000 }

-- G7, G9: a slope of 0 completes the profile; else the ramp moves by slope × period
unfoldable pub ramped_by : Pair → ℕ → Profile → ℕ → Moved
ramped_by pair period p setpoint =
    let to = parts_of pair.end 0 in
    cond (eqb pair.slope 0) (record { profile = completed_of p; setpoint = setpoint })
    (ramped_to (toward (parts_of setpoint p.fraction) to (pair.slope * period)) to p)

-- G8: a soak sums the period, and ends where the sum covers its duration: tenths of a minute in hundredths of a second
unfoldable pub soaked_by : Pair → ℕ → Profile → Profile
soaked_by pair period p =
    let time = p.time + period in
    cond (leb (600 * pair.duration) time) (handed_over p)
    (record { segment = p.segment; hold = p.hold; complete = p.complete; fraction = p.fraction; time = time })

-- G6: without a command a profile that runs and is not held moves: odd segments are ramps, even ones soaks
unfoldable pub moved_by : Pair → ℕ → Profile → ℕ → Moved
moved_by pair period p setpoint =
    cond (p.hold || eqb p.segment 0) (record { profile = p; setpoint = setpoint })
    (cond (eqb (p.segment % 2) 1) (ramped_by pair period p setpoint) (record { profile = soaked_by pair period p; setpoint = setpoint }))

-- G5, G6: a command moves nothing, and counts no time
unfoldable pub worked_by : Command → Pair → ℕ → Profile → ℕ → Moved
worked_by Start pair period p setpoint = record { profile = started_of; setpoint = setpoint }
worked_by Hold pair period p setpoint = record { profile = with_hold true p; setpoint = setpoint }
worked_by Resume pair period p setpoint = record { profile = with_hold false p; setpoint = setpoint }
worked_by Jog pair period p setpoint = record { profile = jogged_of p; setpoint = setpoint }
worked_by Nothing pair period p setpoint = moved_by pair period p setpoint

-- G4 to G9: profile and setpoint after a sample outside Cascade; `flags` is word 27 as it stood, `setpoint` that of A4
unfoldable pub advanced_by : Program → ℕ → ℕ → Profile → ℕ → Moved
advanced_by program flags period p setpoint =
    cond program.on (worked_by (command_of flags) program.pair period p setpoint) (record { profile = ended_of p; setpoint = setpoint })
