-- What is promised of a profile beside the demands: where it waits and ends (G3, G4), word 29 (G2), what word 27 is read for and tells (G5, G10), that a
-- command and a hold keep it still (G6), that a running one asks for no PV (G11), and what the forecast counts (G12).
use Rattle.std.specs.Prelude.{ℕ, suc, ◌/◌, ◌%◌, ◌≤◌, ◌<◌, ◌≡◌, true, false, ◌&&◌, ◌⊎◌, List, eqb}
use Rattle.numbers.specs.Distances.{apart}
use Rattle.reading.specs.declared.program.Program.{Program}
use Rattle.table.specs.Words.{bit}
use Rattle.table.specs.Modes.{is_cascade}
use Rattle.reading.specs.Programs.{pair_at, pair_number}
use Rattle.profile.specs.declared.moves.Command.TheVariants.{Nothing}
use Rattle.profile.specs.declared.state.Profile.{Profile}
use Rattle.profile.specs.Moves.{command_of, moved_by, advanced_by}
use Rattle.profile.specs.Flags.{is_soak}
use Rattle.profile.specs.Forecasts.{forecast_of}
use Rattle.carried.specs.Layout.{carried_at}
use Rattle.engine.specs.Sensing.{runs_on}
use Rattle.desk.specs.Desk.{Desk, reading_at, step_at}
use Rattle.claims.specs.Words.{word_of}

pub record Profiled : Type 0 where
  -- G3: in Cascade words 27 and 29 and the profile stay
  pub waits : (d : Desk) (k raw : ℕ) → is_cascade (reading_at d k).mode ≡ true → let s = step_at d k raw in
      (s.written.flags ≡ word_of d k 27) × (s.written.fault ≡ word_of d k 29) × (s.carried.state.profile ≡ (carried_at d.numbers k).state.profile)
  -- G2: outside it word 29 tells what is wrong with the address in word 28, with bit 11 on
  pub faults : (d : Desk) (k raw : ℕ) → is_cascade (reading_at d k).mode ≡ false → let fault = (step_at d k raw).written.fault in
      (bit 11 (word_of d k 0) ≡ false → fault ≡ 0) × (bit 11 (word_of d k 0) ≡ true
      → (word_of d k 28 < 512 → fault ≡ 1) × (992 < word_of d k 28 → fault ≡ 2) × (512 ≤ word_of d k 28 → word_of d k 28 ≤ 992 → fault ≡ 0))
  -- G4: with bit 11 off, or a fault there, word 27, segment, hold and completion are 0
  pub ends : (d : Desk) (k raw : ℕ) → is_cascade (reading_at d k).mode ≡ false → let s = step_at d k raw in
      let q = s.carried.state.profile in
      (bit 11 (word_of d k 0) && eqb s.written.fault 0) ≡ false → (s.written.flags ≡ 0) × (q.segment ≡ 0) × (q.hold ≡ false) × (q.complete ≡ false)
  -- G5, G10: of word 27 bits 0 to 3 are read, and no others; they are off afterwards, and the high byte is the segment; bit 5 tells of words 2 and 3
  pub commands : (flags : ℕ) → command_of flags ≡ command_of (flags % 16)
  pub tells : (d : Desk) (k raw : ℕ) → is_cascade (reading_at d k).mode ≡ false → let s = step_at d k raw in
      (s.written.flags % 16 ≡ 0) × (s.written.flags / 256 ≡ s.carried.state.profile.segment)
      × (bit 5 s.written.flags ≡ true → (reading_at d k).program.pair.deviation < apart s.written.setpoint s.written.pv)
  -- G6: where a command is given, or the profile is held, the setpoint stays, and the time is no higher
  pub still : (program : Program) (q : Profile) (flags period setpoint : ℕ) → (q.hold ≡ true) ⊎ (command_of flags ≡ Nothing → ⊥)
      → let m = advanced_by program flags period q setpoint in (m.setpoint ≡ setpoint) × (m.profile.time ≤ q.time)
  -- G10: a soak that a sample comes to stands in the pair whose deviation was read
  pub own : (program : Program) (q : Profile) (flags period setpoint : ℕ) → let segment = (advanced_by program flags period q setpoint).profile.segment in
      is_soak segment ≡ true → pair_number segment ≡ pair_number q.segment
  -- G11: outside Cascade a profile that runs goes on whatever the PV is, at an entry too
  pub runs : (d : Desk) (k raw other : ℕ) → is_cascade (reading_at d k).mode ≡ false → runs_on (reading_at d k).program (carried_at d.numbers k).state.profile ≡ true
      → ((step_at d k raw).written.setpoint ≡ (step_at d k other).written.setpoint) × ((step_at d k raw).carried.state.profile ≡ (step_at d k other).carried.state.profile)
  -- G12: a sample that moves a profile takes one off its forecast, until none runs
  pub less : (table : List ℕ) (period : ℕ) (q : Profile) (setpoint : ℕ) → 0 < period → 1 ≤ q.segment → q.segment ≤ 16 → q.hold ≡ false
      → let m = moved_by (pair_at table (pair_number q.segment)) period q setpoint in
      forecast_of table period q setpoint ≡ suc (forecast_of table period m.profile m.setpoint)
  pub none : (table : List ℕ) (period : ℕ) (q : Profile) (setpoint : ℕ) → q.segment ≡ 0 → forecast_of table period q setpoint ≡ 0
