-- One sample of a loop's profile, outside Cascade (G4 to G10): profile and setpoint after it, and word 27.
use Rattle.std.specs.Prelude.{ℕ}
use Rattle.reading.specs.declared.program.Program.{Program}
use Rattle.profile.specs.declared.state.Profile.{Profile}
use Rattle.profile.specs.declared.sampling.Profiled.{Profiled}
use Rattle.profile.specs.Moves.{advanced_by}
use Rattle.profile.specs.Flags.{flags_of}

-- G10: word 27 tells of profile and setpoint as this sample leaves them, p being the PV
unfoldable pub sampled_by : Program → ℕ → ℕ → Profile → ℕ → ℕ → Profiled
sampled_by program flags period q setpoint p =
    let m = advanced_by program flags period q setpoint in
    record {
      profile = m.profile;
      setpoint = m.setpoint;
      flags = flags_of m.profile program.pair.deviation m.setpoint p;
    }
