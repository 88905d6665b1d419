-- Word 27 after a sample (G10).
use Rattle.std.specs.Prelude.{ℕ, ◌+◌, ◌*◌, ◌%◌, Bool, not, ◌&&◌, ltb, eqb}
use Rattle.numbers.specs.Distances.{apart}
use Rattle.table.specs.Words.{flag_of}
use Rattle.profile.specs.declared.state.Profile.{Profile}

-- G1: the even segments are soaks
abbrev pub is_soak : ℕ → Bool
is_soak segment = not (eqb segment 0) && eqb (segment % 2) 0

-- G10: the PV is further from the setpoint than a deviation that is not 0
unfoldable pub deviates : ℕ → ℕ → ℕ → Bool
deviates deviation s p = not (eqb deviation 0) && ltb deviation (apart s p)

-- G10: the segment in the high byte, bit 6 the hold, bit 5 the deviation of a soak, bit 4 completion
unfoldable pub flags_of : Profile → ℕ → ℕ → ℕ → ℕ
flags_of q deviation s p =
    256 * q.segment + flag_of q.hold 64 + flag_of (is_soak q.segment && deviates deviation s p) 32 + flag_of q.complete 16
