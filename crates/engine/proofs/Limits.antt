-- Limits (E2): the output word of an accepted sample lies within the output limits that it read, in every form and in Manual.
use Prim.Native.Nat.{ℕ, ◌≤◌}
use native.Mathlib.Omega.{arith}
use mathlib.Core.Bool.{Bool, true, false}
use lib.Dec.{lit<}
use lib.IntN.{ℤ}
use Rattle.numbers.specs.Whole.{linear, abs}
use Rattle.numbers.proofs.Laws.Rounding.{half_up_low, half_up_high}
use Rattle.reading.specs.declared.settings.Settings.{Settings}
use Rattle.control.specs.declared.forms.Drive.{Drive}
use Rattle.carried.specs.declared.record.Past.{Past}
use Rattle.engine.specs.Driving.{held_of, moved_of}
use Rattle.engine.proofs.Laws.Driving.{held_low, held_high, moved_inside}
use Rattle.engine.specs.Writing.{output_word}
use Rattle.engine.specs.Premises.{Movable}

pub record Between (lo hi x : ℕ) : Type 0 where
  pub low : lo ≤ x
  pub high : x ≤ hi

-- the output word that the moves give
pub word_inside : (manual : Bool) {s : Settings} {drive : Drive} {past : Past} {p : ℕ} {e : ℤ} → Movable s drive past p e
    → Between s.limits.low s.limits.high (output_word manual (held_of s) (moved_of s manual drive past p e).output)
unfolding output_word
word_inside true {s} m = record { low = held_low s m.limits; high = held_high s m.limits }
word_inside false {s} {drive} {past} {p} {e} m =
    let i = moved_inside m in
    let out = (moved_of s false drive past p e).output in
    record {
      low = half_up_low {d = 262144} (lit< tt) s.limits.low (omega (arith, linear, i.low, abs out));
      high = half_up_high {d = 262144} (lit< tt) s.limits.high (omega (arith, linear, i.low, i.high, abs out));
    }
