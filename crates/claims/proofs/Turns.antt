-- The laws of a turn: what a call leaves of the numbers that it was lent, and of those that it was not.
use Prim.Native.Nat.{ℕ, ◌+◌, ◌≤◌}
use native.Mathlib.Omega.{arith}
use mathlib.Core.Path.{◌≡◌, sym, ap, ◌∙◌}
use mathlib.Core.Bool.{true, false}
use mathlib.Core.List.{List, ◌++◌}
use lib.IntN.{ℤ}
use lib.ListN.{length, drop, length-drop, take-append-drop}
use lib.Seq.{take-append-le, drop-append-le}
use Rattle.reader.specs.File.{records_of}
use Rattle.carried.specs.Layout.{field_count, slot_of, numbers_at}
use Rattle.desk.specs.Desk.{Desk, fitting_of}
use Rattle.desk.proofs.Laws.Desk.{sound}
use Rattle.desk.proofs.Laws.Lists.{refused_call, unfit, numbers_kept, numbers_behind}
use Rattle.session.specs.Session.{begun, calls_of, left_of}
use Rattle.session.specs.Session.Laws.{run_desk}
use Rattle.claims.specs.Turns.{Made, one, file, Turn, found, made_left, behind}

-- a record that stands whole in the first of two lists is found there
front : (xs ys : List ℤ) (at : ℕ) → at + field_count ≤ length xs → numbers_at (xs ++ ys) at ≡ numbers_at xs at
front xs ys at h = rw (drop-append-le at xs ys (omega arith)) (take-append-le field_count (drop at xs) ys (simp length-drop (omega arith)))

-- ---- memory of the wrong lengths

-- is left by every call
pub unfit_left : (d : Desk) → fitting_of d ≡ false → (m : Made) → made_left d m ≡ d
unfolding made_left left_of
unfit_left d wrong (one call) = refused_call d call (rw (unfit d wrong call) (omega arith))
unfit_left d wrong (file bytes) = rw wrong

pub unfit_behind : (d : Desk) (t : Turn) → fitting_of (found d t) ≡ false → (behind d t).numbers ≡ d.numbers
unfit_behind d t wrong = rw (unfit_left (found d t) wrong t.made) (take-append-drop t.lending d.numbers)

-- ---- memory of the right lengths

-- keeps them
left_length : (d : Desk) → fitting_of d ≡ true → (m : Made) → length (made_left d m).numbers ≡ length d.numbers
unfolding made_left left_of
left_length d fit (one call) = numbers_kept d call
left_length d fit (file bytes) = rw (fit, run_desk (begun d) (records_of bytes)) (numbers_behind d (calls_of (records_of bytes)))

-- so a loop's record is found among the numbers lent, and behind the turn as the call left it
module _ (d : Desk) (t : Turn) (fit : fitting_of (found d t) ≡ true) (k : ℕ) (above : 1 ≤ k) (below : k ≤ 16) where
  pub record_found : numbers_at d.numbers (slot_of k) ≡ numbers_at (found d t).numbers (slot_of k)
  record_found =
      ap (λ (ns : List ℤ). numbers_at ns (slot_of k)) (sym (take-append-drop t.lending d.numbers))
      ∙ front (found d t).numbers (drop t.lending d.numbers) (slot_of k) (omega (arith, (sound (found d t) fit).numbers))

  pub record_behind : numbers_at (behind d t).numbers (slot_of k) ≡ numbers_at (made_left (found d t) t.made).numbers (slot_of k)
  record_behind =
      front (made_left (found d t) t.made).numbers (drop t.lending d.numbers) (slot_of k)
      (omega (arith, left_length (found d t) fit t.made, (sound (found d t) fit).numbers))
