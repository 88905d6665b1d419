-- What the machine reads back of a number's bits is that number, of an array of 64-bit numbers.
use Prim.Native.Nat.{ℕ, zero, suc}
use mathlib.Core.Path.{◌≡◌}
use mathlib.Core.List.{List, [], ◌∷◌}
use lib.Dec.{lit<}
use lib.IntN.{ℤ, pos}
use lib.ListN.{get_or}
use mir.Syntax.{w64}
use mir.Val.{Val, SFits, to_z, of_z}
use denote.Array.{each}
use denote.Shadow.{shadow}
use denote.Signed.{SInt}
use Rattle.numbers.proofs.Machine.{back}

abbrev pub Same : ℤ → Type 0
Same z = to_z w64 (of_z w64 z) ≡ z

fits : (ns : List ℤ) (us : List Val) (i : ℕ) → shadow (each ℤ (SInt w64).own_val ns us) → SFits w64 (get_or ns i (pos 0))
fits [] us i p = record { sfits = lit< tt }
fits (n ∷ ns) [] i p = absurd p
fits (n ∷ ns) (u ∷ us) zero p = record { sfits = p.0.1 }
fits (n ∷ ns) (u ∷ us) (suc i) p = fits ns us i p.1

pub same : (ns : List ℤ) (us : List Val) → shadow (each ℤ (SInt w64).own_val ns us) → (i : ℕ) → Same (get_or ns i (pos 0))
same ns us p i = back (fits ns us i p)
