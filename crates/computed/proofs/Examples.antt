-- A table with wrong lines: those are named, in their order, and no others.
use mathlib.Core.Path.{◌≡◌, refl}
use mathlib.Core.List.{List, [], ◌∷◌}
use lib.IntN.{pos, negsuc}
use Rattle.computed.specs.Cases.{Case, ◌∶◌gives◌, ◌∶◌givesℤ◌, failing}

pub some_wrong : List Case
some_wrong =
    ("equal" ∶ (1 ∷ 2 ∷ []) gives (1 ∷ 2 ∷ []))
    ∷ ("another number" ∶ (1 ∷ 2 ∷ []) gives (1 ∷ 3 ∷ []))
    ∷ ("none" ∶ [] gives [])
    ∷ ("one too many" ∶ (1 ∷ 2 ∷ []) gives (1 ∷ []))
    ∷ ("one too few" ∶ (1 ∷ []) gives (1 ∷ 2 ∷ []))
    ∷ ("equal and negative" ∶ (negsuc 0 ∷ []) givesℤ (negsuc 0 ∷ []))
    ∷ ("another sign" ∶ (pos 1 ∷ []) givesℤ (negsuc 0 ∷ []))
    ∷ []

pub named : failing some_wrong ≡ "another number" ∷ "one too many" ∷ "one too few" ∷ "another sign" ∷ []
unfolding some_wrong
named = refl
