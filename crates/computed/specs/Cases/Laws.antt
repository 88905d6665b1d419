-- What a table's claim says.
use Rattle.std.specs.Prelude.{ℕ, suc, ◌≡◌, refl, Bool, true, false, cond, ◌&&◌}
use Rattle.std.proofs.Common.{◌∙◌}
use mathlib.Core.List.{List, [], ◌∷◌, ◌++◌, cons≢nil}
use Rattle.computed.specs.Cases.{Case, same, failing_up_to, failing}

-- every case of a table gives what is expected
abbrev pub holding : List Case → Bool
holding [] = true
holding (c ∷ cs) = same c.given c.expected && holding cs

-- a table that names no failing case has none
none_within : (n : ℕ) (cs : List Case) → failing_up_to (suc n) cs ≡ [] → holding cs ≡ true
none_within n [] e = refl
none_within n (c ∷ cs) e = by_test (same c.given c.expected) (none_within n cs) e
  where
    by_test : (t : Bool) → (failing_up_to (suc n) cs ≡ [] → holding cs ≡ true)
        → cond t (failing_up_to (suc n) cs) (c.name ∷ failing_up_to n cs) ≡ [] → (t && holding cs) ≡ true
    by_test true rest h = rest h
    by_test false rest h = absurd (cons≢nil h)

pub none_fails : (cs : List Case) → failing cs ≡ [] → holding cs ≡ true
none_fails cs e = none_within 7 cs e

-- behind cases of which none fails, those that fail are the same
behind : (n : ℕ) (a b : List Case) → failing_up_to (suc n) a ≡ [] → failing_up_to (suc n) (a ++ b) ≡ failing_up_to (suc n) b
behind n [] b e = refl
behind n (c ∷ cs) b e = by_test (same c.given c.expected) (behind n cs b) e
  where
    by_test : (t : Bool) → (failing_up_to (suc n) cs ≡ [] → failing_up_to (suc n) (cs ++ b) ≡ failing_up_to (suc n) b)
        → cond t (failing_up_to (suc n) cs) (c.name ∷ failing_up_to n cs) ≡ []
        → cond t (failing_up_to (suc n) (cs ++ b)) (c.name ∷ failing_up_to n (cs ++ b)) ≡ failing_up_to (suc n) b
    by_test true rest h = rest h
    by_test false rest h = absurd (cons≢nil h)

-- ---- a table in parts: the checker prints names only as far as a number of steps, so a long table is claimed part by part

-- the cases of the parts in a row
abbrev pub together : List (List Case) → List Case
together [] = []
together (p ∷ ps) = p ++ together ps

-- no case of any part fails
abbrev pub InParts : List (List Case) → Type 0
InParts [] = Unit {0}
InParts (p ∷ ps) = (failing p ≡ []) × InParts ps

pub in_parts : (ps : List (List Case)) → InParts ps → failing (together ps) ≡ []
in_parts [] h = refl
in_parts (p ∷ ps) h = behind 7 p (together ps) h.0 ∙ in_parts ps h.1

-- and of a part whose cases take many steps each, case by case
abbrev pub Each : List Case → Type 0
Each [] = Unit {0}
Each (c ∷ cs) = (failing (c ∷ []) ≡ []) × Each cs

pub each_holds : (cs : List Case) → Each cs → failing cs ≡ []
each_holds [] h = refl
each_holds (c ∷ cs) h = behind 7 (c ∷ []) cs h.0 ∙ each_holds cs h.1
