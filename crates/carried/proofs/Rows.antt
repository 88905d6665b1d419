-- The rows of the ranges as the code has them, pairs of a lowest and a highest number, and numbers read beside them.
use Rattle.std.proofs.Common.{ℕ, suc, ◌+◌, ◌≤◌, ◌≡◌, Bool, true, false, ◌||◌, List, [], ◌∷◌, length, drop, map, get_or, refl, sym, ◌∙◌, arith, drop-cons}
use lib.IntN.{ℤ, pos}
use mathlib.Core.Logic.{◌⊎◌, inl, inr}
use Rattle.table.specs.Words.{any_after}
use Rattle.carried.specs.Layout.{Range, ◌to◌, ranges, field_count, outside_row, range_tests, out_of_range}

abbrev pub ends : Range → ℤ × ℤ
ends r = (r.low, r.high)

-- a number stands outside the row beside it
abbrev pub beside : List ℤ → List (ℤ × ℤ) → Bool
beside [] rows = false
beside (n ∷ ns) [] = false
beside (n ∷ ns) (row ∷ rows) = outside_row (row.0 to row.1) n || beside ns rows

or_assoc : (a b c : Bool) → ((a || b) || c) ≡ (a || (b || c))
or_assoc true b c = refl
or_assoc false b c = refl

or_off : (a : Bool) → (a || false) ≡ a
or_off true = refl
or_off false = refl

none_beside : (rows : List (ℤ × ℤ)) (ns : List ℤ) → rows ≡ [] → beside ns rows ≡ false
none_beside rows [] e = refl
none_beside rows (n ∷ ns) e = rw e

tests_beside : (ns : List ℤ) (rs : List Range) (i : ℕ) (found : Bool) → i + length rs ≤ length ns
    → any_after found (range_tests rs ns i) ≡ (found || beside (drop i ns) (map ends rs))
tests_beside ns [] i found few = rw (none_beside [] (drop i ns) refl) (sym (or_off found))
tests_beside ns (r ∷ rs) i found few =
    rw (drop-cons ns i (pos 0) (omega arith))
    (tests_beside ns rs (suc i) (found || outside_row r (get_or ns i (pos 0))) (omega arith)
    ∙ or_assoc found (outside_row r (get_or ns i (pos 0))) (beside (drop (suc i) ns) (map ends rs)))

pub is_beside : (ns : List ℤ) → length ns ≡ field_count → out_of_range ns ≡ beside ns (map ends ranges)
unfolding out_of_range
is_beside ns size = tests_beside ns ranges 0 false (omega arith)

-- ---- a turn of the loop, and its end

pub beside_more : (ns ms : List ℤ) (rows rests : List (ℤ × ℤ)) (n : ℤ) (row : ℤ × ℤ) (found b : Bool) → ns ≡ n ∷ ms → rows ≡ row ∷ rests
    → (found || beside ns rows) ≡ b → ((found || outside_row (row.0 to row.1) n) || beside ms rests) ≡ b
beside_more ns ms rows rests n row found b e f h = or_assoc found (outside_row (row.0 to row.1) n) (beside ms rests) ∙ rw (e, f) at h

pub beside_end : (ns : List ℤ) (rows : List (ℤ × ℤ)) (found b : Bool) → (length ns ≡ 0) ⊎ (length rows ≡ 0) → (found || beside ns rows) ≡ b → found ≡ b
beside_end [] rows found b e h = sym (or_off found) ∙ h
beside_end (n ∷ ns) [] found b e h = sym (or_off found) ∙ h
beside_end (n ∷ ns) (row ∷ rows) found b (inl e) h = absurd (omega (arith, e))
beside_end (n ∷ ns) (row ∷ rows) found b (inr e) h = absurd (omega (arith, e))
