-- A table of computed cases: a line for each, with its name, what the definitions give, and the numbers worked out by hand. Where a definition is
-- wrong the claim that no case fails is refused, and its message lists the names of those that do.
use Rattle.std.specs.Prelude.{ℕ, zero, suc, ◌+◌, ◌*◌, Bool, true, false, cond, ◌&&◌, List, [], ◌∷◌, map, eqb, ℤ, pos, negsuc}
use Prim.Native.String.{String}
pub mod Laws

pub record Case : Type 0 where
  pub name : String
  pub given : List ℕ
  pub expected : List ℕ

infix 20 ◌∶◌gives◌
abbrev pub ◌∶◌gives◌ : String → List ℕ → List ℕ → Case
name ∶ given gives expected = record { name = name; given = given; expected = expected }

-- a flag as a number
abbrev pub flag : Bool → ℕ
flag b = cond b 1 0

-- a whole number as a natural one, no two alike
abbrev pub signed : ℤ → ℕ
signed (pos n) = 2 * n
signed (negsuc n) = 2 * n + 1

-- a case in whole numbers
infix 20 ◌∶◌givesℤ◌
abbrev pub ◌∶◌givesℤ◌ : String → List ℤ → List ℤ → Case
name ∶ given givesℤ expected = name ∶ map signed given gives map signed expected

-- ---- the cases that fail

abbrev pub same : List ℕ → List ℕ → Bool
same [] [] = true
same [] (y ∷ ys) = false
same (x ∷ xs) [] = false
same (x ∷ xs) (y ∷ ys) = eqb x y && same xs ys

-- the names of up to n cases that fail
abbrev pub failing_up_to : ℕ → List Case → List String
failing_up_to zero cs = []
failing_up_to (suc n) [] = []
failing_up_to (suc n) (c ∷ cs) = cond (same c.given c.expected) (failing_up_to (suc n) cs) (c.name ∷ failing_up_to n cs)

-- the first eight: more would not fit a message. None are named only where none fails (`Laws.none_fails`)
abbrev pub failing : List Case → List String
failing cs = failing_up_to 8 cs
