-- The laws of the refusals: a number above 0 is a refusal's, where a list of cases accepts no condition of it holds, and else the first that holds is reported.
use Rattle.std.specs.Prelude.{ℕ, zero, suc, ◌≤◌, ◌<◌, ◌≡◌, refl, Bool, true, false, cond, List, [], ◌∷◌, ◌++◌, Ok, Err}
use Rattle.std.proofs.Common.{arith, sym, ◌∙◌, inl, inr}
use Rattle.refusals.specs.declared.Refusal.{Refusal}
use Rattle.refusals.specs.declared.Refusal.TheVariants.{Cut, Kind, Length, Loop, Memory, Record, Store, Digit, Setting, Times, Limits, Setpoint, Above, Room, Transfer}
use Rattle.refusals.specs.Decides.{Decides}
use Rattle.refusals.specs.Refusals.{number_of_refusal, Answer, accepted, number_of, accepted_with, Case, first_of, OneOf, Row, FirstIn}

-- ---- numbers

-- every refusal has a number from 1 to 14
pub in_table : (why : Refusal) → (0 < number_of_refusal why) × (number_of_refusal why ≤ 14)
in_table Cut = omega arith
in_table Kind = omega arith
in_table Length = omega arith
in_table Loop = omega arith
in_table Memory = omega arith
in_table Record = omega arith
in_table Store = omega arith
in_table Digit = omega arith
in_table Setting = omega arith
in_table Times = omega arith
in_table Limits = omega arith
in_table Setpoint = omega arith
in_table Above = omega arith
in_table Room = omega arith
in_table Transfer = omega arith

-- an answer of 0 is an acceptance
pub accepted_only : (a : Answer) → number_of a ≡ 0 → a ≡ accepted
accepted_only (Ok _) e = refl
accepted_only (Err why) e = absurd (omega (arith, in_table why))

-- a refusal is no acceptance
pub never : {why : Refusal} → Err why ≡ accepted → ⊥
never e = let z : ◌≡◌ {A = ℕ} 0 1 = cc in omega arith

-- ---- an answer with a value

pub refused_with : {A : Type 0} (x : A) (a : Answer) {why : Refusal} → accepted_with a x ≡ Err why → a ≡ Err why
refused_with x (Ok _) e = absurd (let z : ◌≡◌ {A = ℕ} 0 1 = cc in omega arith)
refused_with x (Err other) e = cc

pub granted_with : {A : Type 0} (x : A) (a : Answer) {y : A} → accepted_with a x ≡ Ok y → (a ≡ accepted) × (y ≡ x)
granted_with x (Ok _) e = (refl, cc)
granted_with x (Err why) e = absurd (let z : ◌≡◌ {A = ℕ} 0 1 = cc in omega arith)

-- ---- lists of cases

passed : (b : Bool) (why : Refusal) (rest : Answer) → cond b (Err why) rest ≡ accepted → (b ≡ false) × (rest ≡ accepted)
passed true why rest e = absurd (never e)
passed false why rest e = (refl, e)

-- the condition of the i-th case. Only the law beside a list names a place of it
abbrev pub holds_at : List Case → ℕ → Bool
holds_at [] i = false
holds_at (x ∷ l) zero = x.holds
holds_at (x ∷ l) (suc i) = holds_at l i

-- where none is refused, no condition holds
pub accepted_at : (l : List Case) → first_of l ≡ accepted → (i : ℕ) → holds_at l i ≡ false
accepted_at [] e i = refl
accepted_at (x ∷ l) e zero = (passed x.holds x.why (first_of l) e).0
accepted_at (x ∷ l) e (suc i) = accepted_at l (passed x.holds x.why (first_of l) e).1 i

-- and so of a list that goes on
pub accepted_rest : (l m : List Case) → first_of (l ++ m) ≡ accepted → (first_of l ≡ accepted) × (first_of m ≡ accepted)
accepted_rest [] m e = (refl, e)
accepted_rest (x ∷ l) m e =
    let p = passed x.holds x.why (first_of (l ++ m)) e in
    let q = accepted_rest l m p.1 in
    (rw p.0 q.0, q.1)

-- a list that refuses refuses so, whatever follows; one that accepts leaves the answer to what follows
pub refused_first : (l m : List Case) {why : Refusal} → first_of l ≡ Err why → first_of (l ++ m) ≡ Err why
refused_first [] m e = absurd (never (sym e))
refused_first (x ∷ l) m {why} e = go x.holds (refused_first l m) e
  where
    go : (b : Bool) → (first_of l ≡ Err why → first_of (l ++ m) ≡ Err why) → cond b (Err x.why) (first_of l) ≡ Err why
        → cond b (Err x.why) (first_of (l ++ m)) ≡ Err why
    go true rest e = e
    go false rest e = rest e

pub accepted_first : (l m : List Case) → first_of l ≡ accepted → first_of (l ++ m) ≡ first_of m
accepted_first [] m e = refl
accepted_first (x ∷ l) m e = let p = passed x.holds x.why (first_of l) e in rw p.0 (accepted_first l m p.1)

-- the numbers of a list's refusals are all of a kind
abbrev pub Each : (ℕ → Type 0) → List Case → Type 0
Each P [] = Unit {0}
Each P (x ∷ l) = P (number_of_refusal x.why) × Each P l

-- and so is that of its answer, if 0 is
pub first_of_kind : (P : ℕ → Type 0) → P 0 → (l : List Case) → Each P l → P (number_of (first_of l))
first_of_kind P none [] h = none
first_of_kind P none (x ∷ l) h = go x.holds (first_of_kind P none l h.1)
  where
    go : (b : Bool) → P (number_of (first_of l)) → P (number_of (cond b (Err x.why) (first_of l)))
    go true rest = h.0
    go false rest = rest

-- ---- the first that holds is reported

-- the cases test the causes of the rows, in their order, and have their numbers; each may rest on those before it having failed
pub data Tests : List Case → List Row → Type 1 where
  done : Tests [] []
  tests : {x : Case} {l : List Case} {row : Row} {rows : List Row} → number_of_refusal x.why ≡ row.number → Decides x.holds (OneOf row.causes)
      → (x.holds ≡ false → Tests l rows) → Tests (x ∷ l) (row ∷ rows)

-- O4: the answer is then the number of the first row of which a cause holds
pub first_reported : (l : List Case) (rows : List Row) → Tests l rows → FirstIn rows (number_of (first_of l))
first_reported [] [] done = refl
first_reported [] (row ∷ rows) none = elim none [ ]
first_reported (x ∷ l) [] none = elim none [ ]
first_reported (x ∷ l) (row ∷ rows) (tests e d rest) = go x.holds d (λ f. first_reported l rows (rest f))
  where
    go : (b : Bool) → Decides b (OneOf row.causes) → (b ≡ false → FirstIn rows (number_of (first_of l)))
        → FirstIn (row ∷ rows) (number_of (cond b (Err x.why) (first_of l)))
    go true d rest = inl (d.yes refl, e)
    go false d rest = inr (d.no refl, rest refl)

-- and there is no other
pub first_alone : (rows : List Row) (m n : ℕ) → FirstIn rows m → FirstIn rows n → m ≡ n
first_alone [] m n a b = a ∙ sym b
first_alone (row ∷ rows) m n (inl a) (inl b) = a.1 ∙ sym b.1
first_alone (row ∷ rows) m n (inl a) (inr b) = absurd (b.0 a.0)
first_alone (row ∷ rows) m n (inr a) (inl b) = absurd (a.0 b.0)
first_alone (row ∷ rows) m n (inr a) (inr b) = first_alone rows m n a.1 b.1
