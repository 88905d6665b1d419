-- The refusals with their numbers (N1 to N14), the number of an answer, and the first of several conditions that holds (O4).
use Rattle.std.specs.Prelude.{ℕ, ◌≡◌, Bool, cond, ◌⊎◌, List, [], ◌∷◌, Result, Ok, Err}
use Rattle.refusals.specs.declared.Refusal.{Refusal}
use Rattle.refusals.specs.declared.Refusal.TheVariants.{Cut, Kind, Length, Loop, Memory, Record, Store, Digit, Setting, Times, Limits, Setpoint, Above, Room, Transfer}
pub mod Laws

-- N1 to N14: the number of each refusal. Wrong lengths and a record out of range are both N5
abbrev pub number_of_refusal : Refusal → ℕ
number_of_refusal Cut = 1
number_of_refusal Kind = 2
number_of_refusal Length = 3
number_of_refusal Loop = 4
number_of_refusal Memory = 5
number_of_refusal Record = 5
number_of_refusal Store = 6
number_of_refusal Digit = 7
number_of_refusal Setting = 8
number_of_refusal Times = 12
number_of_refusal Limits = 13
number_of_refusal Setpoint = 14
number_of_refusal Above = 9
number_of_refusal Room = 10
number_of_refusal Transfer = 11

-- the answer to a call: accepted, or refused
abbrev pub Answer : Type 0
Answer = Result Unit Refusal

abbrev pub accepted : Answer
accepted = Ok tt

-- Q1 to Q6, Q11, Q12: its number, 0 where the call is accepted
abbrev pub number_of : Answer → ℕ
number_of (Ok _) = 0
number_of (Err why) = number_of_refusal why

-- the same answer, with a value where the call is accepted
abbrev pub accepted_with : {A : Type 0} → Answer → A → Result A Refusal
accepted_with (Ok _) a = Ok a
accepted_with (Err why) a = Err why

-- a condition, and the refusal where it holds
pub record Case : Type 0 where
  pub holds : Bool
  pub why : Refusal

infix 20 ◌⇒◌
abbrev pub ◌⇒◌ : Bool → Refusal → Case
b ⇒ why = record { holds = b; why = why }

-- O4: the first that holds is the answer
abbrev pub first_of : List Case → Answer
first_of [] = accepted
first_of (x ∷ l) = cond x.holds (Err x.why) (first_of l)

-- ---- the same in statements

-- one of several holds
abbrev pub OneOf : List (Type 0) → Type 0
OneOf [] = ⊥
OneOf (P ∷ l) = P ⊎ OneOf l

-- a refusal's number, and its causes
pub record Row : Type 1 where
  pub number : ℕ
  pub causes : List (Type 0)

infix 20 ◌when◌
abbrev pub ◌when◌ : ℕ → List (Type 0) → Row
n when causes = record { number = n; causes = causes }

-- O4: n is the number of the first row of which a cause holds, and 0 where there is none
abbrev pub FirstIn : List Row → ℕ → Type 0
FirstIn [] n = n ≡ 0
FirstIn (row ∷ rows) n = (OneOf row.causes × (n ≡ row.number)) ⊎ ((OneOf row.causes → ⊥) × FirstIn rows n)
