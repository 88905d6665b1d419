-- Lists of calls on a desk (E1), and what demand 3 claims of each (E2, E6): the sixteen plain loops are fed beside the desk.
use Rattle.refusals.specs.Refusals.{Answer, accepted}
use Rattle.std.specs.Prelude.{ℕ, ◌+◌, ◌≡◌, cond, List, [], ◌∷◌, eqb, ℤ, get_or, Ok, Err}
use Rattle.reading.specs.declared.reading.Reading.{Reading}
use Rattle.table.specs.Words.{base_of}
use Rattle.reading.specs.Reading.{reading_of}
use Rattle.measuring.specs.Measuring.{measured_of}
use Rattle.carried.specs.Former.{former_of}
use Rattle.carried.specs.Layout.{carried_at}
use Rattle.plain.specs.Plain.{Plain, begun, plain_after, plain_marked}
use Rattle.plain.specs.Premises.{Good}
use Rattle.desk.specs.Desk.{Desk, marks, reset_answer, reset_left, store_answer, store_left, sample_answer, sample_left}

-- E1: a reset; a value stored at an address; a sample of a loop with a raw PV
pub data Call : Type 0 where
  reset : Call
  store : ℕ → ℕ → Call
  sample : ℕ → ℕ → Call

-- Q1 to Q3: the answer to a call
unfoldable pub answer_to : Desk → Call → Answer
answer_to d reset = reset_answer d
answer_to d (store address value) = store_answer d address
answer_to d (sample k raw) = sample_answer d k raw

-- Q1 to Q3: the desk after it
unfoldable pub desk_after : Desk → Call → Desk
desk_after d reset = reset_left d
desk_after d (store address value) = store_left d address value
desk_after d (sample k raw) = sample_left d k raw

-- E1: the desk after a list of calls, nothing being written between
unfoldable pub desk_behind : Desk → List Call → Desk
desk_behind d [] = d
desk_behind d (call ∷ calls) = desk_behind (desk_after d call) calls

-- ---- the plain loops beside the desk, that of loop k at k

abbrev pub Plains : Type 0
Plains = ℕ → Plain

-- E3: each begins with its loop's record
abbrev pub begun_all : List ℤ → Plains
begun_all ns k = begun (carried_at ns k)

-- E3: what a sample of loop j reads, its past being that of its plain loop
abbrev pub read_by : Plains → Desk → ℕ → Reading
read_by qs d j = reading_of d.words j (former_of (qs j).state)

-- E3: an accepted sample of loop j moves its plain loop, and one that is a transfer marks that of the major loop; the others stay
unfoldable pub sampled_all : Plains → Desk → ℕ → ℕ → Plains
sampled_all qs d j raw k =
    let r = read_by qs d j in
    cond (eqb j k) (plain_after (qs k) r (measured_of r raw)) (cond (marks r k) (plain_marked (qs k)) (qs k))

-- E3: an accepted reset begins all of them anew; what is refused, and a store, leaves them
abbrev pub fed_by : Plains → Desk → Answer → Call → Plains
fed_by qs d (Err why) call = qs
fed_by qs d (Ok _) reset = begun_all (desk_after d reset).numbers
fed_by qs d (Ok _) (store address value) = qs
fed_by qs d (Ok _) (sample j raw) = sampled_all qs d j raw

-- E3: the plain loops after a call
unfoldable pub fed : Plains → Desk → Call → Plains
fed qs d call = fed_by qs d (answer_to d call) call

-- E1, E3: and after a list of calls
unfoldable pub plains_behind : Plains → Desk → List Call → Plains
plains_behind qs d [] = qs
plains_behind qs d (call ∷ calls) = plains_behind (fed qs d call) (desk_after d call) calls

-- ---- the claim

-- E2, E6 of one call, q being the plain loop after it: an accepted sample of loop k is good. Word 5 is its output, words 24 and 25 the limits that it read
unfoldable pub Claim : ℕ → Desk → Plain → Call → Type 0
Claim k d q reset = Unit {0}
Claim k d q (store address value) = Unit {0}
Claim k d q (sample j raw) =
    j ≡ k → answer_to d (sample j raw) ≡ accepted
    → let base = base_of k in
    Good (get_or (desk_after d (sample j raw)).words (base + 5) 0) (get_or d.words (base + 24) 0) (get_or d.words (base + 25) 0) q

-- E1: and of every call of a list
unfoldable pub Holds : ℕ → Plains → Desk → List Call → Type 0
Holds k qs d [] = Unit {0}
Holds k qs d (call ∷ calls) = let qs' = fed qs d call in Claim k d (qs' k) call × Holds k qs' (desk_after d call) calls
