-- A drill file carried out on a desk (L1, L8, Q5).
use Rattle.desk.specs.declared.sampling.Line.{Line}
use Rattle.std.specs.Prelude.{ℕ, ◌+◌, cond, List, [], ◌∷◌, replicate, eqb, ℤ, Err, Result, Ok}
use Rattle.refusals.specs.declared.Refusal.{Refusal}
use Rattle.refusals.specs.declared.Refusal.TheVariants.{Memory}
use Rattle.refusals.specs.Refusals.{number_of, Answer, accepted, accepted_with}
use Rattle.reader.specs.declared.Record.TheVariants.{Store, Sample}
use Rattle.reader.specs.File.{Item, records_of}
use Rattle.desk.specs.Desk.{Desk, lent, fitting_of, words_of, sampled_at}
use Rattle.desk.specs.Lists.{Call, store, sample, answer_to, desk_after}
use Rattle.session.specs.declared.running.Totals.{Totals}
pub mod Laws

-- ---- one record

-- O2: a store and a sample are the desk's calls, and what the reader refuses is none
abbrev pub by_call : {A : Type 0} → (Call → A) → (Refusal → A) → Item → A
by_call call none (Ok (Store address value)) = call (store address value)
by_call call none (Ok (Sample k raw)) = call (sample k raw)
by_call call none (Err why) = none why

-- Q5: its answer, and the number of that: 0 where it is carried out
abbrev pub answer_for : Desk → Item → Answer
answer_for d x = by_call (answer_to d) (λ why. Err why) x

abbrev pub number_for : Desk → Item → ℕ
number_for d x = number_of (answer_for d x)

-- Q5, O5: the desk after it
abbrev pub left_for : Desk → Item → Desk
left_for d x = by_call (desk_after d) (λ why. d) x

-- Q5: how many refusals a number counts for
abbrev pub count_of : ℕ → ℕ
count_of number = cond (eqb number 0) 0 1

-- L9: what is shown of the loop of a sample that is carried out
abbrev pub shown_of : Result Line Refusal → List ℕ
shown_of (Ok l) = words_of l
shown_of (Err why) = replicate 4 0

abbrev pub shown_for : Desk → Item → List ℕ
shown_for d (Ok (Store address value)) = replicate 4 0
shown_for d (Ok (Sample k raw)) = shown_of (sampled_at d k raw)
shown_for d (Err why) = replicate 4 0

-- Q5, L9: what is shown of a record that is carried out, or why it is refused
abbrev pub acted_for : Desk → Item → Result (List ℕ) Refusal
acted_for d x = accepted_with (answer_for d x) (shown_for d x)

-- and the answer in that
abbrev pub answer_in : Result (List ℕ) Refusal → Answer
answer_in (Ok line) = accepted
answer_in (Err why) = Err why

-- ---- a list of records

-- Q5: the desk, how many records there were, and how many of them were refused
pub record State : Type 0 where
  pub desk : Desk
  pub count : ℕ
  pub refused : ℕ

abbrev pub state : List ℕ → List ℤ → ℕ → ℕ → State
state ws ns n m = record { desk = lent ws ns; count = n; refused = m }

-- before the first record
abbrev pub begun : Desk → State
begun d = record { desk = d; count = 0; refused = 0 }

-- Q5: after one more record
abbrev pub after : State → Item → State
after t x = record {
  desk = left_for t.desk x;
  count = t.count + 1;
  refused = t.refused + count_of (number_for t.desk x);
}

-- L8: a record, carried out or refused, is followed by the next one
unfoldable pub run_of : State → List Item → State
run_of t [] = t
run_of t (x ∷ xs) = run_of (after t x) xs

-- Q5: the answers in order, 0 for a record carried out, else its number of refusal
unfoldable pub answers_for : Desk → List Item → List ℕ
answers_for d [] = []
answers_for d (x ∷ xs) = number_for d x ∷ answers_for (left_for d x) xs

-- Q5: how many of some answers are refusals
unfoldable pub refusals_in : List ℕ → ℕ
refusals_in [] = 0
refusals_in (number ∷ rest) = count_of number + refusals_in rest

-- E1: the records of a file as the desk's calls; those that the reader refuses are none
unfoldable pub calls_of : List Item → List Call
calls_of [] = []
calls_of (x ∷ xs) = by_call (λ call. call ∷ calls_of xs) (λ why. calls_of xs) x

-- ---- a file

abbrev pub totals : ℕ → ℕ → Totals
totals count refused = record { count = count; refused = refused }

-- Q5, O1: where the memory does not have its lengths, stopped by N5; else the counts
unfoldable pub ended_of : List ℕ → Desk → Result Totals Refusal
ended_of file d = let t = run_of (begun d) (records_of file) in cond (fitting_of d) (Ok (totals t.count t.refused)) (Err Memory)

-- Q5, Q8: the desk after the file
unfoldable pub left_of : List ℕ → Desk → Desk
left_of file d = cond (fitting_of d) (run_of (begun d) (records_of file)).desk d

-- Q5, O1: the answers to the file's records
unfoldable pub answers_of : List ℕ → Desk → List ℕ
answers_of file d = cond (fitting_of d) (answers_for d (records_of file)) []
