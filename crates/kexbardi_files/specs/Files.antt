-- What the exported functions on drill files answer and leave (Q5, Q6, Q12): the definitions of session and setup file, as numbers.
use Rattle.std.specs.Prelude.{ℕ, cond, List, eqb, length, Result, Ok, Err}
use Rattle.std.proofs.lemmas.List.Edits.{sets}
use Rattle.refusals.specs.declared.Refusal.{Refusal}
use Rattle.refusals.specs.Refusals.{number_of_refusal}
use Rattle.session.specs.declared.running.Totals.{Totals}
use Rattle.desk.specs.Desk.{Desk}
use Rattle.session.specs.Session.{answers_of}
use Rattle.session.specs.Printed.{printed_within}
use Rattle.setups.specs.Setup.{setup_answer, setup_left}

-- ---- a file carried out: the answer and the two counts

pub record Ran : Type 0 where
  pub number : ℕ
  pub count : ℕ
  pub refused : ℕ

abbrev pub ended : ℕ → ℕ → ℕ → Ran
ended number count refused = record { number = number; count = count; refused = refused }

-- Q5: by how the session ended; where it stopped the counts stay (Q8)
abbrev pub ended_by : Result Totals Refusal → ℕ → ℕ → Ran
ended_by (Err why) count refused = ended (number_of_refusal why) count refused
ended_by (Ok all) count refused = ended 0 all.count all.refused

-- Q5: the buffer of the answers, from its start on, as far as there is room
abbrev pub answers_left : List ℕ → Desk → List ℕ → List ℕ
answers_left file d answers = sets answers 0 (answers_of file d)

-- ---- a text or a file into lent room: the answer, the room, and the length that is told

pub record Filled : Type 0 where
  pub number : ℕ
  pub out : List ℕ
  pub length : ℕ

abbrev pub filled : ℕ → List ℕ → ℕ → Filled
filled number out size = record { number = number; out = out; length = size }

-- Q6: N5 where there is no text: it is never empty where there is room (`claims/proofs/Demand1.printed_some`)
abbrev pub printed_by : List ℕ → List ℕ → ℕ → Filled
printed_by text out size = cond (eqb (length text) 0) (filled 5 out size) (filled 0 (sets out 0 text) (length text))

-- Q6: the answer, the room lent and the length after a print
unfoldable pub print_left : List ℕ → List ℕ → ℕ → Filled
print_left file out size = printed_by (printed_within (length out) file) out size

-- Q12: by what the writer answers; where it refuses, the length stays (Q8)
abbrev pub handed_by : Result ℕ Refusal → List ℕ → ℕ → Filled
handed_by (Err why) out size = filled (number_of_refusal why) out size
handed_by (Ok n) out size = filled 0 out n

-- Q12: the answer, the room lent and the length after a setup file
unfoldable pub setup_filled : List ℕ → List ℕ → ℕ → Filled
setup_filled words out size = handed_by (setup_answer words (length out)) (setup_left words out) size
