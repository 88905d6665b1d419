-- A desk, and each call on it (Q1 to Q4, Q11): its refusals in order (O3), its answer, and what it leaves. A refused call leaves the desk as it was (Q8).
use Rattle.refusals.specs.declared.Refusal.{Refusal}
use Rattle.std.specs.Prelude.{ℕ, ◌+◌, ◌%◌, Bool, cond, not, ◌&&◌, ◌||◌, List, [], ◌∷◌, ◌++◌, ltb, eqb, ℤ, pos, length, get_or, set, replicate, Ok, Err, Result}
use Rattle.std.proofs.lemmas.List.Edits.{sets}
use Rattle.refusals.specs.declared.Refusal.TheVariants.{Memory, Record, Store}
use Rattle.refusals.specs.declared.Refusal.TheVariants.{Loop as NoLoop}
use Rattle.refusals.specs.Refusals.{Case, ◌⇒◌, first_of, Answer, accepted, accepted_with}
use Rattle.reading.specs.declared.reading.Reading.{Reading}
use Rattle.table.specs.Words.{any, base_of, block_at}
use Rattle.reading.specs.Reading.{table_of, reading_of}
use Rattle.profile.specs.Forecasts.{forecast_of}
use Rattle.carried.specs.declared.record.Carried.{Carried}
use Rattle.carried.specs.Former.{former_of}
use Rattle.carried.specs.Layout.{number_count, slot_of, out_of_range, numbers_of, numbers_at, carried_at, marked_at}
use Rattle.measuring.specs.Measuring.{measured_of}
use Rattle.judging.specs.Judging.{reading_cases}
use Rattle.engine.specs.declared.stepping.Stepped.{Stepped}
use Rattle.engine.specs.Writing.{written_to}
use Rattle.engine.specs.Steps.{step_of}
use Rattle.desk.specs.declared.admitting.Admitted.{Admitted}
use Rattle.desk.specs.declared.sampling.Line.{Line}

-- W1, H4: the lent words, and the lent numbers of the carried records
pub record Desk : Type 0 where
  pub words : List ℕ
  pub numbers : List ℤ

abbrev pub lent : List ℕ → List ℤ → Desk
lent ws ns = record { words = ws; numbers = ns }

-- N5: the lent memory has its lengths, 1,024 words and 224 numbers
unfoldable pub fitting_of : Desk → Bool
fitting_of d = eqb (length d.words) 1024 && eqb (length d.numbers) number_count

-- O1: N5 where it has not, tested first
abbrev pub memory_cases : Desk → List Case
memory_cases d = (not (fitting_of d) ⇒ Memory) ∷ []

-- Q8, O5: by the answer to a call, what the call makes of the desk, or the desk as it was
abbrev pub left_by : Answer → Desk → Desk → Desk
left_by (Ok _) after before = after
left_by (Err why) after before = before

-- ---- reset

-- H3: all words are 0, and all numbers
unfoldable pub reset_desk : Desk
reset_desk = lent (replicate 1024 0) (replicate number_count (pos 0))

-- Q1: N5
unfoldable pub reset_answer : Desk → Answer
reset_answer d = first_of (memory_cases d)

-- Q1: words and records as in H3
unfoldable pub reset_left : Desk → Desk
reset_left d = left_by (reset_answer d) reset_desk d

-- ---- store

-- N6: words 3, 4, 6 and 29 of a loop, which no store reaches
abbrev pub engine_word : ℕ → Bool
engine_word address =
    ltb address 512 && any (eqb (address % 32) 3 ∷ eqb (address % 32) 4 ∷ eqb (address % 32) 6 ∷ eqb (address % 32) 29 ∷ [])

-- O3: N5, N6
abbrev pub store_cases : Desk → ℕ → List Case
store_cases d address = memory_cases d ++ ((ltb 1023 address ⇒ Store) ∷ (engine_word address ⇒ Store) ∷ [])

-- Q2: the first of these
unfoldable pub store_answer : Desk → ℕ → Answer
store_answer d address = first_of (store_cases d address)

-- Q2: one word gets a value
unfoldable pub store_left : Desk → ℕ → ℕ → Desk
store_left d address value = left_by (store_answer d address) (lent (set d.words address value) d.numbers) d

-- ---- sample

-- N4: there is no loop k
unfoldable pub no_loop : ℕ → Bool
no_loop k = ltb k 1 || ltb 16 k

-- N4; N5, where a number of the loop's record is out of range (H5)
abbrev pub loop_cases : List ℤ → ℕ → List Case
loop_cases ns k = (no_loop k ⇒ NoLoop) ∷ (out_of_range (numbers_at ns (slot_of k)) ⇒ Record) ∷ []

-- Q9: what a sample of loop k reads
abbrev pub reading_at : Desk → ℕ → Reading
reading_at d k = reading_of d.words k (former_of (carried_at d.numbers k).state)

-- A1: its PV
abbrev pub pv_at : Desk → ℕ → ℕ → ℕ
pv_at d k raw = measured_of (reading_at d k) raw

-- O3: N5, N4, N5, and of what is read N7, N8, N12, N13, N14, N9 and N11: one list in this order
abbrev pub sample_cases : Desk → ℕ → ℕ → List Case
sample_cases d k raw = memory_cases d ++ (loop_cases d.numbers k ++ reading_cases (reading_at d k) raw)

-- Q3: the first refusal that holds, or none
unfoldable pub sample_answer : Desk → ℕ → ℕ → Answer
sample_answer d k raw = first_of (sample_cases d k raw)

-- all that an accepted sample works on
abbrev pub admitted_of : Carried → Reading → ℕ → Admitted
admitted_of c r raw = record { carried = c; reading = r; pv = measured_of r raw }

abbrev pub admitted_at : Desk → ℕ → ℕ → Admitted
admitted_at d k raw = admitted_of (carried_at d.numbers k) (reading_at d k) raw

-- by what was read alone
abbrev pub admission_of : Carried → Reading → ℕ → Result Admitted Refusal
admission_of c r raw = accepted_with (first_of (reading_cases r raw)) (admitted_of c r raw)

unfoldable pub admission_at : Desk → ℕ → ℕ → Result Admitted Refusal
admission_at d k raw = accepted_with (sample_answer d k raw) (admitted_at d k raw)

-- A2 to A12: what the sample comes to, if it is accepted
abbrev pub step_at : Desk → ℕ → ℕ → Stepped
step_at d k raw = step_of (reading_at d k) (carried_at d.numbers k) (pv_at d k raw)

-- A13: at a transfer p becomes the major loop's output word, and that loop is marked
unfoldable pub transfer_left : Bool → ℕ → ℕ → Desk → Desk
transfer_left transfer major p d = cond transfer (lent (set d.words (base_of major + 5) p) (marked_at d.numbers major)) d

-- A13: a sample that reads so is a transfer to loop j
abbrev pub marks : Reading → ℕ → Bool
marks r j = r.transfer && eqb r.major.number j

-- Q3: the loop's words (A12) and its record are written, at a transfer the major loop's word and mark, and nothing else
unfoldable pub done_by : Desk → ℕ → Reading → Stepped → Desk
done_by d k r s =
    transfer_left r.transfer r.major.number s.written.pv
    (lent (written_to d.words (base_of k) s.written) (sets d.numbers (slot_of k) (numbers_of s.carried)))

abbrev pub sample_done : Desk → ℕ → ℕ → Desk
sample_done d k raw = done_by d k (reading_at d k) (step_at d k raw)

-- Q3, Q8: words and records after the call
unfoldable pub sample_left : Desk → ℕ → ℕ → Desk
sample_left d k raw = left_by (sample_answer d k raw) (sample_done d k raw) d

-- Q3: the line has setpoint, PV, output and status: words 2, 3, 5 and 6
abbrev pub line_at : List ℕ → ℕ → Line
line_at ws k =
    let at : ℕ → ℕ = λ i. get_or ws (base_of k + i) 0 in
    record { setpoint = at 2; pv = at 3; output = at 5; status = at 6 }

-- and these four, in this order
abbrev pub words_of : Line → List ℕ
words_of l = l.setpoint ∷ l.pv ∷ l.output ∷ l.status ∷ []

abbrev pub line_of : List ℕ → ℕ → List ℕ
line_of ws k = words_of (line_at ws k)

abbrev pub answer_shown : Result Line Refusal → Answer
answer_shown (Ok l) = accepted
answer_shown (Err why) = Err why

-- Q3: the answer, with the line of the words after the call where it is accepted
unfoldable pub sampled_at : Desk → ℕ → ℕ → Result Line Refusal
sampled_at d k raw = accepted_with (sample_answer d k raw) (line_at (sample_left d k raw).words k)

-- ---- forecast

-- G12: from word 2 and the carried profile; 0 where there is no program
unfoldable pub remaining_of : Desk → ℕ → ℕ
remaining_of d k =
    let r = reading_at d k in
    let q = (carried_at d.numbers k).state.profile in
    cond r.program.on (forecast_of (block_at d.words (table_of d.words k)) r.settings.tuning.period q r.settings.stored.setpoint) 0

-- Q11: refused as a sample with raw PV 0 is; else the samples that remain
unfoldable pub forecast_at : Desk → ℕ → Result ℕ Refusal
forecast_at d k = accepted_with (sample_answer d k 0) (remaining_of d k)

-- ---- what is shown of a loop's record

-- O3: N5 (the length), N4, N5 (the record)
abbrev pub fields_cases : List ℤ → ℕ → List Case
fields_cases ns k = (not (eqb (length ns) number_count) ⇒ Memory) ∷ loop_cases ns k

-- Q4: the first of these
unfoldable pub fields_answer : List ℤ → ℕ → Answer
fields_answer ns k = first_of (fields_cases ns k)

abbrev pub copied_by : Answer → List ℤ → List ℤ → List ℤ
copied_by (Ok _) found before = sets before 0 found
copied_by (Err why) found before = before

-- Q4: the numbers of the loop's record copied out, if they are in range
unfoldable pub fields_left : List ℤ → ℕ → List ℤ → List ℤ
fields_left ns k before = copied_by (fields_answer ns k) (numbers_at ns (slot_of k)) before
