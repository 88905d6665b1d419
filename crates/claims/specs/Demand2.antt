-- Demand 2. A sample is accepted exactly where no cause of a refusal holds (O3, `Causes`). Then every word and every number is as A1 to A13 define it: the
-- loop's words and its record change, at a transfer the major loop's output word and mark, and nothing else (Q3). What comes of a sample is a matter of the
-- raw PV, the loop's words, its record, the word that Cascade follows, the 32 words of its ramp/soak table, wherever it stands, and, at a transfer, which
-- loop is the major one and its two output limits (Q9): loop 9 set up like loop 1 answers alike. And a record in range never leaves its ranges, whatever is
-- called (E8).
use Rattle.std.specs.Prelude.{ℕ, ◌+◌, ◌≤◌, ◌<◌, ◌≡◌, true, List, pos, length, get_or, set}
use Rattle.refusals.specs.Refusals.{number_of, FirstIn}
use Rattle.table.specs.Words.{base_of, block_at}
use Rattle.table.specs.Modes.{is_cascade}
use Rattle.reading.specs.Programs.{fault_of}
use Rattle.reading.specs.Transfers.{major_of}
use Rattle.reading.specs.Reading.{table_of}
use Rattle.carried.specs.declared.record.Carried.{Carried}
use Rattle.carried.specs.Layout.{Rows, slot_of, record_from, numbers_of, numbers_at}
use Rattle.desk.specs.Desk.{Desk, fitting_of, reading_at, step_at, sample_answer, sample_left, line_of, pv_at}
use Rattle.kexbardi.specs.Interface.{line_left}
use Rattle.claims.specs.Turns.{Turn, behind_all}
use Rattle.claims.specs.Calls.{transfer_at, major_at}
use Rattle.claims.specs.Causes.{sample_rows}

-- A12, A13: the address i is none of the eight words that a sample of loop k writes: 0, 2, 3, 4, 5, 6, 27 and 29; nor at a transfer the word pointed to
pub record Other (d : Desk) (k i : ℕ) : Type 0 where
  pub mode : i ≡ base_of k → ⊥
  pub setpoint : i ≡ base_of k + 2 → ⊥
  pub pv : i ≡ base_of k + 3 → ⊥
  pub bias : i ≡ base_of k + 4 → ⊥
  pub output : i ≡ base_of k + 5 → ⊥
  pub status : i ≡ base_of k + 6 → ⊥
  pub flags : i ≡ base_of k + 27 → ⊥
  pub fault : i ≡ base_of k + 29 → ⊥
  pub pointed : transfer_at d k ≡ true → i ≡ (reading_at d k).settings.pointer → ⊥

-- A1 to A12: e holds what they give for a sample of loop k on d: the loop's eight words, and its record as numbers
pub record Done (d e : Desk) (k raw : ℕ) : Type 0 where
  pub word : get_or e.words (base_of k) 0 ≡ (step_at d k raw).written.word
  pub setpoint : get_or e.words (base_of k + 2) 0 ≡ (step_at d k raw).written.setpoint
  pub pv : get_or e.words (base_of k + 3) 0 ≡ (step_at d k raw).written.pv
  pub bias : get_or e.words (base_of k + 4) 0 ≡ (step_at d k raw).written.bias
  pub output : get_or e.words (base_of k + 5) 0 ≡ (step_at d k raw).written.output
  pub status : get_or e.words (base_of k + 6) 0 ≡ (step_at d k raw).written.status
  pub flags : get_or e.words (base_of k + 27) 0 ≡ (step_at d k raw).written.flags
  pub fault : get_or e.words (base_of k + 29) 0 ≡ (step_at d k raw).written.fault
  pub numbers : numbers_at e.numbers (slot_of k) ≡ numbers_of (step_at d k raw).carried

-- the words of loop k and those of loop k' are the same but for word 28
abbrev pub SameBut28 : List ℕ → List ℕ → ℕ → ℕ → Type 0
SameBut28 ws ws' k k' = (i : ℕ) → i < 32 → (i ≡ 28 → ⊥) → get_or ws (base_of k + i) 0 ≡ get_or ws' (base_of k' + i) 0

-- Q9: loop k of one desk and loop k' of another agree on what a sample depends on
pub record Agree (d d' : Desk) (k k' : ℕ) : Type 0 where
  pub memory : fitting_of d ≡ true
  pub memory' : fitting_of d' ≡ true
  pub loop : (1 ≤ k) × (k ≤ 16)
  pub loop' : (1 ≤ k') × (k' ≤ 16)
  pub words : SameBut28 d.words d'.words k k'
  pub numbers : numbers_at d.numbers (slot_of k) ≡ numbers_at d'.numbers (slot_of k')
  pub pointed : is_cascade (reading_at d k).mode ≡ true
      → get_or d.words (reading_at d k).settings.pointer 0 ≡ get_or d'.words (reading_at d k).settings.pointer 0
  -- G2: with bit 11 on, what is wrong with the address in word 28; and where there is a program its table, each at its own address
  pub fault : (reading_at d k).settings.mode1.profile ≡ true → fault_of (table_of d.words k) ≡ fault_of (table_of d'.words k')
  pub table : (reading_at d k).program.on ≡ true → block_at d.words (table_of d.words k) ≡ block_at d'.words (table_of d'.words k')
  pub major : transfer_at d k ≡ true → major_of k (reading_at d k).settings.pointer ≡ major_of k' (reading_at d k).settings.pointer
  pub limits : transfer_at d k ≡ true → let j = major_of k (reading_at d k).settings.pointer in
      (j ≡ 0 → ⊥)
      → (get_or d.words (base_of j + 24) 0 ≡ get_or d'.words (base_of j + 24) 0) × (get_or d.words (base_of j + 25) 0 ≡ get_or d'.words (base_of j + 25) 0)

-- H5: the record of loop k is in range
abbrev pub InRange : ℕ → Desk → Type 0
InRange k d = Rows (numbers_at d.numbers (slot_of k))

pub record Demand2 : Type 0 where
  -- O3: accepted exactly where no cause of any refusal holds
  pub accepted : (d : Desk) (k raw : ℕ) → (FirstIn (sample_rows d k raw) 0 → number_of (sample_answer d k raw) ≡ 0)
      × (number_of (sample_answer d k raw) ≡ 0 → FirstIn (sample_rows d k raw) 0)
  -- A1 to A12, word for word and number for number. Q3: the line shows the words after it
  pub exact : (d : Desk) (k raw : ℕ) → number_of (sample_answer d k raw) ≡ 0 → Done d (sample_left d k raw) k raw
  pub line : (d : Desk) (k raw : ℕ) (line : List ℕ) → number_of (sample_answer d k raw) ≡ 0 → line_left d k raw line ≡ line_of (sample_left d k raw).words k
  -- A13: at a transfer the word pointed to, which is the major loop's output, becomes p; and of its record number 13 becomes 1
  pub handed : (d : Desk) (k raw : ℕ) → number_of (sample_answer d k raw) ≡ 0 → transfer_at d k ≡ true → let j = major_at d k in
      ((reading_at d k).settings.pointer ≡ base_of j + 5)
      × (get_or (sample_left d k raw).words (base_of j + 5) 0 ≡ pv_at d k raw)
      × (numbers_at (sample_left d k raw).numbers (slot_of j) ≡ set (numbers_at d.numbers (slot_of j)) 13 (pos 1))
  -- Q3: no other word, no other loop's record, and no length
  pub other_words : (d : Desk) (k raw i : ℕ) → Other d k i → get_or (sample_left d k raw).words i 0 ≡ get_or d.words i 0
  pub other_records : (d : Desk) (k raw j : ℕ) → 1 ≤ j → (j ≡ k → ⊥) → (transfer_at d k ≡ true → j ≡ major_at d k → ⊥)
      → numbers_at (sample_left d k raw).numbers (slot_of j) ≡ numbers_at d.numbers (slot_of j)
  pub lengths : (d : Desk) (k raw : ℕ)
      → (length (sample_left d k raw).words ≡ length d.words) × (length (sample_left d k raw).numbers ≡ length d.numbers)
  -- Q9: two loops that agree answer alike, and leave the same words, the same record and the same line; and the same p to the same major loop, if any
  pub local : (d d' : Desk) (k k' raw : ℕ) (line : List ℕ) → Agree d d' k k'
      → (sample_answer d k raw ≡ sample_answer d' k' raw)
      × SameBut28 (sample_left d k raw).words (sample_left d' k' raw).words k k'
      × (numbers_at (sample_left d k raw).numbers (slot_of k) ≡ numbers_at (sample_left d' k' raw).numbers (slot_of k'))
      × (line_left d k raw line ≡ line_left d' k' raw line)
      × (transfer_at d k ≡ transfer_at d' k') × (transfer_at d k ≡ true → major_at d k ≡ major_at d' k') × (pv_at d k raw ≡ pv_at d' k' raw)
  -- H1: a record is read back from its numbers. E8: the ranges are never left
  pub back : (c : Carried) → record_from (numbers_of c) ≡ c
  pub ranges : (d : Desk) (ts : List Turn) (k : ℕ) → 1 ≤ k → k ≤ 16 → InRange k d → InRange k (behind_all d ts)
