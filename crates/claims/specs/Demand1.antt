-- Demand 1. A drill file is any list of bytes. All of it is read: a record that the file cuts off is the last one, and behind every other record the
-- next one is read, whether that record was carried out or refused. A refusal has a number of N1 to N14, a setup's alone N10, that of the first
-- cause that holds (`Causes`), and changes no word and no number, in a file and in a direct call; a refused direct call leaves everything that was lent to it.
use Rattle.std.specs.Prelude.{ℕ, ◌+◌, ◌≤◌, ◌<◌, ◌≡◌, true, false, pos, length, get_or, replicate, Ok, Err}
use mathlib.Core.List.{List, [], ◌∷◌, ◌++◌, flatten}
use Rattle.std.proofs.Math.Seq.{slice}
use Rattle.std.proofs.lemmas.List.Edits.{sets}
use Rattle.text.specs.Text.{bytes}
use Rattle.refusals.specs.declared.Refusal.TheVariants.{Cut, Kind, Length}
use Rattle.reader.specs.declared.Record.TheVariants.{Store, Sample}
use Rattle.reader.specs.File.{Item, word_at, record_at, records_from, records_of, spans_from, spans_of}
use Rattle.desk.specs.Desk.{Desk, fitting_of, reset_desk}
use Rattle.lines.specs.Lines.{line_text, last_text}
use Rattle.session.specs.Session.{number_for, left_for, shown_for, begun, run_of, refusals_in, ended_of, left_of, answers_of}
use Rattle.session.specs.Printed.{body_of, printed_of, room_for, printed_within}
use Rattle.kexbardi_files.specs.Files.{ended, ended_by, answers_left, filled, print_left}
use Rattle.claims.specs.Calls.{Answered, Called}
use Rattle.claims.specs.Causes.{Ordered}

-- L2 to L7: what a record is whose n bytes stand whole behind its length, with the kind at `at`
pub record Whole (file : List ℕ) (at n kind : ℕ) (item : Item) : Type 0 where
  pub short : n < 2 → item ≡ Err Kind
  pub unknown : (kind ≡ 1 → ⊥) → (kind ≡ 2 → ⊥) → item ≡ Err Kind
  pub store : kind ≡ 1 → n ≡ 6 → item ≡ Ok (Store (word_at file (at + 2)) (word_at file (at + 4)))
  pub sample : kind ≡ 2 → n ≡ 5 → item ≡ Ok (Sample (get_or file (at + 2) 0) (word_at file (at + 3)))
  pub store_length : 2 ≤ n → kind ≡ 1 → (n ≡ 6 → ⊥) → item ≡ Err Length
  pub sample_length : 2 ≤ n → kind ≡ 2 → (n ≡ 5 → ⊥) → item ≡ Err Length

pub record Demand1 : Type 0 where
  -- ---- the file

  -- L8: every byte belongs to one record: the records' bytes, joined in order, are the file
  pub read : (file : List ℕ) → (flatten (spans_of file) ≡ file) × (length (spans_of file) ≡ length (records_of file))
  -- L5: where fewer bytes are left than a length and what it asks for, the record is cut and is the last
  pub cut : (file : List ℕ) (at : ℕ) → length file < at + 2 + word_at file at → let r = record_at file at in
      (r.item ≡ Err Cut) × (r.next ≡ length file)
  -- L8: any other is what its bytes say, and is followed by what stands behind them
  pub whole : (file : List ℕ) (at : ℕ) → at + 2 + word_at file at ≤ length file → let r = record_at file at in
      Whole file (at + 2) (word_at file at) (word_at file (at + 2)) r.item × (r.next ≡ at + 2 + word_at file at)
  pub next : (file : List ℕ) (at : ℕ) → at < length file → let r = record_at file at in
      (records_from file at ≡ r.item ∷ records_from file r.next) × (spans_from file at ≡ slice at r.next file ∷ spans_from file r.next)
  pub end : (file : List ℕ) (at : ℕ) → length file ≤ at → records_from file at ≡ []
  -- N1, N2 and N3
  pub unread : (d : Desk) → (number_for d (Err Cut) ≡ 1) × (number_for d (Err Kind) ≡ 2) × (number_for d (Err Length) ≡ 3)
  -- L5: a cut record is the last one
  pub last : (file : List ℕ) (before after : List Item) → records_of file ≡ before ++ (Err Cut ∷ after) → after ≡ []
  -- ---- a file carried out

  -- Q5: on memory of the right lengths the answer is 0, there is an answer for each record, and `refused` counts those that are not 0
  pub counted : (file : List ℕ) (d : Desk) (count refused : ℕ) → fitting_of d ≡ true → let e = ended_by (ended_of file d) count refused in
      (e.number ≡ 0) × (e.count ≡ length (records_of file)) × (length (answers_of file d) ≡ e.count) × (e.refused ≡ refusals_in (answers_of file d))
  -- every answer is a number that a call is answered with
  pub numbers : (file : List ℕ) (d : Desk) (i : ℕ) → Answered (get_or (answers_of file d) i 0)
  -- O2, O5: each record is answered by the desk as those before left it, and carried out on it; where its answer is not 0, words and numbers stay
  pub each : (file : List ℕ) (d : Desk) → fitting_of d ≡ true → (before : List Item) (x : Item) (after : List Item)
      → records_of file ≡ before ++ (x ∷ after)
      → let here = (run_of (begun d) before).desk in
      let then = (run_of (begun d) (before ++ (x ∷ []))).desk in
      (get_or (answers_of file d) (length before) 0 ≡ number_for here x) × (then ≡ left_for here x) × (0 < number_for here x → then ≡ here)
  -- and what the run leaves is the desk behind the last of them
  pub behind : (file : List ℕ) (d : Desk) → fitting_of d ≡ true → left_of file d ≡ (run_of (begun d) (records_of file)).desk
  -- Q5: the answers' buffer holds the answers as far as it reaches, and behind them what it held
  pub buffer : (file : List ℕ) (d : Desk) (answers : List ℕ) (i : ℕ) → let n = length (answers_of file d) in
      (i < length answers → i < n → get_or (answers_left file d answers) i 0 ≡ get_or (answers_of file d) i 0)
      × (n ≤ i → get_or (answers_left file d answers) i 0 ≡ get_or answers i 0)
  -- O1: on memory of wrong lengths a run is a single 5: nothing is read, and words, numbers, counts and answers stay
  pub memory : (file : List ℕ) (d : Desk) (count refused : ℕ) (answers : List ℕ) → fitting_of d ≡ false
      → (ended_by (ended_of file d) count refused ≡ ended 5 count refused) × (left_of file d ≡ d) × (answers_left file d answers ≡ answers)
  -- ---- a file printed

  -- H3, L9: it begins with zeros
  pub fresh : (reset_desk.words ≡ replicate 1024 0) × (reset_desk.numbers ≡ replicate 224 (pos 0))
  -- L9, L10: a line for each record, and a last line that counts the records and those that were refused
  pub lines : (file : List ℕ) → length file ≤ 65536
      → printed_of file ≡ body_of (begun reset_desk) (records_of file) ++ last_text (length (records_of file)) (refusals_in (answers_of file reset_desk))
  pub line : (before : List Item) (x : Item) → let here = (run_of (begun reset_desk) before).desk in
      body_of (begun reset_desk) (before ++ (x ∷ []))
      ≡ body_of (begun reset_desk) before ++ line_text (length before + 1) x (number_for here x) (shown_for here x)
  pub no_line : body_of (begun reset_desk) [] ≡ []
  -- L11: of a longer file this alone
  pub too_long : (file : List ℕ) → 65536 < length file → printed_of file ≡ bytes "too long\n"
  -- Q6: where there is room the text is at the start of the buffer; else the answer is 5, and buffer and length stay
  pub prints : (file out : List ℕ) (size : ℕ) → room_for file ≤ length out
      → print_left file out size ≡ filled 0 (sets out 0 (printed_of file)) (length (printed_of file))
  pub no_room : (file out : List ℕ) (size : ℕ) → length out < room_for file → print_left file out size ≡ filled 5 out size
  -- the program's buffer has 655,460 bytes (`session::OUTPUT`): always enough
  pub program : (file : List ℕ) → printed_within 655460 file ≡ printed_of file
  -- ---- direct calls, and in which order a sample's refusals are tested
  pub calls : Called
  pub order : Ordered
