-- What every direct call (Q1 to Q4, Q11, Q12) answers and leaves, on memory of any lengths.
use Rattle.std.specs.Prelude.{ℕ, ◌%◌, ◌≤◌, ◌<◌, ◌≡◌, Bool, true, false, List, [], ◌∷◌, map, eqb, ℤ, pos, length, set, replicate}
use Rattle.std.proofs.lemmas.List.Edits.{sets}
use Rattle.refusals.specs.Refusals.{number_of, Answer, accepted}
use Rattle.table.specs.Words.{any}
use Rattle.carried.specs.Layout.{Rows, slot_of, numbers_at}
use Rattle.desk.specs.Desk.{Desk, fitting_of, reset_answer, reset_left, store_answer, store_left, reading_at, sample_answer, sample_left, remaining_of, forecast_at, fields_answer, fields_left}
use Rattle.desk.specs.Lists.{Call, answer_to}
use Rattle.kexbardi.specs.Interface.{line_left}
use Rattle.kexbardi_profiles.specs.Told.{told_by}
use Rattle.setups.specs.Setup.{setup_of}
use Rattle.kexbardi_files.specs.Files.{filled, setup_filled}

-- the numbers that a reset, a store, a sample and a record of a file are answered with, 0 where it is accepted: all of the table but N10
abbrev pub answers : ℕ → Bool
answers n = any (map (eqb n) (0 ∷ 1 ∷ 2 ∷ 3 ∷ 4 ∷ 5 ∷ 6 ∷ 7 ∷ 8 ∷ 9 ∷ 11 ∷ 12 ∷ 13 ∷ 14 ∷ []))

abbrev pub Answered : ℕ → Type 0
Answered n = answers n ≡ true

-- N6: the words of a loop that no store reaches
abbrev pub Reserved : ℕ → Type 0
Reserved i = any (map (eqb i) (3 ∷ 4 ∷ 6 ∷ 29 ∷ [])) ≡ true

-- A13: whether a sample of loop k is a transfer; and which loop is the major one if it is, 0 where there is none
abbrev pub transfer_at : Desk → ℕ → Bool
transfer_at d k = (reading_at d k).transfer

abbrev pub major_at : Desk → ℕ → ℕ
major_at d k = (reading_at d k).major.number

pub record Called : Type 0 where
  -- N5, H4: the lengths are 1,024 words and 224 numbers, 14 for each loop
  pub lengths : (d : Desk) → (length d.words ≡ 1024 → length d.numbers ≡ 224 → fitting_of d ≡ true)
      × (fitting_of d ≡ true → (length d.words ≡ 1024) × (length d.numbers ≡ 224))
  -- every answer to a reset, a store or a sample is 0, which is an acceptance, or another of these numbers; 5 on memory of wrong lengths. Which one
  -- a sample is answered with is said in `Causes`
  pub answers : (d : Desk) (call : Call) → Answered (number_of (answer_to d call)) × (fitting_of d ≡ false → number_of (answer_to d call) ≡ 5)
  pub zero : (a : Answer) → number_of a ≡ 0 → a ≡ accepted
  -- Q2: a store of an address that may be stored is carried out, and changes that word; any other is refused with 6 (N6)
  pub stores : (d : Desk) (address value : ℕ) → fitting_of d ≡ true → address ≤ 1023 → (address < 512 → Reserved (address % 32) → ⊥)
      → (number_of (store_answer d address) ≡ 0)
      × ((store_left d address value).words ≡ set d.words address value) × ((store_left d address value).numbers ≡ d.numbers)
  pub unstored : (d : Desk) (address : ℕ) → fitting_of d ≡ true
      → (1023 < address → number_of (store_answer d address) ≡ 6) × (address < 512 → Reserved (address % 32) → number_of (store_answer d address) ≡ 6)
  -- Q1, H3: a reset leaves zeros
  pub resets : (d : Desk) → fitting_of d ≡ true
      → (number_of (reset_answer d) ≡ 0) × ((reset_left d).words ≡ replicate 1024 0) × ((reset_left d).numbers ≡ replicate 224 (pos 0))
  -- Q4: a record in range is copied out; of wrong lengths, no such loop and a record out of range the answer is 5, 4 and 5
  pub copies : (ns : List ℤ) (k : ℕ) (copied : List ℤ) → length ns ≡ 224 → 1 ≤ k → k ≤ 16 → Rows (numbers_at ns (slot_of k)) → length copied ≡ 14
      → (number_of (fields_answer ns k) ≡ 0) × (fields_left ns k copied ≡ numbers_at ns (slot_of k))
  pub uncopied : (ns : List ℤ) (k : ℕ) → ((length ns ≡ 224 → ⊥) → number_of (fields_answer ns k) ≡ 5)
      × (length ns ≡ 224 → ((1 ≤ k) × (k ≤ 16) → ⊥) → number_of (fields_answer ns k) ≡ 4)
      × (length ns ≡ 224 → 1 ≤ k → k ≤ 16 → (Rows (numbers_at ns (slot_of k)) → ⊥) → number_of (fields_answer ns k) ≡ 5)
  -- Q11: a forecast is refused as a sample with raw PV 0 is; else it counts the samples that remain
  pub foretells : (d : Desk) (k samples : ℕ) → let t = told_by (forecast_at d k) samples in
      (t.number ≡ number_of (sample_answer d k 0)) × (t.number ≡ 0 → t.samples ≡ remaining_of d k)
  -- Q12, Q8: of words of another length the answer to a setup is 5, of too little room 10, and room and length stay; else the file stands at the start
  -- of the room, and its length is told
  pub hands : (ws out : List ℕ) (size : ℕ) → ((length ws ≡ 1024 → ⊥) → setup_filled ws out size ≡ filled 5 out size)
      × (length ws ≡ 1024 → length out < length (setup_of ws) → setup_filled ws out size ≡ filled 10 out size)
      × (length ws ≡ 1024 → length (setup_of ws) ≤ length out → setup_filled ws out size ≡ filled 0 (sets out 0 (setup_of ws)) (length (setup_of ws)))
  -- Q8: one that is refused leaves all that was lent to it
  pub reset : (d : Desk) → 0 < number_of (reset_answer d) → reset_left d ≡ d
  pub store : (d : Desk) (address value : ℕ) → 0 < number_of (store_answer d address) → store_left d address value ≡ d
  pub sample : (d : Desk) (k raw : ℕ) (line : List ℕ) → 0 < number_of (sample_answer d k raw)
      → (sample_left d k raw ≡ d) × (line_left d k raw line ≡ line)
  pub forecast : (d : Desk) (k samples : ℕ) → let t = told_by (forecast_at d k) samples in 0 < t.number → t.samples ≡ samples
  pub fields : (ns : List ℤ) (k : ℕ) (copied : List ℤ) → 0 < number_of (fields_answer ns k) → fields_left ns k copied ≡ copied
