-- Which number a sample is refused with: for each the words and numbers that cause it, in the one order in which they are tested (O3, O4). A forecast
-- and a sample of a drill file go by the same rows. The words are read by the definitions of a single word: `bit`, `bad_digit`, `bcd`, `unused_bits`.
use Rattle.std.specs.Prelude.{ℕ, ◌+◌, ◌*◌, ◌≤◌, ◌<◌, ◌≡◌, true, false, ◌||◌, ◌⊎◌, List, [], ◌∷◌, ◌++◌, ℤ, pos, length, get_or, Ok}
use Rattle.numbers.specs.Roots.{Nearest}
use Rattle.refusals.specs.Refusals.{number_of, Row, ◌when◌, FirstIn}
use Rattle.reader.specs.declared.Record.TheVariants.{Sample}
use Rattle.reader.specs.File.{Item, records_of}
use Rattle.table.specs.Words.{bit, bcd, bad_digit, any, base_of}
use Rattle.reading.specs.Settings.{unused_bits}
use Rattle.carried.specs.Layout.{Rows, slot_of, numbers_at}
use Rattle.desk.specs.Desk.{Desk, fitting_of, sample_answer, forecast_at, pv_at}
use Rattle.session.specs.Session.{begun, run_of, answers_of}
use Rattle.kexbardi_profiles.specs.Told.{told_by}
use Rattle.claims.specs.Words.{word_of, input_full, output_full}

-- ---- modes

-- H1: number 0 of the loop's record: 0 in Manual, 1 in Automatic, 2 in Cascade
abbrev pub mode_carried : Desk → ℕ → ℤ
mode_carried d k = get_or (numbers_at d.numbers (slot_of k)) 0 (pos 0)

-- A2: the sample's mode is Cascade: by the lowest request that is on, or with none on as it was
abbrev pub InCascade : Desk → ℕ → Type 0
InCascade d k = (bit 0 (word_of d k 0) ≡ false) × (bit 1 (word_of d k 0) ≡ false) × ((bit 2 (word_of d k 0) ≡ true) ⊎ (mode_carried d k ≡ pos 2))

-- A13: it is a transfer: from Automatic, with Bumpless I
abbrev pub Transferring : Desk → ℕ → Type 0
Transferring d k = (mode_carried d k ≡ pos 1) × InCascade d k × (bit 3 (word_of d k 0) ≡ false)

-- A13, N11: loop j is the major one: another of the sixteen, and word 26 is the address of its word 5; and p is inside its output limits
pub record Receives (d : Desk) (k j p : ℕ) : Type 0 where
  pub first : 1 ≤ j
  pub last : j ≤ 16
  pub other : j ≡ k → ⊥
  pub output : word_of d k 26 ≡ base_of j + 5
  pub low : word_of d j 24 ≤ p
  pub high : p ≤ word_of d j 25

-- ---- the causes, by the words of loop k

-- G1, G2: the loop has a ramp/soak table: bit 11 of mode 1 is on, and word 28 is a good address
pub record Tabled (d : Desk) (k : ℕ) : Type 0 where
  pub on : bit 11 (word_of d k 0) ≡ true
  pub low : 512 ≤ word_of d k 28
  pub high : word_of d k 28 ≤ 992

-- G1: word i of the table; and that one of its eight ramps, or of their soaks, is so
abbrev pub table_word : Desk → ℕ → ℕ → ℕ
table_word d k i = get_or d.words (word_of d k 28 + i) 0

abbrev pub InTable : Desk → ℕ → (ℕ → Type 0) → Type 0
InTable d k P = Tabled d k × ((i : ℕ) × (i < 8) × P i)

-- N7: a digit above 9: in period, gain, reset or rate; in a slope or duration of the table
abbrev pub wrong_digit : Desk → ℕ → List (Type 0)
wrong_digit d k =
    (any (bad_digit (word_of d k 7) ∷ bad_digit (word_of d k 8) ∷ bad_digit (word_of d k 9) ∷ bad_digit (word_of d k 10) ∷ []) ≡ true)
    ∷ InTable d k (λ i. (bad_digit (table_word d k (4 * i + 1)) || bad_digit (table_word d k (4 * i + 2))) ≡ true)
    ∷ []

-- N8: velocity form with Bumpless II; bit 9 of mode 1; a bit of mode 2 that has to be off (M2); the hysteresis of alarms that are watched; a ramp's end
abbrev pub wrong_mode : Desk → ℕ → List (Type 0)
wrong_mode d k =
    ((bit 5 (word_of d k 0) ≡ true) × (bit 3 (word_of d k 0) ≡ true))
    ∷ (bit 9 (word_of d k 0) ≡ true)
    ∷ (unused_bits (word_of d k 1) ≡ true)
    ∷ (((bit 12 (word_of d k 0) ≡ true) ⊎ (bit 13 (word_of d k 0) ≡ true)) × ((word_of d k 18 < 1) ⊎ (200 < word_of d k 18)))
    ∷ InTable d k (λ i. input_full d k < table_word d k (4 * i))
    ∷ []

-- N12: the period in hundredths of a second is below 5; the reset time is 0
abbrev pub wrong_time : Desk → ℕ → List (Type 0)
wrong_time d k = (bcd (word_of d k 7) < 5) ∷ (bcd (word_of d k 9) ≡ 0) ∷ []

-- N13: the low output limit is above the high one; that is above G
abbrev pub wrong_limit : Desk → ℕ → List (Type 0)
wrong_limit d k = (word_of d k 25 < word_of d k 24) ∷ (output_full d k < word_of d k 25) ∷ []

-- N14: outside Cascade the setpoint is above F; in Cascade the pointer is no address, or the word that it names is above F
abbrev pub wrong_setpoint : Desk → ℕ → List (Type 0)
wrong_setpoint d k =
    ((InCascade d k → ⊥) × (input_full d k < word_of d k 2))
    ∷ (InCascade d k × ((1023 < word_of d k 26) ⊎ (input_full d k < get_or d.words (word_of d k 26) 0)))
    ∷ []

-- ---- the order

-- O3: a sample of loop k with a raw PV
abbrev pub sample_rows : Desk → ℕ → ℕ → List Row
sample_rows d k raw =
    (5 when ((length d.words ≡ 1024 → ⊥) ∷ (length d.numbers ≡ 224 → ⊥) ∷ []))
    ∷ (4 when ((k < 1) ∷ (16 < k) ∷ []))
    ∷ (5 when ((Rows (numbers_at d.numbers (slot_of k)) → ⊥) ∷ []))
    ∷ (7 when wrong_digit d k)
    ∷ (8 when wrong_mode d k)
    ∷ (12 when wrong_time d k)
    ∷ (13 when wrong_limit d k)
    ∷ (14 when wrong_setpoint d k)
    ∷ (9 when ((input_full d k < raw) ∷ []))
    ∷ (11 when ((Transferring d k × ((j : ℕ) → Receives d k j (pv_at d k raw) → ⊥)) ∷ []))
    ∷ []

pub record Ordered : Type 0 where
  -- O4: a sample is answered with the number of the first row of which a cause holds, with 0 where there is none, and no other number is that
  pub samples : (d : Desk) (k raw : ℕ) → FirstIn (sample_rows d k raw) (number_of (sample_answer d k raw))
  pub alone : (d : Desk) (k raw m n : ℕ) → FirstIn (sample_rows d k raw) m → FirstIn (sample_rows d k raw) n → m ≡ n
  -- A1: p of the last row: the raw PV; with bit 6 of mode 1 on the nearest number to the root of raw PV × F
  pub pv : (d : Desk) (k raw : ℕ) → (bit 6 (word_of d k 0) ≡ false → pv_at d k raw ≡ raw)
      × (bit 6 (word_of d k 0) ≡ true → raw ≤ input_full d k → Nearest (raw * input_full d k) (pv_at d k raw))
  -- Q11: a forecast as a sample with raw PV 0
  pub forecasts : (d : Desk) (k samples : ℕ) → FirstIn (sample_rows d k 0) (told_by (forecast_at d k) samples).number
  -- O2: a sample of a file as on the desk that the records before it leave
  pub files : (file : List ℕ) (d : Desk) → fitting_of d ≡ true → (before : List Item) (k raw : ℕ) (after : List Item)
      → records_of file ≡ before ++ (Ok (Sample k raw) ∷ after)
      → FirstIn (sample_rows (run_of (begun d) before).desk k raw) (get_or (answers_of file d) (length before) 0)
