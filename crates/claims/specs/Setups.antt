-- What is promised of a setup file (L13): read from reset it rebuilds the words, it is equal for equal words alone, and it is short.
use Rattle.std.specs.Prelude.{ℕ, suc, ◌*◌, ◌%◌, ◌≤◌, ◌<◌, ◌≡◌, List, [], ◌∷◌, length, get_or, Ok}
use Rattle.reader.specs.declared.Record.TheVariants.{Store}
use Rattle.reader.specs.File.{Item, records_of}
use Rattle.desk.specs.Desk.{Desk, reset_desk}
use Rattle.setups.specs.Setup.{setup_of}
use Rattle.session.specs.Session.{totals, ended_of, left_of}
use Rattle.claims.specs.Calls.{Reserved}

-- N6: a word that a store reaches
abbrev pub Reached : ℕ → Type 0
Reached address = (address < 1024) × (address < 512 → Reserved (address % 32) → ⊥)

-- two memories agree wherever a store reaches
abbrev pub SameStored : List ℕ → List ℕ → Type 0
SameStored ws vs = (i : ℕ) → Reached i → get_or ws i 0 ≡ get_or vs i 0

-- from an address on: records of kind 1 alone, in the order of their addresses, each of a word that a store reaches and that is not 0
pub data Ascending (ws : List ℕ) : ℕ → List Item → Type 0 where
  no_records : {from : ℕ} → Ascending ws from []
  kept : {from : ℕ} (at : ℕ) {rest : List Item} → from ≤ at → Reached at → (get_or ws at 0 ≡ 0 → ⊥) → Ascending ws (suc at) rest
      → Ascending ws from (Ok (Store at (get_or ws at 0)) ∷ rest)

-- what a run of the file from reset leaves: those words, 0 elsewhere, and the records as they were
pub record Rebuilt (ws : List ℕ) (d : Desk) : Type 0 where
  pub words : SameStored d.words ws
  pub elsewhere : (i : ℕ) → i < 512 → Reserved (i % 32) → get_or d.words i 0 ≡ 0
  pub size : length d.words ≡ 1024
  pub numbers : d.numbers ≡ reset_desk.numbers

pub record HandedOn : Type 0 where
  -- the file's records are stores of words that are handed on, ascending; that none of these is missing, `rebuilds` says
  pub stores : (ws : List ℕ) → length ws ≡ 1024 → Ascending ws 0 (records_of (setup_of ws))
  -- it is of bytes, where the words are of 16 bits
  pub bytes : (ws : List ℕ) → length ws ≡ 1024 → ((i : ℕ) → get_or ws i 0 < 65536) → (i : ℕ) → get_or (setup_of ws) i 0 < 256
  -- read from reset it is carried out whole, no record refused, and rebuilds the words
  pub rebuilds : (ws : List ℕ) → length ws ≡ 1024
      → (ended_of (setup_of ws) reset_desk ≡ Ok (totals (length (records_of (setup_of ws))) 0)) × Rebuilt ws (left_of (setup_of ws) reset_desk)
  -- equal files are of words that agree wherever a store reaches, those that are 0 among them; and such words have equal files
  pub only : (ws vs : List ℕ) → length ws ≡ 1024 → length vs ≡ 1024 → (setup_of ws ≡ setup_of vs → SameStored ws vs) × (SameStored ws vs → setup_of ws ≡ setup_of vs)
  -- it has eight bytes for each word that is handed on, 7,680 at most: so `drill` prints it whole
  pub long : (ws : List ℕ) → length ws ≡ 1024 → (length (setup_of ws) ≡ 8 * length (records_of (setup_of ws))) × (length (setup_of ws) ≤ 7680)
