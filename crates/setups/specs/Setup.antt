-- The setup file of a desk's words (L13), and what its writer answers and leaves (Q12).
use Rattle.std.specs.Prelude.{ℕ, suc, ◌/◌, ◌%◌, Bool, cond, not, ◌&&◌, List, [], ◌∷◌, ◌++◌, ltb, eqb, length, Result, Ok, Err}
use Rattle.std.proofs.lemmas.List.Edits.{sets}
use Rattle.refusals.specs.declared.Refusal.TheVariants.{Memory, Room}
use Rattle.refusals.specs.declared.Refusal.{Refusal}
use Rattle.refusals.specs.Refusals.{Answer, accepted_with, Case, ◌⇒◌, first_of}
use Rattle.reader.specs.declared.Record.TheVariants.{Store}
use Rattle.reader.specs.File.{Item}
use Rattle.desk.specs.Desk.{engine_word}

-- ---- the file

-- L1: a number of two bytes, the low one first
abbrev pub word_bytes : ℕ → List ℕ
word_bytes n = n % 256 ∷ n / 256 ∷ []

-- L2, L3: a store: length 6, kind 1, address and value
abbrev pub store_bytes : ℕ → ℕ → List ℕ
store_bytes address value = word_bytes 6 ++ (word_bytes 1 ++ (word_bytes address ++ word_bytes value))

-- L13: a word is handed on where it is not 0 and a store reaches it (N6)
abbrev pub handed_on : ℕ → ℕ → Bool
handed_on address value = not (eqb value 0) && not (engine_word address)

-- L13: the bytes of a word
abbrev pub bytes_of : ℕ → ℕ → List ℕ
bytes_of address value = cond (handed_on address value) (store_bytes address value) []

-- L13: the bytes of some words in the order of their addresses, of which the first is given
unfoldable pub bytes_from : ℕ → List ℕ → List ℕ
bytes_from address [] = []
bytes_from address (value ∷ rest) = bytes_of address value ++ bytes_from (suc address) rest

-- L13: the setup file
abbrev pub setup_of : List ℕ → List ℕ
setup_of words = bytes_from 0 words

-- ---- the call

-- O3: N5, N10
abbrev pub setup_cases : List ℕ → ℕ → List Case
setup_cases words room = (not (eqb (length words) 1024) ⇒ Memory) ∷ (ltb room (length (setup_of words)) ⇒ Room) ∷ []

-- Q12: the first of these, or the file's length
unfoldable pub setup_answer : List ℕ → ℕ → Result ℕ Refusal
setup_answer words room = accepted_with (first_of (setup_cases words room)) (length (setup_of words))

abbrev pub filled_by : Answer → List ℕ → List ℕ → List ℕ
filled_by (Ok _) file out = sets out 0 file
filled_by (Err why) file out = out

-- Q12, Q8: the file at the start of the room, which is else as it was
unfoldable pub setup_left : List ℕ → List ℕ → List ℕ
setup_left words out = filled_by (first_of (setup_cases words (length out))) (setup_of words) out

-- ---- the records that it is

-- L13: the stores of some words, of which the first stands at an address
unfoldable pub stores_from : ℕ → List ℕ → List Item
stores_from address [] = []
stores_from address (value ∷ rest) = let more = stores_from (suc address) rest in cond (handed_on address value) (Ok (Store address value) ∷ more) more
