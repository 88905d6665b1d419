-- The laws of the setup file: its length, the records that it is read as, and the words that these rebuild.
use Rattle.std.specs.Prelude.{ℕ, zero, suc, ◌+◌, ◌*◌, ◌≤◌, ◌<◌, ◌≡◌, refl, Bool, true, false, cond, not, ◌&&◌, List, [], ◌∷◌, ◌++◌, eqb, length, get_or, drop, Ok}
use Rattle.std.proofs.Common.{arith, add-suc, add-zero, suc-add, add-one, sym, ap, ◌∙◌, append_assoc, length-append, drop_of_length-le, get_or-append-add, drop-cons, le-ltb}
use Rattle.std.proofs.lemmas.List.Edits.{sets}
use Rattle.refusals.specs.Refusals.{Answer, accepted, accepted_with, first_of}
use Rattle.reader.specs.declared.Record.TheVariants.{Store}
use Rattle.reader.specs.File.{Item, word_at, record_at, records_from, records_of}
use Rattle.reader.proofs.Laws.File.{whole_at_lem, records_step, records_end}
use Rattle.desk.specs.Desk.{engine_word}
use Rattle.setups.specs.Setup.{word_bytes, store_bytes, handed_on, bytes_of, bytes_from, setup_of, setup_cases, setup_answer, filled_by, setup_left, stores_from}

-- the two promises of the call, for its answer a
pub promised : (file out : List ℕ) {answer a : Answer} → answer ≡ a → (accepted_with a (length file) ≡ accepted_with answer (length file)) × (filled_by a file out ≡ filled_by answer file out)
promised file out e = (rw e, rw e)

-- ---- the bytes of the words

-- the bytes from a word on are its own and those behind it
pub bytes_step : (words : List ℕ) (i : ℕ) → i < length words → bytes_from i (drop i words) ≡ bytes_of i (get_or words i 0) ++ bytes_from (i + 1) (drop (i + 1) words)
unfolding bytes_from
bytes_step words i h = rw (drop-cons words i 0 h, add-one i)

-- and so of their lengths
pub length_step : (words : List ℕ) (i : ℕ) → i < length words
    → length (bytes_from i (drop i words)) ≡ length (bytes_of i (get_or words i 0)) + length (bytes_from (i + 1) (drop (i + 1) words))
length_step words i h = rw (bytes_step words i h) (length-append (bytes_of i (get_or words i 0)) (bytes_from (i + 1) (drop (i + 1) words)))

-- none stand behind the last word
pub bytes_none : (words : List ℕ) (i : ℕ) → length words ≤ i → bytes_from i (drop i words) ≡ []
unfolding bytes_from
bytes_none words i h = rw (drop_of_length-le words {i = i} h)

-- ---- lengths

-- a word has at most eight bytes
pub bytes_few : (address value : ℕ) → length (bytes_of address value) ≤ 8
bytes_few address value = go (handed_on address value)
  where
    go : (b : Bool) → length (cond b (store_bytes address value) []) ≤ 8
    go true = omega arith
    go false = omega arith

-- eight bytes for each store
pub bytes_length : (address : ℕ) (words : List ℕ) → length (bytes_from address words) ≡ 8 * length (stores_from address words)
unfolding bytes_from stores_from
bytes_length address [] = refl
bytes_length address (value ∷ rest) = simp length-append (go (handed_on address value) (bytes_length (suc address) rest))
  where
    more : List Item
    more = stores_from (suc address) rest

    go : (b : Bool) → length (bytes_from (suc address) rest) ≡ 8 * length more
        → length (cond b (store_bytes address value) []) + length (bytes_from (suc address) rest) ≡ 8 * length (cond b (Ok (Store address value) ∷ more) more)
    go true ih = omega (arith, ih)
    go false ih = omega (arith, ih)

-- a number of 16 bits gives bytes
word_bytes_lem : (n : ℕ) (behind : List ℕ) → n < 65536 → ((i : ℕ) → get_or behind i 0 < 256) → (i : ℕ) → get_or (word_bytes n ++ behind) i 0 < 256
word_bytes_lem n behind h rest zero = omega arith
word_bytes_lem n behind h rest (suc zero) = omega arith
word_bytes_lem n behind h rest (suc (suc i)) = rest i

store_below : (address value : ℕ) (behind : List ℕ) → address < 65536 → value < 65536 → ((i : ℕ) → get_or behind i 0 < 256)
    → (i : ℕ) → get_or (store_bytes address value ++ behind) i 0 < 256
store_below address value behind a v rest =
    let body = word_bytes address ++ (word_bytes value ++ behind) in
    word_bytes_lem 6 (word_bytes 1 ++ body) (omega arith)
    (word_bytes_lem 1 body (omega arith) (word_bytes_lem address (word_bytes value ++ behind) a (word_bytes_lem value behind v rest)))

-- and so do words of 16 bits
pub bytes_below : (address : ℕ) (words : List ℕ) → address + length words ≤ 65536 → ((i : ℕ) → get_or words i 0 < 65536) → (i : ℕ) → get_or (bytes_from address words) i 0 < 256
unfolding bytes_from
bytes_below address [] size small = λ i. omega arith
bytes_below address (value ∷ rest) size small = go (handed_on address value) (bytes_below (suc address) rest (omega arith) (λ i. small (suc i)))
  where
    go : (b : Bool) → ((i : ℕ) → get_or (bytes_from (suc address) rest) i 0 < 256)
        → (i : ℕ) → get_or (cond b (store_bytes address value) [] ++ bytes_from (suc address) rest) i 0 < 256
    go true more = store_below address value (bytes_from (suc address) rest) (omega arith) (small 0) more
    go false more = more

-- how many of n addresses a store reaches
reached : ℕ → ℕ → ℕ
reached address zero = 0
reached address (suc n) = cond (engine_word address) 0 1 + reached (suc address) n

stores_reached : (address : ℕ) (words : List ℕ) → length (stores_from address words) ≤ reached address (length words)
unfolding stores_from reached
stores_reached address [] = omega arith
stores_reached address (value ∷ rest) = go (eqb value 0) (engine_word address) (stores_reached (suc address) rest)
  where
    more : List Item
    more = stores_from (suc address) rest

    go : (none reserved : Bool) → length more ≤ reached (suc address) (length rest)
        → length (cond (not none && not reserved) (Ok (Store address value) ∷ more) more) ≤ cond reserved 0 1 + reached (suc address) (length rest)
    go true true ih = omega (arith, ih)
    go true false ih = omega (arith, ih)
    go false true ih = omega (arith, ih)
    go false false ih = omega (arith, ih)

-- of 1,024 words at most 960 are handed on
pub stores_most : (words : List ℕ) → length words ≡ 1024 → length (stores_from 0 words) ≤ 960
unfolding reached
stores_most words l = let most : reached 0 1024 ≡ 960 = refl in omega (arith, rw l at (stores_reached 0 words))

-- so 7,680 bytes are enough for any
pub setup_short : (words : List ℕ) → length words ≡ 1024 → length (setup_of words) ≤ 7680
setup_short words l = omega (arith, bytes_length 0 words, stores_most words l)

-- ---- the call where it is accepted

pub setup_fits : (words out : List ℕ) → length words ≡ 1024 → length (setup_of words) ≤ length out
    → (setup_answer words (length out) ≡ Ok (length (setup_of words))) × (setup_left words out ≡ sets out 0 (setup_of words))
unfolding setup_answer setup_left
setup_fits words out l room =
    let e : first_of (setup_cases words (length out)) ≡ accepted = rw (l, le-ltb (length out) (length (setup_of words)) room) in
    (rw e, rw e)

-- ---- the file read

-- a word behind some bytes
word_behind : (before l : List ℕ) (at j : ℕ) → at ≡ length before + j → word_at (before ++ l) at ≡ word_at l j
word_behind before l at j e =
    let low : get_or (before ++ l) at 0 ≡ get_or l j 0 = rw e (get_or-append-add before l j 0) in
    let there : at + 1 ≡ length before + (j + 1) = omega arith in
    let high : get_or (before ++ l) (at + 1) 0 ≡ get_or l (j + 1) 0 = rw there (get_or-append-add before l (j + 1) 0) in
    rw (low, high)

-- a store's bytes, wherever they stand, are read as that store, and the reading goes on behind them
pub store_read : (before after : List ℕ) (address value : ℕ)
    → record_at (before ++ (store_bytes address value ++ after)) (length before) ≡ record { item = Ok (Store address value); next = length before + 8 }
store_read before after address value =
    let n = length before in
    let l = store_bytes address value ++ after in
    let s = before ++ l in
    let behind : word_at s n ≡ 6 = word_behind before l n 0 (omega arith) in
    let kind : word_at s (n + 2) ≡ 1 = word_behind before l (n + 2) 2 refl in
    let first : word_at s (n + 2 + 2) ≡ address = word_behind before l (n + 2 + 2) 4 (omega arith) ∙ omega arith in
    let second : word_at s (n + 2 + 4) ≡ value = word_behind before l (n + 2 + 4) 6 (omega arith) ∙ omega arith in
    let size : n + 2 + word_at s n ≤ length s = rw behind (simp length-append (omega arith)) in
    let end : n + 2 + 6 ≡ n + 8 = omega arith in
    whole_at_lem s n size ∙ rw (behind, kind, first, second, end)

bytes_read : (before : List ℕ) (address : ℕ) (words : List ℕ)
    → records_from (before ++ bytes_from address words) (length before) ≡ stores_from address words
unfolding bytes_from stores_from
bytes_read before address [] = records_end _ (length before) (simp length-append (omega arith))
bytes_read before address (value ∷ rest) =
    go (handed_on address value) (bytes_read before (suc address) rest) (bytes_read (before ++ store_bytes address value) (suc address) rest)
  where
    go : (b : Bool) → records_from (before ++ bytes_from (suc address) rest) (length before) ≡ stores_from (suc address) rest
        → records_from ((before ++ store_bytes address value) ++ bytes_from (suc address) rest) (length (before ++ store_bytes address value)) ≡ stores_from (suc address) rest
        → records_from (before ++ (cond b (store_bytes address value) [] ++ bytes_from (suc address) rest)) (length before)
        ≡ cond b (Ok (Store address value) ∷ stores_from (suc address) rest) (stores_from (suc address) rest)
    go false passed behind = passed
    go true passed behind =
        let more = bytes_from (suc address) rest in
        let s = before ++ (store_bytes address value ++ more) in
        let some : length before < length s = simp length-append (omega arith) in
        let there : length (before ++ store_bytes address value) ≡ length before + 8 = length-append before (store_bytes address value) in
        records_step s (length before) some
        ∙ rw (store_read before more address value)
        (ap (λ l. Ok (Store address value) ∷ l) (rw (append_assoc before (store_bytes address value) more, there) at behind))

-- a setup file is read as the stores of its words
pub setup_read : (words : List ℕ) → records_of (setup_of words) ≡ stores_from 0 words
setup_read words = bytes_read [] 0 words

-- ---- the words that they rebuild

-- 0 in place of those that no store reaches
unfoldable pub rebuilt_from : ℕ → List ℕ → List ℕ
rebuilt_from address [] = []
rebuilt_from address (value ∷ rest) = cond (engine_word address) 0 value ∷ rebuilt_from (suc address) rest

pub rebuilt_length : (address : ℕ) (words : List ℕ) → length (rebuilt_from address words) ≡ length words
unfolding rebuilt_from
rebuilt_length address [] = refl
rebuilt_length address (value ∷ rest) = ap suc (rebuilt_length (suc address) rest)

pub rebuilt_at : (address : ℕ) (words : List ℕ) (i : ℕ) → get_or (rebuilt_from address words) i 0 ≡ cond (engine_word (address + i)) 0 (get_or words i 0)
unfolding rebuilt_from
rebuilt_at address [] i = sym (same (engine_word (address + i)))
  where
    same : (b : Bool) → ◌≡◌ {A = ℕ} (cond b 0 0) 0
    same true = refl
    same false = refl
rebuilt_at address (value ∷ rest) zero = rw (add-zero address)
rebuilt_at address (value ∷ rest) (suc i) = rw (add-suc address i, ← suc-add address i) (rebuilt_at (suc address) rest i)

-- the setup file of these words is that of the words themselves
pub rebuilt_bytes : (address : ℕ) (words : List ℕ) → bytes_from address (rebuilt_from address words) ≡ bytes_from address words
unfolding bytes_from rebuilt_from
rebuilt_bytes address [] = refl
rebuilt_bytes address (value ∷ rest) = rw (rebuilt_bytes (suc address) rest) (go (engine_word address) refl)
  where
    none : (b : Bool) → cond (b && false) (store_bytes address value) [] ++ bytes_from (suc address) rest ≡ bytes_from (suc address) rest
    none true = refl
    none false = refl

    go : (b : Bool) → engine_word address ≡ b
        → cond (handed_on address (cond b 0 value)) (store_bytes address (cond b 0 value)) [] ++ bytes_from (suc address) rest
        ≡ cond (handed_on address value) (store_bytes address value) [] ++ bytes_from (suc address) rest
    go true e = rw e (sym (none (not (eqb value 0))))
    go false e = refl
