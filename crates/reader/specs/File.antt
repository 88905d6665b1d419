-- A drill file as its records (L1 to L8). A file is a list of bytes.
-- The laws of these definitions are in `File/Laws`.
use Rattle.std.specs.Prelude.{ℕ, zero, suc, ◌+◌, ◌*◌, ◌-◌, Bool, cond, not, ◌||◌, List, [], ◌∷◌, map, length, get_or, ltb, eqb, Result, Ok, Err}
use Rattle.std.proofs.Math.Seq.{slice}
use Rattle.refusals.specs.declared.Refusal.{Refusal}
use Rattle.refusals.specs.declared.Refusal.TheVariants.{Cut, Kind, Length}
use Rattle.reader.specs.declared.Record.{Record}
use Rattle.reader.specs.declared.Record.TheVariants.{Store, Sample}
use Rattle.reader.specs.declared.Step.{Step}
use Rattle.reader.specs.declared.Records.{Records}

-- what is read at a position: a record, or why it is refused
abbrev pub Item : Type 0
Item = Result Record Refusal

-- L1: a number of two bytes, the low one first
abbrev pub word_at : List ℕ → ℕ → ℕ
word_at s at = get_or s at 0 + 256 * get_or s (at + 1) 0

-- L3: a store is address and value behind the kind, which stands at `at`
abbrev pub store_at : List ℕ → ℕ → Record
store_at s at = Store (word_at s (at + 2)) (word_at s (at + 4))

-- L4: a sample is the loop in one byte and the raw PV
abbrev pub sample_at : List ℕ → ℕ → Record
sample_at s at = Sample (get_or s (at + 2) 0) (word_at s (at + 3))

-- N2, L6: the length n leaves no room for a kind, or the kind is unknown
abbrev pub no_kind : List ℕ → ℕ → ℕ → Bool
no_kind s at n = ltb n 2 || not (eqb (word_at s at) 1 || eqb (word_at s at) 2)

-- N3, L7: the length n is not m, that of the kind
abbrev pub of_length : ℕ → ℕ → Record → Item
of_length m n item = cond (eqb n m) (Ok item) (Err Length)

-- L2, O2: what the bytes behind a length are, by their kind. A store has length 6 (L3), a sample 5 (L4)
abbrev pub whole_at : List ℕ → ℕ → ℕ → Item
whole_at s at n =
    cond (no_kind s at n) (Err Kind)
    (cond (eqb (word_at s at) 1) (of_length 6 n (store_at s at)) (of_length 5 n (sample_at s at)))

-- N1, L5: there is no whole length, or less behind it than it asks for
abbrev pub is_cut : List ℕ → ℕ → Bool
is_cut s at = ltb (length s - at) 2 || ltb (length s - at - 2) (word_at s at)

-- L8, O2: the record at a position, and the position behind its bytes, by its own length. A cut one reaches to the end of the file (L5)
unfoldable pub record_at : List ℕ → ℕ → Step
record_at s at =
    cond (is_cut s at) (record { item = Err Cut; next = length s })
    (record { item = whole_at s (at + 2) (word_at s at); next = at + 2 + word_at s at })

-- L8: the positions of the records from a position on, each behind the record before. No bytes left: the end.
-- `limit` bounds their number; the number of bytes left is enough
unfoldable pub positions_within : ℕ → List ℕ → ℕ → List ℕ
positions_within zero s at = []
positions_within (suc limit) s at =
    let more = at ∷ positions_within limit s (record_at s at).next in
    cond (ltb at (length s)) more []

unfoldable pub positions_from : List ℕ → ℕ → List ℕ
positions_from s at = positions_within (length s - at) s at

-- L8: the records from a position on
unfoldable pub records_from : List ℕ → ℕ → List Item
records_from s at = map (λ p. (record_at s p).item) (positions_from s at)

-- L8: all records of a file
abbrev pub records_of : List ℕ → List Item
records_of s = records_from s 0

-- L8: what an iterator has left of them
abbrev pub records_left : Records → List Item
records_left r = records_from r.file.now r.at

-- the bytes of each record from a position on
unfoldable pub spans_from : List ℕ → ℕ → List (List ℕ)
spans_from s at = map (λ p. slice p (record_at s p).next s) (positions_from s at)

-- the bytes of each record of a file
abbrev pub spans_of : List ℕ → List (List ℕ)
spans_of s = spans_from s 0
