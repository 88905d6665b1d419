-- The laws of a file's records that proofs here and above cite in place of the definitions.
use Rattle.std.specs.Prelude.{ℕ, zero, suc, ◌+◌, ◌*◌, ◌-◌, ◌≤◌, ◌<◌, ◌≡◌, refl, Bool, true, false, cond, length, take, drop, ltb, eqb, Ok, Err}
use Rattle.std.proofs.Common.{sym, ◌∙◌, arith, drop_of_length-le, take-append-drop, length-take-le, lt-ltb, le-ltb, ltb-true, ltb-false}
use mathlib.Core.List.{List, [], ◌∷◌, ◌++◌, flatten}
use Rattle.std.proofs.lemmas.List.{length-map, drop-append-le}
use Rattle.std.proofs.Math.Seq.{slice}
use Rattle.refusals.specs.declared.Refusal.TheVariants.{Cut, Kind, Length}
use Rattle.reader.specs.declared.Record.TheVariants.{Store, Sample}
use Rattle.reader.specs.declared.Step.{Step}
use Rattle.reader.specs.File.{Item, word_at, no_kind, whole_at, record_at}
use Rattle.reader.specs.File.{positions_within, positions_from, records_from, records_of, spans_from, spans_of}

-- a record that the file cuts off, and one whose bytes are all there
pub cut_at : (s : List ℕ) (at : ℕ) → length s < at + 2 + word_at s at → record_at s at ≡ record { item = Err Cut; next = length s }
unfolding record_at
cut_at s at h = go (ltb (length s - at) 2) refl
  where
    go : (b : Bool) → ltb (length s - at) 2 ≡ b → record_at s at ≡ record { item = Err Cut; next = length s }
    go true e = rw e
    go false e = rw (e, lt-ltb (length s - at - 2) (word_at s at) (omega (arith, ltb-false (length s - at) 2 e)))

pub whole_at_lem : (s : List ℕ) (at : ℕ) → at + 2 + word_at s at ≤ length s
    → record_at s at ≡ record { item = whole_at s (at + 2) (word_at s at); next = at + 2 + word_at s at }
unfolding record_at
whole_at_lem s at h = rw (le-ltb (length s - at) 2 (omega arith), le-ltb (length s - at - 2) (word_at s at) (omega arith))

-- what holds of both holds of the record at a position
cut_or_whole : (P : Step → Type 0) (s : List ℕ) (at : ℕ) → P (record { item = Err Cut; next = length s })
    → (at + 2 + word_at s at ≤ length s → P (record { item = whole_at s (at + 2) (word_at s at); next = at + 2 + word_at s at }))
    → P (record_at s at)
cut_or_whole P s at cut whole = go (ltb (length s) (at + 2 + word_at s at)) refl
  where
    go : (b : Bool) → ltb (length s) (at + 2 + word_at s at) ≡ b → P (record_at s at)
    go true e = rw (cut_at s at (ltb-true _ _ e)) cut
    go false e = let h = ltb-false (length s) (at + 2 + word_at s at) e in rw (whole_at_lem s at h) (whole h)

-- what holds of every store, of every sample and of the reader's refusals holds of the record at a position
pub every_record : (P : Item → Type 0) → ((address value : ℕ) → P (Ok (Store address value))) → ((k raw : ℕ) → P (Ok (Sample k raw)))
    → P (Err Cut) → P (Err Kind) → P (Err Length) → (s : List ℕ) (at : ℕ) → P (record_at s at).item
every_record P store sample cut kind size s at = cut_or_whole (λ r. P r.item) s at cut (λ _. whole (at + 2) (word_at s at))
  where
    pick : {x y : Item} (b : Bool) → P x → P y → P (cond b x y)
    pick true p q = p
    pick false p q = q

    whole : (at n : ℕ) → P (whole_at s at n)
    whole at n = pick (no_kind s at n) kind (pick (eqb (word_at s at) 1) (pick (eqb n 6) (store _ _) size) (pick (eqb n 5) (sample _ _) size))

-- a record ends behind its position and within the file; it takes two bytes at least, unless it ends the file
pub next_bounds : (s : List ℕ) (at : ℕ) → at < length s
    → (at < (record_at s at).next) × ((record_at s at).next ≤ length s)
    × (at + 2 ≤ (record_at s at).next + (1 - (length s - (record_at s at).next)))
next_bounds s at h =
    cut_or_whole (λ r. (at < r.next) × (r.next ≤ length s) × (at + 2 ≤ r.next + (1 - (length s - r.next)))) s at
    (omega arith) (λ w. omega arith)

-- induction over the records: what holds from the end on, and at a record where it holds behind it, holds at every position
module _ (s : List ℕ) (P : ℕ → Type 0) (end : (at : ℕ) → length s ≤ at → P at)
    (more : (at : ℕ) → at < length s → P (record_at s at).next → P at) where
  within : (limit at : ℕ) → length s - at ≤ limit → P at
  within zero at h = end at (omega arith)
  within (suc limit) at h = go (ltb at (length s)) refl (within limit (record_at s at).next)
    where
      go : (b : Bool) → ltb at (length s) ≡ b → (length s - (record_at s at).next ≤ limit → P (record_at s at).next) → P at
      go false e ih = end at (ltb-false at (length s) e)
      go true e ih = let k = ltb-true at (length s) e in more at k (ih (omega (arith, next_bounds s at k)))

  pub by_records : (at : ℕ) → P at
  by_records at = within (length s - at) at (omega arith)

-- no position from the end on, whatever the limit
none_within : (s : List ℕ) (at limit : ℕ) → length s ≤ at → positions_within limit s at ≡ []
unfolding positions_within
none_within s at zero h = refl
none_within s at (suc limit) h = rw (le-ltb at (length s) h)

-- any limit that is large enough gives the same positions
abbrev SameWithin : List ℕ → ℕ → Type 0
SameWithin s at = (f g : ℕ) → length s - at ≤ f → length s - at ≤ g → positions_within f s at ≡ positions_within g s at

positions_limit : (s : List ℕ) (at : ℕ) → SameWithin s at
unfolding positions_within
positions_limit s = by_records s (SameWithin s) (λ at h f g _ _. none_within s at f h ∙ sym (none_within s at g h)) more
  where
    more : (at : ℕ) → at < length s → SameWithin s (record_at s at).next → SameWithin s at
    more at h ih zero g i j = absurd (omega arith)
    more at h ih (suc f) zero i j = absurd (omega arith)
    more at h ih (suc f) (suc g) i j =
        let n = next_bounds s at h in rw (lt-ltb at (length s) h, ih f g (omega arith) (omega arith))

positions_end : (s : List ℕ) (at : ℕ) → length s ≤ at → positions_from s at ≡ []
unfolding positions_from
positions_end s at = none_within s at (length s - at)

positions_step : (s : List ℕ) (at : ℕ) → at < length s → positions_from s at ≡ at ∷ positions_from s (record_at s at).next
unfolding positions_from positions_within
positions_step s at h =
    let n = next_bounds s at h in
    positions_limit s at (length s - at) (suc (length s - at)) (omega arith) (omega arith)
    ∙ rw (lt-ltb at (length s) h)
    (rw (positions_limit s (record_at s at).next (length s - at) (length s - (record_at s at).next) (omega arith) (omega arith)))

-- nothing stands from the end on
pub records_end : (s : List ℕ) (at : ℕ) → length s ≤ at → records_from s at ≡ []
unfolding records_from
records_end s at h = rw (positions_end s at h)

-- before the end stand a record and those behind it
pub records_step : (s : List ℕ) (at : ℕ) → at < length s
    → records_from s at ≡ (record_at s at).item ∷ records_from s (record_at s at).next
unfolding records_from
records_step s at h = rw (positions_step s at h)

-- and so of their bytes
pub spans_step : (s : List ℕ) (at : ℕ) → at < length s
    → spans_from s at ≡ slice at (record_at s at).next s ∷ spans_from s (record_at s at).next
unfolding spans_from
spans_step s at h = rw (positions_step s at h)

-- each record takes two bytes at least, but for a last one
count_from : (s : List ℕ) (at : ℕ) → 2 * length (records_from s at) ≤ (length s - at) + 1
count_from s =
    by_records s (λ at. 2 * length (records_from s at) ≤ (length s - at) + 1) (λ at h. rw (records_end s at h) (omega arith))
    (λ at h ih. rw (records_step s at h) (omega (arith, next_bounds s at h)))

-- a file has at most half as many records as bytes, rounded up
pub count : (s : List ℕ) → 2 * length (records_of s) ≤ length s + 1
count s = omega (arith, count_from s 0)

-- there are as many spans as records
pub spans_length : (s : List ℕ) → length (spans_of s) ≡ length (records_of s)
unfolding records_from spans_from
spans_length s = simp length-map

-- the bytes from a record on are its own and those behind it
span_step : (s : List ℕ) (at : ℕ) → at < length s → slice at (record_at s at).next s ++ drop (record_at s at).next s ≡ drop at s
span_step s at h =
    let n = next_bounds s at h in
    let l : at ≤ length (take (record_at s at).next s) = rw (length-take-le _ s n.1) (omega arith) in
    sym (drop-append-le at _ (drop (record_at s at).next s) l) ∙ rw (take-append-drop (record_at s at).next s)

-- the spans from a position on, joined in order, are the bytes from there on
covered_from : (s : List ℕ) (at : ℕ) → flatten (spans_from s at) ≡ drop at s
unfolding spans_from flatten
covered_from s =
    by_records s (λ at. flatten (spans_from s at) ≡ drop at s) (λ at h. rw (positions_end s at h) (sym (drop_of_length-le s h)))
    (λ at h ih. rw (positions_step s at h) (rw ih (span_step s at h)))

-- every byte of a file belongs to exactly one record read, to a cut one what is left: the spans, joined in order, are the file
pub covered : (s : List ℕ) → flatten (spans_of s) ≡ s
covered s = covered_from s 0

-- a record that is no cut one; a test between two such
abbrev pub NotCut : Item → Type 0
NotCut item = item ≡ Err Cut → ◌≡◌ {A = ℕ} 0 1

pick : {x y : Item} (b : Bool) → NotCut x → NotCut y → NotCut (cond b x y)
pick true p q = p
pick false p q = q

pub whole_not_cut : (s : List ℕ) (at n : ℕ) → NotCut (whole_at s at n)
whole_not_cut s at n =
    pick (no_kind s at n) (λ e. cc)
    (pick (eqb (word_at s at) 1) (pick (eqb n 6) (λ e. cc) (λ e. cc)) (pick (eqb n 5) (λ e. cc) (λ e. cc)))

-- a cut record ends the file
pub cut_next : (s : List ℕ) (at : ℕ) → (record_at s at).item ≡ Err Cut → (record_at s at).next ≡ length s
cut_next s at =
    cut_or_whole (λ r. r.item ≡ Err Cut → r.next ≡ length s) s at (λ _. refl)
    (λ w e. omega (arith, whole_not_cut s (at + 2) (word_at s at) e))

-- a cut record is the last one
pub cut_last : (s : List ℕ) (before after : List Item) → records_of s ≡ before ++ (Err Cut ∷ after) → after ≡ []
cut_last s = by_records s CutLast end more 0
  where
    CutLast : ℕ → Type 0
    CutLast at = (before after : List Item) → records_from s at ≡ before ++ (Err Cut ∷ after) → after ≡ []

    end : (at : ℕ) → length s ≤ at → CutLast at
    end at h [] after e = cc (records_end s at h)
    end at h (x ∷ before) after e = cc (records_end s at h)

    more : (at : ℕ) → at < length s → CutLast (record_at s at).next → CutLast at
    more at h ih [] after e =
        let item : (record_at s at).item ≡ Err Cut = cc (records_step s at h) in
        cc (records_step s at h, records_end s (record_at s at).next (omega (arith, cut_next s at item)))
    more at h ih (x ∷ before) after e = ih before after (cc (records_step s at h))
