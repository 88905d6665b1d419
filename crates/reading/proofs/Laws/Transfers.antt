-- The laws of a transfer: where the major loop's output word stands, and what the reading of it depends on.
use Rattle.std.specs.Prelude.{ℕ, ◌+◌, ◌≤◌, ◌/◌, ◌%◌, ◌≡◌, refl, Bool, true, false, cond, not, ◌&&◌, List, get_or, ltb, eqb}
use Rattle.std.proofs.Common.{arith, lt-ltb, ltb-true, eqb-true, ne_eqb}
use Rattle.std.proofs.lemmas.Bool.{eqb-false, not-true}
use Rattle.table.specs.declared.mode.Mode.{Mode}
use Rattle.table.specs.Words.{base_of}
use Rattle.table.specs.Words.Laws.{and_true}
use Rattle.table.specs.Modes.{is_automatic, is_cascade}
use Rattle.reading.specs.Transfers.{transfers, major_of, limits_at, major_in}

-- a sample outside Cascade is none
pub only_cascade : (former mode : Mode) (bumpless : Bool) → is_cascade mode ≡ false → transfers former mode bumpless ≡ false
unfolding transfers
only_cascade former mode bumpless e = rw e (unless (is_automatic former) (not bumpless))
  where
    unless : (a b : Bool) → (a && false && b) ≡ false
    unless true b = refl
    unless false b = refl

-- a major loop is one of the sixteen, not loop k, and its output word has the address
pub record IsMajor (k pointer j : ℕ) : Type 0 where
  pub above : 1 ≤ j
  pub below : j ≤ 16
  pub other : j ≡ k → ⊥
  pub output : pointer ≡ base_of j + 5

pub major_is : (k pointer : ℕ) → (major_of k pointer ≡ 0 → ⊥) → IsMajor k pointer (major_of k pointer)
unfolding major_of
major_is k pointer some = go (ltb pointer 512 && eqb (pointer % 32) 5 && not (eqb (pointer / 32 + 1) k)) refl some
  where
    go : (b : Bool) → (ltb pointer 512 && eqb (pointer % 32) 5 && not (eqb (pointer / 32 + 1) k)) ≡ b → (cond b (pointer / 32 + 1) 0 ≡ 0 → ⊥)
        → IsMajor k pointer (cond b (pointer / 32 + 1) 0)
    go false e some = absurd (some refl)
    go true e some =
        let p = and_true (ltb pointer 512 && eqb (pointer % 32) 5) (not (eqb (pointer / 32 + 1) k)) e in
        let q = and_true (ltb pointer 512) (eqb (pointer % 32) 5) p.0 in
        let low = ltb-true pointer 512 q.0 in
        let five = eqb-true (pointer % 32) 5 q.1 in
        record {
          above = omega arith;
          below = omega (arith, low);
          other = eqb-false (pointer / 32 + 1) k (not-true _ p.1);
          output = omega (arith, five);
        }

-- the limits of a major loop are its two words
pub limits_same : (ws ws' : List ℕ) (j : ℕ)
    → ((j ≡ 0 → ⊥) → (get_or ws (base_of j + 24) 0 ≡ get_or ws' (base_of j + 24) 0) × (get_or ws (base_of j + 25) 0 ≡ get_or ws' (base_of j + 25) 0))
    → limits_at ws j ≡ limits_at ws' j
unfolding limits_at
limits_same ws ws' j h = go (eqb j 0) refl
  where
    go : (b : Bool) → eqb j 0 ≡ b → limits_at ws j ≡ limits_at ws' j
    go true e = rw e
    go false e = let p = h (eqb-false j 0 e) in rw (e, p.0, p.1)

-- it is none above 16
pub major_low : (k pointer : ℕ) → major_of k pointer ≤ 16
major_low k pointer = go (eqb (major_of k pointer) 0) refl
  where
    go : (b : Bool) → eqb (major_of k pointer) 0 ≡ b → major_of k pointer ≤ 16
    go true e = omega (arith, eqb-true (major_of k pointer) 0 e)
    go false e = (major_is k pointer (eqb-false (major_of k pointer) 0 e)).below

-- ---- what is read of it

pub read_low : (ws : List ℕ) (transfer : Bool) (k pointer : ℕ) → (major_in ws transfer k pointer).number ≤ 16
unfolding major_in
read_low ws true k pointer = major_low k pointer
read_low ws false k pointer = omega arith

-- its number and its two words
pub major_read : (ws : List ℕ) (transfer : Bool) (k pointer : ℕ) → let m = major_in ws transfer k pointer in
    (m.number ≡ 0 → ⊥)
    → IsMajor k pointer m.number × (m.limits.low ≡ get_or ws (base_of m.number + 24) 0) × (m.limits.high ≡ get_or ws (base_of m.number + 25) 0)
unfolding major_in limits_at
major_read ws false k pointer some = absurd (some refl)
major_read ws true k pointer some =
    let other : eqb (major_of k pointer) 0 ≡ false = ne_eqb (major_of k pointer) 0 some in
    (major_is k pointer some, rw other, rw other)

-- so two that have the same number and the same two words are read alike
pub major_local : (ws ws' : List ℕ) (transfer : Bool) (k k' pointer : ℕ) → (transfer ≡ true → major_of k pointer ≡ major_of k' pointer)
    → (transfer ≡ true → let j = major_of k pointer in
    (j ≡ 0 → ⊥) → (get_or ws (base_of j + 24) 0 ≡ get_or ws' (base_of j + 24) 0) × (get_or ws (base_of j + 25) 0 ≡ get_or ws' (base_of j + 25) 0))
    → major_in ws transfer k pointer ≡ major_in ws' transfer k' pointer
unfolding major_in limits_at
major_local ws ws' false k k' pointer e h = refl
major_local ws ws' true k k' pointer e h = rw (limits_same ws ws' (major_of k pointer) (h refl), ← e refl)

-- the loop whose output word has the address is found, and no other
pub major_found : (k j : ℕ) → 1 ≤ j → j ≤ 16 → (j ≡ k → ⊥) → major_of k (base_of j + 5) ≡ j
unfolding major_of
major_found k j above below other =
    let place : (base_of j + 5) / 32 + 1 ≡ j = omega arith in
    let five : (base_of j + 5) % 32 ≡ 5 = omega arith in
    rw (lt-ltb (base_of j + 5) 512 (omega arith), five, place, ne_eqb j k other)

pub major_none : (k pointer : ℕ) → ((j : ℕ) → 1 ≤ j → j ≤ 16 → (j ≡ k → ⊥) → pointer ≡ base_of j + 5 → ⊥) → major_of k pointer ≡ 0
major_none k pointer none = go (eqb (major_of k pointer) 0) refl
  where
    go : (b : Bool) → eqb (major_of k pointer) 0 ≡ b → major_of k pointer ≡ 0
    go true e = eqb-true (major_of k pointer) 0 e
    go false e = let m = major_is k pointer (eqb-false (major_of k pointer) 0 e) in absurd (none (major_of k pointer) m.above m.below m.other m.output)
