-- How wide lines are, and that ten bytes for each byte of a file are room for all of them.
use Prim.Native.Nat.{ℕ, ◌+◌, ◌*◌, ◌-◌, ◌≤◌, ◌<◌}
use native.Mathlib.Omega.{arith}
use mathlib.Core.Path.{◌≡◌, refl}
use mathlib.Core.Bool.{Bool, true, false, cond}
use mathlib.Core.List.{List, [], ◌∷◌}
use lib.Dec.{eqb}
use lib.ListN.{length}
use borrow.Author.Tests.{eqb-true}
use Rattle.std.specs.Prelude.{Ok, Err}
use Rattle.refusals.specs.declared.Refusal.TheVariants.{Cut, Kind, Length}
use Rattle.reader.specs.declared.Record.TheVariants.{Store, Sample}
use Rattle.reader.specs.declared.Step.{Step}
use Rattle.reader.specs.File.{Item, word_at, store_at, sample_at, no_kind, whole_at, is_cut, record_at, records_from, records_of}
use Rattle.reader.proofs.Laws.File.{by_records, next_bounds, records_step, records_end}
use Rattle.lines.specs.Widths.{width_of}

pub width_bounds : (x : Item) → (14 ≤ width_of x) × (width_of x ≤ 49)
width_bounds (Ok (Store address value)) = omega arith
width_bounds (Ok (Sample k raw)) = omega arith
width_bounds (Err why) = omega arith

-- a line is at most six bytes longer than what it says: ten bytes for each byte of a record of length n
whole_room : (s : List ℕ) (at n : ℕ) → 6 + width_of (whole_at s at n) ≤ 10 * (n + 2)
whole_room s at n = go (no_kind s at n) (eqb (word_at s at) 1) (eqb n 6) refl (eqb n 5) refl
  where
    item : Bool → Bool → Bool → Bool → Item
    item none store six five =
        cond none (Err Kind) (cond store (cond six (Ok (store_at s at)) (Err Length)) (cond five (Ok (sample_at s at)) (Err Length)))

    go : (none store six : Bool) → eqb n 6 ≡ six → (five : Bool) → eqb n 5 ≡ five → 6 + width_of (item none store six five) ≤ 10 * (n + 2)
    go true store six e five f = omega arith
    go false true true e five f = omega (arith, eqb-true n 6 e)
    go false true false e five f = omega arith
    go false false six e true f = omega (arith, eqb-true n 5 f)
    go false false six e false f = omega arith

-- and ten more where it ends the file
pub line_room : (s : List ℕ) (at : ℕ) → at < length s
    → 6 + width_of (record_at s at).item + 10 * at ≤ 10 * (record_at s at).next + 10 * (1 - (length s - (record_at s at).next))
unfolding record_at
line_room s at h = go (is_cut s at)
  where
    go : (cut : Bool) → let r = cond {A = Step} cut (record { item = Err Cut; next = length s })
        (record { item = whole_at s (at + 2) (word_at s at); next = at + 2 + word_at s at }) in
        6 + width_of r.item + 10 * at ≤ 10 * r.next + 10 * (1 - (length s - r.next))
    go true = omega arith
    go false = omega (arith, whole_room s (at + 2) (word_at s at))

-- the room of the lines of some records
unfoldable pub room_of : List Item → ℕ
room_of [] = 0
room_of (x ∷ xs) = 6 + width_of x + room_of xs

room_from : (s : List ℕ) (at : ℕ) → room_of (records_from s at) ≤ 10 * (length s - at) + 10 * (1 - (1 - (length s - at)))
unfolding room_of
room_from s =
    by_records s (λ at. room_of (records_from s at) ≤ 10 * (length s - at) + 10 * (1 - (1 - (length s - at)))) (λ at h. rw (records_end s at h) (omega arith))
    (λ at h ih. rw (records_step s at h) (omega (arith, ih, line_room s at h, next_bounds s at h)))

-- ten bytes for each byte of a file, and ten, are room for the lines of its records
pub all_room : (s : List ℕ) → room_of (records_of s) ≤ 10 * length s + 10
all_room s = omega (arith, room_from s 0)
