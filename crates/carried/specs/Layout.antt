-- The carried record of a loop as numbers of 64 bits (H1): their ranges, one row a number, and the place of each loop's record in the lent
-- buffer (H4).
use Rattle.std.specs.Prelude.{ℕ, suc, ◌+◌, ◌*◌, ◌-◌, ◌^◌, ◌<◌, Bool, true, cond, ◌||◌, List, [], ◌∷◌, length, get_or, set, take, drop, ℤ, pos, neg_ℤ, nat_abs, ◌≤ℤ◌}
use Rattle.std.specs.Int.Signed.{lt_z}
use Rattle.table.specs.declared.mode.Mode.{Mode}
use Rattle.table.specs.declared.mode.Mode.TheVariants.{Manual, Automatic, Cascade}
use Rattle.table.specs.Words.{any}
use Rattle.profile.specs.declared.state.Profile.{Profile}
use Rattle.carried.specs.declared.record.State.{State}
use Rattle.carried.specs.declared.record.Carried.{Carried}
pub mod Laws

-- ---- the ranges: a table, one row for each number of a record

pub record Range : Type 0 where
  pub low : ℤ
  pub high : ℤ

infix 20 ◌to◌
abbrev pub ◌to◌ : ℤ → ℤ → Range
low to high = record { low = low; high = high }

-- H1: mode; bias and output in units; the last PV and the one before; error; form; whether a sample was accepted; of the profile segment, hold,
-- completion, fraction and time; and the mark
abbrev pub ranges : List Range
ranges =
    (pos 0 to pos 2)
    ∷ (neg_ℤ (pos (2 ^ 52)) to pos (2 ^ 52))
    ∷ (pos 0 to pos (65535 * 262144))
    ∷ (pos 0 to pos 65535)
    ∷ (pos 0 to pos 65535)
    ∷ (neg_ℤ (pos 65535) to pos 65535)
    ∷ (pos 0 to pos 1)
    ∷ (pos 0 to pos 1)
    ∷ (pos 0 to pos 16)
    ∷ (pos 0 to pos 1)
    ∷ (pos 0 to pos 1)
    ∷ (pos 0 to pos 9999)
    ∷ (pos 0 to pos 6000000)
    ∷ (pos 0 to pos 1)
    ∷ []

-- H1: how many numbers a record has
abbrev pub field_count : ℕ
field_count = length ranges

-- H5: a number is outside its row
abbrev pub outside_row : Range → ℤ → Bool
outside_row r n = lt_z n r.low || lt_z r.high n

-- each number of a record, from the i-th on, against its row
abbrev pub range_tests : List Range → List ℤ → ℕ → List Bool
range_tests [] ns i = []
range_tests (r ∷ rs) ns i = outside_row r (get_or ns i (pos 0)) ∷ range_tests rs ns (suc i)

-- H5: a number of the record is out of range
unfoldable pub out_of_range : List ℤ → Bool
out_of_range ns = any (range_tests ranges ns 0)

-- a number stands in its row
abbrev pub InRow : Range → ℤ → Type 0
InRow r n = (r.low ≤ℤ n) × (n ≤ℤ r.high)

-- H1: the row of the i-th number
abbrev pub row_of : ℕ → Range
row_of i = get_or ranges i (pos 0 to pos 0)

-- H5: each number of a record stands in its row
abbrev pub Rows : List ℤ → Type 0
Rows ns = (i : ℕ) → i < field_count → InRow (row_of i) (get_or ns i (pos 0))

-- ---- a record as numbers

-- H1: the number of a mode
abbrev pub mode_number : Mode → ℕ
mode_number Manual = 0
mode_number Automatic = 1
mode_number Cascade = 2

-- H1: the number of a form, of `sampled`, of a hold, of completion and of a mark
abbrev pub flag : Bool → ℤ
flag on = cond on (pos 1) (pos 0)

-- H1: the numbers of a record, in their order
unfoldable pub numbers_of : Carried → List ℤ
numbers_of c =
    pos (mode_number c.state.mode)
    ∷ c.drive.bias
    ∷ c.drive.output
    ∷ pos c.past.last
    ∷ pos c.past.prior
    ∷ c.past.error
    ∷ flag c.state.velocity
    ∷ flag c.sampled
    ∷ pos c.state.profile.segment
    ∷ flag c.state.profile.hold
    ∷ flag c.state.profile.complete
    ∷ pos c.state.profile.fraction
    ∷ pos c.state.profile.time
    ∷ flag c.state.mark
    ∷ []

-- ---- and back, from numbers in range

-- H1: the mode of a number
abbrev pub mode_from : ℤ → Mode
mode_from n = cond (lt_z n (pos 1)) Manual (cond (lt_z n (pos 2)) Automatic Cascade)

-- H1: 1 is on, 0 off
abbrev pub flag_from : ℤ → Bool
flag_from n = lt_z (pos 0) n

-- H1: the profile that such numbers are
unfoldable pub profile_from : List ℤ → Profile
profile_from ns =
    let at : ℕ → ℤ = λ i. get_or ns i (pos 0) in
    record {
      segment = nat_abs (at 8);
      hold = flag_from (at 9);
      complete = flag_from (at 10);
      fraction = nat_abs (at 11);
      time = nat_abs (at 12);
    }

-- H1: the record that such numbers are
unfoldable pub record_from : List ℤ → Carried
record_from ns =
    let at : ℕ → ℤ = λ i. get_or ns i (pos 0) in
    record {
      state = record { mode = mode_from (at 0); velocity = flag_from (at 6); profile = profile_from ns; mark = flag_from (at 13) };
      drive = record { bias = at 1; output = at 2 };
      past = record { last = nat_abs (at 3); prior = nat_abs (at 4); error = at 5 };
      sampled = flag_from (at 7);
    }

-- ---- the buffer: sixteen records, loop 1 first

-- H4: how many numbers sixteen records have
abbrev pub number_count : ℕ
number_count = 16 * field_count

-- H4: the place of loop k's record
abbrev pub slot_of : ℕ → ℕ
slot_of k = field_count * (k - 1)

-- H4: the numbers of the record that starts at a place
abbrev pub numbers_at : List ℤ → ℕ → List ℤ
numbers_at ns at = take field_count (drop at ns)

-- H4: loop k's record
abbrev pub carried_at : List ℤ → ℕ → Carried
carried_at ns k = record_from (numbers_at ns (slot_of k))

-- ---- the mark of a transfer

-- A13: loop k's number 13 becomes 1, whatever stood there
abbrev pub marked_at : List ℤ → ℕ → List ℤ
marked_at ns k = set ns (slot_of k + 13) (pos 1)

-- A13: the state of a loop that was marked
abbrev pub marked : State → State
marked s = record { mode = s.mode; velocity = s.velocity; profile = s.profile; mark = true }

abbrev pub marked_record : Carried → Carried
marked_record c = record { state = marked c.state; drive = c.drive; past = c.past; sampled = c.sampled }
