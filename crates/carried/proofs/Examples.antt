-- The carried record computed of the definitions (H1 to H5): the two ends of each range, a record as numbers and back, each loop's place in the buffer,
-- the mark, and what a sample reads of the past.
use Prim.Native.Nat.{ℕ, zero, suc}
use mathlib.Core.Path.{◌≡◌, refl}
use mathlib.Core.Bool.{Bool, true, false, cond}
use mathlib.Core.List.{List, [], ◌∷◌, ◌++◌, map}
use lib.IntN.{ℤ, pos, neg_ℤ, ◌+ℤ◌, ◌-ℤ◌}
use lib.ListN.{set, replicate, take, length}
use Rattle.computed.specs.Cases.{Case, ◌∶◌gives◌, ◌∶◌givesℤ◌, flag, failing}
use Rattle.computed.specs.Cases.Laws.{together, in_parts}
use Rattle.table.specs.declared.mode.Mode.{Mode}
use Rattle.table.specs.declared.mode.Mode.TheVariants.{Manual, Automatic, Cascade}
use Rattle.reading.specs.declared.reading.Former.{Former}
use Rattle.carried.specs.declared.record.Carried.{Carried}
use Rattle.carried.specs.Layout.{out_of_range, numbers_of, profile_from, record_from, number_count, slot_of, numbers_at, carried_at, marked_at, marked_record}
use Rattle.carried.specs.Former.{former_of}

minus : ℕ → ℤ
minus n = neg_ℤ (pos n)

-- ---- the ranges

-- number i of a record alone: one below the lowest, the lowest, the highest, one above it; whether each is out of range
ends : ℕ → ℤ → ℤ → List ℕ
ends i low high = map (λ (n : ℤ). flag (out_of_range (set (replicate 14 (pos 0)) i n))) ((low -ℤ pos 1) ∷ low ∷ high ∷ (high +ℤ pos 1) ∷ [])

inside_alone : List ℕ
inside_alone = 1 ∷ 0 ∷ 0 ∷ 1 ∷ []

ranges : List Case
ranges =
    ("H1 mode, 0 to 2" ∶ ends 0 (pos 0) (pos 2) gives inside_alone)
    ∷ ("H1 bias, −2^52 to 2^52" ∶ ends 1 (minus 4503599627370496) (pos 4503599627370496) gives inside_alone)
    ∷ ("H1 output, 0 to 65,535 counts in units" ∶ ends 2 (pos 0) (pos 17179607040) gives inside_alone)
    ∷ ("H1 last PV, 0 to 65,535" ∶ ends 3 (pos 0) (pos 65535) gives inside_alone)
    ∷ ("H1 PV before the last, 0 to 65,535" ∶ ends 4 (pos 0) (pos 65535) gives inside_alone)
    ∷ ("H1 error, −65,535 to 65,535" ∶ ends 5 (minus 65535) (pos 65535) gives inside_alone)
    ∷ ("H1 form, 0 or 1" ∶ ends 6 (pos 0) (pos 1) gives inside_alone)
    ∷ ("H1 sampled, 0 or 1" ∶ ends 7 (pos 0) (pos 1) gives inside_alone)
    ∷ ("H1 segment, 0 to 16" ∶ ends 8 (pos 0) (pos 16) gives inside_alone)
    ∷ ("H1 hold, 0 or 1" ∶ ends 9 (pos 0) (pos 1) gives inside_alone)
    ∷ ("H1 completion, 0 or 1" ∶ ends 10 (pos 0) (pos 1) gives inside_alone)
    ∷ ("H1 fraction, 0 to 9,999" ∶ ends 11 (pos 0) (pos 9999) gives inside_alone)
    ∷ ("H1 time, 0 to 6,000,000" ∶ ends 12 (pos 0) (pos 6000000) gives inside_alone)
    ∷ ("H1 mark, 0 or 1" ∶ ends 13 (pos 0) (pos 1) gives inside_alone)
    ∷ ("H5 fourteen zeros" ∶ flag (out_of_range (replicate 14 (pos 0))) ∷ [] gives (0 ∷ []))
    ∷ ("H5 two numbers out of range" ∶ flag (out_of_range (set (set (replicate 14 (pos 0)) 3 (minus 1)) 13 (pos 2))) ∷ [] gives (1 ∷ []))
    ∷ []

-- ---- a record as numbers

-- three records: their numbers differ, and no two flags are the same in all three
first : Carried
first = record {
  state = record {
    mode = Automatic;
    velocity = true;
    profile = record { segment = 16; hold = true; complete = false; fraction = 9999; time = 6000000 };
    mark = true;
  };
  drive = record { bias = minus 4503599627370496; output = pos 17179607040 };
  past = record { last = 65535; prior = 40000; error = minus 65535 };
  sampled = false;
}

second : Carried
second = record {
  state = record { mode = Cascade; velocity = false; profile = record { segment = 7; hold = true; complete = false; fraction = 12; time = 600 }; mark = false };
  drive = record { bias = pos 4503599627370496; output = pos 524288000 };
  past = record { last = 1; prior = 3; error = pos 500 };
  sampled = true;
}

third : Carried
third = record {
  state = record { mode = Manual; velocity = false; profile = record { segment = 4; hold = false; complete = true; fraction = 5; time = 6 }; mark = true };
  drive = record { bias = minus 1; output = pos 2 };
  past = record { last = 8; prior = 9; error = minus 11 };
  sampled = false;
}

-- H1's order: mode, bias, output, last PV, PV before, error, form, sampled, segment, hold, completion, fraction, time, mark
first_numbers : List ℤ
first_numbers =
    pos 1 ∷ minus 4503599627370496 ∷ pos 17179607040 ∷ pos 65535 ∷ pos 40000 ∷ minus 65535 ∷ pos 1 ∷ pos 0
    ∷ pos 16 ∷ pos 1 ∷ pos 0 ∷ pos 9999 ∷ pos 6000000 ∷ pos 1 ∷ []

second_numbers : List ℤ
second_numbers =
    pos 2 ∷ pos 4503599627370496 ∷ pos 524288000 ∷ pos 1 ∷ pos 3 ∷ pos 500 ∷ pos 0 ∷ pos 1 ∷ pos 7 ∷ pos 1 ∷ pos 0 ∷ pos 12 ∷ pos 600 ∷ pos 0 ∷ []

third_numbers : List ℤ
third_numbers =
    pos 0 ∷ minus 1 ∷ pos 2 ∷ pos 8 ∷ pos 9 ∷ minus 11 ∷ pos 0 ∷ pos 0 ∷ pos 4 ∷ pos 0 ∷ pos 1 ∷ pos 5 ∷ pos 6 ∷ pos 1 ∷ []

-- a record by its fields, in the order of their declarations: state, drive, past, sampled
mode : Mode → ℤ
mode Manual = pos 0
mode Automatic = pos 1
mode Cascade = pos 2

bit : Bool → ℤ
bit on = cond on (pos 1) (pos 0)

fields : Carried → List ℤ
fields c =
    let s = c.state in
    let q = s.profile in
    mode s.mode
    ∷ bit s.velocity
    ∷ pos q.segment
    ∷ bit q.hold
    ∷ bit q.complete
    ∷ pos q.fraction
    ∷ pos q.time
    ∷ bit s.mark
    ∷ c.drive.bias
    ∷ c.drive.output
    ∷ pos c.past.last
    ∷ pos c.past.prior
    ∷ c.past.error
    ∷ bit c.sampled
    ∷ []

former : Former → List ℤ
former f = mode f.mode ∷ pos f.segment ∷ []

records : List Case
records =
    ("H1 numbers of the first record" ∶ numbers_of first givesℤ first_numbers)
    ∷ ("H1 numbers of the second record" ∶ numbers_of second givesℤ second_numbers)
    ∷ ("H1 numbers of the third record" ∶ numbers_of third givesℤ third_numbers)
    ∷ ("H1 the first record from its numbers" ∶ fields (record_from first_numbers) givesℤ fields first)
    ∷ ("H1 the second record from its numbers" ∶ fields (record_from second_numbers) givesℤ fields second)
    ∷ ("H1 the third record from its numbers" ∶ fields (record_from third_numbers) givesℤ fields third)
    ∷ ("H3 the record of fourteen zeros" ∶ fields (record_from (replicate 14 (pos 0))) givesℤ replicate 14 (pos 0))
    ∷ ("Q9 a sample reads the first record's mode and segment" ∶ former (former_of first.state) givesℤ (pos 1 ∷ pos 16 ∷ []))
    ∷ ("Q9 a sample reads the second record's mode and segment" ∶ former (former_of second.state) givesℤ (pos 2 ∷ pos 7 ∷ []))
    ∷ ("Q9 a sample reads the third record's mode and segment" ∶ former (former_of third.state) givesℤ (pos 0 ∷ pos 4 ∷ []))
    ∷ []

-- ---- the buffer

-- n numbers from a first one on
count : ℕ → ℕ → List ℤ
count from zero = []
count from (suc n) = pos from ∷ count (suc from) n

-- 224 numbers, no two alike: number i is 1,000 + i
buffer : List ℤ
buffer = count 1000 224

-- three records of it: loop 1's, loop 2's and loop 16's
filled : List ℤ
filled = first_numbers ++ (second_numbers ++ (replicate 182 (pos 0) ++ third_numbers))

places : List Case
places =
    ("H4 the buffer has 224 numbers" ∶ number_count ∷ length buffer ∷ length filled ∷ [] gives (224 ∷ 224 ∷ 224 ∷ []))
    ∷ ("H4 the places of loops 1, 2, 9 and 16" ∶ slot_of 1 ∷ slot_of 2 ∷ slot_of 9 ∷ slot_of 16 ∷ [] gives (0 ∷ 14 ∷ 112 ∷ 210 ∷ []))
    ∷ ("H4 loop 1's numbers" ∶ numbers_at buffer (slot_of 1) givesℤ count 1000 14)
    ∷ ("H4 loop 2's numbers" ∶ numbers_at buffer (slot_of 2) givesℤ count 1014 14)
    ∷ ("H4 loop 16's numbers" ∶ numbers_at buffer (slot_of 16) givesℤ count 1210 14)
    ∷ ("H4 loop 1's record" ∶ fields (carried_at filled 1) givesℤ fields first)
    ∷ ("H4 loop 2's record" ∶ fields (carried_at filled 2) givesℤ fields second)
    ∷ ("H4 loop 16's record" ∶ fields (carried_at filled 16) givesℤ fields third)
    -- number 13 alone, whatever stood there
    ∷ ("A13 loop 1's mark" ∶ marked_at buffer 1 givesℤ (count 1000 13 ++ (pos 1 ∷ count 1014 210)))
    ∷ ("A13 loop 2's mark" ∶ marked_at buffer 2 givesℤ (count 1000 27 ++ (pos 1 ∷ count 1028 196)))
    ∷ ("A13 loop 16's mark" ∶ marked_at buffer 16 givesℤ (count 1000 223 ++ (pos 1 ∷ [])))
    ∷ ("A13 the second record marked" ∶ numbers_of (marked_record second) givesℤ (take 13 second_numbers ++ (pos 1 ∷ [])))
    ∷ ("A13 a record that is marked already" ∶ numbers_of (marked_record third) givesℤ third_numbers)
    ∷ []

parts : List (List Case)
parts = ranges ∷ records ∷ places ∷ []

pub cases : List Case
cases = together parts

pub computed : failing cases ≡ []
unfolding out_of_range numbers_of profile_from record_from minus ends inside_alone first second third first_numbers second_numbers third_numbers mode bit fields former count buffer filled ranges records places parts cases
computed = in_parts parts (refl, (refl, (refl, tt)))
