-- Demand 3. Over any list of turns (E1), beginning with any words and any numbers, two things hold of every sample that is answered 0. Its output word
-- is inside the limits that the sample read (E2). And where its loop has counted n samples since an entry, in position form, never in Manual nor with
-- freeze, the word is as near to the exact output as half a count and (n + 1) units (E6). The exact output, n and B are the plain loop's (E3), which
-- begins with the list and with every reset, and goes on through files. The plain loops of all loops go together: a transfer of one marks another.
use Rattle.std.specs.Prelude.{ℕ, ◌+◌, ◌≤◌, ◌<◌, ◌≡◌, true, false, ◌||◌, List, ◌++◌, pos}
use Rattle.numbers.specs.Fractions.{over, whole, ◌+ᶠ◌, ◌≤ᶠ◌}
use Rattle.reader.specs.File.{records_of}
use Rattle.reading.specs.declared.reading.Reading.{Reading}
use Rattle.table.specs.Modes.{is_manual}
use Rattle.engine.specs.Sensing.{sensed_of}
use Rattle.plain.specs.Plain.{Plain, plain_after, tolerance}
use Rattle.desk.specs.Desk.{Desk}
use Rattle.desk.specs.Lists.{Call, desk_behind, Plains, begun_all, fed, plains_behind, Claim, Holds}
use Rattle.session.specs.Session.{calls_of, left_of}
use Rattle.claims.specs.Turns.{Made, one, file, Turn, found, number_to, behind_all, fed_all}

-- E1, E2, E6 of one call: a direct one by itself; a file that is answered 0 is its records' calls in a row, and leaves what they leave
abbrev pub Claimed : ℕ → Plains → Desk → Made → Type 0
Claimed k qs d (one call) = Claim k d (fed qs d call k) call
Claimed k qs d (file bytes) =
    number_to d (file bytes) ≡ 0 → let calls = calls_of (records_of bytes) in Holds k qs d calls × (left_of bytes d ≡ desk_behind d calls)

-- E4: n after an accepted sample: Manual, freeze and velocity form end the count, an entry begins it, and one that has begun goes on
pub record Counting (q : Plain) (r : Reading) (p : ℕ) : Type 0 where
  pub ended : (is_manual r.mode || r.settings.mode1.freeze || r.settings.mode1.velocity) ≡ true → (plain_after q r p).n ≡ 0
  pub begins : (is_manual r.mode || r.settings.mode1.freeze || r.settings.mode1.velocity) ≡ false
      → ((sensed_of r q.state p).entry ≡ true → (plain_after q r p).n ≡ 1)
      × ((sensed_of r q.state p).entry ≡ false → (q.n ≡ 0 → (plain_after q r p).n ≡ 0) × (0 < q.n → (plain_after q r p).n ≡ q.n + 1))

pub record Demand3 : Type 0 where
  -- behind any turns, of the next one
  pub accurate : (d : Desk) (before : List Turn) (t : Turn) (k : ℕ) → 1 ≤ k → k ≤ 16
      → Claimed k (fed_all (begun_all d.numbers) d before) (found (behind_all d before) t) t.made
  pub counted : (q : Plain) (r : Reading) (p : ℕ) → Counting q r p
  -- E6: 1/2 + (n + 1)/262,144 of a count, which is at most one count while n is at most 131,071
  pub tolerated : (n : ℕ) → tolerance n ≡ over (pos 1) 2 +ᶠ over (pos (n + 1)) 262144
  pub one_count : (n : ℕ) → n ≤ 131071 → tolerance n ≤ᶠ whole (pos 1)
  -- E1, E3: turns one behind the other, with files among them: the plain loops, and so n, run on
  pub append : (qs : Plains) (d : Desk) (xs ys : List Turn) → fed_all qs d (xs ++ ys) ≡ fed_all (fed_all qs d xs) (behind_all d xs) ys
  pub calls : (qs : Plains) (d : Desk) (xs ys : List Call) → plains_behind qs d (xs ++ ys) ≡ plains_behind (plains_behind qs d xs) (desk_behind d xs) ys
