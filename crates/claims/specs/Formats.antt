-- What is promised of an output with a format of its own (M3, M7) beside the demands: the two full scales, how a count is converted, for any two of
-- them, in which counts a sample leaves its numbers, which it compares converted and which as they stand, and accuracy for any two full scales.
-- What is refused by the bits of mode 2 and by the full scales is said in `Causes`.
use Rattle.std.specs.Prelude.{ℕ, ◌+◌, ◌*◌, ◌≤◌, ◌<◌, ◌≡◌, Bool, true, false, cond, not, ◌&&◌, ltb, eqb, nat_abs}
use Rattle.numbers.specs.Distances.{apart}
use Rattle.numbers.specs.Scales.{converted}
use Rattle.refusals.specs.Refusals.{number_of}
use Rattle.reading.specs.declared.reading.Reading.{Reading}
use Rattle.table.specs.Words.{bit}
use Rattle.table.specs.Modes.{is_manual}
use Rattle.control.specs.Counts.{output_counts}
use Rattle.carried.specs.declared.record.Carried.{Carried}
use Rattle.carried.specs.Layout.{carried_at}
use Rattle.carried.specs.Ranged.{Ranged}
use Rattle.engine.specs.Steps.{step_of}
use Rattle.engine.specs.Premises.{Usable}
use Rattle.plain.specs.Plain.{Plain, begun, plain_after}
use Rattle.plain.specs.Premises.{Tied, Good}
use Rattle.desk.specs.Desk.{Desk, reading_at, step_at, sample_answer}
use Rattle.claims.specs.Words.{word_of, word_left, input_full, output_full}

-- M7: a count v of full scale F converted to full scale G, F and G any two above 0
pub record Conversion (F G : ℕ) : Type 0 where
  -- up to F it is within half a count of v × G / F, and a half goes up
  pub near : (v : ℕ) → v ≤ F → (2 * (F * converted F G v) ≤ 2 * (v * G) + F) × (2 * (v * G) < 2 * (F * converted F G v) + F)
  pub half : (v k : ℕ) → v ≤ F → 2 * (v * G) ≡ (2 * k + 1) * F → converted F G v ≡ k + 1
  -- 0 gives 0, F and all above it give G, and nothing gives more
  pub zero : converted F G 0 ≡ 0
  pub full : (v : ℕ) → F ≤ v → converted F G v ≡ G
  pub high : (v : ℕ) → converted F G v ≤ G
  -- a higher count never gives less
  pub order : (v w : ℕ) → v ≤ w → converted F G v ≤ converted F G w

-- M3: a full scale by its two bits. M7: a count of a loop's input in counts of its output
abbrev pub full_by : Bool → Bool → ℕ
full_by sixteen fifteen = cond sixteen 65535 (cond fifteen 32767 4095)

abbrev pub output_count : Desk → ℕ → ℕ → ℕ
output_count d k v = output_counts (reading_at d k).settings.mode2 v

-- M3, M7: after an accepted sample setpoint and PV are at most F, and the PV is recorded as it stands; output and error are at most G, and so is, outside
-- Manual, the bias word in position form
pub record WithinScales (d : Desk) (k raw : ℕ) : Type 0 where
  pub setpoint : word_left d k raw 2 ≤ input_full d k
  pub pv : word_left d k raw 3 ≤ input_full d k
  pub last : (step_at d k raw).carried.past.last ≡ word_left d k raw 3
  pub output : word_left d k raw 5 ≤ output_full d k
  pub error : nat_abs (step_at d k raw).carried.past.error ≤ output_full d k
  pub bias : is_manual (reading_at d k).mode ≡ false → (reading_at d k).settings.mode1.velocity ≡ false → word_left d k raw 4 ≤ output_full d k

-- a record with other last PVs
abbrev pub recalling : Carried → ℕ → ℕ → Carried
recalling c last prior = record { state = c.state; drive = c.drive; past = record { last = last; prior = prior; error = c.past.error }; sampled = c.sampled }

pub record Formats : Type 0 where
  -- M7: for any full scales; those of a loop meet no half
  pub conversion : (F G : ℕ) → 0 < F → 0 < G → Conversion F G
  pub none : (d : Desk) (k v j : ℕ) → 2 * (v * output_full d k) ≡ (2 * j + 1) * input_full d k → ⊥
  -- M3: F by bits 9 and 1 of word 1; G by bits 13 and 12 with bit 10 on, else F. M7: with bit 10 off a number is its own conversion
  pub input : (d : Desk) (k : ℕ) → input_full d k ≡ full_by (bit 9 (word_of d k 1)) (bit 1 (word_of d k 1))
  pub own : (d : Desk) (k : ℕ) → bit 10 (word_of d k 1) ≡ true
      → (output_full d k ≡ full_by (bit 13 (word_of d k 1)) (bit 12 (word_of d k 1))) × ((v : ℕ) → output_count d k v ≡ converted (input_full d k) (output_full d k) v)
  pub one : (d : Desk) (k : ℕ) → bit 10 (word_of d k 1) ≡ false → (output_full d k ≡ input_full d k) × ((v : ℕ) → output_count d k v ≡ v)
  pub within : (d : Desk) (k raw : ℕ) → number_of (sample_answer d k raw) ≡ 0 → WithinScales d k raw
  -- A5: the size of the error, by words 2 and 3 as they are left: the deadband compares them as they stand, the error is of both converted, squared over G
  pub error : (d : Desk) (k raw : ℕ) → number_of (sample_answer d k raw) ≡ 0 → let e = nat_abs (step_at d k raw).carried.past.error in
      let way = apart (output_count d k (word_left d k raw 2)) (output_count d k (word_left d k raw 3)) in
      let quiet = bit 8 (word_of d k 0) && ltb (apart (word_left d k raw 2) (word_left d k raw 3)) (word_of d k 19) in
      (quiet ≡ true → e ≡ 0) × (quiet ≡ false → bit 7 (word_of d k 0) ≡ false → e ≡ way)
      × (quiet ≡ false → bit 7 (word_of d k 0) ≡ true → (e * output_full d k ≤ way * way) × (way * way < (e + 1) * output_full d k))
  -- A6: last PVs that are converted to the same counts move bias and output alike
  pub past : (r : Reading) (c : Carried) (p last prior : ℕ) → let to : ℕ → ℕ = output_counts r.settings.mode2 in
      to last ≡ to c.past.last → to prior ≡ to c.past.prior → (step_of r (recalling c last prior) p).carried.drive ≡ (step_of r c p).carried.drive
  -- B4, B5, B7: the status compares setpoint, PV, last PV and output as they stand
  pub deviation : (d : Desk) (k raw : ℕ) → number_of (sample_answer d k raw) ≡ 0 → is_manual (reading_at d k).mode ≡ false → bit 13 (word_of d k 0) ≡ true
      → word_of d k 15 < apart (word_left d k raw 2) (word_left d k raw 3) → bit 7 (word_left d k raw 6) ≡ true
  pub change : (d : Desk) (k raw : ℕ) → number_of (sample_answer d k raw) ≡ 0 → let c = carried_at d.numbers k in
      c.sampled ≡ true → bit 14 (word_of d k 0) ≡ true → bit 9 (word_left d k raw 6) ≡ ltb (word_of d k 17) (apart (word_left d k raw 3) c.past.last)
  pub limit : (d : Desk) (k raw : ℕ) → number_of (sample_answer d k raw) ≡ 0 → is_manual (reading_at d k).mode ≡ false → word_left d k raw 5 ≡ word_of d k 25
      → bit 11 (word_left d k raw 6) ≡ not (eqb (word_left d k raw 3) (word_left d k raw 2))
  -- E2, E6 for any two full scales that are words above 0, which `Usable` has of the reading: a sample's output word is good, the record stays in range, and
  -- record and plain loop, tied before it, are tied after it, as they are at the start; so it holds sample by sample, however the scales change
  pub begins : (c : Carried) → Tied c (begun c)
  pub accurate : (r : Reading) (c : Carried) (p : ℕ) (q : Plain) → Usable r p → Ranged c → Tied c q
      → Good (step_of r c p).written.output r.settings.limits.low r.settings.limits.high (plain_after q r p)
      × Tied (step_of r c p).carried (plain_after q r p) × Ranged (step_of r c p).carried
