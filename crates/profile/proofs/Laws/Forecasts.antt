-- The laws of the forecast: one segment taken off it, as the code does; and what it means, `one_less`: a sample takes one off.
use Prim.Native.Nat.{ℕ, zero, suc, ◌+◌, ◌-◌, ◌*◌, ◌/◌, ◌%◌, ◌≤◌, ◌<◌}
use native.Mathlib.Omega.{arith}
use Rattle.std.proofs.Common.{not-suc-le-zero, mul-pos, ◌∙◌, eqb→eq}
use Rattle.std.proofs.Math.Nat.{add-mul-div_right, div-eq_of_lt, div-le_self}
use Rattle.std.proofs.Math.Numerals.{sub-one}
use Rattle.std.specs.Prelude.{◌≡◌, Bool, true, false, cond, not, ◌||◌, List, eqb, leb, ltb}
use Rattle.std.proofs.Math.Path.{refl, sym, ap}
use Rattle.std.proofs.Math.Dec.{T, leb→le, nleb→lt, ltb→lt, nltb→le}
use borrow.Author.Tests.{eqb-true, eq-eqb, ne_eqb, lt-ltb, le-ltb}
use Rattle.numbers.specs.Distances.{apart}
use Rattle.numbers.specs.Limits.Laws.{by_test}
use Rattle.reading.specs.declared.program.Pair.{Pair}
use Rattle.reading.specs.Programs.{pair_at, pair_number}
use Rattle.profile.specs.declared.state.Profile.{Profile}
use Rattle.profile.specs.declared.state.Moved.{Moved}
use Rattle.profile.specs.Moves.{completed_of, handed_over, toward, parts_of, ramped_to, ramped_by, soaked_by, moved_by}
use Rattle.profile.specs.Forecasts.{count_of, ramps_from, soaks_from, forecast_of}

-- ---- the count of a way

module _ (way step : ℕ) where
  -- one step covers the way
  pub count_last : way ≤ step → 0 < step → count_of way step ≡ 1
  unfolding count_of
  count_last h p = ap (λ (n : ℕ). 1 + n) (div-eq_of_lt (omega arith))

  -- it does not: a step off the way is one off the count
  pub count_more : step < way → 0 < step → count_of way step ≡ suc (count_of (way - step) step)
  unfolding count_of
  count_more h p =
      let e : way - 1 ≡ (way - step - 1) + 1 * step = omega arith in
      let d : (way - 1) / step ≡ (way - step - 1) / step + 1 = ap (λ (n : ℕ). n / step) e ∙ add-mul-div_right (way - step - 1) 1 p in
      omega arith

  -- it is no more than a sample for each part of the way
  pub count_high : {n : ℕ} → n ≡ count_of way step → n ≤ way + 1
  unfolding count_of
  count_high e = omega (arith, div-le_self (way - 1) step)

-- ---- one segment taken off, its pair as the code reads it

-- none is left
pub no_ramps : (left : ℕ) (table : List ℕ) (period at : ℕ) → left ≡ 0 → ramps_from left table period at ≡ 0
unfolding ramps_from
no_ramps left table period at e = rw e

pub no_soaks : (left : ℕ) (table : List ℕ) (period at time : ℕ) → left ≡ 0 → soaks_from left table period at time ≡ 0
unfolding ramps_from
no_soaks left table period at time e = rw e

module _ (pair : Pair) (table : List ℕ) where
  -- the definition's pair, of segment 16 − n, is the code's
  own : (n : ℕ) → pair ≡ pair_at table ((16 - suc n) / 2) → pair_at table (pair_number (16 - n)) ≡ pair
  own n read = let e : (16 - n - 1) / 2 ≡ (16 - suc n) / 2 = omega arith in ap (pair_at table) e ∙ sym read

  -- G7, G8: a ramp whose slope is 0, any other ramp, and a soak
  pub ramp_stops : (left period at : ℕ) → 1 ≤ left → pair ≡ pair_at table ((16 - left) / 2) → pair.slope ≡ 0 → ramps_from left table period at ≡ 1
  unfolding ramps_from
  ramp_stops zero period at some read e = absurd (not-suc-le-zero some)
  ramp_stops (suc n) period at some read e = simp (own n read, eq-eqb _ _ e)

  pub ramp_then : (left period at : ℕ) → 1 ≤ left → pair ≡ pair_at table ((16 - left) / 2) → (pair.slope ≡ 0 → ⊥)
      → ramps_from left table period at ≡ count_of (apart at (parts_of pair.end 0)) (pair.slope * period) + soaks_from (left - 1) table period (parts_of pair.end 0) 0
  unfolding ramps_from
  ramp_then zero period at some read f = absurd (not-suc-le-zero some)
  ramp_then (suc n) period at some read f = simp (own n read, ne_eqb _ _ f, sub-one (suc n))

  pub soak_then : (left period at time : ℕ) → 1 ≤ left → pair ≡ pair_at table ((16 - left) / 2)
      → soaks_from left table period at time ≡ count_of (600 * pair.duration - time) period + ramps_from (left - 1) table period at
  unfolding ramps_from
  soak_then zero period at time some read = absurd (not-suc-le-zero some)
  soak_then (suc n) period at time some read = simp (own n read, sub-one (suc n))

-- what `ramps` and `soaks` are proved by
pub ruleset one_segment = (no_ramps, no_soaks, ramp_stops, ramp_then, soak_then, count_high)

-- ---- the forecast by the present segment

module _ (table : List ℕ) (period : ℕ) (p : Profile) (setpoint : ℕ) where
  pub none_left : p.segment ≡ 0 → forecast_of table period p setpoint ≡ 0
  unfolding forecast_of
  none_left e = simp (eq-eqb _ _ e)

  pub on_ramp : p.segment % 2 ≡ 1 → forecast_of table period p setpoint ≡ ramps_from (17 - p.segment) table period (parts_of setpoint p.fraction)
  unfolding forecast_of
  on_ramp odd = simp (ne_eqb p.segment 0 (λ z. omega arith), eq-eqb _ _ odd)

  pub on_soak : 1 ≤ p.segment → p.segment % 2 ≡ 0
      → forecast_of table period p setpoint ≡ soaks_from (17 - p.segment) table period (parts_of setpoint p.fraction) p.time
  unfolding forecast_of
  on_soak low even = simp (ne_eqb p.segment 0 (λ z. omega arith), ne_eqb (p.segment % 2) 1 (λ z. omega arith))

-- ---- a sample takes one off the count of a segment

-- a distance, by which of the two is above
apart_up : (a b : ℕ) → a < b → apart a b ≡ b - a
unfolding apart
apart_up a b h = simp (lt-ltb a b h)

apart_down : (a b : ℕ) → b ≤ a → apart a b ≡ a - b
unfolding apart
apart_down a b h = simp (le-ltb a b h)

-- a ramp's: what has not come to the end has a step less to go
module _ (at to step : ℕ) (some : 0 < step) where
  abbrev Nearer : ℕ → Type 0
  Nearer next = count_of (apart at to) step ≡ suc (cond (eqb next to) 0 (count_of (apart next to) step))

  there : apart at to ≤ step → Nearer to
  there h = rw (eq-eqb to to refl) (count_last (apart at to) step h some)

  on_the_way : {next : ℕ} → (next ≡ to → ⊥) → step < apart at to → apart next to ≡ apart at to - step → Nearer next
  on_the_way {next} f h e = rw (ne_eqb next to f, e) (count_more (apart at to) step h some)

  ramp_count : Nearer (toward at to step)
  unfolding toward
  ramp_count = by_test Nearer (ltb at to) up down
    where
      up : T (ltb at to) → Nearer (cond (leb (to - at) step) to (at + step))
      up l =
          let above = ltb→lt at to l in
          let way = apart_up at to above in
          by_test Nearer (leb (to - at) step) (λ h. there (omega (arith, leb→le (to - at) step h)))
          (λ h. let far = nleb→lt (to - at) step h in on_the_way (λ e. omega arith) (omega arith) (apart_up (at + step) to (omega arith) ∙ omega arith))

      down : T (not (ltb at to)) → Nearer (cond (leb (at - to) step) to (at - step))
      down l =
          let below = nltb→le at to l in
          let way = apart_down at to below in
          by_test Nearer (leb (at - to) step) (λ h. there (omega (arith, leb→le (at - to) step h)))
          (λ h. let far = nleb→lt (at - to) step h in on_the_way (λ e. omega arith) (omega arith) (apart_down (at - step) to (omega arith) ∙ omega arith))

-- a soak's: what has not lasted has a period less to last
soak_count : (whole time period : ℕ) → 0 < period
    → count_of (whole - time) period ≡ suc (cond (leb whole (time + period)) 0 (count_of (whole - (time + period)) period))
soak_count whole time period some =
    let way = whole - time in
    by_test (λ n. count_of way period ≡ suc n) (leb whole (time + period))
    (λ h. let over = leb→le whole (time + period) h in count_last way period (omega arith) some)
    (λ h. let on = nleb→lt whole (time + period) h in
    let e : way - period ≡ whole - (time + period) = omega arith in
    count_more way period (omega arith) some ∙ ap (λ (n : ℕ). suc (count_of n period)) e)

-- ---- a sample takes one off the forecast

-- a test for equality that fails
differ : (a b : ℕ) → T (not (eqb a b)) → a ≡ b → ⊥
differ a b t e = rw (eq-eqb a b e) at t

-- a setpoint and its fraction are the position that they were made of
parts_again : (at : ℕ) → parts_of (at / 10000) (at % 10000) ≡ at
parts_again at = omega arith

-- the forecast where a ramp has handed over, and where a soak has
module _ (table : List ℕ) (period : ℕ) (q : Profile) (setpoint : ℕ) (high : q.segment ≤ 16) where
  at_soak : q.segment % 2 ≡ 1
      → forecast_of table period (handed_over q) setpoint ≡ soaks_from (17 - q.segment - 1) table period (parts_of setpoint q.fraction) 0
  unfolding handed_over
  at_soak odd =
      let n = 17 - q.segment - 1 in
      by_test (λ (x : Profile). forecast_of table period x setpoint ≡ soaks_from n table period (parts_of setpoint q.fraction) 0) (ltb q.segment 16)
      (λ _. let e : 17 - (q.segment + 1) ≡ n = omega arith in
      on_soak table period _ setpoint (omega arith) (omega arith) ∙ ap (λ (k : ℕ). soaks_from k table period (parts_of setpoint q.fraction) 0) e)
      (λ h. absurd (omega (arith, nltb→le q.segment 16 h)))

  at_ramp : 1 ≤ q.segment → q.segment % 2 ≡ 0
      → forecast_of table period (handed_over q) setpoint ≡ ramps_from (17 - q.segment - 1) table period (parts_of setpoint q.fraction)
  unfolding handed_over
  at_ramp low even =
      let n = 17 - q.segment - 1 in
      by_test (λ (x : Profile). forecast_of table period x setpoint ≡ ramps_from n table period (parts_of setpoint q.fraction)) (ltb q.segment 16)
      (λ _. let e : 17 - (q.segment + 1) ≡ n = omega arith in
      on_ramp table period _ setpoint (omega arith) ∙ ap (λ (k : ℕ). ramps_from k table period (parts_of setpoint q.fraction)) e)
      (λ h. let last = nltb→le q.segment 16 h in none_left table period _ setpoint refl ∙ sym (no_ramps n table period _ (omega arith)))

-- a profile that runs, and the sample of its ramp or soak
module _ (table : List ℕ) (period : ℕ) (p : Profile) (setpoint : ℕ) (some : 0 < period) (low : 1 ≤ p.segment) (high : p.segment ≤ 16) where
  abbrev pair : Pair
  pair = pair_at table (pair_number p.segment)

  abbrev from : ℕ
  from = parts_of setpoint p.fraction

  abbrev end : ℕ
  end = parts_of pair.end 0

  abbrev left : ℕ
  left = 17 - p.segment

  read : pair ≡ pair_at table ((16 - left) / 2)
  read = let e : (p.segment - 1) / 2 ≡ (16 - (17 - p.segment)) / 2 = omega arith in ap (pair_at table) e

  -- the sample that led to m took one off
  abbrev Less : Moved → Type 0
  Less m = forecast_of table period p setpoint ≡ suc (forecast_of table period m.profile m.setpoint)

  -- a ramp that has come to `at`
  ramped_forecast : (at : ℕ) → p.segment % 2 ≡ 1 → (pair.slope ≡ 0 → ⊥)
      → let m = ramped_to at end p in
      forecast_of table period m.profile m.setpoint ≡ cond (eqb at end) 0 (count_of (apart at end) (pair.slope * period)) + soaks_from (left - 1) table period end 0
  unfolding ramped_to
  ramped_forecast at odd f = by (eqb at end) refl
    where
      q : Profile
      q = record { segment = p.segment; hold = p.hold; complete = p.complete; fraction = at % 10000; time = p.time }

      by : (b : Bool) → eqb at end ≡ b
          → forecast_of table period (cond b (handed_over q) q) (at / 10000) ≡ cond b 0 (count_of (apart at end) (pair.slope * period)) + soaks_from (left - 1) table period end 0
      by true e =
          let s : soaks_from (left - 1) table period (parts_of (at / 10000) (at % 10000)) 0 ≡ soaks_from (left - 1) table period end 0 =
          ap (λ (k : ℕ). soaks_from (left - 1) table period k 0) (parts_again at ∙ eqb-true at end e) in
          omega (arith, at_soak table period q (at / 10000) high odd, s)
      by false e =
          on_ramp table period q (at / 10000) odd ∙ ap (ramps_from left table period) (parts_again at)
          ∙ ramp_then pair table left period at (omega arith) read f

  ramp_less : p.segment % 2 ≡ 1 → Less (ramped_by pair period p setpoint)
  unfolding ramped_by
  ramp_less odd = by_test Less (eqb pair.slope 0) stops moves
    where
      stops : T (eqb pair.slope 0) → Less (record { profile = completed_of p; setpoint = setpoint })
      stops z =
          on_ramp table period p setpoint odd ∙ ramp_stops pair table left period from (omega arith) read (eqb→eq _ _ z)
          ∙ ap suc (sym (none_left table period (completed_of p) setpoint refl))

      moves : T (not (eqb pair.slope 0)) → Less (ramped_to (toward from end (pair.slope * period)) end p)
      moves z =
          let f : pair.slope ≡ 0 → ⊥ = differ pair.slope 0 z in
          let step = pair.slope * period in
          let now = on_ramp table period p setpoint odd ∙ ramp_then pair table left period from (omega arith) read f in
          omega (arith, now, ramp_count from end step (mul-pos (omega arith) some), ramped_forecast (toward from end step) odd f)

  soak_less : p.segment % 2 ≡ 0 → Less (record { profile = soaked_by pair period p; setpoint = setpoint })
  unfolding soaked_by
  soak_less even = omega (arith, now, soak_count (600 * pair.duration) p.time period some, then (leb (600 * pair.duration) (p.time + period)))
    where
      now : forecast_of table period p setpoint ≡ count_of (600 * pair.duration - p.time) period + ramps_from (left - 1) table period from
      now = on_soak table period p setpoint low even ∙ soak_then pair table left period from p.time (omega arith) read

      then : (b : Bool)
          → forecast_of table period (cond b (handed_over p) (record { segment = p.segment; hold = p.hold; complete = p.complete; fraction = p.fraction; time = p.time + period })) setpoint
          ≡ cond b 0 (count_of (600 * pair.duration - (p.time + period)) period) + ramps_from (left - 1) table period from
      then true = omega (arith, at_ramp table period p setpoint high low even)
      then false = on_soak table period _ setpoint low even ∙ soak_then pair table left period from (p.time + period) (omega arith) read

-- G12: a sample of a profile that runs and is not held takes one off the forecast
pub one_less : (table : List ℕ) (period : ℕ) (p : Profile) (setpoint : ℕ) → 0 < period → 1 ≤ p.segment → p.segment ≤ 16 → p.hold ≡ false
    → let m = moved_by (pair_at table (pair_number p.segment)) period p setpoint in
    forecast_of table period p setpoint ≡ suc (forecast_of table period m.profile m.setpoint)
unfolding moved_by
one_less table period p setpoint some low high held =
    let L : Moved → Type 0 = Less table period p setpoint some low high in
    by_test L (p.hold || eqb p.segment 0) (λ h. absurd (rw (held, ne_eqb p.segment 0 (λ e. omega arith)) at h)) (λ _.
    by_test L (eqb (p.segment % 2) 1) (λ h. ramp_less table period p setpoint some low high (eqb→eq (p.segment % 2) 1 h))
    (λ h. soak_less table period p setpoint some low high (omega (arith, differ (p.segment % 2) 1 h))))
