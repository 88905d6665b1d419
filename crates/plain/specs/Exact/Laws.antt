-- One sample in position form stands near the exact one: where the bias is within n units of the exact bias, the output is within n + 2 units
-- of the exact output, and the next bias within n + 1 of the next exact bias.
use Rattle.std.specs.Prelude.{ℕ, ◌+◌, ◌*◌, ◌≤◌, ◌≡◌, refl, Bool, true, false, ◌&&◌, ◌⊎◌, T, ℤ, pos, neg_ℤ, ◌+ℤ◌, ◌-ℤ◌, ◌≤ℤ◌}
use Rattle.std.proofs.Common.{arith, inl, inr, lit<}
use Rattle.std.proofs.Math.Bool.{not}
use Rattle.std.specs.Int.Signed.{lt_z}
use Rattle.numbers.specs.Whole.{linear, add, sub}
use Rattle.numbers.specs.Limits.{clampℤ}
use Rattle.numbers.specs.Limits.Laws.{by_test, Clamped, clamped, clamped_map, clamp_kept, orderℤ}
use Rattle.numbers.specs.Rounding.{units_of}
use Rattle.numbers.specs.Fractions.{Fraction, over, whole, ◌+ᶠ◌, ◌-ᶠ◌, negᶠ, ◌≤ᶠ◌, ◌≈ᶠ◌, Near, round_to}
use Rattle.numbers.proofs.Laws.Fractions.{at_over, at_add, at_in, At, ≤ᶠ_refl, ≤ᶠ_trans, +ᶠ_mono, negᶠ_turn, orderᶠ, over_mono, over_add, over_neg, over_whole, near_weaken, near_same, near_add, near_sub, clamp_near, shift_near, round_near}
use Rattle.control.specs.declared.terms.Terms.{Terms}
use Rattle.control.specs.declared.forms.Drive.{Drive}
use Rattle.control.specs.Terms.{Exact}
use Rattle.control.specs.Forms.{position_of, outside_of}
use Rattle.plain.specs.Exact.{in_counts, exact_sum, exact_output, exact_bias}

-- the terms in the nearest unit, as A7 has them
abbrev pub rounded : Exact → Terms
rounded t = record { p = round_to 262144 t.p; i = round_to 262144 t.i; d = round_to 262144 t.d }

-- ---- A8 in whole units

module _ (drive : Drive) (t : Terms) (low high : ℤ) where
  -- m
  abbrev sum : ℤ
  sum = (t.p -ℤ t.d) +ℤ (drive.bias +ℤ t.i)

  -- the output is m brought inside its limits
  output_clamped : (position_of false drive t low high).output ≡ clampℤ sum low high
  unfolding position_of outside_of
  output_clamped = by_test (λ (d : Drive). d.output ≡ clampℤ sum low high) (not (lt_z sum low) && not (lt_z high sum)) (λ _. refl) (λ _. refl)

  both : (a b : Bool) → T (not a && not b) → T (not a) × T (not b)
  both false false h = (tt, tt)
  both false true h = absurd h
  both true b h = absurd h

  -- the next bias is the output less P − D, inside the limits too
  bias_back : (position_of false drive t low high).bias ≡ clampℤ sum low high -ℤ (t.p -ℤ t.d)
  unfolding position_of outside_of
  bias_back =
      let base = t.p -ℤ t.d in
      let trial = drive.bias +ℤ t.i in
      by_test (λ (d : Drive). d.bias ≡ clampℤ sum low high -ℤ base) (not (lt_z sum low) && not (lt_z high sum))
      (λ h.
      let i = both (lt_z sum low) (lt_z high sum) h in
      let k : clampℤ sum low high ≡ sum = clamp_kept orderℤ (orderℤ.no sum low i.0) (orderℤ.no high sum i.1) in
      rw k (omega (arith, linear, add base trial, sub sum base)))
      (λ _. refl)

-- ---- fractions of one value

same : (x : Fraction) → x ≈ᶠ x
same x = record { most = ≤ᶠ_refl x; least = ≤ᶠ_refl x }

then : {x y z : Fraction} → x ≈ᶠ y → y ≈ᶠ z → x ≈ᶠ z
then a b = record { most = ≤ᶠ_trans a.most b.most; least = ≤ᶠ_trans b.least a.least }

sum_same : {x y z w : Fraction} → x ≈ᶠ y → z ≈ᶠ w → x +ᶠ z ≈ᶠ y +ᶠ w
sum_same a b = record { most = +ᶠ_mono a.most b.most; least = +ᶠ_mono a.least b.least }

neg_same : {x y : Fraction} → x ≈ᶠ y → negᶠ x ≈ᶠ negᶠ y
neg_same a = record { most = negᶠ_turn a.least; least = negᶠ_turn a.most }

units_sub : (a b : ℤ) → in_counts (a -ℤ b) ≈ᶠ in_counts a -ᶠ in_counts b
units_sub a b = then (over_add a (neg_ℤ b) (lit< tt)) (sum_same (same (in_counts a)) (over_neg b (lit< tt)))

-- limits and a number of the same values clamp to the same
clamped_same : {lo lo' hi hi' x x' c : Fraction} → lo ≈ᶠ lo' → hi ≈ᶠ hi' → x ≈ᶠ x' → Clamped ◌≤ᶠ◌ lo hi x c → Clamped ◌≤ᶠ◌ lo' hi' x' c
clamped_same {lo} {lo'} {hi} {hi'} {x} {x'} {c} l h e p =
    record { low = ≤ᶠ_trans l.least p.low; high = ≤ᶠ_trans p.high h.most; down = down p.down; up = up p.up }
  where
    down : (c ≤ᶠ lo) ⊎ (c ≤ᶠ x) → (c ≤ᶠ lo') ⊎ (c ≤ᶠ x')
    down (inl a) = inl (≤ᶠ_trans a l.most)
    down (inr a) = inr (≤ᶠ_trans a e.most)

    up : (hi ≤ᶠ c) ⊎ (x ≤ᶠ c) → (hi' ≤ᶠ c) ⊎ (x' ≤ᶠ c)
    up (inl a) = inl (≤ᶠ_trans h.least a)
    up (inr a) = inr (≤ᶠ_trans e.least a)

-- the engine's output in units is its sum in units, brought to the limits in counts
engine_clamped : {lo hi : ℕ} → lo ≤ hi → (drive : Drive) (t : Terms) → let low = pos (units_of lo) in let high = pos (units_of hi) in
    Clamped ◌≤ᶠ◌ (whole (pos lo)) (whole (pos hi)) ((in_counts t.p -ᶠ in_counts t.d) +ᶠ (in_counts drive.bias +ᶠ in_counts t.i))
    (in_counts (clampℤ (sum drive t low high) low high))
engine_clamped {lo} {hi} l drive t =
    let low = pos (units_of lo) in
    let high = pos (units_of hi) in
    let m = sum drive t low high in
    let value = then (over_add (t.p -ℤ t.d) (drive.bias +ℤ t.i) (lit< tt)) (sum_same (units_sub t.p t.d) (over_add drive.bias t.i (lit< tt))) in
    clamped_same (over_whole lo (lit< tt)) (over_whole hi (lit< tt)) value
    (clamped_map ◌≤ℤ◌ ◌≤ᶠ◌ in_counts (λ x y h. over_mono h (lit< tt)) (clamped orderℤ {lo = low} {hi = high} (omega (arith, linear)) m))

-- ---- one sample

-- n units and half a unit, over 524,288
at_units : (n : ℕ) → At 524288 (in_counts (pos n))
at_units n = at_over (pos n) (lit< tt) 2 refl

at_half : At 524288 (over (pos 1) (2 * 262144))
at_half = at_over (pos 1) (lit< tt) 1 refl

pub position_near : {lo hi : ℕ} → lo ≤ hi → (n : ℕ) (drive : Drive) (B : Fraction) (t : Exact) → Near (in_counts (pos n)) (in_counts drive.bias) B
    → let after = position_of false drive (rounded t) (pos (units_of lo)) (pos (units_of hi)) in
    let exact = exact_output lo hi B t in
    Near (in_counts (pos (n + 2))) (in_counts after.output) exact × Near (in_counts (pos (n + 1))) (in_counts after.bias) (exact_bias exact t)
unfolding exact_sum exact_output exact_bias at_add at_over at_units at_half
position_near {lo} {hi} l n drive B t h =
    let low = pos (units_of lo) in
    let high = pos (units_of hi) in
    let r = rounded t in
    let u = at_units n in
    let p = round_near t.p {u = 262144} (lit< tt) in
    let i = round_near t.i {u = 262144} (lit< tt) in
    let d = round_near t.d {u = 262144} (lit< tt) in
    let base = near_sub p d in
    let trial = near_add h i in
    let limits = over_mono {a = pos lo} {b = pos hi} (omega (arith, linear)) {u = 1} (lit< tt) in
    let k = engine_clamped l drive r in
    let K = clamped orderᶠ limits (exact_sum B t) in
    let out = near_weaken (at_in (lit< tt) (at_add (at_add at_half at_half) (at_add u at_half)) (at_units (n + 2)) (omega arith)) (clamp_near k K (near_add base trial)) in
    let one = at_in (lit< tt) (at_add at_half at_half) (at_units (n + 1)) (omega arith) in
    let more = at_in (lit< tt) (at_add u at_half) (at_units (n + 1)) (omega arith) in
    let next = shift_near k K (near_weaken one base) (near_weaken more trial) in
    let m = clampℤ (sum drive r low high) low high in
    let value = then (units_sub m (r.p -ℤ r.d)) (sum_same (same (in_counts m)) (neg_same (units_sub r.p r.d))) in
    (rw (output_clamped drive r low high) out, rw (bias_back drive r low high) (near_same value next))
