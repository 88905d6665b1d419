-- The invariant that ties a loop's carried record to its plain loop, and that an accepted sample keeps it and is accurate.
use Prim.Native.Nat.{ℕ, zero, suc, ◌+◌, ◌≤◌, ◌<◌}
use native.Mathlib.Omega.{arith}
use Rattle.std.specs.Prelude.{◌≡◌, Bool, cond, not, ◌||◌, ℤ, pos, nat_abs, ◌≤ℤ◌}
use Rattle.std.proofs.Math.Path.{refl, subst}
use Rattle.std.proofs.Common.{ap, lit<}
use Rattle.std.proofs.Math.Bool.{true, false, or-true}
use Rattle.numbers.specs.Whole.{linear, abs}
use Rattle.numbers.specs.Rounding.{half_up, units_of}
use Rattle.numbers.specs.Fractions.{Fraction, over, whole, ◌≤ᶠ◌, Near}
use Rattle.numbers.proofs.Laws.Fractions.{at_over, at_add, at_in, near_in, near_trans, count_near}
use Rattle.reading.specs.declared.reading.Reading.{Reading}
use Rattle.table.specs.Modes.{is_manual}
use Rattle.control.specs.declared.forms.Drive.{Drive}
use Rattle.control.specs.Counts.{output_counts}
use Rattle.control.specs.Terms.{exact_terms, terms_of}
use Rattle.control.specs.Forms.{position_of}
use Rattle.carried.specs.declared.record.State.{State}
use Rattle.carried.specs.declared.record.Past.{Past}
use Rattle.carried.specs.declared.record.Carried.{Carried}
use Rattle.carried.specs.Layout.{marked, marked_record}
use Rattle.carried.specs.Ranged.{Ranged}
use Rattle.engine.specs.declared.sensing.Sensed.{Sensed}
use Rattle.engine.specs.Sensing.{sensed_of}
use Rattle.engine.specs.Driving.{held_of, start_of, low_units, high_units, kept_in, past_of, position_inputs, terms_in, moved_in, moved_of, driven_of}
use Rattle.engine.proofs.Laws.Driving.{moved_inside}
use Rattle.engine.specs.Writing.{output_word, next_of, written_of}
use Rattle.engine.specs.Steps.{step_of}
use Rattle.engine.proofs.Laws.Steps.{drivable}
use Rattle.engine.specs.Premises.{Usable}
use Rattle.engine.proofs.Limits.{word_inside}
use Rattle.plain.specs.Exact.{in_counts, exact_output, exact_bias}
use Rattle.plain.specs.Exact.Laws.{position_near}
use Rattle.plain.specs.Plain.{Plain, begun, count_after, inputs_of, exact_moved, plain_after, plain_marked, tolerance}
use Rattle.plain.specs.Premises.{Tied, Good}

-- it holds at the start, of any record
pub start_tied : (c : Carried) → Tied c (begun c)
unfolding begun
start_tied c = record {
  state = refl;
  sampled = λ h. absurd (omega arith);
  last = λ h. absurd (omega arith);
  bias = λ h. absurd (omega arith);
}

-- and it stays where both are marked
pub mark_tied : {c : Carried} {q : Plain} → Tied c q → Tied (marked_record c) (plain_marked q)
unfolding plain_marked
mark_tied {c} {q} t = record { state = ap marked t.state; sampled = t.sampled; last = t.last; bias = t.bias }

-- the entry's bias is exact
entry_near : (w : ℕ) → Near (in_counts (pos 0)) (in_counts (pos (units_of w))) (whole (pos w))
unfolding at_over at_add
entry_near w =
    let zero = at_over (pos 0) {d = 262144} {s = 262144} (lit< tt) 1 refl in
    let counts = at_over (pos (units_of w)) {d = 262144} {s = 262144} (lit< tt) 1 refl in
    near_in (lit< tt) zero counts (at_over (pos w) {d = 1} {s = 262144} (lit< tt) 262144 refl) (omega arith)

-- the word is within half a count of the output
word_near : (z : ℤ) → pos 0 ≤ℤ z → Near (over (pos 1) 2) (whole (pos (half_up (nat_abs z) 262144))) (in_counts z)
word_near z h =
    let e : pos (nat_abs z) ≡ z = omega (arith, linear, abs z) in
    subst (λ (y : ℤ). Near (over (pos 1) 2) (whole (pos (half_up (nat_abs z) 262144))) (in_counts y)) e (count_near (nat_abs z) {d = 262144} (lit< tt))

-- ---- one accepted sample

module _ {r : Reading} {c : Carried} {p : ℕ} (u : Usable r p) (g : Ranged c) (q : Plain) where
  abbrev x : Sensed
  x = sensed_of r c.state p

  abbrev start : Drive
  start = start_of x.entry (held_of r.settings) c.drive

  abbrev past : Past
  past = past_of r.settings.mode2 (not c.sampled || x.entry) c.past x.converted x.error

  -- the drive after the sample, as `manual` says the mode is
  abbrev drive : Bool → Drive
  drive manual = moved_of r.settings manual start past x.converted x.error

  -- what is claimed of it, with q' the plain loop after it
  abbrev Both : Bool → Plain → Type 0
  Both manual q' =
      Good (output_word manual (held_of r.settings) (drive manual).output) r.settings.limits.low r.settings.limits.high q'
      × Tied (next_of c x (drive manual)) q'

  -- nothing but the limits is claimed where n is 0
  quiet : (manual : Bool) (B : Fraction) (l : ℕ) → Both manual (exact_moved 0 q r x B l)
  unfolding exact_moved next_of
  quiet manual B l = (
    record { low = (word_inside manual (drivable u g)).low; high = (word_inside manual (drivable u g)).high; near = λ h. absurd (omega arith) },
    record {
      state = refl;
      sampled = λ h. absurd (omega arith);
      last = λ h. absurd (omega arith);
      bias = λ h. absurd (omega arith);
    },
  )

  -- the n + 1-st sample, on a bias within n units of B
  module _ (velocity : r.settings.mode1.velocity ≡ false) (freeze : r.settings.mode1.freeze ≡ false) where
    moved_is : drive false ≡ position_of false start (terms_in r.settings (position_inputs past x.converted x.error)) (low_units r.settings) (high_units r.settings)
    unfolding moved_of moved_in
    moved_is = rw (velocity, freeze)

    loud : (n : ℕ) (B : Fraction) → Near (in_counts (pos n)) (in_counts start.bias) B → Both false (exact_moved (suc n) q r x B past.last)
    unfolding exact_moved next_of terms_in terms_of position_inputs output_word tolerance
    loud n B h =
        let s = r.settings in
        let t = exact_terms s.tuning s.mode2.minutes s.mode1.reverse (inputs_of past.last x.converted x.error) in
        let exact = exact_output s.limits.low s.limits.high B t in
        let near = position_near u.limits n start B t h in
        let out : Near (in_counts (pos (n + 2))) (in_counts (drive false).output) exact = rw moved_is near.0 in
        let next : Near (in_counts (pos (n + 1))) (in_counts (drive false).bias) (exact_bias exact t) = rw moved_is near.1 in
        let word = word_near (drive false).output (omega (arith, linear, (moved_inside (drivable u g)).low)) in
        let two : n + 2 ≡ suc n + 1 = omega arith in
        let one : n + 1 ≡ suc n = omega arith in (
          record { low = (word_inside false (drivable u g)).low; high = (word_inside false (drivable u g)).high; near = λ _. rw two at (near_trans word out) },
          record { state = refl; sampled = λ _. refl; last = λ _. refl; bias = λ _. rw one at next },
        )

  -- by whether the sample is an entry, and the plain loop's count
  abbrev after : Bool → Bool → ℕ → Plain
  after idle entry n =
      exact_moved (count_after idle entry n) q r x (cond entry (whole (pos (held_of r.settings))) q.B)
      (cond entry x.converted (output_counts r.settings.mode2 q.last))

  module _ (t : Tied c q) (velocity : r.settings.mode1.velocity ≡ false) (freeze : r.settings.mode1.freeze ≡ false) where
    entered : x.entry ≡ true → Both false (after false true q.n)
    unfolding count_after start_of past_of
    entered e =
        let last : past.last ≡ x.converted = rw (e, or-true (not c.sampled)) in
        let near : Near (in_counts (pos 0)) (in_counts start.bias) (whole (pos (held_of r.settings))) = rw e (entry_near (held_of r.settings)) in
        subst (λ (l : ℕ). Both false (exact_moved 1 q r x (whole (pos (held_of r.settings))) l)) last (loud velocity freeze 0 _ near)

    went_on : x.entry ≡ false → (n : ℕ) → q.n ≡ n → Both false (after false false n)
    unfolding count_after start_of past_of kept_in
    went_on e zero k = quiet false q.B _
    went_on e (suc n) k =
        let above : 0 < q.n = omega arith in
        let last : past.last ≡ output_counts r.settings.mode2 q.last = rw (e, t.sampled above) (ap (output_counts r.settings.mode2) (t.last above)) in
        let near : Near (in_counts (pos (suc n))) (in_counts start.bias) q.B = rw e (rw k at (t.bias above)) in
        subst (λ (l : ℕ). Both false (exact_moved (suc (suc n)) q r x q.B l)) last (loud velocity freeze (suc n) q.B near)

    counted : (entry : Bool) → x.entry ≡ entry → Both false (after false entry q.n)
    counted true e = entered e
    counted false e = went_on e q.n refl

  -- by the mode, freeze and the form
  by_kind : Tied c q → (manual freeze velocity : Bool) → is_manual r.mode ≡ manual → r.settings.mode1.freeze ≡ freeze
      → r.settings.mode1.velocity ≡ velocity → Both manual (after (manual || freeze || velocity) x.entry q.n)
  unfolding count_after
  by_kind t true freeze velocity m f v = quiet true _ _
  by_kind t false true velocity m f v = quiet false _ _
  by_kind t false false true m f v = quiet false _ _
  by_kind t false false false m f v = counted t v f x.entry refl

-- a plain loop with a given state
abbrev in_state : State → Plain → Plain
in_state state q = record { state = state; last = q.last; B = q.B; n = q.n; output = q.output }

-- an accepted sample is accurate, and leaves the two tied
pub sample_good : {r : Reading} {c : Carried} {p : ℕ} → Usable r p → Ranged c → (q : Plain) → Tied c q
    → Good (step_of r c p).written.output r.settings.limits.low r.settings.limits.high (plain_after q r p)
    × Tied (step_of r c p).carried (plain_after q r p)
unfolding step_of written_of driven_of plain_after
sample_good {r} {c} {p} u g q t =
    let s = r.settings in
    let own = in_state c.state q in
    let tied : Tied c own = record { state = refl; sampled = t.sampled; last = t.last; bias = t.bias } in
    subst (λ (state : State). let q' = plain_after (in_state state q) r p in
    Good (step_of r c p).written.output s.limits.low s.limits.high q' × Tied (step_of r c p).carried q')
    t.state (by_kind u g own tied (is_manual r.mode) s.mode1.freeze s.mode1.velocity refl refl refl)

-- ---- the tolerance is within one count for n up to 131,071

pub within_one : (n : ℕ) → n ≤ 131071 → tolerance n ≤ᶠ whole (pos 1)
unfolding tolerance at_add at_over
within_one n h =
    at_in {s = 262144} (lit< tt) (at_add (at_over (pos 1) {d = 2} (lit< tt) 131072 refl) (at_over (pos (n + 1)) {d = 262144} (lit< tt) 1 refl))
    (at_over (pos 1) {d = 1} (lit< tt) 262144 refl) (omega arith)
