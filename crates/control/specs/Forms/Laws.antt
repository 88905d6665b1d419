-- The laws of the two forms: the output is within its limits, and the bias within its range.
use Rattle.std.specs.Prelude.{◌≡◌, Bool, true, false, not, ◌&&◌, ◌-◌, ◌^◌, ◌≤◌, T, ℤ, nat_abs, ◌+ℤ◌, ◌-ℤ◌, ◌≤ℤ◌}
use Rattle.std.proofs.Common.{arith}
use Rattle.std.specs.Int.Signed.{lt_z, lt_z_no}
use Rattle.numbers.specs.Whole.{linear, add, sub, abs, abs_in, abs_sub}
use Rattle.numbers.specs.Limits.{clampℤ}
use Rattle.numbers.specs.Limits.Laws.{by_test, clamp_kept, orderℤ, clamp_low, clamp_high, clamp_abs}
use Rattle.control.specs.declared.terms.Terms.{Terms}
use Rattle.control.specs.declared.forms.Drive.{Drive}
use Rattle.control.specs.Forms.{outside_of, position_of, velocity_of}
use Rattle.control.specs.Premises.{Still}

-- within limits
pub record Inside (lo hi x : ℤ) : Type 0 where
  pub low : lo ≤ℤ x
  pub high : x ≤ℤ hi

clamp_inside : {low high : ℤ} → low ≤ℤ high → (x : ℤ) → Inside low high (clampℤ x low high)
clamp_inside l x = record { low = clamp_low l x; high = clamp_high l x }

-- the output of either form is within its limits
pub position_inside : (freeze : Bool) (drive : Drive) (t : Terms) {low high : ℤ} → low ≤ℤ high
    → Inside low high (position_of freeze drive t low high).output
unfolding position_of outside_of
position_inside freeze drive t {low} {high} l =
    let m = (t.p -ℤ t.d) +ℤ (drive.bias +ℤ t.i) in
    let Within : Drive → Type 0 = λ r. Inside low high r.output in
    by_test Within (not (lt_z m low) && not (lt_z high m)) (λ _. clamp_inside l m) (λ _. clamp_inside l m)

pub velocity_inside : (drive : Drive) (t : Terms) {low high : ℤ} → low ≤ℤ high → Inside low high (velocity_of drive t low high).output
unfolding velocity_of
velocity_inside drive t l = clamp_inside l (((drive.output +ℤ t.p) +ℤ t.i) -ℤ t.d)

-- and terms that move nothing leave it where it is, if that is inside them: in position form at the bias, in velocity form at the carried output
pub position_still : (freeze : Bool) (drive : Drive) {t : Terms} {low high : ℤ} → Still t → Inside low high drive.bias
    → (position_of freeze drive t low high).output ≡ drive.bias
unfolding position_of outside_of
position_still freeze drive {t} {low} {high} still inside =
    let base = t.p -ℤ t.d in
    let trial = drive.bias +ℤ t.i in
    let m = base +ℤ trial in
    let same : m ≡ drive.bias
    = omega (arith, linear, sub t.p t.d, add drive.bias t.i, add base trial, abs t.p, abs t.i, abs t.d, still.p, still.i, still.d) in
    let kept : clampℤ m low high ≡ drive.bias = rw same (clamp_kept orderℤ inside.low inside.high) in
    by_test (λ (r : Drive). r.output ≡ drive.bias) (not (lt_z m low) && not (lt_z high m)) (λ _. kept) (λ _. kept)

pub velocity_still : (drive : Drive) {t : Terms} {low high : ℤ} → Still t → Inside low high drive.output
    → (velocity_of drive t low high).output ≡ drive.output
unfolding velocity_of
velocity_still drive {t} {low} {high} still inside =
    let one = drive.output +ℤ t.p in
    let two = one +ℤ t.i in
    let same : two -ℤ t.d ≡ drive.output
    = omega (arith, linear, add drive.output t.p, add one t.i, sub two t.d, abs t.p, abs t.i, abs t.d, still.p, still.i, still.d) in
    rw same (clamp_kept orderℤ inside.low inside.high)

both : (a b : Bool) → T (not a && not b) → T (not a) × T (not b)
both false false h = (tt, tt)
both false true h = absurd h
both true b h = absurd h

-- The bias stays within its range: inside the limits it is m − (P − D), outside it is a limit − (P − D) or stays.
pub position_bias : (freeze : Bool) (drive : Drive) (t : Terms) {low high : ℤ} → nat_abs drive.bias ≤ 2 ^ 52
    → nat_abs (t.p -ℤ t.d) ≤ 2 ^ 52 - 2 ^ 34 → nat_abs low ≤ 2 ^ 34 → nat_abs high ≤ 2 ^ 34 → low ≤ℤ high
    → nat_abs (position_of freeze drive t low high).bias ≤ 2 ^ 52
unfolding position_of outside_of
position_bias freeze drive t {low} {high} h k lowest highest l =
    let base = t.p -ℤ t.d in
    let trial = drive.bias +ℤ t.i in
    let m = base +ℤ trial in
    let output = clampℤ m low high in
    let Within : Drive → Type 0 = λ r. nat_abs r.bias ≤ 2 ^ 52 in
    by_test Within (not (lt_z m low) && not (lt_z high m))
    (λ test. let (a, b) = both (lt_z m low) (lt_z high m) test in
    let above : low ≤ℤ m = lt_z_no a in
    let below : m ≤ℤ high = lt_z_no b in
    abs_in trial (omega (arith, linear, add base trial, abs base, abs low, abs high)))
    (λ _. by_test (λ (b : ℤ). nat_abs b ≤ 2 ^ 52) freeze (λ _. h)
    (λ _. omega (arith, abs_sub output base, clamp_abs m low high lowest highest)))
