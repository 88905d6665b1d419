-- The laws of the error.
use Rattle.std.specs.Prelude.{◌≡◌, refl, Bool, ℕ, ◌+◌, ◌*◌, ◌/◌, ◌≤◌, ◌<◌, ℤ, pos, nat_abs, ◌-ℤ◌}
use Rattle.std.proofs.Common.{arith, mul-le-mul, div-mul-le_self, le_of_mul-le-mul_right}
use Rattle.std.proofs.Math.Nat.{lt-div-mul-add}
use Rattle.numbers.specs.Whole.{linear, sub, abs, abs_in}
use Rattle.numbers.specs.Limits.Laws.{by_test}
use Rattle.numbers.specs.Rounding.{with_sign}
use Rattle.numbers.proofs.Laws.Rounding.{sign_abs}
use Rattle.control.specs.Errors.{squared_over, error_of}

-- toward zero: a square over the full scale has the error's sign, and its magnitude is the greatest that times G does not pass the square
pub squared_toward_zero : (e : ℤ) {G : ℕ} → 0 < G
    → let q = nat_abs (squared_over e G) in
    (squared_over e G ≡ with_sign e q) × (q * G ≤ nat_abs e * nat_abs e) × (nat_abs e * nat_abs e < (q + 1) * G)
unfolding squared_over
squared_toward_zero e {G} p =
    let n = nat_abs e * nat_abs e in
    rw (sign_abs e (n / G)) (refl, div-mul-le_self n G, omega (arith, lt-div-mul-add {a = n} p))

-- a square over the full scale is no larger than the full scale
squared_high : (e : ℤ) {G : ℕ} → 0 < G → nat_abs e ≤ G → nat_abs (squared_over e G) ≤ G
unfolding squared_over
squared_high e {G} p h =
    let q = nat_abs e * nat_abs e / G in
    let l : q ≤ G = le_of_mul-le-mul_right {k = G} (omega (arith, div-mul-le_self (nat_abs e * nat_abs e) G, mul-le-mul h h)) p in
    omega (arith, sign_abs e q)

-- with the setpoint at the PV there is none
pub error_none : (quiet squared : Bool) {G : ℕ} (p : ℕ) → 0 < G → error_of quiet squared G p p ≡ pos 0
unfolding error_of
error_none quiet squared {G} p above =
    let e = pos p -ℤ pos p in
    let none : e ≡ pos 0 = omega (arith, linear, sub (pos p) (pos p)) in
    let q = squared_toward_zero (pos 0) above in
    let low : nat_abs (squared_over (pos 0) G) ≤ 0 = le_of_mul-le-mul_right {n = 0} {k = G} (omega (arith, q.1)) above in
    let square : squared_over (pos 0) G ≡ pos 0 = omega (arith, linear, abs (squared_over (pos 0) G)) in
    rw none (by_test (λ (z : ℤ). z ≡ pos 0) quiet (λ _. refl) (λ _. by_test (λ (z : ℤ). z ≡ pos 0) squared (λ _. square) (λ _. refl)))

-- an error of numbers within the full scale is no larger than it
pub error_high : (quiet squared : Bool) {G s p : ℕ} → 0 < G → s ≤ G → p ≤ G → nat_abs (error_of quiet squared G s p) ≤ G
unfolding error_of
error_high quiet squared {G} {s} {p} above h l =
    let e = pos s -ℤ pos p in
    let k : nat_abs e ≤ G = abs_in e (omega (arith, sub (pos s) (pos p))) in
    let Within : ℤ → Type 0 = λ z. nat_abs z ≤ G in
    by_test Within quiet (λ _. omega arith) (λ _. by_test Within squared (λ _. squared_high e above k) (λ _. k))
