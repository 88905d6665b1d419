-- The laws of rounding, for any divisor. Counts in units are the divisor 262,144, and need no law of their own.
use Rattle.std.specs.Prelude.{◌≡◌, refl, ℕ, zero, suc, ◌+◌, ◌*◌, ◌/◌, ◌≤◌, ◌<◌, ℤ, pos, negsuc, neg_ℤ, nat_abs, ◌-ℤ◌, ◌*ℤ◌, ◌≤ℤ◌, ◌<ℤ◌}
use Rattle.std.proofs.Common.{sym, ap, ◌∙◌, arith, div-mul-le_self, le-div_iff_mul-le, mul-le-mul_right}
use Rattle.std.proofs.Math.Nat.{div-zero, div-eq_of_lt-le, lt-div-mul-add}
use Rattle.std.proofs.Math.IntN.{neg_ℤ-neg_ℤ}
use Rattle.numbers.specs.Whole.{le_out, lt_out, neg, sub, scale_neg, abs_in, abs_neg}
use Rattle.numbers.specs.Rounding.{half_up, with_sign, half_away}

-- ---- halves up

-- the distance is half at most, and exactly half only where the rounded number is the greater
pub half_up_near : (n : ℕ) {d : ℕ} → 0 < d → (2 * (d * half_up n d) ≤ 2 * n + d) × (2 * n < 2 * (d * half_up n d) + d)
unfolding half_up
half_up_near n {d} h = omega (arith, div-mul-le_self (2 * n + d) (2 * d), lt-div-mul-add {a = 2 * n + d} {b = 2 * d} (omega arith))

-- and no other number is so near
pub half_up_only : (n d q : ℕ) → 2 * (d * q) ≤ 2 * n + d → 2 * n < 2 * (d * q) + d → half_up n d ≡ q
unfolding half_up
half_up_only n d q l h = div-eq_of_lt-le (2 * d) (omega arith) (omega arith)

-- k and a half goes to k + 1
pub half_up_tie : (n : ℕ) {d : ℕ} → 0 < d → (k : ℕ) → 2 * n ≡ (2 * k + 1) * d → half_up n d ≡ k + 1
half_up_tie n {d} p k e = half_up_only n d (k + 1) (omega arith) (omega arith)

-- a whole quotient is itself
pub half_up_whole : (k : ℕ) {d : ℕ} → 0 < d → half_up (d * k) d ≡ k
half_up_whole k {d} p = half_up_only (d * k) d k (omega arith) (omega arith)

pub half_up_zero : (d : ℕ) → half_up 0 d ≡ 0
unfolding half_up
half_up_zero zero = refl
half_up_zero (suc d) = half_up_only 0 (suc d) 0 (omega arith) (omega arith)

pub half_up_mono : {m n : ℕ} → m ≤ n → (d : ℕ) → half_up m d ≤ half_up n d
unfolding half_up
half_up_mono {m} {n} h zero = omega (arith, div-zero (2 * m + 0))
half_up_mono {m} {n} h (suc d) =
    (le-div_iff_mul-le {k = 2 * suc d} (omega arith)).1 (omega (arith, div-mul-le_self (2 * m + suc d) (2 * suc d)))

-- a quotient within whole limits is rounded to a number within them
pub half_up_low : {n d : ℕ} → 0 < d → (lo : ℕ) → d * lo ≤ n → lo ≤ half_up n d
half_up_low {n} {d} p lo h = omega (arith, half_up_whole lo p, half_up_mono h d)

pub half_up_high : {n d : ℕ} → 0 < d → (hi : ℕ) → n ≤ d * hi → half_up n d ≤ hi
half_up_high {n} {d} p hi h = omega (arith, half_up_whole hi p, half_up_mono h d)

pub half_up_self : (n : ℕ) {d : ℕ} → 0 < d → half_up n d ≤ n
half_up_self n {d} p = half_up_high p n (omega (arith, mul-le-mul_right n p))

-- ---- a magnitude with a sign

pub sign_abs : (z : ℤ) (m : ℕ) → nat_abs (with_sign z m) ≡ m
sign_abs (pos n) m = refl
sign_abs (negsuc n) m = abs_neg (pos m)

pub sign_self : (z : ℤ) → with_sign z (nat_abs z) ≡ z
sign_self (pos n) = refl
sign_self (negsuc n) = refl

-- by the sign of z
pub sign_plus : (z : ℤ) (m : ℕ) → pos 0 ≤ℤ z → with_sign z m ≡ pos m
sign_plus (pos n) m h = refl
sign_plus (negsuc n) m h = absurd (omega (arith, le_out h))

pub sign_minus : (z : ℤ) (m : ℕ) → z <ℤ pos 0 → with_sign z m ≡ neg_ℤ (pos m)
sign_minus (pos n) m h = absurd (omega (arith, lt_out h))
sign_minus (negsuc n) m h = refl

pub sign_scale : (k : ℕ) (z : ℤ) (m : ℕ) → pos k *ℤ with_sign z m ≡ with_sign z (k * m)
sign_scale k (pos n) m = refl
sign_scale k (negsuc n) m = scale_neg k (pos m)

-- a rounding of the magnitude that keeps 0 commutes with negation
pub sign_neg : (f : ℕ → ℕ) → f 0 ≡ 0 → (z : ℤ) → with_sign (neg_ℤ z) (f (nat_abs (neg_ℤ z))) ≡ neg_ℤ (with_sign z (f (nat_abs z)))
sign_neg f e (pos zero) = rw e
sign_neg f e (pos (suc n)) = refl
sign_neg f e (negsuc n) = sym (neg_ℤ-neg_ℤ (pos (f (suc n))))

-- numbers of one sign are as far apart as their magnitudes
pub sign_near : (z : ℤ) {a b k : ℕ} → a ≤ b + k → b ≤ a + k → nat_abs (with_sign z a -ℤ with_sign z b) ≤ k
sign_near (pos n) {a} {b} h l = abs_in (pos a -ℤ pos b) (omega (arith, sub (pos a) (pos b)))
sign_near (negsuc n) {a} {b} h l =
    let x = neg_ℤ (pos a) in
    let y = neg_ℤ (pos b) in
    abs_in (x -ℤ y) (omega (arith, sub x y, neg (pos a), neg (pos b)))

-- ---- halves away from zero

pub half_away_abs : (z : ℤ) (d : ℕ) → nat_abs (half_away z d) ≡ half_up (nat_abs z) d
unfolding half_away
half_away_abs z d = sign_abs z (half_up (nat_abs z) d)

-- the distance is half at most
pub half_away_near : (z : ℤ) {d : ℕ} → 0 < d → 2 * nat_abs ((pos d *ℤ half_away z d) -ℤ z) ≤ d
unfolding half_away
half_away_near z {d} p =
    let q = half_up (nat_abs z) d in
    let near = half_up_near (nat_abs z) p in
    let e : (pos d *ℤ with_sign z q) -ℤ z ≡ with_sign z (d * q) -ℤ with_sign z (nat_abs z)
    = ap (λ (x : ℤ). x -ℤ z) (sign_scale d z q) ∙ ap (λ (x : ℤ). with_sign z (d * q) -ℤ x) (sym (sign_self z)) in
    rw e (omega (arith, sign_near z {a = d * q} {b = nat_abs z} {k = d / 2} (omega arith) (omega arith)))

-- k and a half in magnitude goes to k + 1
pub half_away_tie : (z : ℤ) {d : ℕ} → 0 < d → (k : ℕ) → 2 * nat_abs z ≡ (2 * k + 1) * d → half_away z d ≡ with_sign z (k + 1)
unfolding half_away
half_away_tie z p k e = ap (with_sign z) (half_up_tie (nat_abs z) p k e)

pub half_away_neg : (z : ℤ) (d : ℕ) → half_away (neg_ℤ z) d ≡ neg_ℤ (half_away z d)
unfolding half_away
half_away_neg z d = sign_neg (λ (n : ℕ). half_up n d) (half_up_zero d) z
