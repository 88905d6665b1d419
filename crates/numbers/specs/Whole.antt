-- Whole numbers, and the bridge by which `omega` serves them: it reads natural numbers alone, so a whole number z is given as the
-- difference of two, `plus z` − `minus z`, and an order or an equation of whole numbers as one of sums of these.
--
-- `omega (arith, linear, add a b, sub c d)` proves an order or an equation of whole numbers. The rules of `linear` turn the goal and
-- every hypothesis; `add a b` says what the sum `a +ℤ b` is, and so on for each sum, difference, negation or multiple that occurs.
-- A bound on a magnitude is proved by `abs_in z (omega (arith, linear, ..))`, and one in hand is read by `abs z`.
use Rattle.std.specs.Prelude.{◌≡◌, refl, Bool, true, false, not, cond, ℕ, zero, suc, ◌+◌, ◌*◌, ◌-◌, ◌≤◌, ◌<◌, min, T, ltb, ℤ, pos, negsuc, neg_ℤ, nat_abs, ◌+ℤ◌, ◌-ℤ◌, ◌*ℤ◌, ◌≤ℤ◌, ◌<ℤ◌}
use Rattle.std.proofs.Common.{sym, ap, subst, arith, ltb→lt, nltb→le, lt→ltb, leb→le, le→leb}
use Rattle.std.proofs.Math.IntN.{sub_ℕ}

-- ---- the two parts

abbrev pub plus : ℤ → ℕ
plus (pos n) = n
plus (negsuc n) = 0

abbrev pub minus : ℤ → ℕ
minus (pos n) = 0
minus (negsuc n) = suc n

-- ---- orders and equations, out of ℤ and into it

pub le_out : {a b : ℤ} → a ≤ℤ b → plus a + minus b ≤ plus b + minus a
le_out {a = pos a} {b = pos b} h = omega (arith, leb→le a b h.le)
le_out {a = pos a} {b = negsuc b} h = absurd h.le
le_out {a = negsuc a} {b = pos b} h = omega arith
le_out {a = negsuc a} {b = negsuc b} h = omega (arith, leb→le b a h.le)

pub le_in : {a b : ℤ} → plus a + minus b ≤ plus b + minus a → a ≤ℤ b
le_in {a = pos a} {b = pos b} h = record { le = le→leb a b (omega arith) }
le_in {a = pos a} {b = negsuc b} h = absurd (omega arith)
le_in {a = negsuc a} {b = pos b} h = record { le = tt }
le_in {a = negsuc a} {b = negsuc b} h = record { le = le→leb b a (omega arith) }

pub lt_out : {a b : ℤ} → a <ℤ b → plus a + minus b < plus b + minus a
lt_out {a = pos a} {b = pos b} h = omega (arith, ltb→lt a b h.lt)
lt_out {a = pos a} {b = negsuc b} h = absurd h.lt
lt_out {a = negsuc a} {b = pos b} h = omega arith
lt_out {a = negsuc a} {b = negsuc b} h = omega (arith, ltb→lt b a h.lt)

pub lt_in : {a b : ℤ} → plus a + minus b < plus b + minus a → a <ℤ b
lt_in {a = pos a} {b = pos b} h = record { lt = lt→ltb a b (omega arith) }
lt_in {a = pos a} {b = negsuc b} h = absurd (omega arith)
lt_in {a = negsuc a} {b = pos b} h = record { lt = tt }
lt_in {a = negsuc a} {b = negsuc b} h = record { lt = lt→ltb b a (omega arith) }

pub eq_out : {a b : ℤ} → a ≡ b → plus a + minus b ≡ plus b + minus a
eq_out e = omega (arith, ap plus e, ap minus e)

pub eq_in : {a b : ℤ} → plus a + minus b ≡ plus b + minus a → a ≡ b
eq_in {a = pos a} {b = pos b} h = ap pos (omega arith)
eq_in {a = pos a} {b = negsuc b} h = absurd (omega arith)
eq_in {a = negsuc a} {b = pos b} h = absurd (omega arith)
eq_in {a = negsuc a} {b = negsuc b} h = ap negsuc (omega arith)

pub ruleset linear = (le_out, le_in, lt_out, lt_in, eq_out, eq_in)

-- ---- the parts of a sum, a negation, a difference, a multiple, a magnitude

difference : (a b : ℕ) → plus (sub_ℕ a b) + b ≡ a + minus (sub_ℕ a b)
difference a b = by_test (ltb a b) refl
  where
    by_test : (t : Bool) → ltb a b ≡ t
        → plus (cond t (negsuc (b - suc a)) (pos (a - b))) + b ≡ a + minus (cond t (negsuc (b - suc a)) (pos (a - b)))
    by_test true e = omega (arith, ltb→lt a b (subst T (sym e) tt))
    by_test false e = omega (arith, nltb→le a b (subst (λ (t : Bool). T (not t)) (sym e) tt))

pub add : (a b : ℤ) → plus (a +ℤ b) + (minus a + minus b) ≡ plus a + plus b + minus (a +ℤ b)
add (pos a) (pos b) = omega arith
add (pos a) (negsuc b) = omega (arith, difference a (suc b))
add (negsuc a) (pos b) = omega (arith, difference b (suc a))
add (negsuc a) (negsuc b) = omega arith

pub plus_neg : (a : ℤ) → plus (neg_ℤ a) ≡ minus a
plus_neg (pos zero) = refl
plus_neg (pos (suc n)) = refl
plus_neg (negsuc n) = refl

pub minus_neg : (a : ℤ) → minus (neg_ℤ a) ≡ plus a
minus_neg (pos zero) = refl
minus_neg (pos (suc n)) = refl
minus_neg (negsuc n) = refl

pub neg : (a : ℤ) → (plus (neg_ℤ a) ≡ minus a) × (minus (neg_ℤ a) ≡ plus a)
neg a = (plus_neg a, minus_neg a)

pub sub : (a b : ℤ) → plus (a -ℤ b) + (minus a + plus b) ≡ plus a + minus b + minus (a -ℤ b)
sub a b = omega (arith, add a (neg_ℤ b), neg b)

pub plus_scale : (k : ℕ) (a : ℤ) → plus (pos k *ℤ a) ≡ k * plus a
plus_scale k (pos n) = refl
plus_scale k (negsuc n) = omega (arith, plus_neg (pos (k * suc n)))

pub minus_scale : (k : ℕ) (a : ℤ) → minus (pos k *ℤ a) ≡ k * minus a
minus_scale k (pos n) = omega arith
minus_scale k (negsuc n) = minus_neg (pos (k * suc n))

pub scale : (k : ℕ) (a : ℤ) → (plus (pos k *ℤ a) ≡ k * plus a) × (minus (pos k *ℤ a) ≡ k * minus a)
scale k a = (plus_scale k a, minus_scale k a)

-- one of the two parts is 0: `omega` takes the two signs by cases
pub abs : (a : ℤ) → (nat_abs a ≡ plus a + minus a) × (min (plus a) (minus a) ≡ 0)
abs (pos n) = omega arith
abs (negsuc n) = omega arith

-- ---- magnitudes

-- from −k ≤ z ≤ k
pub abs_in : (z : ℤ) {k : ℕ} → (plus z ≤ minus z + k) × (minus z ≤ plus z + k) → nat_abs z ≤ k
abs_in (pos n) h = omega arith
abs_in (negsuc n) h = omega arith

pub abs_neg : (a : ℤ) → nat_abs (neg_ℤ a) ≡ nat_abs a
abs_neg a = omega (arith, neg a, abs a, abs (neg_ℤ a))

pub abs_add : (a b : ℤ) → nat_abs (a +ℤ b) ≤ nat_abs a + nat_abs b
abs_add a b = abs_in (a +ℤ b) (omega (arith, add a b, abs a, abs b))

pub abs_sub : (a b : ℤ) → nat_abs (a -ℤ b) ≤ nat_abs a + nat_abs b
abs_sub a b = abs_in (a -ℤ b) (omega (arith, sub a b, abs a, abs b))

pub abs_scale : (k : ℕ) (a : ℤ) → nat_abs (pos k *ℤ a) ≡ k * nat_abs a
abs_scale k (pos n) = refl
abs_scale k (negsuc n) = abs_neg (pos (k * suc n))

-- ---- multiples: a law of sums is handed to `omega` multiplied

pub scale_neg : (k : ℕ) (a : ℤ) → pos k *ℤ neg_ℤ a ≡ neg_ℤ (pos k *ℤ a)
scale_neg k a =
    omega (
      arith,
      linear,
      scale k (neg_ℤ a),
      scale k a,
      neg (pos k *ℤ a),
      ap (λ (n : ℕ). k * n) (plus_neg a),
      ap (λ (n : ℕ). k * n) (minus_neg a),
    )

pub scale_scale : (k m : ℕ) (a : ℤ) → pos k *ℤ (pos m *ℤ a) ≡ pos (k * m) *ℤ a
scale_scale k m a =
    omega (
      arith,
      linear,
      scale k (pos m *ℤ a),
      scale (k * m) a,
      ap (λ (n : ℕ). k * n) (plus_scale m a),
      ap (λ (n : ℕ). k * n) (minus_scale m a),
    )
