-- The laws of the terms: the engine's form of each rounded term, and how large each can be.
use Rattle.std.specs.Prelude.{◌≡◌, refl, Bool, true, false, ℕ, ◌*◌, ◌-◌, ◌^◌, ◌≤◌, ◌<◌, eqb, ℤ, pos, ◌-ℤ◌, ◌*ℤ◌}
use Rattle.std.proofs.Common.{ap, ◌∙◌, arith, mul_comm, mul-zero, lit<}
use Rattle.std.proofs.Math.Bool.{cond}
use Rattle.std.proofs.Math.Nat.{mul-le-mul, mul-le-mul_left}
use Rattle.std.proofs.Math.IntN.{nat_abs, zero-*ℤ}
use Rattle.numbers.specs.Whole.{abs_neg, abs_sub, abs_scale, scale_scale}
use Rattle.numbers.specs.Limits.Laws.{by_test}
use Rattle.numbers.specs.Rounding.{half_away}
use Rattle.numbers.proofs.Laws.Rounding.{half_up_zero, half_up_high, half_away_abs}
use Rattle.numbers.specs.Fractions.{Fraction, over, whole, round_to}
use Rattle.numbers.proofs.Laws.Fractions.{round_over, round_neg}
use Rattle.reading.specs.declared.settings.Tuning.{Tuning}
use Rattle.control.specs.declared.terms.Inputs.{Inputs}
use Rattle.control.specs.declared.terms.Terms.{Terms}
use Rattle.control.specs.Terms.{factor_of, exact_p, exact_i, exact_d, directedᶠ, negated, exact_terms, terms_of}
use Rattle.control.specs.Premises.{Tuned, Bounded, Small, Still}

-- a term k × e / d in units is one quotient
pub term_is : (k : ℕ) (e : ℤ) {d : ℕ} → 0 < d → round_to 262144 (over (pos k *ℤ e) d) ≡ half_away (pos (k * 262144) *ℤ e) d
term_is k e {d} p =
    round_over 262144 (pos k *ℤ e) p
    ∙ ap (λ (z : ℤ). half_away z d) (scale_scale 262144 k e ∙ ap (λ (n : ℕ). pos n *ℤ e) (mul_comm 262144 k))

-- a rate of 0 has no D
pub no_rate : (c t : ℕ) (z : ℤ) → 0 < t → round_to 262144 (exact_d c 0 t z) ≡ pos 0
unfolding exact_d half_away
no_rate c t z p =
    term_is (c * 0) z (omega arith)
    ∙ ap (λ (n : ℕ). half_away (pos (n * 262144) *ℤ z) (100 * t)) (mul-zero c)
    ∙ ap (λ (x : ℤ). half_away x (100 * t)) (zero-*ℤ z)
    ∙ ap pos (half_up_zero (100 * t))

-- a term of 0, as at a reset of 9999
pub no_term : round_to 262144 (whole (pos 0)) ≡ pos 0
unfolding half_away
no_term = term_is 0 (pos 0) {d = 1} (lit< tt) ∙ ap pos (half_up_zero 1)

-- a term's magnitude, by a bound on its numerator
pub term_high : (k : ℕ) (e : ℤ) {d : ℕ} → 0 < d → (m : ℕ) → k * 262144 * nat_abs e ≤ m * d
    → nat_abs (round_to 262144 (over (pos k *ℤ e) d)) ≤ m
term_high k e {d} p m h =
    let z = pos (k * 262144) *ℤ e in
    let l = half_up_high {n = nat_abs z} p m (omega (arith, abs_scale (k * 262144) e)) in
    omega (arith, ap nat_abs (term_is k e p), half_away_abs z d)

-- ---- reverse action

-- so are all three
pub terms_directed : (t : Tuning) (minutes reverse : Bool) (x : Inputs)
    → cond reverse (negated (terms_of t minutes false x)) (terms_of t minutes false x) ≡ terms_of t minutes reverse x
unfolding terms_of exact_terms
terms_directed t minutes true x = simp round_neg
terms_directed t minutes false x = refl

-- reverse acting: r is what the negation of the direct terms d gives
pub terms_reversed : (t : Tuning) (minutes : Bool) (x : Inputs) {d r : Terms} → d ≡ terms_of t minutes false x → r ≡ negated d
    → r ≡ terms_of t minutes true x
terms_reversed t minutes x e f = f ∙ rw e (terms_directed t minutes true x)

directed_abs : (reverse : Bool) (x : Fraction) → nat_abs (round_to 262144 (directedᶠ reverse x)) ≡ nat_abs (round_to 262144 x)
directed_abs true x = ap nat_abs (round_neg 262144 x) ∙ abs_neg (round_to 262144 x)
directed_abs false x = refl

-- terms are equal where the three are
pub terms_same : {r s : Terms} → r.p ≡ s.p → r.i ≡ s.i → r.d ≡ s.d → r ≡ s
terms_same p i d = λ k. record { p = p k; i = i k; d = d k }

-- ---- how large the terms of four good digits are

-- a product of two settings
pub settings_high : {a b : ℕ} → a ≤ 9999 → b ≤ 9999 → a * b ≤ 9999 * 9999
settings_high h l = mul-le-mul h l

-- the gain of the integral and the derivative term is a setting too
pub factor_high : {g : ℕ} → g ≤ 9999 → factor_of g ≤ 9999
factor_high {g} h = by_test (λ (n : ℕ). n ≤ 9999) (eqb g 0) (λ _. omega arith) (λ _. h)

module _ {t : Tuning} (tuned : Tuned t) (minutes reverse : Bool) (x : Inputs) where
  -- each, by a bound b on what it acts on; the period is 0.05 s at least
  p_high : (b m : ℕ) → nat_abs x.p ≤ b → 9999 * 262144 * b ≤ m * 100 → nat_abs (terms_of t minutes reverse x).p ≤ m
  unfolding terms_of exact_terms exact_p
  p_high b m h l =
      let k = term_high t.gain x.p {d = 100} (lit< tt) m (omega (arith, mul-le-mul tuned.gain h)) in
      omega (arith, directed_abs reverse (exact_p t.gain x.p))

  d_high : (b m : ℕ) → nat_abs x.d ≤ b → 9999 * 9999 * 262144 * b ≤ m * 500 → nat_abs (terms_of t minutes reverse x).d ≤ m
  unfolding terms_of exact_terms exact_d
  d_high b m h l =
      let c = factor_of t.gain in
      let s = settings_high (factor_high tuned.gain) tuned.rate in
      let n : c * t.rate * 262144 * nat_abs x.d ≤ m * (100 * t.period)
      = omega (arith, mul-le-mul s h, mul-le-mul_left m tuned.sampling) in
      let k = term_high (c * t.rate) x.d {d = 100 * t.period} (omega arith) m n in
      omega (arith, directed_abs reverse (exact_d c t.rate t.period x.d))

  i_high : (b m : ℕ) → nat_abs x.i ≤ b → 9999 * 9999 * 262144 * b ≤ m * 100 → nat_abs (terms_of t minutes reverse x).i ≤ m
  unfolding terms_of exact_terms exact_i
  i_high b m h bound =
      let c = factor_of t.gain in
      let d = 100 * cond minutes (60 * t.reset) t.reset in
      let s = settings_high (factor_high tuned.gain) tuned.period in
      let l : 100 ≤ d = by_test (λ (n : ℕ). 100 ≤ 100 * n) minutes (λ _. omega arith) (λ _. omega arith) in
      let k = by_test (λ (f : Fraction). nat_abs (round_to 262144 f) ≤ m) (eqb t.reset 9999)
      (λ _. term_high 0 (pos 0) {d = 1} (lit< tt) m (omega arith))
      (λ _. term_high (c * t.period) x.i {d = d} (omega arith) m (omega (arith, mul-le-mul s h, mul-le-mul_left m l))) in
      omega (arith, directed_abs reverse (exact_i c t.period t.reset minutes x.i))

  -- each of the three
  pub terms_high : Bounded x → Small (terms_of t minutes reverse x)
  terms_high h = record {
    p = p_high 131070 (2 ^ 42) h.p (omega arith);
    i = i_high 65535 (2 ^ 54) h.i (omega arith);
    d = d_high 131070 (2 ^ 53) h.d (omega arith);
  }

  -- none where it acts on nothing
  pub terms_still : nat_abs x.p ≤ 0 → nat_abs x.i ≤ 0 → nat_abs x.d ≤ 0 → Still (terms_of t minutes reverse x)
  terms_still p i d = record { p = p_high 0 0 p (omega arith); i = i_high 0 0 i (omega arith); d = d_high 0 0 d (omega arith) }

  -- P − D in position form, with room for a limit beside it
  pub terms_close : nat_abs x.p ≤ 65535 → nat_abs x.d ≤ 65535
      → nat_abs ((terms_of t minutes reverse x).p -ℤ (terms_of t minutes reverse x).d) ≤ 2 ^ 52 - 2 ^ 34
  terms_close h l =
      let r = terms_of t minutes reverse x in
      omega (arith, abs_sub r.p r.d, p_high 65535 (2 ^ 41) h (omega arith), d_high 65535 (2 ^ 52 - 2 ^ 42) l (omega arith))
