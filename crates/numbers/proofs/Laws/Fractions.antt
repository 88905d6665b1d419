-- The laws of fractions. Each is proved one way: `common` brings the fractions of a law to one denominator s, where each is `more` − `less`
-- over s, two natural numbers, and there the law is `omega`'s.
use Rattle.std.specs.Prelude.{◌≡◌, List, [], ◌∷◌, ℕ, ◌+◌, ◌*◌, ◌≤◌, ◌<◌, max, ℤ, pos, neg_ℤ, nat_abs, ◌+ℤ◌, ◌-ℤ◌, ◌*ℤ◌, ◌≤ℤ◌}
use Rattle.std.proofs.Common.{ap, ◌∙◌, arith, mul-pos, mul-le-mul_right, le_of_mul-le-mul_right, lit<}
use Rattle.numbers.specs.Whole.{plus, minus, add, sub, neg, plus_neg, minus_neg, scale, scale_neg, plus_scale, minus_scale, abs, le_out, le_in}
use Rattle.numbers.specs.Limits.Laws.{Order, orderℤ, Clamped, Along, clamped_along}
use Rattle.numbers.specs.Rounding.{half_up, half_away}
use Rattle.numbers.proofs.Laws.Rounding.{half_up_near, half_away_near, half_away_neg}
use Rattle.numbers.specs.Fractions.{Fraction, over, whole, ◌+ᶠ◌, ◌-ᶠ◌, negᶠ, ◌≤ᶠ◌, ltᶠ, ◌≈ᶠ◌, Near, round_to}

-- ---- the order in natural numbers

out : {x y : Fraction} → x ≤ᶠ y → y.den * plus x.num + x.den * minus y.num ≤ x.den * plus y.num + y.den * minus x.num
out {x} {y} h = simp (plus_scale, minus_scale) at (le_out h.le)

into : {x y : Fraction} → y.den * plus x.num + x.den * minus y.num ≤ x.den * plus y.num + y.den * minus x.num → x ≤ᶠ y
into {x} {y} h = record { le = le_in (simp (plus_scale, minus_scale) h) }

-- ---- x at the denominator s: x = (more − less) / s

pub record At (s : ℕ) (x : Fraction) : Type 0 where
  pub more : ℕ
  pub less : ℕ
  pub is : plus x.num * s + less * x.den ≡ more * x.den + minus x.num * s

unfoldable pub at_add : {s : ℕ} {x y : Fraction} → At s x → At s y → At s (x +ᶠ y)
unfolding ◌+ᶠ◌
at_add {s} {x} {y} a b = record { more = a.more + b.more; less = a.less + b.less; is = eq }
  where
    sum : plus (x +ᶠ y).num + (y.den * minus x.num + x.den * minus y.num)
        ≡ y.den * plus x.num + x.den * plus y.num + minus (x +ᶠ y).num
    sum = simp (plus_scale, minus_scale) at (add (pos y.den *ℤ x.num) (pos x.den *ℤ y.num))

    eq : plus (x +ᶠ y).num * s + (a.less + b.less) * (x.den * y.den)
        ≡ (a.more + b.more) * (x.den * y.den) + minus (x +ᶠ y).num * s
    eq = omega (arith, ap (λ (k : ℕ). k * s) sum, ap (λ (k : ℕ). k * y.den) a.is, ap (λ (k : ℕ). k * x.den) b.is)

unfoldable pub at_neg : {s : ℕ} {x : Fraction} → At s x → At s (negᶠ x)
unfolding negᶠ
at_neg {s} {x} a = record { more = a.less; less = a.more; is = simp (plus_neg, minus_neg) (omega (arith, a.is)) }

-- z / d at a multiple of d
unfoldable pub at_over : (z : ℤ) {d s : ℕ} → 0 < d → (k : ℕ) → s ≡ d * k → At s (over z d)
unfolding over
at_over z {d} p k e =
    record { more = plus z * k; less = minus z * k; is = let f : max d 1 ≡ d = omega arith in rw (e, f) (omega arith) }

-- an order between two fractions at s is one between natural numbers, both ways
pub at_out : {s : ℕ} {x y : Fraction} (a : At s x) (b : At s y) → x ≤ᶠ y → a.more + b.less ≤ b.more + a.less
at_out {s} {x} {y} a b h =
    le_of_mul-le-mul_right {k = x.den * y.den}
    (omega (arith, mul-le-mul_right s (out h), ap (λ (k : ℕ). k * y.den) a.is, ap (λ (k : ℕ). k * x.den) b.is))
    (mul-pos x.above y.above)

pub at_in : {s : ℕ} {x y : Fraction} → 0 < s → (a : At s x) (b : At s y) → a.more + b.less ≤ b.more + a.less → x ≤ᶠ y
at_in {s} {x} {y} p a b h =
    into
    (le_of_mul-le-mul_right {k = s}
    (omega (arith, mul-le-mul_right (x.den * y.den) h, ap (λ (k : ℕ). k * y.den) a.is, ap (λ (k : ℕ). k * x.den) b.is))
    p)

-- ---- one denominator for a list of fractions

abbrev pub Ats : ℕ → List Fraction → Type 0
Ats s [] = Unit {0}
Ats s (x ∷ xs) = At s x × Ats s xs

pub record Common (xs : List Fraction) : Type 0 where
  pub by : ℕ
  pub above : 0 < by
  pub at : Ats by xs

unfoldable at_self : (x : Fraction) (k : ℕ) → At (x.den * k) x
at_self x k = record { more = plus x.num * k; less = minus x.num * k; is = omega arith }

at_scale : {s : ℕ} {x : Fraction} (k : ℕ) → At s x → At (k * s) x
at_scale {s} {x} k a = record { more = a.more * k; less = a.less * k; is = omega (arith, ap (λ (m : ℕ). m * k) a.is) }

ats_scale : (s k : ℕ) (xs : List Fraction) → Ats s xs → Ats (k * s) xs
ats_scale s k [] a = tt
ats_scale s k (x ∷ xs) a = (at_scale k a.0, ats_scale s k xs a.1)

pub common : (xs : List Fraction) → Common xs
common [] = record { by = 1; above = lit< tt; at = tt }
common (x ∷ xs) =
    let c : Common xs = common xs in
    record {
      by = x.den * c.by;
      above = mul-pos x.above c.above;
      at = (at_self x c.by, ats_scale c.by x.den xs c.at);
    }

-- ---- the order: a preorder, which sums keep and negation turns

pub ≤ᶠ_refl : (x : Fraction) → x ≤ᶠ x
≤ᶠ_refl x = let c = common (x ∷ []) in at_in c.above c.at.0 c.at.0 (omega arith)

pub ≤ᶠ_trans : {x y z : Fraction} → x ≤ᶠ y → y ≤ᶠ z → x ≤ᶠ z
≤ᶠ_trans {x} {y} {z} h k =
    let c = common (x ∷ y ∷ z ∷ []) in
    let (X, (Y, (Z, _))) = c.at in
    at_in c.above X Z (omega (arith, at_out X Y h, at_out Y Z k))

pub +ᶠ_mono : {x y z w : Fraction} → x ≤ᶠ y → z ≤ᶠ w → x +ᶠ z ≤ᶠ y +ᶠ w
unfolding at_add
+ᶠ_mono {x} {y} {z} {w} h k =
    let c = common (x ∷ y ∷ z ∷ w ∷ []) in
    let (X, (Y, (Z, (W, _)))) = c.at in
    at_in c.above (at_add X Z) (at_add Y W) (omega (arith, at_out X Y h, at_out Z W k))

pub negᶠ_turn : {x y : Fraction} → x ≤ᶠ y → negᶠ y ≤ᶠ negᶠ x
unfolding at_neg
negᶠ_turn {x} {y} h =
    let c = common (x ∷ y ∷ []) in
    let (X, (Y, _)) = c.at in
    at_in c.above (at_neg Y) (at_neg X) (omega (arith, at_out X Y h))

-- with its test: so every law of clamping holds of fractions
pub orderᶠ : Order ◌≤ᶠ◌ ltᶠ
unfolding ltᶠ
orderᶠ = record {
  same = ≤ᶠ_refl;
  trans = ≤ᶠ_trans;
  yes = λ x y t. record { le = orderℤ.yes _ _ t };
  no = λ x y t. record { le = orderℤ.no _ _ t };
  strict = λ x y t h. orderℤ.strict _ _ t h.le;
}

-- ---- one value: whole numbers over u, added and turned as fractions

pub over_mono : {a b : ℤ} → a ≤ℤ b → {u : ℕ} → 0 < u → over a u ≤ᶠ over b u
unfolding at_over
over_mono {a} {b} h {u} p = at_in p (at_over a p 1 (omega arith)) (at_over b p 1 (omega arith)) (omega (arith, le_out h))

pub over_add : (a b : ℤ) {u : ℕ} → 0 < u → over (a +ℤ b) u ≈ᶠ over a u +ᶠ over b u
unfolding at_over at_add
over_add a b {u} p =
    let S = at_over (a +ℤ b) {s = u} p 1 (omega arith) in
    let R = at_add (at_over a {s = u} p 1 (omega arith)) (at_over b p 1 (omega arith)) in
    record { most = at_in p S R (omega (arith, add a b)); least = at_in p R S (omega (arith, add a b)) }

pub over_neg : (a : ℤ) {u : ℕ} → 0 < u → over (neg_ℤ a) u ≈ᶠ negᶠ (over a u)
unfolding at_over at_neg
over_neg a {u} p =
    let S = at_over (neg_ℤ a) {s = u} p 1 (omega arith) in
    let R = at_neg (at_over a {s = u} p 1 (omega arith)) in
    record { most = at_in p S R (omega (arith, neg a)); least = at_in p R S (omega (arith, neg a)) }

-- n × u over u is n
pub over_whole : (n : ℕ) {u : ℕ} → 0 < u → over (pos (n * u)) u ≈ᶠ whole (pos n)
unfolding at_over
over_whole n {u} p =
    let S = at_over (pos (n * u)) {s = u} p 1 (omega arith) in
    let R = at_over (pos n) {d = 1} {s = u} (lit< tt) u (omega arith) in
    record { most = at_in p S R (omega arith); least = at_in p R S (omega arith) }

-- ---- |x − y| ≤ r

-- its two sides in natural numbers
pub near_out : {s : ℕ} {r x y : Fraction} (c : At s r) (a : At s x) (b : At s y) → Near r x y
    → (a.more + (b.less + c.less) ≤ b.more + c.more + a.less) × (b.more + (a.less + c.less) ≤ a.more + c.more + b.less)
unfolding at_add
near_out c a b h = (at_out a (at_add b c) h.most, at_out b (at_add a c) h.least)

pub near_in : {s : ℕ} → 0 < s → {r x y : Fraction} (c : At s r) (a : At s x) (b : At s y)
    → (a.more + (b.less + c.less) ≤ b.more + c.more + a.less) × (b.more + (a.less + c.less) ≤ a.more + c.more + b.less)
    → Near r x y
unfolding at_add
near_in p c a b h = record { most = at_in p a (at_add b c) (omega arith); least = at_in p b (at_add a c) (omega arith) }

pub near_sym : {r x y : Fraction} → Near r x y → Near r y x
near_sym h = record { most = h.least; least = h.most }

pub near_weaken : {r s x y : Fraction} → r ≤ᶠ s → Near r x y → Near s x y
near_weaken l h =
    record { most = ≤ᶠ_trans h.most (+ᶠ_mono (≤ᶠ_refl _) l); least = ≤ᶠ_trans h.least (+ᶠ_mono (≤ᶠ_refl _) l) }

-- of another number of the same value
pub near_same : {r x y z : Fraction} → z ≈ᶠ x → Near r x y → Near r z y
near_same e h = record { most = ≤ᶠ_trans e.most h.most; least = ≤ᶠ_trans h.least (+ᶠ_mono e.least (≤ᶠ_refl _)) }

pub near_trans : {r s x y z : Fraction} → Near r x y → Near s y z → Near (r +ᶠ s) x z
unfolding at_add
near_trans {r} {s} {x} {y} {z} h k =
    let c = common (r ∷ s ∷ x ∷ y ∷ z ∷ []) in
    let (R, (S, (X, (Y, (Z, _))))) = c.at in
    let h' = near_out R X Y h in
    let k' = near_out S Y Z k in
    near_in c.above (at_add R S) X Z (omega arith)

pub near_add : {r s x y z w : Fraction} → Near r x y → Near s z w → Near (r +ᶠ s) (x +ᶠ z) (y +ᶠ w)
unfolding at_add
near_add {r} {s} {x} {y} {z} {w} h k =
    let c = common (r ∷ s ∷ x ∷ y ∷ z ∷ w ∷ []) in
    let (R, (S, (X, (Y, (Z, (W, _)))))) = c.at in
    let h' = near_out R X Y h in
    let k' = near_out S Z W k in
    near_in c.above (at_add R S) (at_add X Z) (at_add Y W) (omega arith)

pub near_neg : {r x y : Fraction} → Near r x y → Near r (negᶠ x) (negᶠ y)
unfolding at_neg
near_neg {r} {x} {y} h =
    let c = common (r ∷ x ∷ y ∷ []) in
    let (R, (X, (Y, _))) = c.at in
    let h' = near_out R X Y h in
    near_in c.above R (at_neg X) (at_neg Y) (omega arith)

pub near_sub : {r s x y z w : Fraction} → Near r x y → Near s z w → Near (r +ᶠ s) (x -ᶠ z) (y -ᶠ w)
near_sub h k = near_add h (near_neg k)

-- ---- clamped fractions

-- x + u at most y + v
record Shifted (u v x y : Fraction) : Type 0 where
  pub by : x +ᶠ u ≤ᶠ y +ᶠ v

along_shift : {u v : Fraction} → u ≤ᶠ v → Along ◌≤ᶠ◌ (Shifted u v)
along_shift l = record {
  of = λ h. record { by = +ᶠ_mono h l };
  between = λ h r k. record { by = ≤ᶠ_trans (+ᶠ_mono h (≤ᶠ_refl _)) (≤ᶠ_trans r.by (+ᶠ_mono k (≤ᶠ_refl _))) };
}

-- numbers brought inside the same limits are no further apart
clamp_side : {lo hi m M c C r : Fraction} → Clamped ◌≤ᶠ◌ lo hi m c → Clamped ◌≤ᶠ◌ lo hi M C → Near r m M → c ≤ᶠ C +ᶠ r
unfolding at_add at_over
clamp_side {m = m} {M = M} {c = c} {C = C} {r = r} a b h =
    let d = common (m ∷ M ∷ c ∷ C ∷ r ∷ []) in
    let (X, (Y, (x, (y, (R, _))))) = d.at in
    let Z = at_over (pos 0) {d = 1} {s = d.by} (lit< tt) d.by (omega arith) in
    let h' = near_out R X Y h in
    let wider = at_in d.above Z R (omega arith) in
    let sums = at_in d.above (at_add X Z) (at_add Y R) (omega arith) in
    let shifted = clamped_along orderᶠ (along_shift wider) a b (record { by = sums }) in
    at_in d.above x (at_add y R) (omega (arith, at_out (at_add x Z) (at_add y R) shifted.by))

pub clamp_near : {lo hi m M c C r : Fraction} → Clamped ◌≤ᶠ◌ lo hi m c → Clamped ◌≤ᶠ◌ lo hi M C → Near r m M → Near r c C
clamp_near a b h = record { most = clamp_side a b h; least = clamp_side b a (near_sym h) }

-- Where q + s and Q + S are clamped to c and C, c − q and C − Q are no further apart than the parts are, not their sum.
shift_side : {lo hi q Q s S c C r : Fraction} → Clamped ◌≤ᶠ◌ lo hi (q +ᶠ s) c → Clamped ◌≤ᶠ◌ lo hi (Q +ᶠ S) C
    → Near r q Q → Near r s S → c -ᶠ q ≤ᶠ C -ᶠ Q +ᶠ r
unfolding at_add at_neg
shift_side {q = q} {Q = Q} {s = s} {S = S} {c = c} {C = C} {r = r} a b h k =
    let d = common (q ∷ Q ∷ s ∷ S ∷ c ∷ C ∷ r ∷ []) in
    let (X, (Y, (U, (W, (x, (y, (R, _))))))) = d.at in
    let h' = near_out R X Y h in
    let k' = near_out R U W k in
    let wider = at_in d.above Y (at_add X R) (omega arith) in
    let sums = at_in d.above (at_add (at_add X U) Y) (at_add (at_add Y W) (at_add X R)) (omega arith) in
    let shifted = clamped_along orderᶠ (along_shift wider) a b (record { by = sums }) in
    at_in d.above (at_add x (at_neg X)) (at_add (at_add y (at_neg Y)) R)
    (omega (arith, at_out (at_add x Y) (at_add y (at_add X R)) shifted.by))

pub shift_near : {lo hi q Q s S c C r : Fraction} → Clamped ◌≤ᶠ◌ lo hi (q +ᶠ s) c → Clamped ◌≤ᶠ◌ lo hi (Q +ᶠ S) C
    → Near r q Q → Near r s S → Near r (c -ᶠ q) (C -ᶠ Q)
shift_near a b h k = record { most = shift_side a b h k; least = shift_side b a (near_sym h) (near_sym k) }

-- ---- rounded fractions

-- a whole number q of parts 1/u, where q is the nearest to u × x but for a half
near_parts : (x : Fraction) (q : ℤ) {u : ℕ} → 0 < u → 2 * nat_abs ((pos x.den *ℤ q) -ℤ (pos u *ℤ x.num)) ≤ x.den
    → Near (over (pos 1) (2 * u)) (over q u) x
unfolding at_over at_self
near_parts x q {u} p h =
    let s = x.den * (2 * u) in
    let a = pos x.den *ℤ q in
    let b = pos u *ℤ x.num in
    let half = at_over (pos 1) {d = 2 * u} {s = s} (omega arith) x.den (omega arith) in
    let rounded = at_over q {s = s} p (2 * x.den) (omega arith) in
    near_in {s = s} (mul-pos x.above (omega arith)) half rounded (at_self x (2 * u))
    (omega (arith, sub a b, abs (a -ℤ b), scale x.den q, scale u x.num))

-- a fraction in the nearest part 1/u is within half a part
pub round_near : (x : Fraction) {u : ℕ} → 0 < u → Near (over (pos 1) (2 * u)) (over (round_to u x) u) x
unfolding round_to
round_near x {u} p = near_parts x (half_away (pos u *ℤ x.num) x.den) p (half_away_near (pos u *ℤ x.num) x.above)

-- of z / d, and of a negated fraction
pub round_over : (u : ℕ) (z : ℤ) {d : ℕ} → 0 < d → round_to u (over z d) ≡ half_away (pos u *ℤ z) d
unfolding round_to over
round_over u z {d} p = ap (half_away (pos u *ℤ z)) (omega arith)

pub round_neg : (u : ℕ) (x : Fraction) → round_to u (negᶠ x) ≡ neg_ℤ (round_to u x)
unfolding round_to negᶠ
round_neg u x = ap (λ (z : ℤ). half_away z x.den) (scale_neg u x.num) ∙ half_away_neg (pos u *ℤ x.num) x.den

-- n / d in the nearest whole number is within a half
pub count_near : (n : ℕ) {d : ℕ} → 0 < d → Near (over (pos 1) 2) (whole (pos (half_up n d))) (over (pos n) d)
unfolding at_over
count_near n {d} p =
    let half = at_over (pos 1) {d = 2} {s = 2 * d} (lit< tt) d (omega arith) in
    let rounded = at_over (pos (half_up n d)) {d = 1} {s = 2 * d} (lit< tt) (2 * d) (omega arith) in
    near_in (omega arith) half rounded (at_over (pos n) p 2 (omega arith)) (omega (arith, half_up_near n p))
