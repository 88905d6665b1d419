-- The laws of clamping, once for numbers of any kind that an order with its test is known of, and then for whole numbers.
use Rattle.std.specs.Prelude.{◌≡◌, refl, Bool, true, false, not, cond, ◌⊎◌, ℕ, ◌≤◌, T, ltb, nat_eq, ℤ, pos, nat_abs, ◌+ℤ◌, ◌-ℤ◌, ◌≤ℤ◌, ◌<ℤ◌}
use Rattle.std.proofs.Common.{Less, Equal, Greater, inl, inr, arith, le_refl, le_trans, ltb→lt, nltb→le}
use Rattle.std.specs.Int.Signed.{lt_z, lt_z_yes, lt_z_no, ≤ℤ_refl}
use Rattle.std.specs.Ordering.{is_lt, nat_cmp, int_cmp, as_partial_cmp, partial_lt}
use Rattle.numbers.specs.Whole.{linear, add, sub, abs, abs_in}
use Rattle.numbers.specs.Limits.{clamp_by, clampℕ, clampℤ}

module _ {A : Type 0} (◌≼◌ : A → A → Type 0) where
  infix 50 ◌≼◌
  -- an order, and what its test of "below" says
  pub record Order (below : A → A → Bool) : Type 0 where
    pub same : (x : A) → x ≼ x
    pub trans : {x y z : A} → x ≼ y → y ≼ z → x ≼ z
    pub yes : (x y : A) → T (below x y) → x ≼ y
    pub no : (x y : A) → T (not (below x y)) → y ≼ x
    pub strict : (x y : A) → T (below x y) → y ≼ x → ⊥

  -- c is x brought inside the limits, said by the order alone: so it can be said of numbers of one kind and carried to another
  pub record Clamped (lo hi x c : A) : Type 0 where
    pub low : lo ≼ c
    pub high : c ≼ hi
    pub down : (c ≼ lo) ⊎ (c ≼ x)
    pub up : (hi ≼ c) ⊎ (x ≼ c)

  -- a relation that the order implies and may be composed with on both sides
  pub record Along (R : A → A → Type 0) : Type 0 where
    pub of : {x y : A} → x ≼ y → R x y
    pub between : {w x y z : A} → w ≼ x → R x y → y ≼ z → R w z

-- a value chosen by a test has what both choices have
pub by_test {ℓ} : {A : Type ℓ} (P : A → Type 0) (t : Bool) {x y : A} → (T t → P x) → (T (not t) → P y) → P (cond t x y)
by_test P true f g = f tt
by_test P false f g = g tt

-- ---- for any order

module _ {A : Type 0} {◌≼◌ : A → A → Type 0} {below : A → A → Bool} (order : Order ◌≼◌ below) where
  infix 50 ◌≼◌
  -- what is shown in each of the three cases is shown of the clamped number
  pub clamp_cases : (P : A → Type 0) (x lo hi : A) → (x ≼ lo → P lo) → (lo ≼ x → hi ≼ x → P hi) → (lo ≼ x → x ≼ hi → P x)
      → P (clamp_by below x lo hi)
  unfolding clamp_by
  clamp_cases P x lo hi f g h =
      by_test P (below x lo) (λ t. f (order.yes x lo t)) (λ t.
      by_test P (below hi x) (λ u. g (order.no x lo t) (order.yes hi x u)) (λ u. h (order.no x lo t) (order.no hi x u)))

  pub clamped : {lo hi : A} → lo ≼ hi → (x : A) → Clamped ◌≼◌ lo hi x (clamp_by below x lo hi)
  clamped {lo} {hi} l x =
      clamp_cases (Clamped ◌≼◌ lo hi x) x lo hi
      (λ a. record { low = order.same lo; high = l; down = inl (order.same lo); up = inr a })
      (λ a b. record { low = l; high = order.same hi; down = inr b; up = inl (order.same hi) })
      (λ a b. record { low = a; high = b; down = inr (order.same x); up = inr (order.same x) })

  -- inside the limits nothing changes
  pub clamp_kept : {x lo hi : A} → lo ≼ x → x ≼ hi → clamp_by below x lo hi ≡ x
  unfolding clamp_by
  clamp_kept {x} {lo} {hi} l h =
      by_test (λ c. c ≡ x) (below x lo) (λ t. absurd (order.strict x lo t l)) (λ t.
      by_test (λ c. c ≡ x) (below hi x) (λ u. absurd (order.strict hi x u h)) (λ u. refl))

  -- A relation along the order outlasts clamping. The order itself is one, so clamping is monotone; "above by k at most" is another,
  -- so clamping brings no two numbers further apart.
  pub clamped_along : {R : A → A → Type 0} → Along ◌≼◌ R
      → {lo hi x y c d : A} → Clamped ◌≼◌ lo hi x c → Clamped ◌≼◌ lo hi y d → R x y → R c d
  clamped_along {R} along {lo} {hi} {x} {y} {c} {d} p q r = go p.down q.up
    where
      go : (c ≼ lo) ⊎ (c ≼ x) → (hi ≼ d) ⊎ (y ≼ d) → R c d
      go (inl a) b = along.of (order.trans a q.low)
      go (inr a) (inl b) = along.of (order.trans p.high b)
      go (inr a) (inr b) = along.between a r b

-- a map that keeps the order carries clamped numbers along
module _ {A B : Type 0} (◌≼◌ : A → A → Type 0) (◌⊑◌ : B → B → Type 0)
    (f : A → B) (keeps : (x y : A) → ◌≼◌ x y → ◌⊑◌ (f x) (f y)) where
  infix 50 ◌≼◌ ◌⊑◌
  either : {u v w z : A} → (u ≼ v) ⊎ (w ≼ z) → (f u ⊑ f v) ⊎ (f w ⊑ f z)
  either (inl a) = inl (keeps _ _ a)
  either (inr a) = inr (keeps _ _ a)

  pub clamped_map : {lo hi x c : A} → Clamped ◌≼◌ lo hi x c → Clamped ◌⊑◌ (f lo) (f hi) (f x) (f c)
  clamped_map p = record { low = keeps _ _ p.low; high = keeps _ _ p.high; down = either p.down; up = either p.up }

-- ---- natural numbers

pub orderℕ : Order ◌≤◌ ltb
orderℕ = record {
  same = le_refl;
  trans = le_trans;
  yes = λ x y t. omega (arith, ltb→lt x y t);
  no = λ x y t. nltb→le x y t;
  strict = λ x y t h. omega (arith, ltb→lt x y t);
}

-- ---- whole numbers

pub orderℤ : Order ◌≤ℤ◌ lt_z
orderℤ = record {
  same = ≤ℤ_refl;
  trans = λ h k. omega (arith, linear);
  yes = λ x y t. let h : x <ℤ y = lt_z_yes t in omega (arith, linear);
  no = λ x y t. lt_z_no t;
  strict = λ x y t k. let h : x <ℤ y = lt_z_yes t in omega (arith, linear);
}

pub clamp_low : {lo hi : ℤ} → lo ≤ℤ hi → (x : ℤ) → lo ≤ℤ clampℤ x lo hi
clamp_low l x = (clamped orderℤ l x).low

pub clamp_high : {lo hi : ℤ} → lo ≤ℤ hi → (x : ℤ) → clampℤ x lo hi ≤ℤ hi
clamp_high l x = (clamped orderℤ l x).high

-- above by k at most
pub record Above (k : ℕ) (a b : ℤ) : Type 0 where
  pub by : a ≤ℤ (b +ℤ pos k)

along_above : (k : ℕ) → Along ◌≤ℤ◌ (Above k)
along_above k = record {
  of = λ {x} {y} h. record { by = omega (arith, linear, add y (pos k)) };
  between = λ {w} {x} {y} {z} h r h'. record { by = omega (arith, linear, r.by, add y (pos k), add z (pos k)) };
}

-- clamped numbers are no further apart than the numbers
pub clamp_near : {lo hi : ℤ} → lo ≤ℤ hi → (x y : ℤ) → nat_abs (clampℤ x lo hi -ℤ clampℤ y lo hi) ≤ nat_abs (x -ℤ y)
clamp_near {lo} {hi} l x y =
    let k = nat_abs (x -ℤ y) in
    let c = clampℤ x lo hi in
    let d = clampℤ y lo hi in
    let p = clamped orderℤ l x in
    let q = clamped orderℤ l y in
    let h = clamped_along orderℤ (along_above k) p q (record { by = omega (arith, linear, add y (pos k), sub x y, abs (x -ℤ y)) }) in
    let h' = clamped_along orderℤ (along_above k) q p (record { by = omega (arith, linear, add x (pos k), sub x y, abs (x -ℤ y)) }) in
    abs_in (c -ℤ d) (omega (arith, linear, h.by, h'.by, sub c d, add d (pos k), add c (pos k)))

-- a clamped number is no larger than the larger limit
pub clamp_abs : (x lo hi : ℤ) {k : ℕ} → nat_abs lo ≤ k → nat_abs hi ≤ k → nat_abs (clampℤ x lo hi) ≤ k
clamp_abs x lo hi {k} l h =
    clamp_cases orderℤ (λ c. nat_abs c ≤ k) x lo hi (λ a. l) (λ a b. h) (λ a b. omega (arith, linear, abs x, abs lo, abs hi))

-- ---- by the library's order of a type of numbers, which code clamps by

-- the test `<` of that order is the one of the definitions
below_ℕ : (x y : ℕ) → partial_lt (as_partial_cmp nat_cmp) x y ≡ ltb x y
below_ℕ x y = go (ltb x y) (nat_eq x y)
  where
    go : (l e : Bool) → is_lt (cond l Less (cond e Equal Greater)) ≡ l
    go true e = refl
    go false true = refl
    go false false = refl

below_ℤ : (x y : ℤ) → partial_lt (as_partial_cmp int_cmp) x y ≡ lt_z x y
below_ℤ x y = go (lt_z x y) (lt_z y x)
  where
    go : (l g : Bool) → is_lt (cond l Less (cond g Greater Equal)) ≡ l
    go true g = refl
    go false true = refl
    go false false = refl

-- so at u16 it is clamping of natural numbers, and at i64 of whole numbers
pub clamp_word_is : (x lo hi : ℕ) → clamp_by (partial_lt (as_partial_cmp nat_cmp)) x lo hi ≡ clampℕ x lo hi
unfolding clamp_by
clamp_word_is x lo hi = simp below_ℕ

pub clamp_int_is : (x lo hi : ℤ) → clamp_by (partial_lt (as_partial_cmp int_cmp)) x lo hi ≡ clampℤ x lo hi
unfolding clamp_by
clamp_int_is x lo hi = simp below_ℤ
