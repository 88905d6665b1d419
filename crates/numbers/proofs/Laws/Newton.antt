-- Newton's rounds, by which the code comes to the root of v: a round takes the mean of x and v / x, rounded up. It is never below the root.
-- How close x is, is told by n: it is above the root by at most 1 and an n-th part of it. A round makes 2 × n × n of n.
use Rattle.std.specs.Prelude.{ℕ, zero, suc, ◌+◌, ◌*◌, ◌-◌, ◌/◌, ◌^◌, ◌%◌, ◌≤◌, ◌<◌, ◌≡◌}
use native.Mathlib.Nat.{one-mul}
use lib.Pow.{shl_exact}
use Rattle.std.proofs.Common.{ap, ◌∙◌, subst, arith, mul-le-mul, mul-le-mul_left, mul-le-mul_right, lt_of_not-le, mul-pos, pow-suc, div-lt_iff_lt-mul, le-div_iff_mul-le, add-one, pow_mono, pow_pos, pow-add}
use Rattle.std.proofs.Math.Decide.{dec_le}
use Rattle.std.proofs.Math.Nat.{le_dest}
use Rattle.std.specs.Int.Count.{count_leading_zeros}
use Rattle.std.proofs.lemmas.Nat.{leading_length}
use Rattle.numbers.specs.Roots.{root_of}
use Rattle.numbers.proofs.Laws.Roots.{root_exact, root_low, root_high}
use Rattle.numbers.specs.Roots.Newton.{Close}

abbrev pub mean : ℕ → ℕ → ℕ
mean v x = (x + v / x + 1) / 2

-- ---- squares and products

-- (b − a) × (d − c) is at least 0
rearranged : {a b c d : ℕ} → a ≤ b → c ≤ d → a * d + b * c ≤ a * c + b * d
rearranged {a} {b} {c} {d} h l =
    let i = le_dest h in
    let j = le_dest l in
    let at : a * (c + j.0) + (a + i.0) * c ≤ a * c + (a + i.0) * (c + j.0) = omega arith in
    subst (λ (n : ℕ). a * d + n * c ≤ a * c + n * d) i.1 (subst (λ (n : ℕ). a * n + (a + i.0) * c ≤ a * c + (a + i.0) * n) j.1 at)

-- (x − y) × (x − y − 1) is at least 0
gap : (x y : ℕ) → 2 * (x * y) + x ≤ x * x + y * y + y
gap x y = either (dec_le x y)
  where
    either : Dec (x ≤ y) → 2 * (x * y) + x ≤ x * x + y * y + y
    either (yes h) = omega (arith, rearranged {a = x} {b = y} {c = x} {d = y + 1} h (omega arith))
    either (no f) = let h = lt_of_not-le f in omega (arith, rearranged {a = y} {b = x} {c = y + 1} {d = x} (omega arith) (omega arith))

-- where each of P and v is at most about twice the other, the square of their sum is at most about 4½ times their product
spread : {P v : ℕ} → P ≤ 2 * v + 1 → v ≤ 2 * P → 2 * ((P + v) * (P + v)) ≤ (9 * v + 2) * P
spread {P} {v} h l = omega (arith, rearranged {a = P} {b = 2 * v + 1} {c = v} {d = 2 * P} h l)

-- ---- a round

-- twice x times the mean is within x of x × x + v
mean_high : (v x : ℕ) → 0 < x → 2 * (x * mean v x) ≤ x * x + v + x
mean_high v x h =
    let q = v / x in
    let m : 2 * mean v x ≤ x + q + 1 = omega arith in
    omega (arith, mul-le-mul_left x m, (le-div_iff_mul-le {k = x} {x = q} {y = v} h).0 (omega arith))

mean_low : (v x : ℕ) → 0 < x → x * x + v < 2 * (x * mean v x) + x
mean_low v x h =
    let q = v / x in
    let m : x + q ≤ 2 * mean v x = omega arith in
    omega (arith, mul-le-mul_left x m, (div-lt_iff_lt-mul {k = x} {x = v} {y = q + 1} h).0 (omega arith))

-- whatever x is, the mean is no lower than the root
mean_least : (v x : ℕ) → v < 2 ^ 32 → 0 < x → root_of v ≤ mean v x
mean_least v x h l = root_low (root_exact v h) (mean v x) (omega (arith, mean_low v x l, gap x (mean v x)))

-- x is above the root t by d + 1, where d is at most an n-th part of t, and the mean by e + 1: then e is at most a (2 × n)-th part of d
sharper : (n t d e : ℕ) → n * d ≤ t → 2 * ((t + 1 + d) * e) ≤ d * d + d → 2 * (n * e) ≤ d
sharper n t d zero h l = omega arith
sharper n t d (suc e) h l =
    let no : d + 1 ≤ 2 * (n * suc e) → ⊥ = λ m. omega (arith, mul-le-mul_right (suc e) h, mul-le-mul_left d m) in
    omega (arith, lt_of_not-le no)

-- x is t + d, and the mean t + e
most_after : (n v t d e : ℕ) → v ≤ t * t + t → 0 < t + d → n * (t + d) ≤ (n + 1) * t + n
    → 2 * ((t + d) * (t + e)) ≤ (t + d) * (t + d) + v + (t + d) → 2 * n * n * (t + e) ≤ (2 * n * n + 1) * t + 2 * n * n
most_after n v t d zero h s m l = omega arith
most_after n v t d (suc zero) h s m l = omega arith
most_after n v t zero (suc (suc e)) h s m l = absurd (omega arith)
most_after n v t (suc d) (suc (suc e)) h s m l =
    let part : n * d ≤ t = omega arith in
    omega (arith, part, mul-le-mul_left n (sharper n t d (suc e) part (omega arith)))

pub closer : {n v x : ℕ} → v < 2 ^ 32 → Close n v x → Close (2 * n * n) v (mean v x)
closer {n} {v} {x} h c =
    let least = mean_least v x h c.some in
    let d = le_dest c.least in
    let e = le_dest least in
    let most =
    most_after n v (root_of v) d.0 e.0 (root_exact v h).below
    (rw d.1 c.some) (rw d.1 c.most) (rw (d.1, e.1) (mean_high v x c.some)) in
    record { some = omega arith; least = least; most = rw e.1 at most }

-- how close it is after some rounds: 10, 200, 80,000
unfoldable pub closeness : ℕ → ℕ
closeness zero = 10
closeness (suc rounds) = 2 * closeness rounds * closeness rounds

pub close_after : {v x : ℕ} (rounds : ℕ) → v < 2 ^ 32 → Close (closeness rounds) v x → Close (closeness (rounds + 1)) v (mean v x)
unfolding closeness
close_after rounds h c = rw (add-one rounds) (closer h c)

closeness_some : (rounds : ℕ) → 0 < closeness rounds
unfolding closeness
closeness_some zero = omega arith
closeness_some (suc rounds) = let s = closeness_some rounds in omega (arith, mul-pos s s)

-- what is added up in a round
pub round_fits : {v x : ℕ} (rounds : ℕ) → v < 2 ^ 32 → Close (closeness rounds) v x → x + v / x < 2 ^ 20
round_fits {v} {x} rounds h c =
    let n = closeness rounds in
    let t = root_of v in
    let near = root_exact v h in
    let some = closeness_some rounds in
    let no : 2 * t + 2 ≤ x → ⊥ = λ m. omega (arith, c.most, some, mul-le-mul_left n m, mul-le-mul_right t some) in
    let square : t * t ≤ x * x = mul-le-mul c.least c.least in
    let quotient = (div-lt_iff_lt-mul {k = x} {x = v} {y = x + 2} c.some).1 (omega (arith, near.below, square, c.least, c.some)) in
    omega (arith, quotient, lt_of_not-le no, root_high near 65536 (omega arith))

-- ---- the beginning and the end

-- z is one less than the mean of p and v / p, where p × p is between half of v and, but for 1, twice v: 2 × (2 × z + 1)² is at most 9 × v + 2
begins : (v t p z : ℕ) → v ≤ t * t + t → 0 < p → p * p ≤ 2 * v + 1 → v < 2 * (p * p) → (2 * z + 1) * p ≤ p * p + v → 10 * z ≤ 11 * t
begins v t p z h s l m k =
    let P = p * p in
    let w = (2 * z + 1) * (2 * z + 1) in
    let squared : 2 * w * P ≤ (9 * v + 2) * P = omega (arith, mul-le-mul k k, spread {P = P} {v = v} l (omega arith)) in
    let large : 9 * v + 3 ≤ 2 * w → ⊥ = λ n. omega (arith, mul-pos s s, squared, mul-le-mul_right P n) in
    let no : 11 * t + 1 ≤ 10 * z → ⊥ =
    λ n. let r : 22 * t + 12 ≤ 10 * (2 * z + 1) = omega arith in omega (arith, mul-le-mul r r, lt_of_not-le large) in
    omega (arith, lt_of_not-le no)

first : {v p : ℕ} → v < 2 ^ 32 → 0 < p → p * p ≤ 2 * v + 1 → v < 2 * (p * p) → Close 10 v (mean v p)
first {v} {p} h s l m =
    let z = mean v p - 1 in
    let e : z + 1 ≡ mean v p = omega arith in
    let high : (2 * z + 1) * p ≤ p * p + v = omega (arith, mean_high v p s, ap (λ (n : ℕ). p * n) e) in
    record { some = omega arith; least = mean_least v p h s; most = omega (arith, begins v (root_of v) p z (root_exact v h).below s l m high) }

-- 2 to half the length of v in binary digits is such a number
abbrev pub half : ℕ → ℕ
half v = (32 - count_leading_zeros 32 v) / 2

pub half_most : (v : ℕ) → half v ≤ 16
half_most v = omega arith

half_power : (v : ℕ) → v < 2 ^ 32 → (2 ^ half v * 2 ^ half v ≤ 2 * v + 1) × (v < 2 * (2 ^ half v * 2 ^ half v))
half_power v h =
    let l = leading_length 32 v h in
    let k = half v in
    let low : 2 ^ (k + k) ≤ 2 ^ l.0 = pow_mono (omega (arith, l.1)) in
    let high : 2 ^ l.0 ≤ 2 ^ suc (k + k) = pow_mono (omega (arith, l.1)) in
    let twice = pow-add 2 k k in
    (omega (arith, low, twice, l.3), omega (arith, high, twice, pow-suc 2 (k + k), l.2))

pub first_fits : (v : ℕ) → v < 2 ^ 32 → 2 ^ half v + v / 2 ^ half v < 2 ^ 20
first_fits v h =
    let k = half v in
    let p = half_power v h in
    let quotient = (div-lt_iff_lt-mul {k = 2 ^ k} {x = v} {y = 2 * 2 ^ k} (pow_pos k)).1 (omega (arith, p.1)) in
    omega (arith, quotient, pow_mono (half_most v))

-- `1 << half`, from which nothing is shifted out
pub shifted : (v : ℕ) → v < 2 ^ 32 → 1 * 2 ^ half v % 2 ^ 32 ≡ 2 ^ half v
shifted v h = shl_exact {a = 1} 1 (half v) 32 (omega arith) (omega (arith, half_most v)) ∙ one-mul (2 ^ half v)

pub first_close : (v : ℕ) → v < 2 ^ 32 → Close 10 v (mean v (2 ^ half v))
first_close v h = let p = half_power v h in first h (pow_pos (half v)) p.0 p.1

-- within an 80,000th part x is the root or one above it, since no root is above 65,536
pub ends : {v x : ℕ} → v < 2 ^ 32 → Close 80000 v x → (x ≤ root_of v + 1) × (x ≤ 65537)
ends {v} h c = omega (arith, c.most, root_high (root_exact v h) 65536 (omega arith))

-- it is x or, where v is at most x × (x − 1), the number before x
pub ends_at : {v x : ℕ} (z : ℕ) → v < 2 ^ 32 → Close 80000 v x → z + 1 ≡ x → z * x < v → x ≡ root_of v
ends_at {v} {x} z h c e l =
    let no : root_of v ≤ z → ⊥ = λ m. let n : root_of v + 1 ≤ x = omega arith in omega (arith, (root_exact v h).below, mul-le-mul m n) in
    omega (arith, c.least, lt_of_not-le no)

pub ends_before : {v x : ℕ} (z : ℕ) → v < 2 ^ 32 → Close 80000 v x → z + 1 ≡ x → v ≤ z * x → z ≡ root_of v
ends_before {v} {x} z h c e l =
    let t = root_of v in
    let no : z + 1 ≤ t → ⊥ =
    λ m. let n : x ≤ t = omega arith in omega (arith, (root_exact v h).above (omega arith), mul-le-mul_left z n, mul-le-mul_right t m) in
    omega (arith, ends h c, lt_of_not-le no)
