-- The laws of the status word.
use Rattle.std.specs.Prelude.{ℕ, zero, suc, ◌+◌, ◌*◌, ◌-◌, ◌/◌, ◌%◌, ◌^◌, ◌<◌, ◌≡◌, refl, Bool, true, false, cond, ◌&&◌, ◌||◌, List, [], ◌∷◌, length, get_or, T, ltb, eqb, ℤ, pos, ◌+ℤ◌, ◌-ℤ◌, ◌<ℤ◌}
use Rattle.std.proofs.Common.{arith, add-zero, div-one, ltb→lt, lt→ltb, ltb-true, ltb-false, lt-ltb}
use Rattle.std.proofs.Math.Nat.{zero-div, div-div-eq-div-mul, pow-succ'}
use Rattle.std.specs.Int.Signed.{lt_z}
use Rattle.numbers.specs.Whole.{linear, sub}
use Rattle.table.specs.Words.{bit}
use Rattle.alarms.specs.Status.{high_alarm, low_alarm, number, bits_word}

-- ---- the word of the bits

-- the lowest bit, and the word of the others
low : (b : Bool) (n : ℕ) → (number b + 2 * n) % 2 ≡ number b
low true n = omega arith
low false n = omega arith

half : (b : Bool) (n : ℕ) → (number b + 2 * n) / 2 ≡ n
half true n = omega arith
half false n = omega arith

one : (b : Bool) → eqb (number b) 1 ≡ b
one true = refl
one false = refl

-- a word made of bits has those bits; above them it has none (B8)
pub status_bit : (l : List Bool) (k : ℕ) → bit k (bits_word l) ≡ get_or l k false
status_bit [] k = rw zero-div
status_bit (b ∷ l) zero = rw (div-one, low, one)
status_bit (b ∷ l) (suc k) = rw (pow-succ', ← div-div-eq-div-mul, half) (status_bit l k)

-- a word of n bits is below 2 ^ n
pub status_high : (l : List Bool) → bits_word l < 2 ^ length l
status_high [] = omega arith
status_high (true ∷ l) = rw pow-succ' (omega (arith, status_high l))
status_high (false ∷ l) = rw pow-succ' (omega (arith, status_high l))

-- ---- the hold, in one comparison: an alarm that was on has the hysteresis, any other nothing

pub held : (was : Bool) (a b hysteresis : ℕ) → ltb a (b + cond was hysteresis 0) ≡ ltb a b || (was && ltb a (b + hysteresis))
held true a b hysteresis = by_test (ltb a b) refl
  where
    by_test : (t : Bool) → ltb a b ≡ t → ltb a (b + hysteresis) ≡ t || ltb a (b + hysteresis)
    by_test true e = lt-ltb a (b + hysteresis) (omega (arith, ltb-true a b e))
    by_test false e = refl
held false a b hysteresis = rw add-zero (by_test (ltb a b))
  where
    by_test : (t : Bool) → t ≡ t || false
    by_test true = refl
    by_test false = refl

-- ---- the hold, in whole numbers

-- tests that hold together are equal
same : (s t : Bool) → (T s → T t) → (T t → T s) → s ≡ t
same true true f g = refl
same true false f g = absurd (f tt)
same false true f g = absurd (g tt)
same false false f g = refl

same_test : (a b : ℕ) (y z : ℤ) → (a < b → y <ℤ z) → (y <ℤ z → a < b) → ltb a b ≡ lt_z y z
same_test a b y z f g = same _ _ (λ t. (f (ltb→lt a b t)).lt) (λ t. lt→ltb a b (g (record { lt = t })))

-- B3: the sum for a high alarm says that x is larger than limit − hysteresis, which may be below 0
pub high_hold : (limit hysteresis x : ℕ) → ltb limit (x + hysteresis) ≡ lt_z (pos limit -ℤ pos hysteresis) (pos x)
high_hold limit hysteresis x =
    let s = sub (pos limit) (pos hysteresis) in
    same_test limit (x + hysteresis) (pos limit -ℤ pos hysteresis) (pos x) (λ h. omega (arith, linear, s)) (λ h. omega (arith, linear, s))

-- B3: and for a low one that x is smaller than limit + hysteresis
pub low_hold : (limit hysteresis x : ℕ) → ltb x (limit + hysteresis) ≡ lt_z (pos x) (pos limit +ℤ pos hysteresis)
low_hold limit hysteresis x = refl

-- one of two tests holds where one of the differences is above 0
test_sum : (a b c d : ℕ) → T (ltb a b || ltb c d) → 0 < (b - a) + (d - c)
test_sum a b c d = by_test (ltb a b) refl
  where
    by_test : (t : Bool) → ltb a b ≡ t → T (t || ltb c d) → 0 < (b - a) + (d - c)
    by_test true e h = omega (arith, ltb-true a b e)
    by_test false e h = omega (arith, ltb→lt c d h)

sum_test : (a b c d : ℕ) → 0 < (b - a) + (d - c) → T (ltb a b || ltb c d)
sum_test a b c d h = by_test (ltb a b) refl
  where
    by_test : (t : Bool) → ltb a b ≡ t → T (t || ltb c d)
    by_test true e = tt
    by_test false e = omega (arith, lt→ltb, ltb-false a b e)

-- B3: a high alarm that was on is on exactly where x is larger than limit − hysteresis, in whole numbers: with a hysteresis above the limit that
-- is below 0, and the alarm never goes off
pub high_alarm_hold : (limit hysteresis x : ℕ) → high_alarm true limit hysteresis x ≡ lt_z (pos limit -ℤ pos hysteresis) (pos x)
high_alarm_hold limit hysteresis x =
    let edge = pos limit -ℤ pos hysteresis in
    let s = sub (pos limit) (pos hysteresis) in
    let on : T (high_alarm true limit hysteresis x) → edge <ℤ pos x = λ h. omega (arith, linear, s, test_sum) in
    let above : edge <ℤ pos x → T (high_alarm true limit hysteresis x) = λ h. omega (arith, linear, s, sum_test) in
    same _ _ (λ t. (on t).lt) (λ t. above (record { lt = t }))

-- B3: a low alarm that was on is on exactly where x is smaller than limit + hysteresis
pub low_alarm_hold : (limit hysteresis x : ℕ) → low_alarm true limit hysteresis x ≡ lt_z (pos x) (pos limit +ℤ pos hysteresis)
low_alarm_hold limit hysteresis x =
    let on : T (low_alarm true limit hysteresis x) → x < limit + hysteresis = λ h. omega (arith, test_sum) in
    let below : x < limit + hysteresis → T (low_alarm true limit hysteresis x) = λ h. omega (arith, sum_test) in
    same _ _ (λ t. lt→ltb _ _ (on t)) (λ t. below (ltb→lt _ _ t))
