-- The laws of texts that proofs here and above cite in place of the definitions.
use Prim.Native.Nat.{ℕ, zero, suc, ◌+◌, ◌-◌, ◌*◌, ◌/◌, ◌%◌, ◌^◌, ◌≤◌, ◌<◌}
use Rattle.std.specs.Prelude.{◌≡◌, Bool, List, [], ◌∷◌, ◌++◌, length, get_or, set, take}
use Rattle.std.proofs.Math.Path.{refl}
use Rattle.std.proofs.Common.{sym, ap, ◌∙◌, append_assoc, add-zero, add-suc, suc-add, pow-suc, add-one, arith, length-append, take_at}
use Rattle.std.proofs.Math.Bool.{true, false}
use Rattle.std.proofs.Math.Nat.{div-div-eq-div-mul}
use Rattle.std.proofs.Math.Numerals.{add-two, add-three}
use Rattle.std.proofs.lemmas.List.Edits.{sets, sets-eq}
use Rattle.std.proofs.lemmas.List.{set_comm}
use Rattle.std.proofs.Math.Dec.{ltb}
use borrow.Author.Tests.{lt-ltb, le-ltb, ltb-true, ltb-false}
use Rattle.text.specs.Text.{Written, last_digit, digits_within, decimal_of, two_digits, read_from, read_decimal, hex_digit, hex_of, hex_value, read_hex}

-- two texts in a row are their join
pub sets_append : (l : List ℕ) (i : ℕ) (a b : List ℕ) → sets (sets l i a) (i + length a) b ≡ sets l i (a ++ b)
sets_append l i [] b = rw add-zero
sets_append l i (x ∷ a) b = rw (add-suc, ← suc-add) (sets_append (set l i x) (suc i) a b)

-- the same of Written
pub written_append : {l a m b r : List ℕ} {i j k : ℕ} → Written l i a m j → Written m j b r k → Written l i (a ++ b) r k
written_append {l} {a} {m} {b} {r} {i} {j} {k} p q = record {
  buffer = q.buffer ∙ rw (p.buffer, p.place) (sets_append l i a b);
  place = simp length-append (omega arith);
}

-- a byte is stored, and then a text in front of it
pub sets_behind : (l : List ℕ) (i : ℕ) (a : List ℕ) (x : ℕ) → sets (set l (i + length a) x) i a ≡ sets l i (a ++ (x ∷ []))
sets_behind l i [] x = rw add-zero
sets_behind l i (y ∷ a) x =
    rw (add-suc, ← suc-add, set_comm l (suc i + length a) i x y (λ e. omega arith)) (sets_behind (set l i y) (suc i) a x)

-- four bytes stored one by one
pub sets_four : (l : List ℕ) (i : ℕ) {a b c d a' b' c' d' : ℕ} → a ≡ a' → b ≡ b' → c ≡ c' → d ≡ d'
    → set (set (set (set l i a) (i + 1) b) (i + 2) c) (i + 3) d ≡ sets l i (a' ∷ b' ∷ c' ∷ d' ∷ [])
sets_four l i ea eb ec ed = rw (add-one i, add-two i, add-three i, ea, eb, ec, ed)

-- the front of a buffer that a text was written to
pub take_sets : (l t : List ℕ) → length t ≤ length l → take (length t) (sets l 0 t) ≡ t
take_sets l t h = rw (sets-eq t l 0 (omega arith)) (take_at t _ _ refl)

-- induction over the decimal digits: what holds of the numbers below 10, and of n where it holds of n / 10, holds of every number
module _ (P : ℕ → List ℕ → Type 0)
    (one : (n : ℕ) → n < 10 → P n (last_digit n ∷ []))
    (more : (n : ℕ) (t : List ℕ) → 10 ≤ n → P (n / 10) t → P n (t ++ (last_digit n ∷ []))) where
  digits_within_lem : (limit n : ℕ) → n ≤ limit → P n (digits_within limit n)
  unfolding digits_within
  digits_within_lem zero n h = one n (omega arith)
  digits_within_lem (suc limit) n h = go (ltb n 10) refl (digits_within_lem limit (n / 10))
    where
      go : (b : Bool) → ltb n 10 ≡ b → (n / 10 ≤ limit → P (n / 10) (digits_within limit (n / 10))) → P n (digits_within (suc limit) n)
      go true e ih = rw e (one n (ltb-true n 10 e))
      go false e ih = let k : 10 ≤ n = ltb-false n 10 e in rw e (more n _ k (ih (omega arith)))

  pub digits_all : (n : ℕ) → P n (decimal_of n)
  unfolding decimal_of
  digits_all n = digits_within_lem n n (omega arith)

-- any limit that is large enough gives the same digits
digits_limit : (n limit : ℕ) → n ≤ limit → digits_within limit n ≡ decimal_of n
unfolding digits_within
digits_limit = digits_all (λ n t. (limit : ℕ) → n ≤ limit → digits_within limit n ≡ t) one more
  where
    one : (n : ℕ) → n < 10 → (limit : ℕ) → n ≤ limit → digits_within limit n ≡ last_digit n ∷ []
    one n h zero k = refl
    one n h (suc limit) k = rw (lt-ltb n 10 h)

    more : (n : ℕ) (t : List ℕ) → 10 ≤ n → ((limit : ℕ) → n / 10 ≤ limit → digits_within limit (n / 10) ≡ t)
        → (limit : ℕ) → n ≤ limit → digits_within limit n ≡ t ++ (last_digit n ∷ [])
    more n t h ih zero k = absurd (omega arith)
    more n t h ih (suc limit) k = rw (le-ltb n 10 h, ih limit (omega arith))

-- the digits of a number below 10
pub decimal_one : (n : ℕ) → n < 10 → decimal_of n ≡ last_digit n ∷ []
unfolding digits_within
decimal_one n h = sym (digits_limit n (suc n) (omega arith)) ∙ rw (lt-ltb n 10 h)

-- the digits of a number from 10 on
pub decimal_more : (n : ℕ) → 10 ≤ n → decimal_of n ≡ decimal_of (n / 10) ++ (last_digit n ∷ [])
unfolding digits_within
decimal_more n h = sym (digits_limit n (suc n) (omega arith)) ∙ rw (le-ltb n 10 h, digits_limit (n / 10) n (omega arith))

-- the digits of a number of two
pub decimal_two : (n : ℕ) → 10 ≤ n → n < 100 → decimal_of n ≡ two_digits n
decimal_two n h k =
    let e : n / 10 % 10 ≡ n / 10 = omega arith in
    decimal_more n h ∙ rw (decimal_one (n / 10) (omega arith), e)

-- the last two digits behind those of n / 100
pub decimal_behind : (n : ℕ) → 100 ≤ n → decimal_of n ≡ decimal_of (n / 100) ++ two_digits (n % 100)
decimal_behind n h =
    let e : n / 10 / 10 ≡ n / 100 = omega arith in
    let tens : n / 10 % 10 ≡ n % 100 / 10 = omega arith in
    let ones : n % 10 ≡ n % 100 % 10 = omega arith in
    decimal_more n (omega arith)
    ∙ rw (decimal_more (n / 10) (omega arith), e, tens, ones) (append_assoc (decimal_of (n / 100)) _ _)

-- so the last two are written behind the others
pub width_behind : (n : ℕ) → 100 ≤ n → length (decimal_of n) ≡ length (decimal_of (n / 100)) + 2
width_behind n h = simp length-append at (ap length (decimal_behind n h))

pub written_behind : {l m r : List ℕ} {i j k : ℕ} (n : ℕ) → 100 ≤ n → Written l i (decimal_of (n / 100)) m j
    → Written m j (two_digits (n % 100)) r k → Written l i (decimal_of n) r k
written_behind n h p q = rw (decimal_behind n h) (written_append p q)

-- a number below 10 ^ suc k has at most suc k digits
pub decimal_length : (k n : ℕ) → n < 10 ^ suc k → length (decimal_of n) ≤ suc k
decimal_length k n = digits_all (λ n t. (k : ℕ) → n < 10 ^ suc k → length t ≤ suc k) (λ n h k _. omega arith) more n k
  where
    more : (n : ℕ) (t : List ℕ) → 10 ≤ n → ((k : ℕ) → n / 10 < 10 ^ suc k → length t ≤ suc k)
        → (k : ℕ) → n < 10 ^ suc k → length (t ++ (last_digit n ∷ [])) ≤ suc k
    more n t h ih zero l = absurd (omega arith)
    more n t h ih (suc k) l = simp length-append (omega (arith, ih k (omega (arith, pow-suc 10 (suc k)))))

ten_some : (k : ℕ) → 0 < 10 ^ k
ten_some zero = omega arith
ten_some (suc k) = omega (arith, pow-suc 10 k, ten_some k)

-- one of 10 ^ k or more has more than k
pub decimal_longer : (k n : ℕ) → 10 ^ k ≤ n → k < length (decimal_of n)
decimal_longer k n = digits_all (λ n t. (k : ℕ) → 10 ^ k ≤ n → k < length t) one more n k
  where
    one : (n : ℕ) → n < 10 → (k : ℕ) → 10 ^ k ≤ n → k < 1
    one n h zero l = omega arith
    one n h (suc k) l = absurd (omega (arith, pow-suc 10 k, ten_some k))

    more : (n : ℕ) (t : List ℕ) → 10 ≤ n → ((k : ℕ) → 10 ^ k ≤ n / 10 → k < length t) → (k : ℕ) → 10 ^ k ≤ n → k < length (t ++ (last_digit n ∷ []))
    more n t h ih zero l = simp length-append (omega arith)
    more n t h ih (suc k) l = simp length-append (omega (arith, ih k (omega (arith, pow-suc 10 k))))

-- so a number from 10 ^ k on, below the next power, has one digit more than k
pub decimal_width : (k n : ℕ) → 10 ^ k ≤ n → n < 10 * 10 ^ k → length (decimal_of n) ≡ k + 1
decimal_width k n low high = omega (arith, decimal_longer k n low, decimal_length k n (omega (arith, pow-suc 10 k)))

-- what is read of two texts in a row
read_append : (value : ℕ) (a b : List ℕ) → read_from value (a ++ b) ≡ read_from (read_from value a) b
unfolding read_from
read_append value [] b = refl
read_append value (digit ∷ a) b = read_append (10 * value + (digit - 48)) a b

-- the decimal digits read back to the number
pub decimal_reads_back : (n : ℕ) → read_decimal (decimal_of n) ≡ n
unfolding read_decimal read_from
decimal_reads_back =
    digits_all (λ n t. read_decimal t ≡ n) (λ n h. omega arith) (λ n t h ih. rw (read_append 0 t (last_digit n ∷ [])) (omega (arith, ih)))

-- a byte that is a decimal digit
abbrev pub IsDigit : ℕ → Type 0
IsDigit x = (48 ≤ x) × (x ≤ 57)

-- digits, and one more behind them
digits_behind : (t : List ℕ) (x : ℕ) → ((i : ℕ) → i < length t → IsDigit (get_or t i 0)) → IsDigit x
    → (i : ℕ) → i < length (t ++ (x ∷ [])) → IsDigit (get_or (t ++ (x ∷ [])) i 0)
digits_behind [] x all last zero h = last
digits_behind [] x all last (suc i) h = absurd (omega arith)
digits_behind (y ∷ t) x all last zero h = all zero (omega arith)
digits_behind (y ∷ t) x all last (suc i) h = digits_behind t x (λ j k. all (suc j) (omega arith)) last i (omega arith)

-- every byte of a decimal is a digit
pub decimal_digits : (n i : ℕ) → i < length (decimal_of n) → IsDigit (get_or (decimal_of n) i 0)
decimal_digits =
    digits_all (λ n t. (i : ℕ) → i < length t → IsDigit (get_or t i 0))
    (λ n h. digits_behind [] _ (λ i k. absurd (omega arith)) (omega arith))
    (λ n t h ih. digits_behind t _ ih (omega arith))

-- a decimal has a first digit, and that is no zero unless the number is 0
first_digit : (n : ℕ) → (0 < length (decimal_of n)) × (0 < n → 48 < get_or (decimal_of n) 0 0)
first_digit = digits_all (λ n t. (0 < length t) × (0 < n → 48 < get_or t 0 0)) (λ n h. (omega arith, λ k. omega arith)) more
  where
    more : (n : ℕ) (t : List ℕ) → 10 ≤ n → (0 < length t) × (0 < n / 10 → 48 < get_or t 0 0)
        → (0 < length (t ++ (last_digit n ∷ []))) × (0 < n → 48 < get_or (t ++ (last_digit n ∷ [])) 0 0)
    more n [] h ih = absurd (omega arith)
    more n (x ∷ t) h ih = (omega arith, λ k. ih.1 (omega arith))

-- a decimal has one digit at least
pub decimal_some : (n : ℕ) → 0 < length (decimal_of n)
decimal_some n = (first_digit n).0

-- the first digit of any other number is no zero
pub decimal_no_zero : (n : ℕ) → 0 < n → get_or (decimal_of n) 0 0 ≡ 48 → ⊥
decimal_no_zero n h e = omega (arith, (first_digit n).1 h)

-- the decimal of 0 is one zero
pub decimal_zero : decimal_of 0 ≡ 48 ∷ []
decimal_zero = decimal_one 0 (omega arith)

-- a hexadecimal digit says its number
hex_value_lem : (d : ℕ) → d < 16 → hex_value (hex_digit d) ≡ d
hex_value_lem d h = go (ltb d 10) refl
  where
    go : (b : Bool) → ltb d 10 ≡ b → hex_value (hex_digit d) ≡ d
    go true e = let k : d < 10 = ltb-true d 10 e in rw (e, lt-ltb (48 + d) 58 (omega arith)) (omega arith)
    go false e = let k : 10 ≤ d = ltb-false d 10 e in rw (e, le-ltb (55 + d) 58 (omega arith)) (omega arith)

-- the four hexadecimal digits read back to the word
pub hex_reads_back : (n : ℕ) → n < 65536 → read_hex (hex_of n) ≡ n
hex_reads_back n h =
    let second : n / 16 ≡ 16 * (n / 256) + n / 16 % 16 = omega (arith, div-div-eq-div-mul n 16 16) in
    let third : n / 256 ≡ 16 * (n / 4096) + n / 256 % 16 = omega (arith, div-div-eq-div-mul n 256 16) in
    rw (hex_value_lem (n / 4096 % 16) (omega arith), hex_value_lem (n / 256 % 16) (omega arith), hex_value_lem (n / 16 % 16) (omega arith))
    (rw (hex_value_lem (n % 16) (omega arith)) (omega arith))
