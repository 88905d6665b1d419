-- The laws of words and of lists of tests.
use Rattle.std.specs.Prelude.{ℕ, zero, suc, ◌+◌, ◌*◌, ◌/◌, ◌%◌, ◌^◌, ◌≤◌, ◌<◌, ◌≡◌, refl, Bool, true, false, cond, ◌&&◌, ◌||◌, List, [], ◌∷◌, length, get_or, set, drop, ltb}
use Rattle.std.proofs.Common.{arith, add-sub_of_le, sym, ◌∙◌, length-take, length-drop, length-set, ext_get_or, get_or-take, get_or-drop, get_or-set_other, shr-shr, ltb-false}
use Rattle.std.proofs.lemmas.Nat.{shl-shr}
use Rattle.table.specs.declared.format.Format.{Format}
use Rattle.table.specs.Words.{bit, bcd, bad_digit, clear_requests, format_by, input_format, output_format, block_at, any, any_after}

pub or_false : (a b : Bool) → (a || b) ≡ false → (a ≡ false) × (b ≡ false)
or_false true b e = let z : true ≡ false = e in (z, cc)
or_false false b e = (refl, e)

pub and_true : (a b : Bool) → (a && b) ≡ true → (a ≡ true) × (b ≡ true)
and_true true b e = (refl, e)
and_true false b e = let z : false ≡ true = e in (z, cc)

test_at : (x : Bool) (l : List Bool) → x ≡ false → ((i : ℕ) → get_or l i false ≡ false) → (i : ℕ) → get_or (x ∷ l) i false ≡ false
test_at x l p q zero = p
test_at x l p q (suc i) = q i

none_after : (l : List Bool) (b : Bool) → any_after b l ≡ false → (b ≡ false) × ((i : ℕ) → get_or l i false ≡ false)
none_after [] b e = (e, λ i. refl)
none_after (x ∷ l) b e =
    let p = none_after l (b || x) e in
    let q = or_false b x p.0 in
    (q.0, test_at x l q.1 p.1)

-- where no test of a list holds, each is false
pub none_at : (l : List Bool) → any l ≡ false → (i : ℕ) → get_or l i false ≡ false
none_at [] e i = refl
none_at (x ∷ l) e i = let p = none_after l x e in test_at x l p.0 p.1 i

-- four good digits are at most 9,999
pub bcd_high : (word : ℕ) → bad_digit word ≡ false → bcd word ≤ 9999
unfolding bcd bad_digit
bcd_high word e =
    let f = none_at (ltb 9 (word / 4096 % 16) ∷ ltb 9 (word / 256 % 16) ∷ ltb 9 (word / 16 % 16) ∷ ltb 9 (word % 16) ∷ []) e in
    omega (arith, ltb-false, f 0, f 1, f 2, f 3)

chosen : (P : ℕ → Type 0) (b : Bool) {f g : Format} → P f.scale → P g.scale → P (cond b f g).scale
chosen P true p q = p
chosen P false p q = q

-- what holds of the three full scales holds of a format's, and of the two that a word gives
scale_is : (P : ℕ → Type 0) → P 65535 → P 32767 → P 4095 → (sixteen fifteen : Bool) → P (format_by sixteen fifteen).scale
scale_is P p q r sixteen fifteen = chosen P sixteen p (chosen P fifteen q r)

-- a full scale is a word, and not 0
pub record Scaled (f : Format) : Type 0 where
  pub low : 4095 ≤ f.scale
  pub high : f.scale ≤ 65535

format_scaled : (sixteen fifteen : Bool) → Scaled (format_by sixteen fifteen)
format_scaled sixteen fifteen = record {
  low = scale_is (λ n. 4095 ≤ n) (omega arith) (omega arith) (omega arith) sixteen fifteen;
  high = scale_is (λ n. n ≤ 65535) (omega arith) (omega arith) (omega arith) sixteen fifteen;
}

pub input_scaled : (word : ℕ) → Scaled (input_format word)
input_scaled word = format_scaled (bit 9 word) (bit 1 word)

pub output_scaled : (word : ℕ) → Scaled (output_format word (input_format word))
output_scaled word = go (bit 10 word)
  where
    go : (separate : Bool) → Scaled (cond separate (format_by (bit 13 word) (bit 12 word)) (input_format word))
    go true = format_scaled (bit 13 word) (bit 12 word)
    go false = input_scaled word

even : (word k : ℕ) → k < 3 → word / 8 * 8 / 2 ^ k % 2 ≡ 0
even word zero h = omega arith
even word (suc zero) h = omega arith
even word (suc (suc zero)) h = omega arith
even word (suc (suc (suc k))) h = omega arith

-- bits 0 to 2, the requests, are cleared
pub clear_low : (word k : ℕ) → k < 3 → bit k (clear_requests word) ≡ false
clear_low word k h = rw (even word k h)

-- the other bits are kept
pub clear_high : (word k : ℕ) → 3 ≤ k → bit k (clear_requests word) ≡ bit k word
clear_high word k h = rw (← add-sub_of_le h, ← shr-shr word 3, ← shr-shr (word / 8 * 8) 3, shl-shr (word / 8) 3)

-- word i of a block is word base + i of the table
pub block_at_lem : (words : List ℕ) (base i : ℕ) → i < 32 → get_or (block_at words base) i 0 ≡ get_or words (base + i) 0
block_at_lem words base i h = rw (get_or-take, get_or-drop)

-- a block has 32 words
pub block_length : (words : List ℕ) (base : ℕ) → base + 32 ≤ length words → length (block_at words base) ≡ 32
block_length words base h = simp (length-take, length-drop) (omega arith)

-- a word stored outside a block leaves it
pub block_apart : (ws : List ℕ) (base i v : ℕ) → ((n : ℕ) → n < 32 → base + n ≡ i → ⊥) → block_at (set ws i v) base ≡ block_at ws base
block_apart ws base i v other =
    ext_get_or 0 _ _ (simp (length-take, length-drop, length-set)) at
  where
    at : (n : ℕ) → n < length (block_at (set ws i v) base) → get_or (block_at (set ws i v) base) n 0 ≡ get_or (block_at ws base) n 0
    at n h =
        let few : n < 32 = omega (arith, length-take 32 (drop base (set ws i v))) in
        block_at_lem (set ws i v) base n few ∙ get_or-set_other ws i (base + n) v 0 (other n few) ∙ sym (block_at_lem ws base n few)
