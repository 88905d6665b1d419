-- A test and the statement that it decides: true where the statement holds, false where it does not.
use Rattle.std.specs.Prelude.{ℕ, ◌<◌, ◌≡◌, refl, Bool, true, false, not, ◌&&◌, ◌||◌, ◌⊎◌, ltb, eqb}
use Rattle.std.proofs.Common.{sym, ◌∙◌, inl, inr, ltb-true, ltb-false, eqb-true, arith}
use Rattle.std.proofs.lemmas.Bool.{false≢true, eqb-false, not-true, not-false}

pub record Decides (test : Bool) (P : Type 0) : Type 0 where
  pub yes : test ≡ true → P
  pub no : test ≡ false → P → ⊥

-- the same statement in other words
pub in_words : {test : Bool} {P Q : Type 0} → (P → Q) → (Q → P) → Decides test P → Decides test Q
in_words to from d = record { yes = λ e. to (d.yes e); no = λ e q. d.no e (from q) }

-- ---- single tests

pub so : {P : Type 0} → P → Decides true P
so p = record { yes = λ _. p; no = λ e _. false≢true (sym e) }

pub not_so : {P : Type 0} → (P → ⊥) → Decides false P
not_so none = record { yes = λ e. absurd (false≢true e); no = λ _ p. none p }

pub is_true : (b : Bool) → Decides b (b ≡ true)
is_true b = record { yes = λ e. e; no = λ e h. false≢true (sym e ∙ h) }

pub is_false : (b : Bool) → Decides (not b) (b ≡ false)
is_false b = record { yes = not-true b; no = λ e h. false≢true (sym h ∙ not-false b e) }

pub is_less : (m n : ℕ) → Decides (ltb m n) (m < n)
is_less m n = record { yes = ltb-true m n; no = λ e h. let at_least_lem = ltb-false m n e in omega arith }

pub is_same : (m n : ℕ) → Decides (eqb m n) (m ≡ n)
is_same m n = record { yes = eqb-true m n; no = eqb-false m n }

-- ---- several

pub is_not : (a : Bool) {P : Type 0} → Decides a P → Decides (not a) (P → ⊥)
is_not a d = record { yes = λ e. d.no (not-true a e); no = λ e none. none (d.yes (not-false a e)) }

pub is_or : (a b : Bool) {P Q : Type 0} → Decides a P → Decides b Q → Decides (a || b) (P ⊎ Q)
is_or true b p q = so (inl (p.yes refl))
is_or false b {P} {Q} p q = record { yes = λ e. inr (q.yes e); no = none }
  where
    none : b ≡ false → P ⊎ Q → ⊥
    none e (inl h) = p.no refl h
    none e (inr h) = q.no e h

-- the second is asked only where the first holds
pub is_both : (a b : Bool) {P Q : Type 0} → Decides a P → (a ≡ true → Decides b Q) → Decides (a && b) (P × Q)
is_both true b p q = record { yes = λ e. (p.yes refl, (q refl).yes e); no = λ e h. (q refl).no e h.1 }
is_both false b p q = not_so (λ h. p.no refl h.0)
