-- A7: the terms, first exact, as fractions of a count, and then rounded to the nearest unit. Settings are in hundredths.
use Rattle.std.specs.Prelude.{ℕ, ◌*◌, Bool, cond, eqb, ℤ, pos, neg_ℤ, ◌*ℤ◌}
use Rattle.numbers.specs.Fractions.{Fraction, over, whole, negᶠ, round_to}
use Rattle.reading.specs.declared.settings.Tuning.{Tuning}
use Rattle.control.specs.declared.terms.Inputs.{Inputs}
use Rattle.control.specs.declared.terms.Terms.{Terms}
pub mod Laws

-- A7: c, the gain of I and D: a gain of 0 counts as 1.00
abbrev pub factor_of : ℕ → ℕ
factor_of g = cond (eqb g 0) 100 g

-- A7: P of what it acts on
unfoldable pub exact_p : ℕ → ℤ → Fraction
exact_p g e = over (pos g *ℤ e) 100

-- A7: I, none at a reset time of 99.99, in minutes too
unfoldable pub exact_i : ℕ → ℕ → ℕ → Bool → ℤ → Fraction
exact_i c t i minutes e = cond (eqb i 9999) (whole (pos 0)) (over (pos (c * t) *ℤ e) (100 * cond minutes (60 * i) i))

-- A7: D of the change
unfoldable pub exact_d : ℕ → ℕ → ℕ → ℤ → Fraction
exact_d c d t change = over (pos (c * d) *ℤ change) (100 * t)

-- A7: reverse acting changes the sign of a term
abbrev pub directedᶠ : Bool → Fraction → Fraction
directedᶠ reverse x = cond reverse (negᶠ x) x

-- the same of rounded terms
abbrev pub negated : Terms → Terms
negated t = record { p = neg_ℤ t.p; i = neg_ℤ t.i; d = neg_ℤ t.d }

-- A7: the three, exact
pub record Exact : Type 0 where
  pub p : Fraction
  pub i : Fraction
  pub d : Fraction

-- A7: of tuning, minutes, reverse, and what each acts on
unfoldable pub exact_terms : Tuning → Bool → Bool → Inputs → Exact
exact_terms t minutes reverse x =
    let c = factor_of t.gain in
    record {
      p = directedᶠ reverse (exact_p t.gain x.p);
      i = directedᶠ reverse (exact_i c t.period t.reset minutes x.i);
      d = directedᶠ reverse (exact_d c t.rate t.period x.d);
    }

-- A7: each in the nearest unit, rounded once
unfoldable pub terms_of : Tuning → Bool → Bool → Inputs → Terms
terms_of t minutes reverse x =
    let exact = exact_terms t minutes reverse x in
    record { p = round_to 262144 exact.p; i = round_to 262144 exact.i; d = round_to 262144 exact.d }
