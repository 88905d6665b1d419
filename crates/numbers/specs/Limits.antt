-- A number brought inside two limits, as A4 says it: itself where it is inside, else the limit that it passed.
use Rattle.std.specs.Prelude.{Bool, cond, ℕ, ltb, ℤ}
use Rattle.std.specs.Int.Signed.{lt_z}
pub mod Laws

-- A4: below the low limit that limit, above the high one the high one. For numbers of any kind, by the test `below` of their order
unfoldable pub clamp_by : {A : Type 0} → (A → A → Bool) → A → A → A → A
clamp_by below x lo hi = cond (below x lo) lo (cond (below hi x) hi x)

abbrev pub clampℕ : ℕ → ℕ → ℕ → ℕ
clampℕ x lo hi = clamp_by ltb x lo hi

abbrev pub clampℤ : ℤ → ℤ → ℤ → ℤ
clampℤ x lo hi = clamp_by lt_z x lo hi
