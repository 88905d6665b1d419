-- A count of one full scale in counts of another (M7), for any two full scales above 0.
use Rattle.std.specs.Prelude.{ℕ, ◌*◌, min}
use Rattle.numbers.specs.Rounding.{half_up}

-- M7: v of full scale F is v × G / F of full scale G, in the nearest count, a half up, and at most G
unfoldable pub converted : ℕ → ℕ → ℕ → ℕ
converted F G v = min (half_up (v * G) F) G
