-- The laws of a loop's settings.
use Rattle.std.specs.Prelude.{ℕ, ◌≤◌, ◌≡◌, false, List, [], ◌∷◌, get_or}
use Rattle.reading.specs.declared.settings.Tuning.{Tuning}
use Rattle.table.specs.Words.{bad_digit}
use Rattle.table.specs.Words.Laws.{none_at, bcd_high}
use Rattle.reading.specs.Settings.{bad_digits, tuning_of}

-- each tuning word is at most 9,999
pub record Decimals (t : Tuning) : Type 0 where
  pub period : t.period ≤ 9999
  pub gain : t.gain ≤ 9999
  pub reset : t.reset ≤ 9999
  pub rate : t.rate ≤ 9999

-- four words of good digits are at most 9,999 each
pub tuning_high : (w : List ℕ) → bad_digits w ≡ false → Decimals (tuning_of w)
unfolding bad_digits tuning_of
tuning_high w e =
    let f = none_at (bad_digit (get_or w 7 0) ∷ bad_digit (get_or w 8 0) ∷ bad_digit (get_or w 9 0) ∷ bad_digit (get_or w 10 0) ∷ []) e in
    record { period = bcd_high _ (f 0); gain = bcd_high _ (f 1); reset = bcd_high _ (f 2); rate = bcd_high _ (f 3) }
