-- A file's name as it is told, which is one line whatever bytes it holds.
use Rattle.std.specs.Prelude.{ℕ, cond, ltb, eqb}

-- a control byte is told as `?`, which is 63; 127 is the one that is not below a space
abbrev pub shown_byte : ℕ → ℕ
shown_byte b = cond (ltb b 32) 63 (cond (eqb b 127) 63 b)
