-- A count of the bytes at the start of a buffer.
use Rattle.std.specs.Prelude.{ℕ, ◌≤◌, ◌≡◌, List, length, take, Ok, Err}
use Rattle.std.specs.declared.result.Result.{Result}
use Rattle.streams.specs.declared.reading.ReadError.{ReadError}

-- the first n bytes of xs are there, and are n bytes (which follows; a caller that takes them then owes nothing)
abbrev pub IsPrefixLen : ℕ → List ℕ → Type 0
IsPrefixLen n xs = (n ≤ length xs) × (n ≡ length (take n xs))

-- how many bytes were read, until a read failed where one did
abbrev pub count_of : Result ℕ ReadError → ℕ
count_of (Ok n) = n
count_of (Err e) = e.count
