-- A line on standard error, without and with the system's reason.
use Rattle.std.specs.Prelude.{ℕ, List, [], ◌∷◌, ◌++◌}
use Rattle.text.specs.Text.{bytes}

-- L12: the program's name, and what went wrong
abbrev pub told_of : List ℕ → List ℕ → List ℕ
told_of program what = program ++ (bytes ": " ++ what)

-- L12: the program's name, what failed, the reason, and a line feed
abbrev pub failure_of : List ℕ → List ℕ → List ℕ → List ℕ
failure_of program what reason = told_of program what ++ (bytes ": " ++ (reason ++ (10 ∷ [])))
