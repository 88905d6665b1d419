-- A C program's turns on a desk (E1): it writes anything into the words, and then makes a call, perhaps with memory of the wrong length. It leaves the
-- numbers to the calls. The calls that only show something (`kexbardi_record`, `kexbardi_forecast`, `kexbardi_print`, `kexbardi_setup`) change no
-- desk, and are no turns.
use Rattle.std.specs.Prelude.{ℕ, cond, List, [], ◌∷◌, ◌++◌, take, drop}
use Rattle.refusals.specs.Refusals.{number_of}
use Rattle.reader.specs.File.{records_of}
use Rattle.desk.specs.Desk.{Desk, lent, fitting_of}
use Rattle.desk.specs.Lists.{Call, answer_to, desk_after, Plains, fed, plains_behind}
use Rattle.session.specs.Session.{calls_of, ended_of, left_of}
use Rattle.kexbardi_files.specs.Files.{ended_by}

-- E1: a reset, a store or a sample; or a whole drill file
pub data Made : Type 0 where
  one : Call → Made
  file : List ℕ → Made

-- E1: the words as the caller changes them, of any length; how many of the numbers are lent (224 for a sound call); the call
pub record Turn : Type 0 where
  pub outside : List ℕ → List ℕ
  pub lending : ℕ
  pub made : Made

-- E1: the memory that the call is lent
abbrev pub found : Desk → Turn → Desk
found d t = lent (t.outside d.words) (take t.lending d.numbers)

-- Q1 to Q3, Q5: what the call answers, and leaves of it
unfoldable pub number_to : Desk → Made → ℕ
number_to d (one call) = number_of (answer_to d call)
number_to d (file bytes) = (ended_by (ended_of bytes d) 0 0).number

unfoldable pub made_left : Desk → Made → Desk
made_left d (one call) = desk_after d call
made_left d (file bytes) = left_of bytes d

-- E1: the desk after the turn: the numbers that were not lent stand behind those that were
abbrev pub behind : Desk → Turn → Desk
behind d t = let e = made_left (found d t) t.made in lent e.words (e.numbers ++ drop t.lending d.numbers)

-- E1: the desk after a list of turns
unfoldable pub behind_all : Desk → List Turn → Desk
behind_all d [] = d
behind_all d (t ∷ ts) = behind_all (behind d t) ts

-- E1, E3: the plain loops after a call; a file counts as its records, where its memory has its lengths
unfoldable pub fed_made : Plains → Desk → Made → Plains
fed_made qs d (one call) = fed qs d call
fed_made qs d (file bytes) = cond (fitting_of d) (plains_behind qs d (calls_of (records_of bytes))) qs

-- E1, E3: and after a list of turns
unfoldable pub fed_all : Plains → Desk → List Turn → Plains
fed_all qs d [] = qs
fed_all qs d (t ∷ ts) = fed_all (fed_made qs (found d t) t.made) (behind d t) ts
