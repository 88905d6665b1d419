-- What `drill` prints of a file (L9 to L11): a line for each record, and the last line.
use Rattle.std.specs.Prelude.{ℕ, ◌+◌, ◌*◌, cond, List, [], ◌∷◌, ◌++◌, length, ltb}
use Rattle.text.specs.Text.{bytes}
use Rattle.reader.specs.File.{Item, records_of}
use Rattle.desk.specs.Desk.{reset_desk}
use Rattle.lines.specs.Lines.{line_text, last_text}
use Rattle.session.specs.Session.{number_for, shown_for, State, begun, after}

-- L9, L10: the lines of some records from a state on, the last line with them
unfoldable pub lines_of : State → List Item → List ℕ
lines_of t [] = last_text t.count t.refused
lines_of t (x ∷ xs) =
    line_text (t.count + 1) x (number_for t.desk x) (shown_for t.desk x) ++ lines_of (after t x) xs

-- L9: the lines of the records alone
unfoldable pub body_of : State → List Item → List ℕ
body_of t [] = []
body_of t (x ∷ xs) =
    line_text (t.count + 1) x (number_for t.desk x) (shown_for t.desk x) ++ body_of (after t x) xs

-- L11: the text of a file that is too long
abbrev pub too_long_line : List ℕ
too_long_line = bytes "too long\n"

-- L9 to L11: what is printed of a file, from reset; up to 65,536 bytes are taken (L1)
unfoldable pub printed_of : List ℕ → List ℕ
printed_of file = cond (ltb 65536 (length file)) too_long_line (lines_of (begun reset_desk) (records_of file))

-- Q6: a text that is written only where there is room for some number of bytes
abbrev pub with_room : ℕ → ℕ → List ℕ → List ℕ
with_room room need text = cond (ltb room need) [] text

-- Q6: the room that is asked for: ten bytes for each byte of the file, and 100 for the last line and a record cut after one byte
abbrev pub room_for : List ℕ → ℕ
room_for file = cond (ltb 65536 (length file)) 9 (10 * length file + 100)

-- Q6: what is printed into a buffer of some length
unfoldable pub printed_within : ℕ → List ℕ → List ℕ
printed_within room file = with_room room (room_for file) (printed_of file)
