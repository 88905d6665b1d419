-- The lines that `drill` prints (L9, L10).
use Rattle.std.specs.Prelude.{ℕ, cond, List, [], ◌++◌, get_or, eqb, Ok, Err}
use Rattle.text.specs.Text.{bytes, decimal_of, hex_of}
use Rattle.reader.specs.declared.Record.TheVariants.{Store, Sample}
use Rattle.reader.specs.File.{Item}

-- L9: a word, with the spaces around it, and a decimal number
abbrev pub field_text : List ℕ → ℕ → List ℕ
field_text word n = word ++ decimal_of n

-- L9: a store: address and value
abbrev pub set_text : ℕ → ℕ → List ℕ
set_text address value = field_text (bytes " set ") address ++ field_text (bytes " ") value

-- L9: a sample: the loop's number, and what is shown of it: setpoint, PV, output, and the status in hexadecimal
abbrev pub loop_text : ℕ → List ℕ → List ℕ
loop_text k shown =
    field_text (bytes " loop ") k
    ++ field_text (bytes " sp ") (get_or shown 0 0)
    ++ field_text (bytes " pv ") (get_or shown 1 0)
    ++ field_text (bytes " out ") (get_or shown 2 0)
    ++ (bytes " word " ++ hex_of (get_or shown 3 0))

-- L9: a refusal
abbrev pub refused_text : ℕ → List ℕ
refused_text number = field_text (bytes " refused ") number

-- L9: a record that is carried out. One that the reader refuses never is
abbrev pub accepted_text : Item → List ℕ → List ℕ
accepted_text (Ok (Store address value)) shown = set_text address value
accepted_text (Ok (Sample k raw)) shown = loop_text k shown
accepted_text (Err why) shown = []

-- L9: a record with the number of its answer
abbrev pub said_text : Item → ℕ → List ℕ → List ℕ
said_text x number shown = cond (eqb number 0) (accepted_text x shown) (refused_text number)

-- L9: the line of the n-th record
unfoldable pub line_text : ℕ → Item → ℕ → List ℕ → List ℕ
line_text n x number shown = decimal_of n ++ said_text x number shown ++ bytes "\n"

-- L10: the last line, which counts the records and those of them that were refused
unfoldable pub last_text : ℕ → ℕ → List ℕ
last_text n m = decimal_of n ++ bytes " records, " ++ decimal_of m ++ bytes " refused\n"
