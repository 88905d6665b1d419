-- The computed tables of the crates below, the worked files, and the laws of the hold, named here so that none of them can go unnoticed.
use Prim.Native.Nat.{ℕ}
use mathlib.Core.Path.{◌≡◌}
use mathlib.Core.Bool.{true}
use mathlib.Core.List.{List, [], map}
use lib.ListN.{length, replicate}
use lib.IntN.{pos, ◌+ℤ◌, ◌-ℤ◌}
use lib.Signed.{lt_z}
use Rattle.computed.specs.Cases.{Case, failing}
use Rattle.computed.specs.Cases.Laws.{holding, none_fails}
use Rattle.numbers.proofs.Tables as numbers
use Rattle.text.proofs.Tables as text
use Rattle.reader.specs.File.{records_of}
use Rattle.reader.proofs.Examples as reader
use Rattle.table.proofs.Examples as table
use Rattle.reading.proofs.Tables as reading
use Rattle.measuring.proofs.Examples as measuring
use Rattle.control.proofs.Examples as control
use Rattle.profile.proofs.Tables as profile
use Rattle.carried.proofs.Examples as carried
use Rattle.judging.proofs.Tables as judging
use Rattle.alarms.specs.Status.{high_alarm, low_alarm}
use Rattle.alarms.specs.Status.Laws.{high_alarm_hold, low_alarm_hold}
use Rattle.alarms.proofs.Examples as alarms
use Rattle.engine.proofs.Examples as engine
use Rattle.engine.proofs.StarredTable as starred
use Rattle.plain.proofs.Tables as plain
use Rattle.desk.proofs.Tables as desk
use Rattle.setups.specs.Setup.{bytes_from, setup_of, setup_answer, setup_left}
use Rattle.setups.proofs.Examples as setups
use Rattle.session.specs.Printed.{printed_of}
use Rattle.session.proofs.Worked as worked

-- ---- the tables: no case fails

-- where a table names no failing case, each gives what is expected
pub tables_hold : (cs : List Case) → failing cs ≡ [] → holding cs ≡ true
tables_hold = none_fails

-- A1, M7: roots and conversions
pub numbers_computed : failing numbers.cases ≡ []
numbers_computed = numbers.computed

-- L9: digits
pub digits_computed : failing text.cases ≡ []
digits_computed = text.computed

-- W1, W3, M3: single words
pub words_computed : failing table.cases ≡ []
words_computed = table.computed

-- W2, M1 to M3, A2, A3, A13, G1, G2: what a sample reads
pub readings_computed : failing reading.cases ≡ []
readings_computed = reading.computed

-- A1: the PV
pub pvs_computed : failing measuring.cases ≡ []
pvs_computed = measuring.computed

-- A5 to A9: error, terms and both forms
pub terms_computed : failing control.cases ≡ []
terms_computed = control.computed

-- G4 to G12: profiles
pub profiles_computed : failing profile.cases ≡ []
profiles_computed = profile.computed

-- H1 to H5: the record
pub records_computed : failing carried.cases ≡ []
records_computed = carried.computed

-- N7 to N9, N11 to N14: the refusals of what is read, in their order
pub refusals_computed : failing judging.cases ≡ []
refusals_computed = judging.computed

-- B1 to B8: the status word
pub statuses_computed : failing alarms.cases ≡ []
statuses_computed = alarms.computed

-- A2 to A12: a sample
pub samples_computed : failing engine.cases ≡ []
samples_computed = engine.computed

-- X1 to X3, one claim
pub starred_cases : failing starred.starred ≡ []
starred_cases = starred.all_starred

-- E3 to E5: the plain loop beside the engine
pub plains_computed : failing plain.cases ≡ []
plains_computed = plain.computed

-- Q1 to Q4, Q11, N4 to N6, A13: calls on a desk, and lists of them
pub calls_computed : failing desk.cases ≡ []
calls_computed = desk.computed

-- ---- B3: the hold of an alarm that was on, in whole numbers, where limit − hysteresis may be below 0

pub highs_held : (limit hysteresis x : ℕ) → high_alarm true limit hysteresis x ≡ lt_z (pos limit -ℤ pos hysteresis) (pos x)
highs_held = high_alarm_hold

pub lows_held : (limit hysteresis x : ℕ) → low_alarm true limit hysteresis x ≡ lt_z (pos x) (pos limit +ℤ pos hysteresis)
lows_held = low_alarm_hold

-- ---- files

-- the examples of N1 to N3
pub records_read : records_of reader.file ≡ map (λ (c : reader.Case). c.item) reader.cases
records_read = (reader.all_cases).0

-- L13, Q12, X5: words as bytes, and the answers to a setup with the room behind each
pub setups_computed : map (λ (c : setups.Case). bytes_from c.address c.words) setups.cases ≡ map (λ (c : setups.Case). c.bytes) setups.cases
setups_computed = setups.computed

pub setups_answered : map (λ (c : setups.Call). setup_answer c.words (length c.out)) setups.calls ≡ map (λ (c : setups.Call). c.answer) setups.calls
setups_answered = setups.answered

pub setups_left : map (λ (c : setups.Call). setup_left c.words c.out) setups.calls ≡ map (λ (c : setups.Call). c.left) setups.calls
setups_left = setups.left

pub setup_fullest : length (setup_of (replicate 1024 1)) ≡ 7680
setup_fullest = setups.fullest

-- X1: the worked loop's printed lines
pub worked_lines : printed_of worked.file ≡ worked.text
worked_lines = worked.worked
