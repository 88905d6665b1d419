-- The computed examples of the crates below, named here so that none of them can go unnoticed.
use mathlib.Core.Path.{◌≡◌}
use mathlib.Core.List.{[], ◌∷◌, ◌++◌, map}
use lib.ListN.{length, replicate}
use Rattle.numbers.specs.Scales.{converted}
use Rattle.numbers.specs.Roots.{root_of}
use Rattle.numbers.proofs.Examples as numbers
use Rattle.reader.specs.File.{records_of}
use Rattle.reader.proofs.Examples as reader
use Rattle.table.specs.declared.mode.Mode.TheVariants.{Manual, Automatic, Cascade}
use Rattle.reading.specs.Transfers.{major_of}
use Rattle.reading.proofs.Examples as table
use Rattle.judging.proofs.Examples as judging
use Rattle.profile.proofs.Examples as profile
use Rattle.engine.proofs.Starred as starred
use Rattle.plain.proofs.Examples as plain
use Rattle.desk.proofs.Examples as desk
use Rattle.setups.specs.Setup.{bytes_from, setup_of, setup_answer, setup_left}
use Rattle.setups.proofs.Examples as setups
use Rattle.session.specs.Printed.{printed_of}
use Rattle.session.proofs.Worked as worked

-- A1, X4: roots next to r × r + r, at squares, and at the ends
pub roots_computed : map (λ (c : numbers.Case). root_of c.v) numbers.cases ≡ map (λ (c : numbers.Case). c.root) numbers.cases
roots_computed = numbers.computed

-- M7: conversions between the engine's scales and others, with halves among them
pub conversions_computed : map (λ (c : numbers.Conversion). converted c.F c.G c.v) numbers.conversions
    ≡ map (λ (c : numbers.Conversion). c.count) numbers.conversions
conversions_computed = numbers.computed_conversions

-- the examples of N1 to N3
pub records_read : records_of reader.file ≡ map (λ (c : reader.Case). c.item) reader.cases
records_read = (reader.all_cases).0

-- N11: which loop is the major one
pub majors_found : map (major_of 2) table.pointers ≡ 1 ∷ 3 ∷ 16 ∷ 0 ∷ 0 ∷ 0 ∷ 0 ∷ 0 ∷ 0 ∷ 0 ∷ 0 ∷ []
majors_found = table.majors

-- M3: the two full scales of mode 2 words
pub scales_read : map table.scales table.words
    ≡ (4095 ∷ 4095 ∷ []) ∷ (32767 ∷ 32767 ∷ []) ∷ (65535 ∷ 65535 ∷ []) ∷ (65535 ∷ 65535 ∷ [])
    ∷ (4095 ∷ 4095 ∷ []) ∷ (32767 ∷ 32767 ∷ []) ∷ (4095 ∷ 65535 ∷ []) ∷ (32767 ∷ 65535 ∷ []) ∷ (65535 ∷ 4095 ∷ []) ∷ (65535 ∷ 32767 ∷ []) ∷ []
scales_read = table.full_scales

-- N7 to N9 at their edges
pub settings_judged : let cases = judging.cases ++ judging.tables in map (judging.answer_from Manual) cases ≡ map (λ (c : judging.Case). c.number) cases
settings_judged = judging.computed

-- N11 at its edges, from Automatic; from Manual and in Cascade the same sample is no transfer
pub transfers_judged : (map (judging.answer_from Automatic) judging.handing ≡ map (λ (c : judging.Case). c.number) judging.handing)
    × (judging.answer_from Manual judging.low_pv ≡ 0) × (judging.answer_from Cascade judging.low_pv ≡ 0)
transfers_judged = judging.computed_handing

-- G4 to G12: a profile, sample by sample
pub profile_moved : profile.rows profile.fresh 0 profile.oven ≡ profile.expected profile.oven
profile_moved = profile.computed

-- X1 to X3, and the worked loop in two formats, one claim
pub starred_cases : let cases = starred.starred ++ starred.formats in map starred.given cases ≡ map (λ (x : starred.Case). x.answers) cases
starred_cases = starred.all_starred

-- E3 to E5: the plain loop beside the engine
pub plain_lists : map plain.from_reset (plain.loop_a ∷ plain.counting ∷ plain.entered ∷ plain.cascaded ∷ plain.formats ∷ [])
    ≡ map (map plain.expected) (plain.loop_a ∷ plain.counting ∷ plain.entered ∷ plain.cascaded ∷ plain.formats ∷ [])
plain_lists = plain.computed

-- lists of calls on a desk, and A13, N11: a cascade
pub desk_lists : map desk.from_reset (desk.mixed ∷ desk.transfers ∷ []) ≡ map (map desk.expected) (desk.mixed ∷ desk.transfers ∷ [])
desk_lists = desk.computed

-- L13, Q12, X5: words as bytes, and the answers to a setup with the room behind each
pub setups_computed : map (λ (c : setups.Case). bytes_from c.address c.words) setups.cases ≡ map (λ (c : setups.Case). c.bytes) setups.cases
setups_computed = setups.computed

pub setups_answered : map (λ (c : setups.Call). setup_answer c.words (length c.out)) setups.calls ≡ map (λ (c : setups.Call). c.answer) setups.calls
setups_answered = setups.answered

pub setups_left : map (λ (c : setups.Call). setup_left c.words c.out) setups.calls ≡ map (λ (c : setups.Call). c.left) setups.calls
setups_left = setups.left

pub setup_fullest : length (setup_of (replicate 1024 1)) ≡ 7680
setup_fullest = setups.fullest

-- X1: the worked loop's printed lines
pub worked_lines : printed_of worked.file ≡ worked.text
worked_lines = worked.worked
