-- What moves the output: A6 to A9, from where A4 starts bias and output. p and the last PVs that the terms compare are in counts of the output (M7).
use Rattle.std.specs.Prelude.{ℕ, ◌*◌, Bool, cond, not, ◌||◌, ℤ, pos, ◌+ℤ◌, ◌-ℤ◌}
use Rattle.numbers.specs.Limits.{clampℕ}
use Rattle.numbers.specs.Rounding.{units_of}
use Rattle.reading.specs.declared.settings.Mode2.{Mode2}
use Rattle.reading.specs.declared.settings.Settings.{Settings}
use Rattle.reading.specs.declared.reading.Reading.{Reading}
use Rattle.table.specs.Modes.{is_manual}
use Rattle.control.specs.declared.terms.Inputs.{Inputs}
use Rattle.control.specs.declared.terms.Terms.{Terms}
use Rattle.control.specs.declared.forms.Drive.{Drive}
use Rattle.control.specs.Counts.{output_counts}
use Rattle.control.specs.Terms.{terms_of}
use Rattle.control.specs.Forms.{position_of, velocity_of}
use Rattle.carried.specs.declared.record.Past.{Past}
use Rattle.carried.specs.declared.record.Carried.{Carried}
use Rattle.engine.specs.declared.sensing.Sensed.{Sensed}

-- A4, A10: word 5 brought inside the output limits
unfoldable pub held_of : Settings → ℕ
held_of s = clampℕ s.stored.output s.limits.low s.limits.high

-- A4: at an entry bias and carried output become that
unfoldable pub start_of : Bool → ℕ → Drive → Drive
start_of entry held drive = cond entry (record { bias = pos (units_of held); output = pos (units_of held) }) drive

-- A6: both carried PVs in counts of the output, by the formats that this sample reads; the carried error is in these already
unfoldable pub kept_in : Mode2 → Past → Past
kept_in m kept = record { last = output_counts m kept.last; prior = output_counts m kept.prior; error = kept.error }

-- A6: at an entry and at the first accepted sample the past is the present, so the terms see no change
unfoldable pub past_of : Mode2 → Bool → Past → ℕ → ℤ → Past
past_of m fresh kept p e = cond fresh (record { last = p; prior = p; error = e }) (kept_in m kept)

-- A7: what the terms act on in position form
unfoldable pub position_inputs : Past → ℕ → ℤ → Inputs
position_inputs past p e = record { p = e; i = e; d = pos p -ℤ pos past.last }

-- A7: what they act on in velocity form
unfoldable pub velocity_inputs : Past → ℕ → ℤ → Inputs
velocity_inputs past p e = record { p = e -ℤ past.error; i = e; d = (pos p -ℤ pos (2 * past.last)) +ℤ pos past.prior }

-- A7: by the form
abbrev pub inputs_of : Bool → Past → ℕ → ℤ → Inputs
inputs_of velocity past p e = cond velocity (velocity_inputs past p e) (position_inputs past p e)

-- A7: the terms with the loop's settings
unfoldable pub terms_in : Settings → Inputs → Terms
terms_in s x = terms_of s.tuning s.mode2.minutes s.mode1.reverse x

abbrev pub low_units : Settings → ℤ
low_units s = pos (units_of s.limits.low)

abbrev pub high_units : Settings → ℤ
high_units s = pos (units_of s.limits.high)

-- A8 or A9 by the form, with the loop's settings
unfoldable pub moved_in : Settings → Drive → Inputs → Drive
moved_in s drive x =
    let t = terms_in s x in
    cond s.mode1.velocity (velocity_of drive t (low_units s) (high_units s)) (position_of s.mode1.freeze drive t (low_units s) (high_units s))

-- A7 to A9; in Manual there are no terms, and bias and carried output stay (A10)
unfoldable pub moved_of : Settings → Bool → Drive → Past → ℕ → ℤ → Drive
moved_of s manual drive past p e = cond manual drive (moved_in s drive (inputs_of s.mode1.velocity past p e))

-- A6 to A9 together, `held` being word 5 inside the limits
unfoldable pub driven_of : Reading → Carried → Sensed → ℕ → Drive
driven_of r c x held =
    moved_of r.settings (is_manual r.mode) (start_of x.entry held c.drive)
    (past_of r.settings.mode2 (not c.sampled || x.entry) c.past x.converted x.error) x.converted x.error
