-- A8 and A9: bias and output after a sample, in units.
use Rattle.std.specs.Prelude.{Bool, cond, not, ◌&&◌, ℤ, ◌+ℤ◌, ◌-ℤ◌}
use Rattle.std.specs.Int.Signed.{lt_z}
use Rattle.numbers.specs.Limits.{clampℤ}
use Rattle.control.specs.declared.terms.Terms.{Terms}
use Rattle.control.specs.declared.forms.Drive.{Drive}
pub mod Laws

-- A8, where m is outside the limits: a frozen bias stays, any other is the output less P − D, which is `base`
unfoldable pub outside_of : Bool → Drive → ℤ → ℤ → Drive
outside_of freeze drive base output = record { bias = cond freeze drive.bias (output -ℤ base); output = output }

-- A8: the output is m inside its limits; where m was inside them or on one, the bias becomes the trial bias
unfoldable pub position_of : Bool → Drive → Terms → ℤ → ℤ → Drive
position_of freeze drive t low high =
    let base = t.p -ℤ t.d in
    let trial = drive.bias +ℤ t.i in
    let m = base +ℤ trial in
    let output = clampℤ m low high in
    cond (not (lt_z m low) && not (lt_z high m)) (record { bias = trial; output = output }) (outside_of freeze drive base output)

-- A9: P + I − D is added to the carried output, which is brought inside its limits; the bias stays
unfoldable pub velocity_of : Drive → Terms → ℤ → ℤ → Drive
velocity_of drive t low high = record { bias = drive.bias; output = clampℤ (((drive.output +ℤ t.p) +ℤ t.i) -ℤ t.d) low high }
