-- One accepted sample whole (A2 to A12), from its PV: what it senses, what moves the output, what it writes.
use Rattle.std.specs.Prelude.{ℕ}
use Rattle.reading.specs.declared.reading.Reading.{Reading}
use Rattle.carried.specs.declared.record.Carried.{Carried}
use Rattle.engine.specs.declared.stepping.Stepped.{Stepped}
use Rattle.engine.specs.Sensing.{sensed_of}
use Rattle.engine.specs.Driving.{held_of, driven_of}
use Rattle.engine.specs.Writing.{written_of, next_of}

-- A2 to A12: the words and the record that a sample with the PV p leaves
unfoldable pub step_of : Reading → Carried → ℕ → Stepped
step_of r c p =
    let x = sensed_of r c.state p in
    let held = held_of r.settings in
    let drive = driven_of r c x held in
    record { written = written_of r c x held drive; carried = next_of c x drive }
