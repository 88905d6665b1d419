-- What a sample reads of the loop's past (Q9): the carried mode and segment.
use Rattle.reading.specs.declared.reading.Former.{Former}
use Rattle.carried.specs.declared.record.State.{State}

abbrev pub former_of : State → Former
former_of s = record { mode = s.mode; segment = s.profile.segment }
