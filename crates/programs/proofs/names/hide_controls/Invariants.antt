-- The bytes passed, and those left as they are to be shown, are the whole text shown.
use Rattle.std.proofs.Common.{◌≡◌, ◌++◌, map, take, drop}
use Rattle.programs.specs.Names.{shown_byte}
use Rattle.programs.proofs.names.hide_controls.Given as goal

abbrev pub invariant-loop-b : goal.invariant-loop-b
invariant-loop-b l = take l.b-index l.text ++ map shown_byte (drop l.b-index l.text) ≡ map shown_byte l.initial.text
