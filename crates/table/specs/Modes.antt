-- The three modes (M4).
use Rattle.std.specs.Prelude.{Bool, true, false}
use Rattle.table.specs.declared.mode.Mode.{Mode}
use Rattle.table.specs.declared.mode.Mode.TheVariants.{Manual, Automatic, Cascade}

abbrev pub is_manual : Mode → Bool
is_manual Manual = true
is_manual Automatic = false
is_manual Cascade = false

abbrev pub is_automatic : Mode → Bool
is_automatic Manual = false
is_automatic Automatic = true
is_automatic Cascade = false

abbrev pub is_cascade : Mode → Bool
is_cascade Manual = false
is_cascade Automatic = false
is_cascade Cascade = true
