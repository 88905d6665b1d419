-- `kexbardi_files::kexbardi_print` meets its contract: by whether there was room.
use Rattle.kexbardi_files.specs.Files.{print_left}
use Rattle.kexbardi_files.proofs.Printing.{print_none, print_some}
use Rattle.kexbardi_files.proofs.kexbardi_print.Goals as goal

pub returns-then-n-eq0-clause-text : goal.returns-then-n-eq0-clause-text
unfolding print_left
returns-then-n-eq0-clause-text c = print_none _ _ c.drill-n.ensures.rest c.if-n-eq0.true

pub returns-clause-text : goal.returns-clause-text
unfolding print_left
returns-clause-text c = print_some _ _ c.drill-n.ensures.rest c.if-n-eq0.false
