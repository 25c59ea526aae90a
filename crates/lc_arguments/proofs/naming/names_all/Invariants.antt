use Rattle.std.proofs.Common.{length, map}
use Rattle.lc_arguments.specs.{Naming.NamesAll, Options.option_model}
use Rattle.lc_arguments.proofs.naming.names_all.Given as goal

abbrev pub invariant-rows : goal.invariant-rows
invariant-rows l =
    NamesAll l.command (map option_model l.rest) l.text → NamesAll l.command (map option_model l.rows) l.text

abbrev pub decreases-rows : goal.decreases-rows
decreases-rows l = length l.rest
