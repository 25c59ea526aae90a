use Rattle.std.proofs.Common.{◌≡◌, map, take}
use Rattle.std.specs.Arc.{arc_value}
use Rattle.lc_paths.proofs.explaining.dir_stack.shared.Given as goal

abbrev pub invariant-loop-directory : goal.invariant-loop-directory
invariant-loop-directory l = map arc_value l.same.items ≡ map arc_value (take l.directory-index l.directories)
