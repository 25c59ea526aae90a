use Rattle.std.proofs.Common.{◌≡◌, map, take, true}
use Rattle.std.specs.List.{list_all}
use Rattle.lc_program.specs.Commands.{is_typed}
use Rattle.lc_program.proofs.hints.are_typed.Given as goal

abbrev pub invariant-loop-path : goal.invariant-loop-path
invariant-loop-path l = list_all is_typed (map (λ path. path.now) (take l.path-index l.paths)) ≡ true
