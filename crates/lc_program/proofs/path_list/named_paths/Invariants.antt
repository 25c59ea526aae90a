use Rattle.std.proofs.Common.{◌≡◌, map, take}
use Rattle.lc_program.proofs.path_list.named_paths.Given as goal

abbrev pub invariant-loop-path : goal.invariant-loop-path
invariant-loop-path l = map (λ path. path.now) l.named.items ≡ map (λ path. path.now) (take l.path-index l.only)
