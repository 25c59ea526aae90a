use Rattle.std.proofs.Common.{◌≡◌, ◌++◌, map, drop}
use Rattle.lc_level.proofs.SeenPaths.{seen}
use Rattle.lc_level.proofs.narrowing.only_paths.seen_from.Given as goal

abbrev pub invariant-loop-path : goal.invariant-loop-path
invariant-loop-path l =
    map (λ rest. rest.now) l.seen.items ++ seen l.directory (drop l.path-index l.paths) ≡ seen l.directory l.paths
