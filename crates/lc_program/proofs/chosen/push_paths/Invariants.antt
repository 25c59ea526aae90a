use Rattle.std.proofs.Common.{◌≡◌, codes, drop}
use Rattle.lc_program.specs.Chosen.{each_after, with_parts}
use Rattle.lc_program.proofs.chosen.push_paths.Given as goal

abbrev pub invariant-loop-path : goal.invariant-loop-path
invariant-loop-path l =
    with_parts l.text.items (each_after (codes "in ") (drop l.path-index l.paths))
    ≡ with_parts l.fn.text.items (each_after (codes "in ") l.paths)
