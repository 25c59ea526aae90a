use Rattle.std.proofs.Common.{◌≡◌, length}
use Rattle.lc_rows.specs.TreeRows.{path_cmp}
use Rattle.lc_rows.proofs.depth_first.compare_paths.Given as goal

abbrev pub invariant-bytes : goal.invariant-bytes
invariant-bytes l = path_cmp l.initial.a l.initial.b ≡ path_cmp l.a l.b

abbrev pub decreases-bytes : goal.decreases-bytes
decreases-bytes l = length l.a
