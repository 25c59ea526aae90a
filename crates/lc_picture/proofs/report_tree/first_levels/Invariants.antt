use Rattle.std.proofs.Common.{◌≡◌, ◌++◌, drop}
use Rattle.lc_picture.specs.Tree.{first_levels}
use Rattle.lc_picture.proofs.report_tree.first_levels.Given as goal

abbrev pub invariant-loop-drawn : goal.invariant-loop-drawn
invariant-loop-drawn l = l.kept.items ++ first_levels l.levels (drop l.drawn-index l.boxes) ≡ first_levels l.levels l.boxes
