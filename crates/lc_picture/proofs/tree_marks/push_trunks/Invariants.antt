use Rattle.std.proofs.Common.{◌≡◌, ◌≤◌, ◌++◌, ◌-◌, false, get_or}
use Rattle.lc_picture.specs.TreeMarks.{trunks}
use Rattle.lc_picture.proofs.tree_marks.push_trunks.Given as goal

abbrev pub invariant-levels : goal.invariant-levels
invariant-levels l = record {
  inside : l.level ≤ l.levels;
  text : l.text.items ≡ l.initial.text.items ++ trunks (λ level. get_or l.going level false) l.level;
}

abbrev pub decreases-levels : goal.decreases-levels
decreases-levels l = l.levels - l.level
