use Rattle.std.proofs.Common.{◌≡◌, ℕ, false, get_or, reverse, take}
use Rattle.lc_picture.specs.TreeMarks.{drawn_lines, goes_on}
use Rattle.lc_picture.proofs.tree_marks.drawn_lines.Given as goal

abbrev pub invariant-loop-drawn : goal.invariant-loop-drawn
invariant-loop-drawn l = record {
  going : (level : ℕ) → get_or l.going.items level false ≡ goes_on (reverse (take l.drawn-index l.boxes)) level;
  lines : l.lines.items ≡ reverse (drawn_lines l.by (reverse (take l.drawn-index l.boxes)));
}
