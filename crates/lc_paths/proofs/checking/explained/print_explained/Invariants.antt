use Rattle.std.proofs.Common.{◌≡◌, ◌++◌, ℕ, List, length}
use Rattle.std.specs.List.{flat_map}
use Rattle.lc_rules.specs.IgnoreRules.{rules_of}
use Rattle.lc_io.specs.Blocks.{WritesAllBut}
use Rattle.lc_paths.specs.{Checks.ExplainedText.explained_line, Paths.paths_in, Styles.styled}
use Rattle.lc_paths.proofs.checking.explained.print_explained.Given as goal

abbrev pub decreases-lines : goal.decreases-lines
decreases-lines g l = length (paths_in l.rest)

abbrev pub invariant-lines : goal.invariant-lines
invariant-lines g l = record {
  made : List ℕ;
  whole : made ++ flat_map (explained_line (styled l.fn.lines.style) l.fn.lines.name.now l.fn.lines.rules.now) (paths_in l.rest)
      ≡ flat_map (explained_line (styled l.fn.lines.style) l.fn.lines.name.now l.fn.lines.rules.now) (paths_in l.fn.paths);
  written : WritesAllBut g.O.Sink.may_take l.initial.out made l.block.text.items l.out;
  rules : l.checker.rules.now ≡ rules_of l.fn.lines.rules.now;
}
