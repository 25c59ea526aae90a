use Rattle.std.proofs.Common.{◌≡◌, ◌++◌, length}
use Rattle.std.specs.List.{flat_map}
use Rattle.lc_paths.specs.{Checks.CheckText.{file_verdict, checked_line, check_text_of}, Paths.paths_in, Styles.styled}
use Rattle.lc_paths.proofs.checking.text.check_text.Given as goal

abbrev pub decreases-lines : goal.decreases-lines
decreases-lines l = length (paths_in l.rest)

abbrev pub invariant-lines : goal.invariant-lines
invariant-lines l = record {
  text : l.text.items ++ flat_map (checked_line (styled l.fn.format.style) (file_verdict l.fn.rules)) (paths_in l.rest)
      ≡ check_text_of (styled l.fn.format.style) (file_verdict l.fn.rules) l.fn.format.end l.fn.paths;
  rules : l.checker.rules.now ≡ l.fn.rules;
}
