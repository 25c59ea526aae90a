use Rattle.std.proofs.Common.{◌≡◌, length, ◌++◌}
use Rattle.std.specs.{Prelude.IfSome, List.filter_map}
use Rattle.lc_rules.specs.{AttrLines.{attribute_lines_of, given_lines, macro_in, line_in}, AttrWords.IsEndOf, RuleLines.lines_left}
use Rattle.lc_rules.proofs.attr_file.read_file.Given as goal

abbrev pub invariant-lines : goal.invariant-lines
invariant-lines l = record {
  text : l.lines.text ≡ l.text;
  macros : filter_map macro_in (attribute_lines_of l.top l.bytes) ≡ l.macros ++ filter_map macro_in (given_lines l.top (lines_left l.left));
  lines : filter_map line_in (attribute_lines_of l.top l.bytes)
      ≡ l.lines.lines ++ filter_map line_in (given_lines l.top (lines_left l.left));
  place : IfSome l.left (λ rest. IsEndOf rest.now l.text);
}

abbrev pub decreases-lines : goal.decreases-lines
decreases-lines l = length (lines_left l.left)
