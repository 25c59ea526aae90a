use Rattle.std.proofs.Common.{◌≡◌, ◌++◌, length, map}
use Rattle.lc_rules.specs.{IgnoreRules.text_of_line, RuleLines.lines_of}
use Rattle.lc_paths.proofs.checking.explained.RuleLines.new.Given as goal

abbrev pub decreases-lines : goal.decreases-lines
decreases-lines l = length l.rest

abbrev pub invariant-lines : goal.invariant-lines
invariant-lines l = map (λ t. t.now) l.texts.items ++ map text_of_line l.rest ≡ map text_of_line (lines_of l.fn.rules)
