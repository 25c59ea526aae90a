use Rattle.std.proofs.Common.{◌≡◌, [], length}
use Rattle.std.specs.List.{slice_index_or}
use Rattle.lc_rules.specs.IgnoreRules.{text_of_line}
use Rattle.lc_text.specs.RulePlaces.{line_text}
use Rattle.lc_paths.proofs.explaining.output.line_text.Given as goal

abbrev pub invariant-lines : goal.invariant-lines
invariant-lines l = text_of_line (slice_index_or l.lines l.before []) ≡ line_text l.fn.bytes l.fn.number

abbrev pub decreases-lines : goal.decreases-lines
decreases-lines l = length l.lines
