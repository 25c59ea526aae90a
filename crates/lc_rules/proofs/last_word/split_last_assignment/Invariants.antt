use Rattle.std.proofs.Common.{◌≡◌, ◌≤◌, length}
use Rattle.lc_rules.specs.WrittenLines.{assigned}
use Rattle.lc_rules.proofs.last_word.split_last_assignment.Given as goal

abbrev pub invariant-words : goal.invariant-words
invariant-words l = record { same : assigned l.bytes ≡ assigned l.rest; shorter : length l.rest ≤ length l.bytes }

abbrev pub decreases-words : goal.decreases-words
decreases-words l = length l.rest
