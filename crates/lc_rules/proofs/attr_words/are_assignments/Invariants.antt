use Rattle.std.proofs.Common.{◌≡◌, length, is_some}
use Rattle.lc_rules.specs.AttrWords.{assigns, words}
use Rattle.lc_rules.proofs.attr_words.are_assignments.Given as goal

abbrev pub invariant-words : goal.invariant-words
invariant-words l = is_some (assigns (words l.bytes)) ≡ is_some (assigns (words l.rest))

abbrev pub decreases-words : goal.decreases-words
decreases-words l = length l.rest
