use Rattle.std.proofs.Common.{◌≡◌, map, ◌++◌, length}
use Rattle.lc_rules.specs.{Models.assignment_model, WrittenLines.assigned}
use Rattle.lc_rules.proofs.known_macros.stack_all.Given as goal

abbrev pub invariant-words : goal.invariant-words
invariant-words l = map assignment_model l.initial.words.items ++ assigned l.bytes ≡ map assignment_model l.words.items ++ assigned l.rest

abbrev pub decreases-words : goal.decreases-words
decreases-words l = length l.rest
