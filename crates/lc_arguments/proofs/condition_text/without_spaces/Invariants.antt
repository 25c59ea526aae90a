use Rattle.std.proofs.Common.{◌≡◌, length}
use Rattle.lc_arguments.specs.ConditionWords.{without_spaces}
use Rattle.lc_arguments.proofs.condition_text.without_spaces.Given as goal

abbrev pub invariant-spaces : goal.invariant-spaces
invariant-spaces l = without_spaces l.left ≡ without_spaces l.text

abbrev pub decreases-spaces : goal.decreases-spaces
decreases-spaces l = length l.left
