use Rattle.std.proofs.Common.{◌≡◌, length}
use Rattle.lc_arguments.specs.AttributeWords.{after_name}
use Rattle.lc_arguments.proofs.attributes.after_name.Given as goal

abbrev pub invariant-name : goal.invariant-name
invariant-name l = after_name l.left ≡ after_name l.text

abbrev pub decreases-name : goal.decreases-name
decreases-name l = length l.left
