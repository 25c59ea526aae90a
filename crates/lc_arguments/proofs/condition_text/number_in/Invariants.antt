use Rattle.std.proofs.Common.{◌≡◌, length, Some}
use Rattle.lc_arguments.specs.ConditionWords.{digits_from}
use Rattle.lc_arguments.proofs.condition_text.number_in.Given as goal

abbrev pub invariant-digits : goal.invariant-digits
invariant-digits l = digits_from (Some l.number) l.left ≡ digits_from (Some 0) l.text

abbrev pub decreases-digits : goal.decreases-digits
decreases-digits l = length l.left
