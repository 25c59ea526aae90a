use Rattle.std.proofs.Common.{◌≡◌, length, map}
use Rattle.std.specs.List.{list_any}
use Rattle.lc_arguments.specs.ConditionWords.{compares_sides}
use Rattle.lc_arguments.proofs.changes.first_compared.Given as goal

abbrev pub invariant-texts : goal.invariant-texts
invariant-texts l = list_any compares_sides (map (λ text. text.now) l.left) ≡ list_any compares_sides (map (λ text. text.now) l.texts)

abbrev pub decreases-texts : goal.decreases-texts
decreases-texts l = length l.left
