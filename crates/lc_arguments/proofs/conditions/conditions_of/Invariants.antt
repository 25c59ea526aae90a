use Rattle.std.proofs.Common.{length, map}
use Rattle.lc_arguments.proofs.ConditionsRead.{StillWrite}
use Rattle.lc_arguments.proofs.conditions.conditions_of.Given as goal

abbrev pub invariant-texts : goal.invariant-texts
invariant-texts l =
    StillWrite (map (λ attribute. attribute.now) l.attributes) (map (λ text. text.now) l.texts) l.conditions.items l.changes
    (map (λ text. text.now) l.left)

abbrev pub decreases-texts : goal.decreases-texts
decreases-texts l = length l.left
