use Rattle.std.proofs.Common.{◌≡◌}
use Rattle.std.specs.List.{list_all}
use Rattle.lc_glob.specs.Pieces.{pieces_left}
use Rattle.lc_sheet.specs.Conditions.{comma}
use Rattle.lc_arguments.proofs.ColumnNames.{left_over}
use Rattle.lc_arguments.specs.ConditionWords.{can_have, can_have_all}
use Rattle.lc_arguments.proofs.condition_text.can_have_all.Given as goal

abbrev pub invariant-texts : goal.invariant-texts
invariant-texts l = list_all (can_have l.column) (pieces_left comma l.left) ≡ can_have_all l.column l.texts

abbrev pub decreases-texts : goal.decreases-texts
decreases-texts l = left_over l.left
