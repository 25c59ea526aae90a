use Rattle.std.proofs.Common.{◌≡◌}
use Rattle.std.specs.List.{list_any}
use Rattle.lc_glob.specs.Pieces.{pieces_left, pieces_of}
use Rattle.lc_sheet.specs.{Conditions.{comma, has_text}, Values.value_model}
use Rattle.lc_sheet.proofs.BytesLeft.{bytes_left}
use Rattle.lc_sheet.proofs.condition.is_among.Given as goal

abbrev pub invariant-texts : goal.invariant-texts
invariant-texts l =
    list_any (has_text (value_model l.value)) (pieces_left comma l.left)
    ≡ list_any (has_text (value_model l.value)) (pieces_of comma l.texts)

abbrev pub decreases-texts : goal.decreases-texts
decreases-texts l = bytes_left l.left
