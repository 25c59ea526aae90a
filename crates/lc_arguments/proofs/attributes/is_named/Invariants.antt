use Rattle.std.proofs.Common.{◌≡◌}
use Rattle.lc_glob.specs.Pieces.{pieces_left}
use Rattle.lc_arguments.specs.{AttributeWords.how_often, Texts.comma}
use Rattle.lc_arguments.proofs.ColumnNames.{left_over}
use Rattle.lc_arguments.proofs.attributes.is_named.Given as goal

abbrev pub invariant-pieces : goal.invariant-pieces
invariant-pieces l = how_often l.name (pieces_left comma l.left) ≡ how_often l.name (pieces_left comma l.others)

abbrev pub decreases-pieces : goal.decreases-pieces
decreases-pieces l = left_over l.left
