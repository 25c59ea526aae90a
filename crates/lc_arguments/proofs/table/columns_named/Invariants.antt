use Rattle.lc_glob.specs.Pieces.{pieces_left, pieces_of}
use Rattle.lc_arguments.specs.Texts.{comma}
use Rattle.lc_arguments.proofs.ColumnNames.{StillNames, left_over}
use Rattle.lc_arguments.proofs.table.columns_named.Given as goal

abbrev pub invariant-names : goal.invariant-names
invariant-names l = StillNames l.depth l.columns (pieces_left comma l.left) (pieces_of comma l.names)

abbrev pub decreases-names : goal.decreases-names
decreases-names l = left_over l.left
