use Rattle.std.proofs.Common.{◌≡◌, length}
use Rattle.lc_arguments.specs.ConditionWords.{column_among, condition_columns}
use Rattle.lc_arguments.proofs.condition_text.column_among.Given as goal

abbrev pub invariant-columns : goal.invariant-columns
invariant-columns l = column_among l.columns l.text ≡ column_among condition_columns l.text

abbrev pub decreases-columns : goal.decreases-columns
decreases-columns l = length l.columns
