use Rattle.lc_arguments.proofs.Misnaming.{none_wrong, wrong_as}
use Rattle.lc_arguments.proofs.combinations.diff_misfit.Goals as goal

pub returns : goal.returns
returns c =
    wrong_as _ _ _ (none_wrong _ (rw c.in_default.is at c.format_misfit.ensures))
    (wrong_as _ _ _ (none_wrong _ (rw c.in_default-table_misfit.is at c.table_misfit.ensures))
    (wrong_as _ _ _ (none_wrong _ (rw c.in_default-walk_misfit.is at c.walk_misfit.ensures)) c.input_misfit.ensures))
