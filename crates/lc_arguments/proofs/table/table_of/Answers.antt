use Rattle.lc_arguments.proofs.Misnaming.{refused_with}
use Rattle.lc_arguments.proofs.table.table_of.Goals as goal

pub returns-in-Err-columns_of : goal.returns-in-Err-columns_of
returns-in-Err-columns_of c =
    refused_with _ _ c.in-Err-columns_of.no (λ none table is. none table.by (rw c.names_tree-is_tree.ensures is.by_is)) c.in-Err-columns_of.ensures
