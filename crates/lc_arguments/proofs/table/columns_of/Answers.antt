use Rattle.std.proofs.Common.{◌∙◌, ℕ, ap, not, subst, sym}
use Rattle.lc_arguments.specs.TableWords.{IsColumnsText}
use Rattle.lc_arguments.proofs.{ColumnNames.undirected, Misnaming.refused_for}
use Rattle.lc_arguments.proofs.table.columns_of.Goals as goal

pub returns-then-is_none : goal.returns-then-is_none
returns-then-is_none c =
    let columns = c.in-Some-columns_named.columns in
    rw c.in-Some.is (refused_for _ c.unfit-then-is_none.result c.unfit-then-is_none.ensures
    (undirected c.in-Some.names.now c.args.depth columns
    (subst (λ (depth : ℕ). IsColumnsText c.in-Some.names.now depth columns) c.unwrap_or.ensures c.in-Some-columns_named.ensures)
    (sym c.is_some.ensures ∙ c.if-is_some.true) (c.is_none.ensures ∙ ap not c.if-is_none.true) c.args.is_tree))
