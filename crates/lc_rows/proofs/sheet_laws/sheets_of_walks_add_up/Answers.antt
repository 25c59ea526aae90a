use Rattle.lc_rows.proofs.WalkedSheets.{walked_sheet_law}
use Rattle.lc_rows.proofs.sheet_laws.sheets_of_walks_add_up.Goals as goal

pub returns : goal.returns
returns g c = walked_sheet_law (g.T.Tree.lists c.args.tree.now) (g.T.Tree.gives c.args.tree.now)
