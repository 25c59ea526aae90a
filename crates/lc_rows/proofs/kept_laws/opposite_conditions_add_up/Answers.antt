use Rattle.lc_rows.proofs.{KeptParts.opposites_law, WalkedSheets.walked_opposites_law}
use Rattle.lc_rows.proofs.kept_laws.opposite_conditions_add_up.Goals as goal

pub returns-clause-any : goal.returns-clause-any
returns-clause-any g c = opposites_law

pub returns-clause-walked : goal.returns-clause-walked
returns-clause-walked g c = walked_opposites_law (g.T.Tree.lists c.args.tree.now) (g.T.Tree.gives c.args.tree.now)
