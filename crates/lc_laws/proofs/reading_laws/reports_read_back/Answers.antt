use Rattle.lc_laws.proofs.WalksReadBack.{read_back_law}
use Rattle.lc_laws.proofs.reading_laws.reports_read_back.Goals as goal

pub returns : goal.returns
returns g c = read_back_law (g.T.Tree.lists c.args.tree.now) (g.T.Tree.gives c.args.tree.now)
