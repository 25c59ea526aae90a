use Rattle.lc_laws.proofs.SharesPrinted.{printed_shares_law}
use Rattle.lc_laws.proofs.printed_laws.printed_shares_are_at_most_the_whole.Goals as goal

pub returns : goal.returns
returns g c = printed_shares_law (g.T.Tree.lists c.args.tree.now) (g.T.Tree.gives c.args.tree.now)
