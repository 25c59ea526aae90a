use Rattle.lc_walk.proofs.ReportTotals.{report_totals_law}
use Rattle.lc_walk.proofs.laws.totals_of_a_report_add_up.Goals as goal

pub returns : goal.returns
returns g c = report_totals_law (g.T.Tree.lists c.args.tree.now) (g.T.Tree.gives c.args.tree.now)
