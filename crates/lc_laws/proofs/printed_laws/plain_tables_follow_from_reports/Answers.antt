use Rattle.lc_laws.proofs.PlainText.{plain_table_law, unlisted_law}
use Rattle.lc_laws.proofs.printed_laws.plain_tables_follow_from_reports.Goals as goal

pub returns-clause-table : goal.returns-clause-table
returns-clause-table g c = plain_table_law

pub returns-clause-walk : goal.returns-clause-walk
returns-clause-walk g c = unlisted_law (g.T.Tree.lists c.args.tree.now) (g.T.Tree.gives c.args.tree.now)
