use Rattle.std.proofs.Common.{ap, ◌∙◌}
use Rattle.lc_walk.proofs.ReportTotals.{walked_lists}
use Rattle.lc_walk.specs.{Walks.Walks, declared.options.ReportLists.ReportLists}
use Rattle.lc_program.proofs.Stopping.{run_stops}
use Rattle.lc_program.specs.ReportTexts.{showing_of}
use Rattle.lc_program.proofs.runs.run.Goals as goal

-- the report has the lists that were asked for
pub table-requires : goal.table-requires
table-requires g c = record {
  files = λ by.
      ap (λ (l : ReportLists). l.files) (walked_lists (g.T.Tree.lists c.args.tree.now) (g.T.Tree.gives c.args.tree.now)
      c.args.options.now c.in_ok-report.report c.in_ok-report.ensures) ∙ c.requires.files by;
}

pub returns-in_err-refused : goal.returns-in_err-refused
returns-in_err-refused g c =
    run_stops g.O.Sink.may_take (Walks (g.T.Tree.lists c.args.tree.now) (g.T.Tree.gives c.args.tree.now) c.args.options.now)
    (showing_of c.args.shown) c.in_ok-report.report c.table.new.report c.in_err-refused.field-0.0 c.from_residual-in_err-refused.result
    c.args.out.now c.table.new.out c.in_ok-report.ensures c.in_err-refused.ensures c.from_residual-in_err-refused.ensures.1

pub returns : goal.returns
returns g c = (c.in_ok-report.report, c.in_ok-report.ensures, c.in_ok-refused.ensures)
