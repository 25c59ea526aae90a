use Rattle.std.proofs.Common.{drop, map}
use Rattle.lc_arguments.specs.Reports.{report_model}
use Rattle.lc_program.proofs.ReportsRead.{IsReadTo}
use Rattle.lc_program.proofs.report_files.read_all.Given as goal

abbrev pub invariant-loop-typed : goal.invariant-loop-typed
invariant-loop-typed g l =
    IsReadTo g.S.Source.may_give (g.Y.System.holds l.system) (g.Y.System.unreads l.system) l.attributes (map report_model l.reports)
    l.fn.input
    (map report_model (drop l.typed-index l.reports)) l.input l.parts.items
