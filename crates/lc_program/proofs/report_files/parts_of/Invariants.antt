use Rattle.std.proofs.Common.{◌≡◌, ◌++◌}
use Rattle.std.specs.List.{AllZip}
use Rattle.lc_arguments.specs.Reports.{report_model}
use Rattle.lc_program.specs.ReportFiles.{IsPartOf}
use Rattle.lc_program.proofs.report_files.parts_of.Given as goal

abbrev pub invariant-loop-report : goal.invariant-loop-report
invariant-loop-report l =
    (l.yielded ++ l.report-iterator.rest.items ≡ l.fn.given.items)
    × AllZip (IsPartOf (report_model l.typed)) l.yielded l.parts.items
