use Rattle.std.proofs.Common.{◌≡◌, drop, map}
use Rattle.lc_arguments.specs.Reports.{report_model}
use Rattle.lc_program.specs.Headings.{are_named}
use Rattle.lc_program.proofs.heading.are_named.Given as goal

abbrev pub invariant-loop-typed : goal.invariant-loop-typed
invariant-loop-typed l = are_named (map report_model (drop l.typed-index l.reports)) ≡ are_named (map report_model l.reports)
