use Rattle.std.proofs.Common.{◌≡◌, drop, map}
use Rattle.lc_arguments.specs.Reports.{report_model}
use Rattle.lc_program.specs.Headings.{names_in}
use Rattle.lc_program.proofs.heading.push_names.Given as goal

abbrev pub invariant-loop-typed : goal.invariant-loop-typed
invariant-loop-typed l =
    names_in l.text.items (map report_model (drop l.typed-index l.reports)) ≡ names_in l.fn.text.items (map report_model l.reports)
