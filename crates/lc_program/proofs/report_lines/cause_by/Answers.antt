use Rattle.std.proofs.Common.{◌∙◌, ℕ, List, subst}
use Rattle.lc_program.specs.ReportLines.{IsTold, report_line}
use Rattle.lc_program.proofs.report_lines.cause_by.Goals as goal

pub returns-in-Ok : goal.returns-in-Ok
returns-in-Ok c = λ text is.
    subst (λ (why : List ℕ). IsTold (report_line c.args.name.now why) c.report_cause.result)
    (c.deref.ensures ∙ (rw c.in-Ok.is at is)) c.report_cause.ensures
