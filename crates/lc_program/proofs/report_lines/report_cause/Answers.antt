use Rattle.lc_program.proofs.report_lines.report_cause.Goals as goal

pub returns : goal.returns
returns c = c.cause_with.ensures _ c.report_line.ensures
