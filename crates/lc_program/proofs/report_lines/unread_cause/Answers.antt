use Rattle.lc_program.proofs.report_lines.unread_cause.Goals as goal

pub returns : goal.returns
returns c = c.cause_with.ensures _ c.unexplained_line.ensures
