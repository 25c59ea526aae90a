use Rattle.lc_program.proofs.report_lines.cause_of_sum.Goals as goal

pub returns-in-NoColumn : goal.returns-in-NoColumn
returns-in-NoColumn c = rw c.in-NoColumn.is (rw c.as_bytes.ensures.value at (c.cause_by.ensures _ c.no_column_text.ensures))

pub returns-in-NoFiles : goal.returns-in-NoFiles
returns-in-NoFiles c = rw c.in-NoFiles.is (rw c.as_bytes-in-NoFiles.ensures.value at c.report_cause.ensures)

pub returns-in-NoSkipped : goal.returns-in-NoSkipped
returns-in-NoSkipped c = rw c.in-NoSkipped.is (rw c.as_bytes-in-NoSkipped.ensures.value at c.report_cause-in-NoSkipped.ensures)

pub returns-in-SamePath : goal.returns-in-SamePath
returns-in-SamePath c = rw c.in-SamePath.is (rw c.deref.ensures.value at c.report_cause-in-SamePath.ensures)
