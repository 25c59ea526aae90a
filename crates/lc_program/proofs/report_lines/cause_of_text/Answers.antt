use Rattle.lc_program.proofs.report_lines.cause_of_text.Goals as goal

pub returns-in-Read : goal.returns-in-Read
returns-in-Read g c =
    rw c.in-Read.is (c.reason_for-reason.result, c.reason_for-reason.ensures, rw c.origin_of.ensures at c.unread_cause.ensures)

pub returns-in-TooLong : goal.returns-in-TooLong
returns-in-TooLong g c = rw c.in-TooLong.is (rw (c.as_bytes.ensures.value, c.origin_of-in-TooLong.ensures) at c.report_cause.ensures)
