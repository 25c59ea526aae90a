use Rattle.lc_program.proofs.report_lines.cause_of_refusal.Goals as goal

pub returns-in-NoReport : goal.returns-in-NoReport
returns-in-NoReport c = rw c.in-NoReport.is (c.cause_by.ensures _ c.refusal_text.ensures)

pub returns-in-DoNotAddUp : goal.returns-in-DoNotAddUp
returns-in-DoNotAddUp c = rw c.in-DoNotAddUp.is (rw c.sums_text.ensures at c.report_cause-in-DoNotAddUp.ensures)

pub returns-in-NoAttribute : goal.returns-in-NoAttribute
returns-in-NoAttribute c =
    rw c.in-NoAttribute.is (c.cause_by-in-NoAttribute.ensures _ (rw c.name-attribute.ensures at c.no_attribute_text.ensures))
