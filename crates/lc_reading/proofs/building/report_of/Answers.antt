use Rattle.std.proofs.Common.{List, rules, subst}
use Rattle.lc_reading.specs.{Members.members_of, Reports.{HaveColumns, IsNumbersOf}, declared.rows.ReadRow.ReadRow}
use Rattle.lc_reading.proofs.ReportsRead.{report_is}
use Rattle.lc_reading.proofs.building.report_of.Goals as goal

pub returns : goal.returns
returns c ms o =
    report_is c.args.attributes.now ms c.args.object c.in_ok-numbers.numbers c.in_ok-rows.rows c.in_ok-columns.columns c.in_ok-rows-2.rows
    c.in_ok-kept.kept
    c.in_ok-skipped.skipped c.in_ok-faults.faults c.in_ok-report.report o
    (subst (λ vs. IsNumbersOf (members_of vs) c.in_ok-numbers.numbers) c.deref.ensures.value c.in_ok-numbers.ensures)
    (c.is_cut.ensures c.if-is_cut.false) (search rules) (search rules) c.in_ok-skipped.ensures
    (subst (λ (rs : List ReadRow). HaveColumns c.in_ok-columns.columns rs) c.deref-2.ensures.value c.in_ok-columns.ensures)
    c.in_ok-rows-2.ensures c.in_ok-kept.ensures c.in_ok-check_listed.ensures.listed c.in_ok-report.ensures
