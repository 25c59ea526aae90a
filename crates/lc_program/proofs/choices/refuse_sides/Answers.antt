use Rattle.std.proofs.Common.{rules}
use Rattle.lc_program.proofs.choices.refuse_sides.Goals as goal

pub returns-in-Missing-Missing : goal.returns-in-Missing-Missing
returns-in-Missing-Missing c =
    let told = c.cause_with.ensures _ c.missing_lines.ensures in
    search (rules, told)

pub returns-in-Some : goal.returns-in-Some
returns-in-Some c =
    let told = c.cause_with-in-Some.ensures _ c.choice_line.ensures in
    search (rules, told)
