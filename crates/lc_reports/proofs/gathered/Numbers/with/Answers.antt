use Rattle.std.proofs.Common.{◌∙◌, ap, rules}
use Rattle.lc_reports.proofs.NumbersInTurn.{same_numbers}
use Rattle.lc_walk.specs.{Sums.plus, TallyRows.sums_of_rows}
use Rattle.lc_reports.proofs.gathered.Numbers.with.Goals as goal

pub returns : goal.returns
returns c = same_numbers _ _ (c.in_ok-with_rows.ensures ∙ ap (λ rs. plus c.args.self.rows (sums_of_rows rs)) c.deref.ensures.value)
    c.in_ok-checked_add.ensures c.in_ok-checked_add-2.ensures c.in_ok-checked_add-3.ensures (search rules) (search rules)
