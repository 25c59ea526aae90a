use Rattle.std.proofs.Common.{◌∙◌, sym, subst}
use Rattle.lc_walk.specs.{Sums.IsInRange, TallyRows.sums_of_rows}
use Rattle.lc_rows.specs.Kept.{row_meets}
use Rattle.lc_walk.proofs.Classes.{filtered_fits}
use Rattle.lc_rows.proofs.kept.keep_by_rows.Goals as goal

pub returns-in_err-totals-clause-adds_up : goal.returns-in_err-totals-clause-adds_up
returns-in_err-totals-clause-adds_up c sums =
    absurd (c.in_err-totals.ensures.overflow (subst (λ rs. IsInRange (sums_of_rows rs))
    (sym (c.deref.ensures.value ∙ c.keep_rows.ensures))
    (filtered_fits (row_meets c.args.conditions.now) c.args.report.now.rows.items (subst IsInRange sums c.are_in_range.ensures))))
