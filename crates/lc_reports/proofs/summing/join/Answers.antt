use Rattle.std.proofs.Common.{◌∙◌, ap, sym, subst}
use Rattle.lc_reports.specs.{Joined.IsJoined, Sums.IsUnjoined}
use Rattle.lc_walk.specs.declared.options.ReportLists.{ReportLists}
use Rattle.lc_reports.proofs.ReportsNeeded.{all_have_files, not_summed}
use Rattle.lc_reports.proofs.summing.join.Goals as goal

pub returns-in-Err : goal.returns-in-Err
returns-in-Err c =
    subst (IsUnjoined c.args.needs c.args.parts.items) (sym c.fault_of_join.ensures)
    (not_summed c.args.needs c.args.parts.items c.in_ok-reports.reports.items c.in-Err.fault c.in_ok-reports.ensures c.in-Err.ensures)

pub returns-in-Ok : goal.returns-in-Ok
returns-in-Ok c =
    let ps = c.args.parts.items in
    let is = subst (λ rs. IsJoined rs c.in-Ok.report) c.in_ok-reports.ensures c.in-Ok.ensures in record {
      joined = is;
      files = λ needed. ap (λ (l : ReportLists). l.files) is.lists ∙ all_have_files c.args.needs ps needed;
    }
