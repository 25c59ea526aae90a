use Rattle.std.proofs.Common.{◌∷◌, [], ◌++◌, sym, ap, ◌∙◌, append_assoc}
use Rattle.lc_reports.proofs.Gathering.{gathered_more}
use Rattle.lc_reports.proofs.gathered.Gathered.of.Goals as goal

pub loop-report-preserved : goal.loop-report-preserved
loop-report-preserved c =
    let (all, so_far) = c.loop-report.invariant in (
      append_assoc c.loop-report.yielded (c.in-Some.report ∷ []) c.next.new.self.rest.items ∙ ap (λ x. c.loop-report.yielded ++ x)
          (sym c.in-Some.ensures.steps.0) ∙ all,
      gathered_more c.args.lists c.loop-report.yielded c.in-Some.report c.loop-report.gathered c.add.new.self so_far c.in_ok-add.ensures,
    )
