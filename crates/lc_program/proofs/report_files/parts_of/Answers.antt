use Rattle.std.proofs.Common.{◌∷◌, [], ◌++◌, ◌∙◌, ap, append_assoc, subst, sym}
use Rattle.std.specs.List.{AllZip}
use Rattle.lc_arguments.specs.Reports.{report_model}
use Rattle.lc_program.specs.ReportFiles.{IsPartOf}
use Rattle.lc_program.proofs.NamesTaken.{zip_more}
use Rattle.lc_program.proofs.report_files.parts_of.Goals as goal

pub loop-report-preserved : goal.loop-report-preserved
loop-report-preserved c =
    let (all, so_far) = c.loop-report.invariant in (
      append_assoc c.loop-report.yielded (c.in-Some.report ∷ []) c.next.new.self.rest.items ∙ ap (λ x. c.loop-report.yielded ++ x)
          (sym c.in-Some.ensures.steps.0) ∙ all,
      subst (AllZip (IsPartOf (report_model c.args.typed)) (c.loop-report.yielded ++ c.in-Some.report ∷ []))
          (sym c.in_ok-push.ensures.items) (zip_more (IsPartOf (report_model c.args.typed)) c.loop-report.yielded
          c.loop-report.parts.items c.in-Some.report
          c.in_ok-part_of.field-0 so_far c.in_ok-part_of.ensures),
    )
