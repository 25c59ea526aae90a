use Rattle.std.proofs.Common.{◌∙◌, ap, inr, refl, string_bytes, subst}
use Rattle.lc_program.proofs.{FoundNames.passed_on, Printing.same_showing}
use Rattle.lc_program.specs.{Counts.MayWalk, Finds.FindsFor, Counts.names_of, Headings.chosen_in, ReportTexts.{IsPrinted, Showing}}
use Rattle.lc_program.specs.{Systems.{SystemMay, may_of}, WalkRequests.columns_of, declared.cause.Cause.TheVariants.Memory}
use Rattle.lc_program.proofs.counting.found_text.Goals as goal

pub returns-in_err-columns-clause-none : goal.returns-in_err-columns-clause-none
returns-in_err-columns-clause-none g c = passed_on _ c.from_residual.result Memory c.from_residual.ensures.1 (inr refl)

pub returns-in_err-heading-clause-none : goal.returns-in_err-heading-clause-none
returns-in_err-heading-clause-none g c =
    passed_on _ c.from_residual-in_err-heading.result Memory c.from_residual-in_err-heading.ensures.1 (inr refl)

pub returns-in_err-report-clause-none : goal.returns-in_err-report-clause-none
returns-in_err-report-clause-none g c =
    passed_on _ c.from_residual-in_err-report.result c.in_err-report.field-0.0 c.from_residual-in_err-report.ensures.1
    c.in_err-report.ensures.none

pub returns-in_err-made-clause-none : goal.returns-in_err-made-clause-none
returns-in_err-made-clause-none g c =
    passed_on _ c.from_residual-in_err-made.result Memory c.from_residual-in_err-made.ensures.1 (inr refl)

pub returns-clause-shown : goal.returns-clause-shown
returns-clause-shown g c =
    let may : SystemMay = may_of g.Y.Tree.Tree g.Y.System c.args.system.now in
    record {
      title = c.in_ok-heading.heading.title.items;
      has_title = c.in_ok-heading.ensures.title;
      found = c.in_ok-report.report;
      finds = subst (λ names. FindsFor (MayWalk may c.args.asked.now c.args.options.now) names (names_of c.args.asked.now)
          c.in_ok-report.report)
          (c.deref-3.ensures.value ∙ c.in_ok-columns.ensures ∙ ap columns_of c.deref.ensures.value) c.in_ok-report.ensures.found;
      printed = subst (λ (s : Showing). IsPrinted s c.in_ok-report.report c.in_ok-made.made.text.items
          (string_bytes c.in_ok-made.made.refused) c.part_text.new.report)
          (same_showing c.deref-6.result.now _ c.deref-7.result.now _ c.deref-4.result.now _ c.options.result _ c.deref-5.result.now _
          c.path_end.result _ c.deref-6.ensures.value
          (c.deref-7.ensures.value ∙ c.in_ok-heading.ensures.chosen
          ∙ ap (λ cs. chosen_in cs c.args.asked.now)
          (c.deref-2.ensures.value ∙ c.in_ok-columns.ensures ∙ ap columns_of c.deref.ensures.value))
          c.deref-4.ensures.value c.options.ensures
          (c.deref-5.ensures.value ∙ c.in_ok-columns.ensures ∙ ap columns_of c.deref.ensures.value) c.path_end.ensures)
          c.in_ok-made.ensures;
    }
