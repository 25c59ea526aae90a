use Rattle.std.proofs.Common.{List, subst, sym, ◌∙◌}
use Rattle.lc_reading.proofs.TextsRead.{TextsSoFar, never_none, one_text_more}
use Rattle.lc_reading.proofs.reading.read_reports.Goals as goal
use Rattle.lc_walk.specs.declared.report.Report.{Report}

pub texts-preserved : goal.texts-preserved
texts-preserved c = (
  subst (λ (rs : List Report). TextsSoFar c.args.attributes.now c.args.text.now c.in_ok-object.more.now rs) (sym c.in_ok-push.ensures.items)
      (one_text_more c.args.attributes.now c.args.text.now c.texts.rest.now c.in_ok-object.object.now c.in_ok-object.more.now
      c.texts.reports.items
      c.in_ok-report.report c.texts.invariant.0 c.in_ok-object.ensures.parts c.in_ok-report.ensures),
  λ none. absurd (never_none c.texts.reports.items c.in_ok-report.report (sym c.in_ok-push.ensures.items ∙ none)),
)
