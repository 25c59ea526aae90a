use Rattle.std.proofs.{Common.{sym, ◌∙◌}, lemmas.Bool.or_left}
use Rattle.lc_glob.proofs.{Fronts.{false_left, trimmed_is}, scope.trim.Goals.{then-leads, else-leads}}
use Rattle.lc_glob.proofs.scope.trim.Goals as goal

pub returns : goal.returns
returns g c =
    let e = g.E.Element in
    let front = c.without_last_separator-is_dir_only in
    let rest = c.without_first_separator-leads in
    trimmed_is e.tokens_in e.separates _ _ _ _ _ front.ensures.ends
    (elim c.if-leads.branch [
      | then-leads w ↦ w.is_anchored-is ∙ w.if-leads.true ∙ sym (or_left _ _ (sym rest.ensures.begins ∙ w.if-leads.true))
      | else-leads w ↦ false_left _ _ _ (sym rest.ensures.begins ∙ w.if-leads.false)
          (w.is_anchored-is ∙ w.has_separator-is_anchored.ensures)
    ]) front.ensures.parts rest.ensures.parts (sym c.has_empty.ensures ∙ c.if-has_empty.false)
