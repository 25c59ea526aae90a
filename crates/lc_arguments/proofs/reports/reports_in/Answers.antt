use Rattle.std.proofs.Common.{◌∙◌, List, ℕ, ap, codes, map, refl, subst}
use Rattle.clap.specs.{Matches.found_of, Walk.rows_of}
use Rattle.lc_arguments.specs.{Directories.or_default, Explained.AnswersReports}
use Rattle.lc_arguments.proofs.WordFaults.{texts_of}
use Rattle.lc_arguments.proofs.reports.reports_in.Goals as goal

pub returns-in-Ok : goal.returns-in-Ok
returns-in-Ok c =
    let f = found_of c.args.matches.now in
    let words = texts_of (rows_of f) f (codes "REPORT") c.get_strs.result _ c.unwrap_or-words.result refl c.get_strs.ensures refl
    c.unwrap_or-words.ensures in
    subst (λ (texts : List (List ℕ)). AnswersReports texts c.reports_of.result)
    (ap (map (λ word. word.now)) c.deref.ensures.value ∙ (c.in-Ok.ensures ∙ ap (or_default (codes "-")) words)) c.reports_of.ensures
