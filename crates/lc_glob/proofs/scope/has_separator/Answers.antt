use Rattle.std.proofs.Common.{sym, ap, ◌∷◌, ◌∙◌}
use Rattle.lc_glob.specs.Pieces.{cuts_left}
use Rattle.lc_glob.proofs.Fronts.{two_parts}
use Rattle.lc_glob.proofs.scope.has_separator.Goals as goal

pub returns-in-Some : goal.returns-in-Some
returns-in-Some g c =
    let e = g.E.Element in
    sym (two_parts e.tokens_in e.separates _ _ _
    (c.cut_at_first_separator.ensures ∙ ap (λ r. c.cut_at_first_separator.result.0.now ∷ cuts_left e.separates r) c.in-Some.is))
