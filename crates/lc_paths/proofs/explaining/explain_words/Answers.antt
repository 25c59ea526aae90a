use Rattle.std.proofs.Common.{ℕ, List, map}
use Rattle.lc_paths.proofs.Explanations.{Answering.as_asked, SoFar.refused_first}
use Rattle.lc_paths.proofs.explaining.explain_words.Goals as goal

pub returns-in_err-explainer : goal.returns-in_err-explainer
returns-in_err-explainer g c = refused_first g.O.Sink.may_take _ _ _ c.args.out.now _ c.from_residual.ensures.1

pub returns : goal.returns
returns g c =
    let explainer = c.in_ok-explainer.explainer in
    let is = c.in_ok-explainer.ensures in
    let words : List (List ℕ) = map (λ word. word.now) c.args.words.now in
    as_asked g.O.Sink.may_take g.T.Tree.lists g.T.Tree.gives words c.args.out.now c.print_paths.result c.print_paths.new.out
    explainer.reader.tree.now c.args.tree.now c.args.options.now explainer.reader.filters.now
    explainer.style is.tree is.filters is.style c.print_paths.ensures
