use Rattle.std.proofs.Common.{ℕ, List, Ok, Err, subst}
use Rattle.lc_paths.proofs.{Stopping.output_stops, Explanations.Answering.as_asked}
use Rattle.lc_text.specs.Lines.{input_paths_of}
use Rattle.lc_paths.specs.Explanations.Answers.{MaySay, AnswersLines}
use Rattle.lc_paths.proofs.explaining.explain.Goals as goal

pub returns-in_err-outcome : goal.returns-in_err-outcome
returns-in_err-outcome g c =
    let options = c.args.options.now in
    let may_take = g.O.Sink.may_take in
    let out = c.args.out.now in
    let wrote = c.print_paths.new.out in
    let says = MaySay (g.T.Tree.lists c.args.tree.now) (g.T.Tree.gives c.args.tree.now) options in
    let explainer = c.in_ok-explainer.explainer in
    let is = c.in_ok-explainer.ensures in
    let bytes = c.in_ok-paths.paths.items in
    let fault = c.in_err-outcome.field-0.0 in
    let answers = as_asked may_take g.T.Tree.lists g.T.Tree.gives (input_paths_of c.args.end c.deref.result.now) out (Err fault) wrote
    explainer.reader.tree.now c.args.tree.now options explainer.reader.filters.now explainer.style
    is.tree is.filters is.style c.in_err-outcome.ensures in
    let lines = subst (λ (b : List ℕ). AnswersLines may_take options.style says (input_paths_of c.args.end b) out (Err fault) wrote)
    c.deref.ensures.value answers in
    output_stops g.S.Source.may_give (λ b. AnswersLines may_take options.style says (input_paths_of c.args.end b)) bytes c.args.input.now
    c.read_input.new.input out wrote c.in_ok-paths.ensures fault c.from_residual-in_err-outcome.result
    c.from_residual-in_err-outcome.ensures.1 lines

pub returns : goal.returns
returns g c =
    let options = c.args.options.now in
    let may_take = g.O.Sink.may_take in
    let out = c.args.out.now in
    let wrote = c.print_paths.new.out in
    let says = MaySay (g.T.Tree.lists c.args.tree.now) (g.T.Tree.gives c.args.tree.now) options in
    let explainer = c.in_ok-explainer.explainer in
    let is = c.in_ok-explainer.ensures in
    let outcome = c.in_ok-outcome.outcome in
    let answers = as_asked may_take g.T.Tree.lists g.T.Tree.gives (input_paths_of c.args.end c.deref.result.now) out (Ok outcome) wrote
    explainer.reader.tree.now c.args.tree.now options explainer.reader.filters.now explainer.style
    is.tree is.filters is.style c.in_ok-outcome.ensures in (
      c.in_ok-paths.paths.items,
      c.in_ok-paths.ensures,
      subst (λ (b : List ℕ). AnswersLines may_take options.style says
          (input_paths_of c.args.end b) out (Ok outcome) wrote) c.deref.ensures.value answers,
    )
