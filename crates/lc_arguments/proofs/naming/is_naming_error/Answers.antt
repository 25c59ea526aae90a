use Rattle.std.proofs.{Common.{◌≡◌, true, map, inl, inr, subst}, lemmas.Result.IfOk-weaker}
use Rattle.lc_arguments.specs.{Naming.{IsNamingError, NamesOne, NamesSome}, Options.option_model}
use Rattle.lc_arguments.proofs.naming.is_naming_error.Goals as goal

pub returns-then-quoted : goal.returns-then-quoted
unfolding NamesOne
returns-then-quoted g c is = record {
  problem = c.problem_of-problem.result.now;
  first = c.problem_of-problem.ensures;
  names = inl (c.in_ok-quoted.ensures c.if-quoted.true);
}

pub returns : goal.returns
unfolding NamesOne
returns g c =
    let words = map g.W.AsStr.text c.args.words.now in
    let problem = c.problem_of-problem.result.now in
    IfOk-weaker c.names_some.result (λ named. named ≡ true → NamesSome (map option_model c.options.result.now) problem)
    (λ named. named ≡ true → IsNamingError words c.args.text.now)
    (λ named holds is. record {
      problem = problem;
      first = c.problem_of-problem.ensures;
      names = inr (subst (λ os. NamesSome os problem) c.options.ensures (holds is));
    }) c.names_some.ensures
