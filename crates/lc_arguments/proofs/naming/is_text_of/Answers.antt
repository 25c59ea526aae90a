use Rattle.std.proofs.{Common.{◌≡◌, ◌∙◌, sym, true, map, subst}, lemmas.Result.IfOk-weaker}
use Rattle.lc_arguments.specs.{Naming.{IsTextOf, NamesAll, named_command}, Options.option_model}
use Rattle.lc_arguments.proofs.naming.is_text_of.Goals as goal

pub returns-in-None : goal.returns-in-None
unfolding IsTextOf
returns-in-None g c named =
    subst (λ command. IsTextOf command c.args.text.now) (sym c.in-None.is ∙ c.asked.ensures.command) (c.has.ensures named)

pub returns-in-Some : goal.returns-in-Some
unfolding IsTextOf
returns-in-Some g c =
    let text = c.args.text.now in
    let command = c.in-Some.command in
    IfOk-weaker c.names_all.result (λ named. named ≡ true → NamesAll command (map option_model c.options.result.now) text)
    (λ named. named ≡ true → IsTextOf (named_command (map g.W.AsStr.text c.args.words.now)) text)
    (λ named holds is. subst (λ asked. IsTextOf asked text) (sym c.in-Some.is ∙ c.asked.ensures.command)
    (subst (λ os. NamesAll command os text) c.options.ensures (holds is))) c.names_all.ensures
