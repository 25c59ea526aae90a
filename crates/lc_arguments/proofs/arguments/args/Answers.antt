use Rattle.std.proofs.{Common.{◌∙◌, ap, sym}, lemmas.List.Folds.list_all-map}
use Rattle.std.specs.List.{list_all}
use Rattle.lc_arguments.specs.{CountArgs.is_own_name, Options.{OptionModel, option_model}}
use Rattle.lc_arguments.proofs.arguments.args.Goals as goal

-- each row of the table has a name of its own
pub args_of-requires : goal.args_of-requires
args_of-requires c = record {
  own = sym (list_all-map (λ (o : OptionModel). is_own_name o.name) option_model c.options.result.now)
      ∙ ap (list_all (λ (o : OptionModel). is_own_name o.name)) c.options.ensures;
}
