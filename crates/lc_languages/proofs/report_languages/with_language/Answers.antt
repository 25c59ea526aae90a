use Rattle.std.proofs.Common.{◌≡◌, ◌∙◌, sym, ap, map, option_map, slice_get, slice_set, Some, unwrap_or, rules}
use Rattle.std.proofs.lemmas.{List.map-set, Option.{slice_get-map, slice_get_read}}
use Rattle.lc_rules.specs.{Attributes.unspecified, Models.state_model}
use Rattle.lc_languages.specs.InLanguages.{language_state}
use Rattle.lc_languages.proofs.report_languages.with_language.Goals as goal

pub returns-then-place-len : goal.returns-then-place-len
returns-then-place-len c =
    let at : slice_get c.args.states.items c.args.place ≡ Some c.index.result.now
    = slice_get_read c.args.states.items c.len.result c.args.place c.index.result.now (search rules) (search rules) (search rules) in
    map-set state_model c.args.states.items c.args.place c.language_state.result
    ∙ ap (slice_set (map state_model c.args.states.items) c.args.place) (c.language_state.ensures
    ∙ ap (λ o. language_state c.args.languages.now c.args.name.now (unwrap_or o unspecified))
    (sym (slice_get-map state_model c.args.states.items c.args.place ∙ ap (option_map state_model) at)))
