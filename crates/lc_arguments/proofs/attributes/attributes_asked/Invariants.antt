use Rattle.std.proofs.Common.{◌≡◌, ◌++◌, map, option_map, take}
use Rattle.std.specs.List.{filter_map}
use Rattle.lc_arguments.specs.AttributeWords.{attributes_by, column_tested, new_names}
use Rattle.lc_arguments.proofs.attributes.attributes_asked.Given as goal

abbrev pub invariant-loop-text : goal.invariant-loop-text
invariant-loop-text l =
    map (λ attribute. attribute.now) l.attributes.items
    ≡ attributes_by (option_map (λ s. s.now) l.by)
    ++ new_names (attributes_by (option_map (λ s. s.now) l.by))
    (filter_map column_tested (map (λ text. text.now) (take l.text-index l.texts)))
