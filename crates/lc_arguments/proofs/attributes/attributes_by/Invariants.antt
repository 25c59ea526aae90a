use Rattle.std.proofs.Common.{◌≡◌, ◌++◌, map, option_map}
use Rattle.std.specs.List.{filter_map}
use Rattle.lc_glob.specs.Pieces.{pieces_left}
use Rattle.lc_arguments.specs.{AttributeWords.{attribute_named, attributes_by}, Texts.comma}
use Rattle.lc_arguments.proofs.ColumnNames.{left_over}
use Rattle.lc_arguments.proofs.attributes.attributes_by.Given as goal

abbrev pub invariant-names : goal.invariant-names
invariant-names l =
    map (λ attribute. attribute.now) l.attributes.items ++ filter_map attribute_named (pieces_left comma l.left)
    ≡ attributes_by (option_map (λ s. s.now) l.text)

abbrev pub decreases-names : goal.decreases-names
decreases-names l = left_over l.left
