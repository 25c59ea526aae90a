use Rattle.std.proofs.Common.{◌∙◌, ◌++◌, ◌∷◌, [], ap, sym}
use Rattle.lc_sheet.specs.declared.{column.Compared.TheVariants.Key, key.Key.TheVariants.Attribute}
use Rattle.lc_changes.proofs.Attributes.{one_attribute_more}
use Rattle.lc_changes.proofs.columns.recorded_values.Goals as goal

pub loop-place-preserved : goal.loop-place-preserved
loop-place-preserved c =
    let n = c.loop-place.place in
    c.in_ok-push.ensures.items ∙ ap (λ l. l ++ Key (Attribute n) ∷ []) c.loop-place.invariant ∙ sym (one_attribute_more n)
