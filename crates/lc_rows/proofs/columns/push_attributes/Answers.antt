use Rattle.std.proofs.{Common.{◌++◌, [], ◌∷◌, append_assoc, ap, arith, sym, ◌∙◌}, lemmas.List.FromFn.map-range_with_len_more}
use Rattle.lc_sheet.specs.declared.{column.Column.{Column, TheVariants.Key}, key.Key.TheVariants.Attribute}
use Rattle.std.specs.Prelude.{List, ℕ, map}
use Rattle.std.specs.List.{range_with_len}
use Rattle.lc_rows.proofs.columns.push_attributes.Goals as goal

pub loop-place-preserved : goal.loop-place-preserved
loop-place-preserved c =
    let f : ℕ → Column = λ n. Key (Attribute n) in
    let p = c.loop-place.place in
    let before = c.args.columns.now.items in
    c.in_ok-push.ensures.items ∙ ap (λ (cs : List Column). cs ++ f p ∷ []) c.loop-place.invariant
    ∙ append_assoc before (map f (range_with_len 0 p)) (f p ∷ [])
    ∙ ap (λ (cs : List Column). before ++ cs) (sym (map-range_with_len_more f 0 p p (omega arith)))
