use Rattle.std.proofs.Common.{ℕ, List, ◌++◌, ◌∙◌, ap, append_assoc, sym}
use Rattle.std.proofs.lemmas.List.Splits.{join_with_byte-slice_split}
use Rattle.lc_sheet.specs.Conditions.{comma}
use Rattle.lc_program.proofs.chosen.push_values.Goals as goal

pub returns : goal.returns
returns c =
    let old = c.args.text.now.items in
    let sign = c.args.sign.now in
    let texts = c.args.texts.now in
    c.in_ok-extend_from_slice-2.ensures.items ∙ ap (λ (l : List ℕ). l ++ texts) c.in_ok-extend_from_slice.ensures.items
    ∙ append_assoc old sign texts ∙ ap (λ (l : List ℕ). old ++ (sign ++ l)) (sym (join_with_byte-slice_split comma texts))
