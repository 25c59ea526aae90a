use Rattle.std.proofs.Common.{List, [], ◌∷◌, ◌++◌, sym, ap, ◌∙◌}
use Rattle.std.specs.List.{flat_map}
use Rattle.json.specs.{Token.{Token, key, begin_array, end_array}, Tree.json_tokens}
use Rattle.lc_sheet.specs.Values.{ValueModel}
use Rattle.lc_formats.specs.JsonLines.{object_of}
use Rattle.lc_formats.proofs.Tokens.{array_tokens, in_turn_3}
use Rattle.lc_formats.proofs.json_lists.write_list.Goals as goal

pub returns : goal.returns
returns g c =
    let section = c.args.section.now in
    let own : List ValueModel → List Token = λ values. json_tokens (object_of c.args.compares section.attributes section.columns values) in
    rw (
      c.in_ok-end_array.ensures,
      c.in_ok-write_lines.ensures,
      c.in_ok-begin_list.ensures,
      c.parts.ensures.lines,
      c.parts.ensures.columns,
      c.attributes.ensures,
    )
    (in_turn_3 c.args.text.now (key c.args.name.now ∷ begin_array ∷ []) (flat_map own section.lines) (end_array ∷ [])
    ∙ ap (λ (ts : List Token). c.args.text.now ++ key c.args.name.now ∷ begin_array ∷ ts)
    (sym (array_tokens (object_of c.args.compares section.attributes section.columns) section.lines)))
