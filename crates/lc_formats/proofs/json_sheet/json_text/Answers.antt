use Rattle.std.proofs.Common.{◌≡◌, List, ◌++◌, codes, IfOk, ap, subst, ◌∙◌}
use Rattle.json.specs.{Lex.tokens, Print.print, Token.Token, Tree.json_tokens}
use Rattle.lc_formats.specs.JsonSheets.{json_of}
use Rattle.lc_formats.proofs.Depths.{is_document}
use Rattle.lc_formats.proofs.json_sheet.json_text.Goals as goal

pub returns : goal.returns
returns g c =
    let all = json_tokens (json_of c.args.sheet.now) in
    let whole : c.write_sheet.new.text ≡ all =
    c.in_ok-write_sheet.ensures ∙ ap (λ (ts : List Token). ts ++ all) c.new-text.ensures in
    let text = subst (λ (ts : List Token). IfOk c.into_line.result (λ line. line.items ≡ print ts ++ codes "\n")) whole
    c.into_line.ensures.text in
    let back = subst (λ (ts : List Token). IfOk c.into_line.result (λ _. tokens (print ts) ≡ ts)) whole c.into_line.ensures.reads_back in
    record {
      text = text;
      document = is_document c.args.sheet.now c.into_line.result text back;
    }
