use Rattle.std.proofs.Common.{List, ◌++◌, ap, ◌∙◌, ℕ, ◌∷◌, []}
use Rattle.json.specs.Token.{key, string}
use Rattle.lc_formats.proofs.Tokens.{text_tokens, listed_tokens}
use Rattle.lc_formats.proofs.json_writer.JsonText.bytes_member.Goals as goal

pub returns-in_ok-string_member-in-Ok : goal.returns-in_ok-string_member-in-Ok
returns-in_ok-string_member-in-Ok c =
    rw (text_tokens c.args.name.now c.args.bytes.now c.in-Ok.ensures.cases.1)
    (c.in_ok-string_member-in-Ok.ensures
    ∙ ap (λ (s : List ℕ). c.args.self.now ++ key c.args.name.now ∷ string s ∷ []) c.in-Ok.ensures.cases.0)

pub returns-in_ok-integers_member-in-Err : goal.returns-in_ok-integers_member-in-Err
returns-in_ok-integers_member-in-Err c =
    rw (listed_tokens c.args.name.now c.args.bytes.now c.in-Err.ensures.cases.0) c.in_ok-integers_member-in-Err.ensures
