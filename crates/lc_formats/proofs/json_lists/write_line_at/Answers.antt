use Rattle.std.proofs.Common.{ℕ, List, ◌++◌, Option, Some, sym, ap, ◌∙◌, append-nil}
use Rattle.json.specs.{Token.Token, Tree.json_tokens}
use Rattle.lc_sheet.specs.{Sheets.line_of, Values.ValueModel, declared.column.Column.Column}
use Rattle.lc_formats.specs.{JsonLines.object_of, JsonSheets.object_members, JsonTokens.members_tokens_of}
use Rattle.lc_formats.proofs.{Sections.{line_there, line_missing}, Tokens.object_member_appended}
use Rattle.lc_formats.proofs.json_lists.write_line_at.Goals as goal

pub returns-in_ok-write_line : goal.returns-in_ok-write_line
returns-in_ok-write_line g c =
    let parts = c.parts.result in
    let section = c.args.section.now in
    let line = c.in-Some.line.now in
    let lookup = c.in-Some.ensures.lookup in
    let values = line_of (g.L.Lines.value_in parts.0) parts.1.now line in
    let is = line_there (g.L.Lines.value_in parts.0) parts.1.now parts.2.now section.lines c.args.index line
    c.parts.ensures.lines lookup.3.0 lookup.1 in
    let names = c.attributes.result.now in
    let object = json_tokens (object_of c.args.compares names parts.1.now values) in
    let own : List (List ℕ) → List Column → Option (List ValueModel) → List Token = λ ns cs l.
    c.args.text.now ++ members_tokens_of (object_members c.args.compares c.args.name.now ns cs l) in
    c.in_ok-write_line.ensures ∙ ap (λ (ts : List Token). ts ++ object) c.in_ok-key.ensures
    ∙ object_member_appended c.args.compares c.args.text.now c.args.name.now names parts.1.now values
    ∙ ap (λ (ns : List (List ℕ)). own ns parts.1.now (Some values)) c.attributes.ensures
    ∙ ap (λ (cs : List Column). own section.attributes cs (Some values)) c.parts.ensures.columns
    ∙ ap (own section.attributes section.columns) (sym is)

pub returns-in_default : goal.returns-in_default
returns-in_default g c =
    let parts = c.parts.result in
    let section = c.args.section.now in
    let is = line_missing (g.L.Lines.value_in parts.0) parts.1.now parts.2.now section.lines c.args.index
    c.parts.ensures.lines c.in_default.ensures.lookup.3 in
    sym (append-nil c.args.text.now)
    ∙ ap (λ (l : Option (List ValueModel)). c.args.text.now
    ++ members_tokens_of (object_members c.args.compares c.args.name.now section.attributes section.columns l)) (sym is)
