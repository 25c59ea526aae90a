use Rattle.std.proofs.{Common.{List, ℕ, ◌++◌, ap₂, get_or, take_all, ap, ◌∙◌}, lemmas.List.get_or_default}
use Rattle.std.specs.List.{flat_map}
use Rattle.json.specs.Token.{Token}
use Rattle.lc_sheet.specs.{ColumnWords.column_word, Values.ValueModel, declared.column.Column.{Column, TheVariants.Key}}
use Rattle.lc_sheet.specs.declared.key.Key.TheVariants.{Dir}
use Rattle.lc_formats.specs.{JsonLines.value_members, JsonTokens.members_tokens_of}
use Rattle.lc_formats.proofs.{Listed.one_written, Tokens.line_tokens}
use Rattle.lc_formats.proofs.json_values.write_columns.Goals as goal

pub loop-column-preserved : goal.loop-column-preserved
loop-column-preserved g c =
    let columns = c.args.columns.now in
    let i = c.loop-column.column-index in
    let within = c.loop-column-test.true in
    let value = g.L.Lines.value_in c.args.form c.args.line.now in
    one_written (λ (x : Column). members_tokens_of (value_members (column_word c.args.attributes.now x) (value x)))
    columns i (get_or columns i (Key Dir)) c.args.text.now c.loop-column.text c.write_value.new.text
    within (get_or_default columns i (Key Dir) (get_or columns i (Key Dir)) within) c.loop-column.invariant (c.in_ok-write_value.ensures
    ∙ ap₂ (λ (n : List ℕ) (v : ValueModel). c.loop-column.text ++ members_tokens_of (value_members n v)) c.word-member.ensures
    c.value.ensures)

pub returns : goal.returns
returns g c =
    let value = g.L.Lines.value_in c.args.form c.args.line.now in
    let own : Column → List Token = λ x. members_tokens_of (value_members (column_word c.args.attributes.now x) (value x)) in
    c.loop-column.invariant
    ∙ ap (λ (cs : List Column). c.args.text.now ++ flat_map own cs)
    (take_all c.loop-column.column-index c.args.columns.now c.loop-column-test.false)
    ∙ ap (λ (ts : List Token). c.args.text.now ++ ts) (line_tokens c.args.attributes.now value c.args.columns.now)
