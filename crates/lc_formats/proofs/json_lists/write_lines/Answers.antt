use Rattle.std.proofs.{Common.{List, ◌++◌, take_all, sym, ap, ◌∙◌}, lemmas.List.Folds.flat_map-map}
use Rattle.std.specs.List.{flat_map}
use Rattle.json.specs.{Token.Token, Tree.json_tokens}
use Rattle.lc_sheet.specs.{Sheets.line_of, Values.ValueModel}
use Rattle.lc_formats.specs.JsonLines.{object_of}
use Rattle.lc_formats.proofs.Listed.{one_written}
use Rattle.lc_formats.proofs.json_lists.write_lines.Goals as goal

pub loop-line-preserved : goal.loop-line-preserved
loop-line-preserved g c =
    let columns = c.args.columns.now in
    let line = line_of (g.L.Lines.value_in c.args.form) columns in
    one_written (λ x. json_tokens (object_of c.args.compares c.args.attributes.now columns (line x)))
    c.args.lines.now c.loop-line.line-index c.line-item.result c.args.text.now c.loop-line.text c.write_line.new.text
    c.loop-line-test.true c.line-item.is c.loop-line.invariant c.in_ok-write_line.ensures

pub returns : goal.returns
returns g c =
    let columns = c.args.columns.now in
    let line = line_of (g.L.Lines.value_in c.args.form) columns in
    let own : List ValueModel → List Token = λ values. json_tokens (object_of c.args.compares c.args.attributes.now columns values) in
    c.loop-line.invariant
    ∙ ap (λ xs. c.args.text.now ++ flat_map (λ x. own (line x)) xs)
    (take_all c.loop-line.line-index c.args.lines.now c.loop-line-test.false)
    ∙ ap (λ (ts : List Token). c.args.text.now ++ ts) (sym (flat_map-map own line c.args.lines.now))
