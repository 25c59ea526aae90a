use Rattle.std.proofs.Common.{◌∙◌, ap, ◌++◌}
use Rattle.lc_formats.specs.Tsv.{field_of}
use Rattle.lc_formats.proofs.TsvLines.{values_written}
use Rattle.lc_formats.proofs.tsv.push_line.Goals as goal

pub returns-in-Some : goal.returns-in-Some
returns-in-Some g c =
    rw c.in-Some.is
    (values_written (g.L.Lines.value_in c.args.form c.args.line.now) c.in-Some.tag.now c.args.columns.now c.args.text.now.items
    c.extend_from_slice.new.self.items c.push_fields.new.text.items c.extend_from_slice-in-Some.new.self.items
    (c.in_ok-extend_from_slice.ensures.items ∙ ap (λ l. c.args.text.now.items ++ l) c.as_bytes.ensures.value) c.in_ok-push_fields.ensures
    c.in_ok-extend_from_slice-2.ensures.items)

pub returns : goal.returns
returns g c =
    rw (c.in_default.is, c.in-Some-split_first.ensures.cases.0)
    (values_written (g.L.Lines.value_in c.args.form c.args.line.now)
    (field_of (g.L.Lines.value_in c.args.form c.args.line.now c.in-Some-split_first.first.now)) c.in-Some-split_first.rest.now
    c.args.text.now.items c.push_field.new.text.items c.push_fields-2.new.text.items c.extend_from_slice-2.new.self.items
    c.in_ok-push_field.ensures c.in_ok-push_fields-2.ensures c.in_ok-extend_from_slice-3.ensures.items)
