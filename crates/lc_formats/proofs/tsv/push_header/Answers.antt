use Rattle.std.proofs.Common.{◌∙◌, List, ap, ◌++◌, take_all}
use Rattle.std.specs.List.{flat_map}
use Rattle.lc_sheet.specs.declared.column.Column.{Column}
use Rattle.lc_text.specs.{Escape.escape_bytes, Names.{NameModel, named}}
use Rattle.lc_formats.specs.{Tsv.header_field, TsvParts.after_tab}
use Rattle.lc_formats.proofs.TsvLines.{line_written}
use Rattle.lc_formats.proofs.tsv.push_header.Goals as goal

pub returns : goal.returns
returns c =
    rw c.in-Some.ensures.cases.0
    (line_written (header_field c.args.attributes.now) (header_field c.args.attributes.now c.in-Some.first.now) c.in-Some.rest.now
    c.args.text.now.items c.push_name.new.text.items c.loop-column.text.items c.extend_from_slice-2.new.self.items
    (c.in_ok-push_name.ensures ∙ ap (λ (n : NameModel). c.args.text.now.items ++ named escape_bytes n) c.name.ensures)
    (c.loop-column.invariant
    ∙ ap (λ (cs : List Column). c.push_name.new.text.items ++ flat_map (λ x. after_tab (header_field c.args.attributes.now x)) cs)
    (take_all c.loop-column.column-index c.in-Some.rest.now c.loop-column-test.false)) c.in_ok-extend_from_slice-2.ensures.items)
