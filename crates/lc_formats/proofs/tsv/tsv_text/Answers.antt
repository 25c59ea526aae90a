use Rattle.std.proofs.Common.{ap}
use Rattle.lc_formats.specs.Tsv.{tsv_of}
use Rattle.lc_formats.proofs.tsv.tsv_text.Goals as goal

pub returns : goal.returns
returns g c =
    rw (
      c.in_ok-push_list-3.ensures,
      c.in_ok-push_list-2.ensures,
      c.in_ok-push_list.ensures,
      c.in_ok-push_number_line-2.ensures,
      c.in_ok-push_number_line.ensures,
      c.in_ok-push_section-3.ensures,
      c.shown_lines.ensures,
      c.in_ok-push_section-2.ensures,
      c.in_ok-push_section.ensures,
      c.in_ok-push_header.ensures,
      c.columns.ensures,
      c.attributes.ensures,
      c.new-text.ensures.items,
    )
    (ap tsv_of c.sheet.view_is)
