use Rattle.std.proofs.Common.{ap, ◌∙◌, string_bytes}
use Rattle.lc_formats.specs.TableText.{table_of}
use Rattle.lc_formats.proofs.TableWritten.{table_written}
use Rattle.lc_formats.proofs.table.table_text.Goals as goal

pub returns : goal.returns
returns g c =
    let s = c.sheet.inside in
    table_written s.files s.skipped s.faults s.rows s.others s.totals c.shown_lines-totals.result s.some_binary s.directories s.entries
    (string_bytes c.new-text.result) (string_bytes c.push_list.new.text) (string_bytes c.push_list-2.new.text)
    (string_bytes c.push_list-3.new.text) (string_bytes c.push_summary.new.text) (string_bytes c.push_counts.new.text)
    c.into_bytes.result.items c.new-text.ensures.bytes c.in_ok-push_list.ensures c.in_ok-push_list-2.ensures c.in_ok-push_list-3.ensures
    c.shown_lines-totals.ensures c.in_ok-push_summary.ensures c.in_ok-push_counts.ensures (ap (λ v. v.items) c.into_bytes.ensures.value)
    ∙ ap table_of c.sheet.view_is
