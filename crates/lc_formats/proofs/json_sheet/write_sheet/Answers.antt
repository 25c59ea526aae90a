use Rattle.std.proofs.Common.{◌≡◌, ◌++◌, codes, ap, ◌∙◌}
use Rattle.lc_sheet.specs.Sheets.{SheetModel}
use Rattle.lc_formats.specs.{JsonSheets.{list_member, list_members, number_members}, JsonTokens.member_tokens}
use Rattle.lc_formats.proofs.Tokens.{sheet_appended}
use Rattle.lc_formats.proofs.json_sheet.write_sheet.Goals as goal

pub returns : goal.returns
returns g c =
    let sheet = c.args.sheet.now in
    let begun = c.begin_object.new.self in
    let rows : c.write_list.new.text ≡ begun ++ member_tokens (list_member sheet.compares (codes "rows") sheet.rows) =
    ◌∙◌ {b = begun ++ member_tokens (list_member c.sheet.inside.compares (codes "rows") c.sheet.inside.rows)} c.in_ok-write_list.ensures
    (ap (λ (s : SheetModel). begun ++ member_tokens (list_member s.compares (codes "rows") s.rows)) c.sheet.view_is) in
    rw (c.in_ok-end_object.ensures, c.in_ok-write_lists.ensures, c.in_ok-write_numbers.ensures, rows, c.in_ok-begin_object.ensures)
    (sheet_appended c.args.text.now (list_member sheet.compares (codes "rows") sheet.rows) (number_members sheet) (list_members sheet))
