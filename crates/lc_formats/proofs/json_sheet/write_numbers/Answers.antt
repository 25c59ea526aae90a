use Rattle.std.proofs.Common.{◌++◌, codes, ap, ◌∙◌}
use Rattle.lc_sheet.specs.Sheets.{SheetModel}
use Rattle.lc_formats.specs.{JsonSheets.{line_at, number_member, number_members, totals_members}, JsonTokens.members_tokens_of}
use Rattle.lc_formats.proofs.Tokens.{four_members}
use Rattle.lc_formats.proofs.json_sheet.write_numbers.Goals as goal

pub returns : goal.returns
returns g c =
    let s = c.sheet.inside in
    rw (c.in_ok-write_number-2.ensures, c.in_ok-write_number.ensures, c.in_ok-write_totals.ensures, c.in_ok-write_line_at.ensures)
    (four_members c.args.text.now (line_at s.compares (codes "others") 0 s.others) (totals_members s.compares s.totals)
    (number_member (codes "directories") s.directories) (number_member (codes "entries") s.entries)
    ∙ ap (λ (t : SheetModel). c.args.text.now ++ members_tokens_of (number_members t)) c.sheet.view_is)
