-- No line of a text in columns ends in a blank.
use Rattle.std.proofs.{Common.{◌≡◌, ℕ, false, List, map, Option, Some, None}, lemmas.List.Elements.All-same}
use Rattle.std.specs.{List.All, Option.IfSome}
use Rattle.lc_text.specs.Lines.{input_lines_of}
use Rattle.lc_sheet.specs.Sheets.{SectionModel}
use Rattle.lc_formats.specs.{Blanks.ends_in_blank, PaddedText.{padded_counts, padded_summary}, Columns.widths_of, TableText.count_lines}
use Rattle.lc_formats.specs.{TableText.{counts_below, counts_of, list_listing, summary, table_of}, WidthLaws.{HasEnds, LineEndsLaw}}
use Rattle.lc_formats.proofs.{EvenLines.span, EvenParts.{IsClean, clean-append, clean_even, clean_feed, clean_nothing, shown}}
use Rattle.lc_formats.proofs.{LinesApart.input_lines_of-lined, ListingWidths.section_clean, RowWidths.{count_sides, even_counts}}
use Rattle.lc_formats.proofs.RowWidths.{even_summary, summary_lines, summary_span}

-- the lines of a text that is clean
clean_lines : (text : List ℕ) → IsClean text → All (λ line. ends_in_blank line ≡ false) (input_lines_of text)
clean_lines text is =
    All-same (λ line. ends_in_blank line ≡ false) (input_lines_of text) is.lines (input_lines_of-lined is.lines text is.lined) is.ends

list_clean : (list : Option SectionModel) → IfSome list HasEnds → IsClean (list_listing list)
list_clean None has = clean_nothing
list_clean (Some s) has = section_clean s has

counts_clean : (directories entries : Option ℕ) → IsClean (counts_below directories entries)
counts_clean None entries = clean_nothing
counts_clean (Some n) entries =
    let widths = widths_of (count_lines n entries) in
    clean-append _ _ clean_feed
    (clean_even (span count_sides widths) (map (shown widths) (count_lines n entries)) (padded_counts n entries) (counts_of n entries)
    (even_counts n entries))

pub line_ends_law : LineEndsLaw
line_ends_law s is files skipped faults =
    let rows = clean_even (summary_span s) (summary_lines s) (padded_summary s) (summary s) (even_summary s is) in
    clean_lines (table_of s)
    (clean-append _ _ (clean-append _ _ (clean-append _ _ (clean-append _ _ (list_clean s.files files) (list_clean s.skipped skipped))
    (list_clean s.faults faults)) rows) (counts_clean s.directories s.entries))
