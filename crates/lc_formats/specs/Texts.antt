-- The text of a sheet in a format.
use Rattle.std.specs.Prelude.{◌≡◌, ℕ, List}
use Rattle.lc_sheet.specs.{Sheets.SheetModel, declared.table_options.Format.{Format, TheVariants.{Tsv, Table, Json, Csv, Markdown}}}
use Rattle.lc_formats.specs.{Csv.csv_of, JsonSheets.{json_of, json_text_of}, JsonText.IsDocument, MarkdownText.markdown_of}
use Rattle.lc_formats.specs.{TableText.table_of, Tsv.tsv_of}

-- a text is that of a sheet in a format; a page of HTML has a picture in place of a sheet, whose text would be the table
abbrev pub IsTextIn : Format → SheetModel → List ℕ → Type 0
IsTextIn Tsv s text = text ≡ tsv_of s
IsTextIn Table s text = text ≡ table_of s
IsTextIn Json s text = (text ≡ json_text_of s) × IsDocument (json_of s) text
IsTextIn Csv s text = text ≡ csv_of s
IsTextIn Markdown s text = text ≡ markdown_of s
