-- What is true of texts as CSV.
use Rattle.std.specs.{Prelude.{◌≡◌, ◌<◌, List, length}, List.All}
use Rattle.csv.specs.{Reading.{AreRecords, default_config}, declared.parser.State.TheVariants.StartRecord}
use Rattle.lc_sheet.specs.{Sheets.{SectionModel, SheetModel}, Values.ValueModel}
use Rattle.lc_formats.specs.Csv.{csv_of, csv_section, records_of}

-- a section that has columns, and whose lines have a value in each column
pub record HasColumns (s : SectionModel) : Type 0 where
  pub some : 0 < length s.columns
  pub each : All (λ (values : List ValueModel). length values ≡ length s.columns) s.lines

-- reading the CSV text (RFC 4180) of a sheet returns the records of its section, and no others
abbrev pub RecordsLaw : Type 0
RecordsLaw =
    (s : SheetModel) → HasColumns (csv_section s)
    → AreRecords default_config StartRecord (csv_of s) (records_of (csv_section s))
