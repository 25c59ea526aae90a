-- A sheet: what a report shows, as sections of lines, each with a value in each column.
use Rattle.std.specs.Prelude.{ℕ, Bool, List, map, Option}
use Rattle.lc_sheet.specs.{Values.ValueModel, declared.{column.Column.Column, table_options.Format.{Format, TheVariants.{Table, Csv}}}}
use Rattle.lc_sheet.specs.declared.table_options.Output.{Output, TheVariants.{Text, Picture, Tree, Paths}}

-- a section: a word that may name its lines, the names of columns of attributes, its columns, and for each line its values in these columns
pub record SectionModel : Type 0 where
  pub tag : Option (List ℕ)
  pub attributes : List (List ℕ)
  pub columns : List Column
  pub lines : List (List ValueModel)

-- the values of a line in each column
abbrev pub line_of : {X : Type 0} → (X → Column → ValueModel) → List Column → X → List ValueModel
line_of value columns line = map (value line) columns

-- the values of each line in each column
abbrev pub lines_of : {X : Type 0} → (X → Column → ValueModel) → List Column → List X → List (List ValueModel)
lines_of value columns lines = map (line_of value columns) lines

-- a sheet of a report, or of a comparison of two reports, which has the rows, the sums over the rows that are cut off if there are any, the
-- total, and the files
pub record SheetModel : Type 0 where
  pub rows : SectionModel
  pub others : SectionModel
  pub totals : SectionModel
  pub compares : Bool
  pub some_binary : Bool
  pub directories : Option ℕ
  pub entries : Option ℕ
  pub files : Option SectionModel
  pub skipped : Option SectionModel
  pub faults : Option SectionModel

-- the format of the sheet that an output shows: a picture and a tree have no sheet of their own, and are of the format of a table; paths
-- are those of the sheet of csv
abbrev pub sheet_format : Output → Format
sheet_format (Text format) = format
sheet_format Picture = Table
sheet_format Tree = Table
sheet_format Paths = Csv
