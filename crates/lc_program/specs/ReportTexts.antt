-- The text of a report, by its options.
use Rattle.std.specs.{Prelude.{◌≡◌, ℕ, List, [], unwrap_or}, List.Sorted.IsPermutation}
use Rattle.lc_formats.specs.{Paths.{paths_of, refused_lines}, Texts.IsTextIn}
use Rattle.lc_picture.specs.{Page.{IsPageOf, drawn_number}, Tree.IsTreeOf}
use Rattle.lc_rows.specs.{Kept.IsKept, Sheets.IsSheetOf}
use Rattle.lc_sheet.specs.{Conditions.ConditionModel, Sheets.{SheetModel, sheet_format}}
use Rattle.lc_sheet.specs.declared.table_options.{Output.{Output, TheVariants.{Text, Picture, Tree, Paths}}, ReportOptions.ReportOptions}
use Rattle.lc_sheet.specs.declared.table_options.TableOptions.{TableOptions}
use Rattle.lc_text.specs.declared.lines.PathEnd.{PathEnd}
use Rattle.lc_walk.specs.declared.report.Report.{Report}

-- how a report is shown: its title, which files were chosen, the conditions on its files, the options of the table, the columns of
-- attributes, and what ends each path
pub record Showing : Type 0 where
  pub title : List ℕ
  pub chosen : List ℕ
  pub conditions : List ConditionModel
  pub table : TableOptions
  pub attributes : List (List ℕ)
  pub end : PathEnd

abbrev pub showing : List ℕ → List ℕ → List ConditionModel → TableOptions → List (List ℕ) → PathEnd → Showing
showing title chosen conditions table attributes end = record {
  title = title;
  chosen = chosen;
  conditions = conditions;
  table = table;
  attributes = attributes;
  end = end;
}

abbrev pub showing_of : ReportOptions → Showing
showing_of o = showing o.title.now o.chosen.now o.conditions.now o.table o.attributes.now o.end

-- a text is that of a sheet as this output, without the paths that have these lines; only paths are refused
abbrev pub IsWrittenAs : Output → PathEnd → SheetModel → List ℕ → List ℕ → Type 0
IsWrittenAs Paths end sheet text refused = (text ≡ paths_of end sheet) × (refused ≡ refused_lines end sheet)
IsWrittenAs output end sheet text refused = IsTextIn (sheet_format output) sheet text × (refused ≡ [])

-- the same, of a report's sheet that is shown so
pub record HasSheet (s : Showing) (r : Report) (text refused : List ℕ) : Type 0 where
  pub sheet : SheetModel
  pub is_sheet : IsSheetOf s.table s.attributes r sheet
  pub is : IsWrittenAs s.table.output s.end sheet text refused

-- the same, of a page of HTML
abbrev pub IsPageText : Showing → Report → List ℕ → List ℕ → Type 0
IsPageText s r text refused = IsPageOf s.title s.chosen (drawn_number s.table.sort) r text × (refused ≡ [])

-- the same, of a tree
abbrev pub IsTreeText : Showing → Report → List ℕ → List ℕ → Type 0
IsTreeText s r text refused = IsTreeOf s.title (drawn_number s.table.sort) (unwrap_or s.table.by.dir 1) r text × (refused ≡ [])

-- a text shows a report as this output
abbrev pub IsTextBy : Output → Showing → Report → List ℕ → List ℕ → Type 0
IsTextBy Picture s r text refused = IsPageText s r text refused
IsTextBy Tree s r text refused = IsTreeText s r text refused
IsTextBy (Text format) s r text refused = HasSheet s r text refused
IsTextBy Paths s r text refused = HasSheet s r text refused

-- a text is that of a report that is shown so
abbrev pub IsTextOf : Showing → Report → List ℕ → List ℕ → Type 0
IsTextOf s r text refused = IsTextBy s.table.output s r text refused

-- the second report is the first with its files in another order; all else is the same
pub record IsReordered (r left : Report) : Type 0 where
  pub files : IsPermutation r.files.items left.files.items
  pub rest : left ≡ record r { files = left.files }

-- a text is that of the part of a report that meets the conditions, and `left` is this part, with its files in any order
pub record IsPrinted (s : Showing) (r : Report) (text refused : List ℕ) (left : Report) : Type 0 where
  pub part : Report
  pub is_kept : IsKept s.conditions r part
  pub is_text : IsTextOf s part text refused
  pub is_left : IsReordered part left
