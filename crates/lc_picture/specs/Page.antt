-- The page of a report: a head with the numbers of all files, the boxes of its directories, and a bar chart of its extensions.
use Rattle.std.specs.Prelude.{◌≡◌, ℕ, Bool, true, false, List, [], ◌∷◌, ◌++◌, codes, unwrap_or, Option, Some, None}
use Rattle.lc_rows.specs.{RowKeys.ShownRowModel, Sheets.sheet_of, ShownRows.{AreShown, number_in}, TreeRows.AreTreeRows, Views.ViewModel}
use Rattle.lc_rows.specs.Views.{view_of}
use Rattle.lc_sheet.specs.Sheets.{SheetModel}
use Rattle.lc_sheet.specs.declared.table_options.{Columns.Columns, Output.TheVariants.Picture, TableOptions.TableOptions}
use Rattle.lc_sheet.specs.declared.column.Number.{Number, TheVariants.Lines}
use Rattle.lc_walk.specs.declared.{report.Report.Report, tally.sums.Sums.Sums}
use Rattle.lc_picture.specs.{declared.scale.Scale.Scale, Boxes.{BoxModel, drawn_boxes, least_of, titled}, Chart.chart}
use Rattle.lc_picture.specs.{Chains.joined, Faults.faults_part, Files.{large_files, with_files}, Head.head_part, Kinds.all_painted}
use Rattle.lc_picture.specs.{Legend.legend, Nested.boxes_in, Rests.with_rests}
use Rattle.lc_picture.specs.{Places.AreLargestFirst, Pieces.Piece}
use Rattle.lc_picture.specs.Pieces.{markup, text_of, word}
use Rattle.lc_level.specs.{FaultLines.FaultLineModel, Level.FileLineModel}

-- ---- the page of a sheet and of boxes

abbrev pub legend_begin : List ℕ
legend_begin = codes "<p class=\"legend\">\n"

abbrev pub tree_begin : List ℕ
tree_begin = codes "<a href=\"#\">Show all</a>\n</p>\n<div class=\"tree\">\n"

abbrev pub tree_end : List ℕ
tree_end = codes "</div>\n<p>Each box has its share of the "

abbrev pub explanation : List ℕ
explanation =
    codes " in the box around it, and the colour of the extension that has most of them. A grey box shows the directories and files with "
    ++ codes "less than a thousandth of all. Click the name of a directory to see it alone.</p>\n"

-- the legend and the boxes of a page
abbrev pub tree_part : Scale → List ShownRowModel → List BoxModel → List Piece
tree_part scale chart boxes =
    (markup legend_begin ∷ (legend scale.by chart ++ markup tree_begin ∷ []))
    ++ (boxes_in scale 0 boxes ++ markup tree_end ∷ word scale.by ∷ markup explanation ∷ [])

abbrev pub chart_begin : List ℕ
chart_begin =
    codes "<h2>By extension</h2>\n<table>\n<tr><th>extension</th><th>files</th><th>lines</th><th>blank</th><th>bytes</th>"
    ++ codes "<th>share</th><td></td></tr>\n"

abbrev pub page_end : List ℕ
page_end = codes "</table>\n</body>\n</html>\n"

abbrev pub chart_part : SheetModel → List Piece
chart_part s = markup chart_begin ∷ (chart s ++ markup page_end ∷ [])

-- what follows the head of a page: the errors, the legend of these rows, the boxes, and the chart
abbrev pub body_pieces : Scale → List FaultLineModel → List ShownRowModel → SheetModel → List BoxModel → List Piece
body_pieces scale faults chart s boxes = faults_part faults ++ (tree_part scale chart boxes ++ chart_part s)

abbrev pub page_pieces : List ℕ → List ℕ → Scale → List FaultLineModel → List ShownRowModel → SheetModel → List BoxModel → List Piece
page_pieces named chosen scale faults chart s boxes =
    head_part named chosen scale.by s.totals ++ body_pieces scale faults chart s boxes

-- the number that a page draws, with its sum over all files
abbrev pub scale_of : Number → Sums → Scale
scale_of by totals = record { by = by; whole = number_in by totals }

-- ---- the page of a report

-- the columns of the chart's rows: the extension alone
abbrev pub chart_columns : Columns
chart_columns = record { dir = None; attributes = 0; ext = true; text = false; eol = false }

-- the greatest number of extensions that have rows of their own in the chart
abbrev pub chart_rows : ℕ
chart_rows = 20

-- the options of the sheet of a page: the largest extensions, with bars
abbrev pub chart_options : Number → TableOptions
chart_options by = record {
  output = Picture;
  by = chart_columns;
  sort = Some by;
  top = Some chart_rows;
  files = false;
  share = true;
}

-- the columns of the rows from which boxes of directories are made: the directory alone
abbrev pub tree_columns : Columns
tree_columns = record { dir = Some 1; attributes = 0; ext = false; text = false; eol = false }

-- the columns of the rows that decide the colours of boxes: the directory and the extension
abbrev pub kind_columns : Columns
kind_columns = record { dir = Some 1; attributes = 0; ext = true; text = false; eol = false }

-- the number that a picture draws: the number that is requested, or else lines
abbrev pub drawn_number : Option Number → Number
drawn_number sort = unwrap_or sort Lines

-- the rows of a chart, and the sums over the others, of all rows by extension
abbrev pub chart_view : List ShownRowModel → ViewModel
chart_view extensions = view_of (Some chart_rows) extensions []

-- the number of names after which the paths of directories are cut. So a browser, which nests at most 512 elements, nests all boxes
abbrev pub tree_depth : ℕ
tree_depth = 250

-- these are the boxes of the directories and the files with at least the least number, the largest first, each chain as one, with rows by
-- directory and extension; and, the last in each directory, those of the rests
pub record AreBoxesOf (by : Number) (least : ℕ) (files : List FileLineModel) (kinds : List ShownRowModel) (boxes : List BoxModel)
    : Type 0 where
  pub tree : List ShownRowModel
  pub are_tree : AreTreeRows tree_depth tree_columns files tree
  pub sorted : List BoxModel
  pub are_sorted :
      AreLargestFirst by (with_files (large_files tree_depth by least files) (joined by least (drawn_boxes by least kinds tree))) sorted
  pub are : boxes ≡ with_rests by sorted

-- how many parts a picture divides its total into: a directory or a file with one of them has a box
abbrev pub picture_parts : ℕ
picture_parts = 1000

-- these are boxes as a page shows them: in their colours, in strips, and the first with the title of the page. Which boxes begin a strip is
-- free
pub record ArePageBoxes (named : List ℕ) (chart : List ShownRowModel) (by : Number) (drawn boxes : List BoxModel) : Type 0 where
  pub begins : List Bool
  pub are : boxes ≡ titled named (all_painted chart by begins 0 drawn)

-- a text is the page of a report with this title and these chosen files, where this number is drawn. It is made from the sheet of the
-- report's extensions, sorted, and from the boxes of its files and their directories
pub record IsPageOf (named chosen : List ℕ) (by : Number) (r : Report) (text : List ℕ) : Type 0 where
  pub extensions : List ShownRowModel
  pub are_extensions : AreShown chart_columns (Some by) r.rows.items r.files.items extensions
  pub kinds : List ShownRowModel
  pub are_kinds : AreTreeRows tree_depth kind_columns r.files.items kinds
  pub drawn : List BoxModel
  pub are_drawn : AreBoxesOf by (least_of picture_parts (number_in by r.totals)) r.files.items kinds drawn
  pub boxes : List BoxModel
  pub are_boxes : ArePageBoxes named (chart_view extensions).rows by drawn boxes
  pub is :
      text
      ≡ text_of (page_pieces named chosen (scale_of by r.totals) r.faults.items (chart_view extensions).rows
      (sheet_of (chart_options by) [] r (chart_view extensions)) boxes)
