-- A page of rows that are those of a report.
use Rattle.std.proofs.Common.{◌≡◌, ℕ, List, [], Some, ap, ap₂, ◌∙◌, subst}
use Rattle.lc_rows.specs.{RowKeys.ShownRowModel, Sheets.{listed_files, sheet_of}, ShownRows.{AreShown, number_in}, TreeRows.AreTreeRows}
use Rattle.lc_rows.specs.Views.{first_of, view_of}
use Rattle.lc_sheet.specs.{Sheets.SheetModel, declared.{column.Number.Number, table_options.TableOptions.TableOptions}}
use Rattle.lc_picture.specs.{declared.scale.Scale.Scale, Boxes.BoxModel, Page.{AreBoxesOf, ArePageBoxes, IsPageOf, chart_columns, chart_options}}
use Rattle.lc_picture.specs.{Boxes.least_of, Page.{chart_rows, chart_view, kind_columns, page_pieces, picture_parts, scale_of, tree_depth}}
use Rattle.lc_picture.specs.Pieces.{text_of}
use Rattle.lc_walk.specs.{TallyRows.TallyRowModel, declared.report.Report.Report}
use Rattle.lc_level.specs.{FaultLines.FaultLineModel, Level.FileLineModel}

-- the sheet of a report with some options and with all rows that it may show
abbrev pub sheet_with : TableOptions → Report → List ShownRowModel → SheetModel
sheet_with options r rows = sheet_of options [] r (view_of options.top rows (listed_files options.files r.files.items))

pub page_is : (named chosen : List ℕ) (by : Number) (r : Report) (text : List ℕ) (rs : List TallyRowModel) (fs gs : List FileLineModel)
    (extensions es chart kinds ks : List ShownRowModel) (hs : List FileLineModel) (least : ℕ) (drawn ds bs : List BoxModel)
    (options : TableOptions) (s : SheetModel) (scale : Scale) (faults : List FaultLineModel)
    → rs ≡ r.rows.items → fs ≡ r.files.items → gs ≡ r.files.items → es ≡ extensions → ds ≡ drawn
    → AreShown chart_columns (Some by) rs fs extensions → chart ≡ first_of (Some chart_rows) es → hs ≡ r.files.items → ks ≡ kinds
    → AreTreeRows tree_depth kind_columns hs kinds → least ≡ least_of picture_parts (number_in by r.totals)
    → AreBoxesOf by least gs ks drawn → ArePageBoxes named chart scale.by ds bs
    → options ≡ chart_options by → s ≡ sheet_with options r extensions → scale ≡ scale_of by r.totals → faults ≡ r.faults.items
    → text ≡ text_of (page_pieces named chosen scale faults chart s bs) → IsPageOf named chosen by r text
page_is named chosen by r text rs fs gs extensions es chart kinds ks hs least drawn ds bs options s scale faults own_rows own_files same_files
    same_extensions same_drawn shown first kind_files same_kinds are_kinds enough are_drawn painted asked sheet scaled own_faults is =
    let rows_are : chart ≡ (chart_view extensions).rows = first ∙ ap (first_of (Some chart_rows)) same_extensions in
    record {
      extensions = extensions;
      are_extensions =
          subst (λ (files : List FileLineModel). AreShown chart_columns (Some by) r.rows.items files extensions) own_files
          (subst (λ (tally : List TallyRowModel). AreShown chart_columns (Some by) tally fs extensions) own_rows shown);
      kinds = kinds;
      are_kinds = subst (λ (files : List FileLineModel). AreTreeRows tree_depth kind_columns files kinds) kind_files are_kinds;
      drawn = drawn;
      are_drawn =
          subst (λ (n : ℕ). AreBoxesOf by n r.files.items kinds drawn) enough
          (subst (λ (ks : List ShownRowModel). AreBoxesOf by least r.files.items ks drawn) same_kinds
          (subst (λ (files : List FileLineModel). AreBoxesOf by least files ks drawn) same_files are_drawn));
      boxes = bs;
      are_boxes =
          subst (λ (rows : List ShownRowModel). ArePageBoxes named rows by drawn bs) rows_are
          (subst (λ (cs : List BoxModel). ArePageBoxes named chart by cs bs) same_drawn
          (subst (λ (n : Number). ArePageBoxes named chart n ds bs) (ap (λ (q : Scale). q.by) scaled) painted));
      is =
          is ∙ ap (λ (q : Scale). text_of (page_pieces named chosen q faults chart s bs)) scaled
          ∙ ap (λ (es : List FaultLineModel). text_of (page_pieces named chosen (scale_of by r.totals) es chart s bs)) own_faults
          ∙ ap₂ (λ (t : SheetModel) (rows : List ShownRowModel). text_of (page_pieces named chosen (scale_of by r.totals) r.faults.items rows t bs))
          (sheet ∙ ap (λ (o : TableOptions). sheet_with o r extensions) asked) rows_are;
    }
