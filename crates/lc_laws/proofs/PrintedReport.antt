-- The members of a report that is printed as JSON with all its files.
use Rattle.std.proofs.Common.{arith, ◌≡◌, ℕ, Bool, true, false, List, [], ◌∷◌, ◌++◌, map, codes, Option, None, sym, subst}
use Rattle.std.proofs.lemmas.Grind.{common_steps}
use Rattle.json.specs.Json.{Json}
use Rattle.lc_formats.specs.{JsonLines.{line_members, line_object}, JsonSheets.json_of, JsonText.{Member, array_with, integer, object_with}}
use Rattle.lc_level.specs.{FaultLines.FaultLineModel, Level.{FileLineModel, SkippedLineModel}}
use Rattle.lc_rows.specs.{Kinds.{fault_value, file_value, row_value, skipped_value, sums_value}, RowKeys.ShownRowModel}
use Rattle.lc_rows.specs.{SheetColumns.{fault_columns, number_columns, recorded_columns, recorded_skipped, row_columns}, Sheets.form_of}
use Rattle.lc_rows.specs.{Sheets.{listed_files, sheet_of}, Views.view_of}
use Rattle.lc_sheet.specs.{Sheets.{line_of, lines_of}, declared.form.Form.Form}
use Rattle.lc_sheet.specs.{declared.table_options.{TableOptions.TableOptions, Output.{Output, TheVariants.Text}}}
use Rattle.lc_walk.specs.declared.{report.Report.Report, tally.sums.Sums.Sums}
use Rattle.lc_laws.specs.ReadBack.{IsWholeJson}
use Rattle.lc_sheet.specs.declared.table_options.Format.TheVariants as format

-- the parts of a report that is printed
pub record Parts : Type 0 where
  pub form : Form
  pub attributes : List (List ℕ)
  pub rows : Json
  pub totals : Sums
  pub text : Sums
  pub binary : Sums
  pub directories : ℕ
  pub files : List FileLineModel
  pub faults : List FaultLineModel

module _ (form : Form) where
  abbrev pub sums_members : List ℕ → Sums → List Member
  sums_members n s = line_members [] number_columns (line_of (sums_value form) number_columns (record { name = n; sums = s }))

  -- the objects of files, skipped entries and errors
  abbrev pub file_objects : List (List ℕ) → List FileLineModel → List Json
  file_objects attributes fs = map (line_object attributes (recorded_columns form.by)) (lines_of (file_value form)
      (recorded_columns form.by) fs)

  abbrev pub skipped_objects : List SkippedLineModel → List Json
  skipped_objects ls = map (line_object [] recorded_skipped) (lines_of (skipped_value form) recorded_skipped ls)

  abbrev pub fault_objects : List FaultLineModel → List Json
  fault_objects fs = map (line_object [] fault_columns) (lines_of (fault_value form) fault_columns fs)

-- the members before the number of entries
abbrev pub members_around : Parts → List Member → List Member → List Member
members_around p entries skipped =
    (codes "rows", p.rows) ∷ (codes "total", object_with (sums_members p.form (codes "total") p.totals))
    ∷ (codes "text", object_with (sums_members p.form (codes "text") p.text))
    ∷ (codes "binary", object_with (sums_members p.form (codes "binary") p.binary)) ∷ (codes "directories", integer p.directories)
    ∷ (entries ++ (codes "files", array_with (file_objects p.form p.attributes p.files))
    ∷ (skipped ++ (codes "faults", array_with (fault_objects p.form p.faults)) ∷ []))

-- all members, with the number of entries and the skipped ones if these are listed
abbrev pub report_members : Parts → Bool → ℕ → List SkippedLineModel → List Member
report_members p false n ls = members_around p [] []
report_members p true n ls =
    members_around p ((codes "entries", integer n) ∷ []) ((codes "left", array_with (skipped_objects p.form ls)) ∷ [])

module _ (options : TableOptions) (attributes : List (List ℕ)) (r : Report) (rows : List ShownRowModel) (files : List FileLineModel) where
  abbrev pub printed_form : Form
  printed_form = form_of options r.totals rows

  abbrev pub printed_parts : Parts
  printed_parts = record {
    form = printed_form;
    attributes = attributes;
    rows = array_with (map (line_object attributes (row_columns options)) (lines_of (row_value printed_form) (row_columns options) rows));
    totals = r.totals;
    text = r.classes.text;
    binary = r.classes.binary;
    directories = r.directories;
    files = files;
    faults = r.faults.items;
  }

-- the sheet that shows all files and rows as JSON
module _ (options : TableOptions) (attributes : List (List ℕ)) (r : Report) (rows : List ShownRowModel) (files : List FileLineModel) where
  abbrev with_options : Output → Option ℕ → Bool → TableOptions
  with_options o top listed =
      record { output = o; by = options.by; sort = options.sort; top = top; files = listed; share = options.share }

  abbrev with_lists : Bool → Report
  with_lists b = record r { lists = record { files = r.lists.files; left_out = b } }

  abbrev IsPrinted : Output → Option ℕ → Bool → Bool → Type 0
  IsPrinted o top listed b =
      json_of (sheet_of (with_options o top listed) attributes (with_lists b) (view_of top rows (listed_files listed files)))
      ≡ object_with (report_members (printed_parts (with_options o top listed) attributes r rows files) b r.entries r.skipped.items)

  whole_printed : (b : Bool) → IsPrinted (Text format.Json) None true b
  whole_printed b = grind (arith, common_steps)

  pub sheet_printed : IsWholeJson options
      → json_of (sheet_of options attributes r (view_of options.top rows (listed_files options.files files)))
      ≡ object_with (report_members (printed_parts options attributes r rows files) r.lists.left_out r.entries r.skipped.items)
  sheet_printed whole =
      subst (λ o. IsPrinted o options.top options.files r.lists.left_out) (sym whole.json)
      (subst (λ top. IsPrinted (Text format.Json) top options.files r.lists.left_out) (sym whole.uncut)
      (subst (λ listed. IsPrinted (Text format.Json) None listed r.lists.left_out) (sym whole.files) (whole_printed r.lists.left_out)))
