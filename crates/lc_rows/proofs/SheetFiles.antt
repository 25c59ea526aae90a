-- The files in the sheet of a report.
use Rattle.std.proofs.Common.{arith, ◌≡◌, ℕ, Bool, true, false, if◌then◌else◌, List, [], ◌∷◌, map, Option, Some, None, refl, sym, ap, ap₂, ◌∙◌, codes}
use Rattle.std.proofs.lemmas.Grind.{common_steps}
use Rattle.lc_sheet.specs.{Sheets.{SectionModel, SheetModel, line_of, lines_of, sheet_format}, declared.form.Form.Form}
use Rattle.lc_sheet.specs.declared.table_options.Format.{Format, TheVariants.{Tsv, Table, Json, Csv, Markdown}}
use Rattle.lc_rows.specs.{Kinds.file_value, SheetColumns.file_columns, SheetLaws.{SheetFilesLaw, path_at}, Sheets.{form_of, list_of}}
use Rattle.lc_rows.specs.{Sheets.{listed_files, section_of, with_attributes}, Views.{first_of, view_of}}
use Rattle.lc_level.specs.Level.{FileLineModel}

-- the path of a file's line, in each format
path_of_line : (format : Format) (form : Form) (f : FileLineModel)
    → path_at (file_columns format form.by) (line_of (file_value form) (file_columns format form.by) f) ≡ f.path
path_of_line format form f = grind (arith, common_steps)

paths_of_lines : (format : Format) (form : Form) (fs : List FileLineModel)
    → map (path_at (file_columns format form.by)) (lines_of (file_value form) (file_columns format form.by) fs)
    ≡ map (λ (f : FileLineModel). f.path) fs
paths_of_lines format form [] = refl
paths_of_lines format form (f ∷ fs) = ap₂ (λ p ps. p ∷ ps) (path_of_line format form f) (paths_of_lines format form fs)

-- a section of files is there only where files are listed
paths_listed : (attributes : List (List ℕ)) (listed : Bool) (format : Format) (form : Form) (top : Option ℕ) (fs : List FileLineModel)
    (section : SectionModel)
    → (if listed then Some (list_of (codes "file") (with_attributes attributes (section_of (file_value form) (file_columns format form.by)
    (first_of top (listed_files listed fs))))) else None)
    ≡ Some section
    → map (path_at section.columns) section.lines ≡ map (λ (f : FileLineModel). f.path) (first_of top fs)
paths_listed attributes true format form top fs section is =
    let same : list_of (codes "file") (with_attributes attributes (section_of (file_value form) (file_columns format form.by) (first_of top fs)))
    ≡ section = cc in
    ap (λ (s : SectionModel). map (path_at s.columns) s.lines) (sym same) ∙ paths_of_lines format form (first_of top fs)
paths_listed attributes false format form top fs section is = absurd (cc)

pub sheet_files_law : SheetFilesLaw
sheet_files_law options attributes r s section sheet there =
    let view = view_of options.top sheet.has.rows (listed_files options.files sheet.files) in (
      sheet.files,
      sheet.are_files,
      paths_listed attributes options.files (sheet_format options.output) (form_of options r.totals view.rows) options.top sheet.files
          section
          (sym (ap (λ (t : SheetModel). t.files) sheet.has.is) ∙ there),
    )
