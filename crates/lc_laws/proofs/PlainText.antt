-- The text of a plain table, taken apart into the lines that its report gives.
use Rattle.std.proofs.{lemmas.{Grind.common_steps, List.{nil_from_length, Folds.flat_map-map, Sorted.length_permutation}}, Common.◌≡◌}
use Rattle.std.proofs.Common.{◌∙◌, ℕ, Bool, false, if◌then◌else◌, List, [], ◌∷◌, ◌++◌, map, take, codes, decimal, Some, None, refl, ap}
use Rattle.std.proofs.{Common.{append_assoc, append-nil, arith}, Math.Path.fun_ext}
use Rattle.std.specs.List.{flat_map}
use Rattle.lc_formats.specs.Tsv.{header_line, line_with, list_lines, number_line, tsv_of, values_line}
use Rattle.lc_level.specs.{FaultLines.FaultLineModel, FaultWords.fault_word, Level.FileLineModel}
use Rattle.lc_rows.specs.{Kept.whole_form, Kinds.{fault_value, file_value, row_value, skipped_value, sums_value}}
use Rattle.lc_rows.specs.{SheetColumns.{fault_columns, listed_columns, listed_skipped, row_columns}, Sheets.{list_of, listed_files}}
use Rattle.lc_rows.specs.{Sheets.{section_of, sheet_of, totals_lines, with_attributes}, ShownRows.part_of_row, Views.view_of}
use Rattle.lc_sheet.specs.{Sheets.{line_of, lines_of}, declared.column.Column.Column}
use Rattle.lc_text.specs.Escape.{escape_path}
use Rattle.lc_tree.specs.Trees.{Listings, Contents}
use Rattle.lc_walk.specs.{Found.Found, FoundReports.IsReportOf, TallyRows.TallyRowModel, declared.options.ReportLists.ReportLists}
use Rattle.lc_walk.specs.{declared.{report.Report.Report, tally.{sums.Sums.Sums, classes.ClassSums.ClassSums}}, AllColumns.all_columns}
use Rattle.lc_laws.specs.{PlainTable.{file_line, line, numbers, row_line}, PlainTableLaw.{ListsNoSkipped, PlainTableLaw, UnlistedLaw}}
use Rattle.lc_laws.specs.PlainTableLaw.{plain_options}

-- ---- lines

tabbed : (fields : List (List ℕ)) → line_with fields ≡ line fields
tabbed [] = refl
tabbed (f ∷ []) = refl
tabbed (f ∷ g ∷ fields) = ap (λ l. f ++ codes "\t" ++ l) (tabbed (g ∷ fields)) ∙ simp append_assoc

abbrev columns : List Column
columns = row_columns (plain_options false)

row_printed : (r : TallyRowModel) → values_line None (line_of (row_value whole_form) columns (part_of_row all_columns r)) ≡ row_line r
row_printed r = grind (arith, common_steps, append-nil, tabbed)

-- ---- sections

each : {X : Type 0} {text page : X → List ℕ} (xs : List X) → ((x : X) → text x ≡ page x) → flat_map text xs ≡ flat_map page xs
each xs same = ap (λ f. flat_map f xs) (fun_ext same)

rows_printed : (rs : List TallyRowModel)
    → flat_map (values_line None) (lines_of (row_value whole_form) columns (map (part_of_row all_columns) rs)) ≡ flat_map row_line rs
rows_printed rs = grind (arith, common_steps, flat_map-map, each, row_printed)

total_printed : (totals : Sums) (classes : ClassSums)
    → flat_map (values_line None) (take 1 (lines_of (sums_value whole_form) columns (totals_lines totals classes)))
    ≡ line (codes "total" ∷ codes "*" ∷ codes "*" ∷ numbers totals)
total_printed totals classes = append-nil _ ∙ tabbed (codes "total" ∷ codes "*" ∷ codes "*" ∷ numbers totals)

entries_unprinted : (n : ℕ) (left_out : Bool) → left_out ≡ false → number_line (codes "entries") (if left_out then Some n else None) ≡ []
entries_unprinted n left_out none = rw none refl

skipped_unprinted : (r : Report) (left_out : Bool) → left_out ≡ false
    → list_lines (if left_out then Some (list_of (codes "left") (section_of (skipped_value whole_form) listed_skipped r.skipped.items))
    else None) ≡ []
skipped_unprinted r left_out none = rw none refl

files_printed : (attributes : List (List ℕ)) (b : Bool) (fs : List FileLineModel)
    → list_lines (if b then Some (list_of (codes "file") (with_attributes attributes (section_of (file_value whole_form) listed_columns
    (listed_files b fs)))) else None)
    ≡ (if b then flat_map file_line fs else [])
files_printed attributes b fs = grind (arith, common_steps, flat_map-map, each, tabbed)

faults_printed : (fs : List FaultLineModel)
    → flat_map (values_line (Some (codes "fault"))) (lines_of (fault_value whole_form) fault_columns fs)
    ≡ flat_map (λ (f : FaultLineModel). line (codes "fault" ∷ fault_word f.word ∷ escape_path f.path ∷ [])) fs
faults_printed fs = grind (arith, common_steps, flat_map-map, each, tabbed)

-- ---- the text

-- the sections of a text one after the other; three of them are empty
in_a_row : (h : List ℕ) {rows rows' total total' ds ds' entries fs fs' skipped es es' : List ℕ} → rows ≡ rows' → total ≡ total'
    → ds ≡ ds' → entries ≡ [] → fs ≡ fs' → skipped ≡ [] → es ≡ es'
    → h ++ rows ++ [] ++ total ++ ds ++ entries ++ fs ++ skipped ++ es ≡ h ++ rows' ++ total' ++ ds' ++ fs' ++ es'
in_a_row h e1 e2 e3 e4 e5 e6 e7 = rw (e1, e2, e3, e4, e5, e6, e7) (simp append-nil)

pub plain_table_law : PlainTableLaw
plain_table_law b attributes r s unlisted sheet =
    ap tsv_of sheet.has.is
    ∙ ap (λ fs. tsv_of (sheet_of (plain_options b) attributes r (view_of None sheet.has.rows (listed_files b fs)))) sheet.are_files
    ∙ in_a_row (header_line attributes columns)
    (ap (λ rs. flat_map (values_line None) (lines_of (row_value whole_form) columns rs)) (sheet.has.are_rows.2 ∙ sheet.has.are_rows.1)
    ∙ rows_printed r.rows.items) (total_printed r.totals r.classes) (tabbed (codes "directories" ∷ decimal r.directories ∷ []))
    (entries_unprinted r.entries r.lists.left_out unlisted.unlisted) (files_printed attributes b r.files.items)
    (skipped_unprinted r r.lists.left_out unlisted.unlisted)
    (faults_printed r.faults.items)

-- ---- walks

no_skipped : (lists : ReportLists) (xs : List Found) (r : Report) → IsReportOf lists xs r → lists.left_out ≡ false → ListsNoSkipped r
no_skipped lists xs r is asked = grind (arith, common_steps, nil_from_length, length_permutation)

pub unlisted_law : (lists : List ℕ → Listings) (gives : List ℕ → Contents) → UnlistedLaw lists gives
unlisted_law lists gives o r w asked = no_skipped o.lists _ r (w.report o.max_dirs (omega arith)) asked
