-- A report that was printed as JSON with all its files, and was read, is that report.
use Rattle.std.proofs.{lemmas.{Grind.common_steps, List.{Sorted.{All-permutation, IsPermutation-trans}, Elements.recursion_from_All}}}
use Rattle.std.proofs.Common.{◌≡◌, ◌≢◌, ◌∙◌, ◌⊎◌, ◌<◌, ◌^◌, ℕ, Bool, true, false, List, [], ◌∷◌, map, codes, refl, sym, subst, arith}
use Rattle.std.proofs.Common.{length, IsPermutation}
use Rattle.std.specs.{Bool.MatchBool, List.All}
use Rattle.json.specs.Json.{Json}
use Rattle.lc_formats.specs.JsonText.{Member, array_with, integer, object_with}
use Rattle.lc_level.specs.{FaultLines.FaultLineModel, Level.{FileLineModel, SkippedLineModel}}
use Rattle.lc_reading.specs.{Lines.{IsFileOf, IsSkippedOf}, Members.{HasNumber, Lacks, named}, Reports.{HasOrdered, HasRows, IsReportOf}}
use Rattle.lc_reading.specs.Reports.{row_in}
use Rattle.lc_rows.specs.RowKeys.{ShownRowModel}
use Rattle.lc_sheet.specs.declared.table_options.TableOptions.{TableOptions}
use Rattle.lc_tree.specs.ByteOrder.{AreInOrder}
use Rattle.lc_walk.specs.{ReportLines.{fault_paths, file_paths, skipped_paths}, ReportTotals.{TotalsAddUp, counted_line}, Sums.IsInRange}
use Rattle.lc_walk.specs.{Sums.plus, Tally.IsTally, TallyRows.AddsUp, declared.{options.ReportLists.ReportLists, report.Report.Report}}
use Rattle.lc_walk.specs.{declared.tally.sums.Sums.Sums, AllColumns.all_columns}
use Rattle.lc_laws.proofs.{LinesReadBack.ShowsFile, JsonMembers.same_integer, OneOrder.{risen_texts, same_sorted}, OneTally.one_tally}
use Rattle.lc_laws.proofs.PrintedReport.{Parts, fault_objects, file_objects, printed_parts, report_members, skipped_objects, sums_members}
use Rattle.lc_laws.proofs.ReportReadBack.{faults_read_back, files_read_back, skipped_texts_read_back, sums_read_back}
use Rattle.lc_laws.specs.ReadBack.{AreShownFor, FitsFile, FitsTypes, HasNoSkipped, HasSkippedOf, IsReadBack, skipped_text}
use Rattle.lc_walk.proofs.Classes.{same_classes}
use Rattle.lc_reading.specs.declared.member_name.MemberName.TheVariants as member

-- ---- the members that were printed

-- what is under the names of a report
record Printed (ms : List Member) (p : Parts) : Type 0 where
  total : named member.Total ms ≡ object_with (sums_members p.form (codes "total") p.totals) ∷ []
  text : named member.Text ms ≡ object_with (sums_members p.form (codes "text") p.text) ∷ []
  binary : named member.Binary ms ≡ object_with (sums_members p.form (codes "binary") p.binary) ∷ []
  directories : named member.Directories ms ≡ integer p.directories ∷ []
  files : named member.Files ms ≡ array_with (file_objects p.form p.attributes p.files) ∷ []
  faults : named member.Faults ms ≡ array_with (fault_objects p.form p.faults) ∷ []

printed_at : (p : Parts) (b : Bool) (n : ℕ) (ls : List SkippedLineModel) → Printed (report_members p b n ls) p
printed_at p b n ls = grind (arith, common_steps)

-- ---- the lists that are there

-- files that were printed are listed
files_listed : (A : Type 0) (b : Bool) (ms : List Member) (j : Json) (files : List FileLineModel) (total : ℕ)
    → named member.Files ms ≡ j ∷ []
    → MatchBool b (A ⊎ (Lacks member.Files ms × (files ≡ []) × (total ≡ 0))) (Lacks member.Files ms × (files ≡ []) × (total ≢ 0))
    → (b ≡ true) × A
files_listed A b ms j files total printed so = grind (arith, common_steps)

-- skipped entries and their number, where they were printed
abbrev SkippedIn : Bool → List Member → Report → Type 0
SkippedIn b ms read =
    MatchBool b (HasNumber member.Entries ms read.entries) (Lacks member.Entries ms × (read.entries ≡ 0))
    × MatchBool b (HasOrdered IsSkippedOf (λ l. l.path) member.Left ms read.skipped.items)
    (Lacks member.Left ms × (read.skipped.items ≡ []))

skipped_listed : (b : Bool) (ms : List Member) (j : Json) (read : Report) → named member.Left ms ≡ j ∷ [] → SkippedIn b ms read
    → (b ≡ true) × HasNumber member.Entries ms read.entries × HasOrdered IsSkippedOf (λ l. l.path) member.Left ms read.skipped.items
skipped_listed b ms j read printed is = grind (arith, common_steps)

skipped_unlisted : (b : Bool) (ms : List Member) (read : Report) → named member.Left ms ≡ [] → SkippedIn b ms read
    → (b ≡ false) × HasNoSkipped read
skipped_unlisted b ms read printed is = grind (arith, common_steps)

-- ---- sums

fits_both : (t a b : Sums) → t ≡ plus a b → IsInRange t → IsInRange a × IsInRange b
fits_both t a b e fits = grind (arith, common_steps)

-- ---- skipped entries

-- what the law says of skipped entries and lists
record SkippedReadBack (r : Report) (read : Report) : Type 0 where
  lists : read.lists.left_out ≡ r.lists.left_out
  skipped : MatchBool r.lists.left_out (HasSkippedOf r read) (HasNoSkipped read)

same_lists : (a b : ReportLists) → a.files ≡ b.files → a.left_out ≡ b.left_out → a ≡ b
same_lists a b files left_out = λ i. record { files = files i; left_out = left_out i }

module _ (r : Report) (read : Report) (fits : FitsTypes r) (read_fits : FitsTypes read)
    (order : AreInOrder (skipped_paths r.skipped.items)) (attributes : List (List ℕ)) (p : Parts) where
  skipped_back : (b : Bool) → r.lists.left_out ≡ b → IsReportOf attributes (report_members p b r.entries r.skipped.items) read
      → SkippedReadBack r read
  skipped_back true listed is =
      let ms : List Member = report_members p true r.entries r.skipped.items in
      let has = skipped_listed read.lists.left_out ms (array_with (skipped_objects p.form r.skipped.items)) read refl
      (is.entries, is.skipped) in
      let texts = skipped_texts_read_back ms p.form r.skipped.items read.skipped.items refl fits.skipped read_fits.skipped has.2 in
      let entries : read.entries ≡ r.entries =
      same_integer r.entries read.entries (let e : r.entries < 2 ^ 64 = fits.entries in omega arith)
      (let e : read.entries < 2 ^ 64 = read_fits.entries in omega arith) has.1 in record {
        lists = has.0 ∙ sym listed;
        skipped = subst (λ b. MatchBool b (HasSkippedOf r read) (HasNoSkipped read)) (sym listed) (record {
          entries = entries;
          skipped = risen_texts skipped_text (λ (l : SkippedLineModel). l.path) (λ t. t.path) (λ l. refl) r.skipped.items
              has.2.listed read.skipped.items order texts has.2.same has.2.order;
        });
      }
  skipped_back false listed is =
      let ms : List Member = report_members p false r.entries r.skipped.items in
      let has = skipped_unlisted read.lists.left_out ms read refl (is.entries, is.skipped) in record {
        lists = has.0 ∙ sym listed;
        skipped = subst (λ b. MatchBool b (HasSkippedOf r read) (HasNoSkipped read)) (sym listed) has.1;
      }

-- ---- files

files_shown : (attributes : List (List ℕ)) (fs : List FileLineModel) → All FitsFile fs
    → All (λ (f : FileLineModel). length f.asked ≡ length attributes) fs → All (ShowsFile attributes) fs
files_shown attributes fs fits states = grind (arith, common_steps, recursion_from_All)

-- ---- the whole report

-- what is known of a report of a walk that lists its files
pub record IsWholeReport (r : Report) : Type 0 where
  pub adds_up : TotalsAddUp r
  pub lists_files : r.lists.files ≡ true
  pub files : AreInOrder (file_paths r.files.items)
  pub faults : AreInOrder (fault_paths r.faults.items)
  pub skipped : AreInOrder (skipped_paths r.skipped.items)

-- what is said of rows where no files are listed
abbrev KeepsRows : {ms : List Member} → (read : Report) → HasRows ms read → Type 0
KeepsRows read rows = (read.columns ≡ rows.columns) × AddsUp (map row_in rows.rows) read.rows.items

module _ (options : TableOptions) (attributes : List (List ℕ)) (r : Report) (rows : List ShownRowModel) (files : List FileLineModel)
    (read : Report)
    (whole : IsWholeReport r) (moved : IsPermutation r.files.items files) (fits : FitsTypes r) (read_fits : FitsTypes read)
    (are_shown : AreShownFor attributes options.by r) where
  abbrev parts : Parts
  parts = printed_parts options attributes r rows files

  abbrev members : List Member
  members = report_members parts r.lists.left_out r.entries r.skipped.items

  pub report_read_back : IsReportOf attributes members read → IsReadBack r read
  report_read_back is =
      let printed : Printed members parts = printed_at parts r.lists.left_out r.entries r.skipped.items in
      let listed : (read.lists.files ≡ true) × HasOrdered (IsFileOf attributes) (λ f. f.path) member.Files members read.files.items =
      files_listed (HasOrdered (IsFileOf attributes) (λ f. f.path) member.Files members read.files.items) read.lists.files members
      (array_with (file_objects parts.form attributes files)) read.files.items
      read.totals.files printed.files is.files in
      let all_files : All (ShowsFile attributes) files =
      All-permutation (ShowsFile attributes) r.files.items files moved (files_shown attributes r.files.items fits.files are_shown.states) in
      let files_same : read.files.items ≡ r.files.items =
      same_sorted (λ (f : FileLineModel). f.path) r.files.items read.files.items whole.files
      (IsPermutation-trans r.files.items files read.files.items moved
      (files_read_back members parts.form attributes are_shown.apart are_shown.shown files read.files.items printed.files all_files
      read_fits.files
      listed.1))
      listed.1.order in
      let skipped : SkippedReadBack r read = skipped_back r read fits read_fits whole.skipped attributes parts r.lists.left_out refl is in
      let fit = fits_both r.totals r.classes.text r.classes.binary whole.adds_up.classes fits.totals in
      let read_fit = fits_both read.totals read.classes.text read.classes.binary is.adds_up.classes read_fits.totals in
      let directories : r.directories < 2 ^ 64 = fits.directories in
      let read_directories : read.directories < 2 ^ 64 = read_fits.directories in record {
        totals = sums_read_back parts.form (codes "total") r.totals read.totals member.Total members printed.total fits.totals
            read_fits.totals is.total;
        classes = same_classes read.classes r.classes
            (sums_read_back parts.form (codes "text") r.classes.text read.classes.text member.Text members printed.text fit.0
            read_fit.0 is.text)
            (sums_read_back parts.form (codes "binary") r.classes.binary read.classes.binary member.Binary members printed.binary
            fit.1 read_fit.1 is.binary);
        directories = same_integer r.directories read.directories (omega arith) (omega arith)
            (sym printed.directories ∙ is.directories);
        lists = same_lists read.lists r.lists (listed.0 ∙ sym whole.lists_files) skipped.lists;
        faults = same_sorted (λ (f : FaultLineModel). f.path) r.faults.items read.faults.items whole.faults
            (faults_read_back members parts.form r.faults.items read.faults.items printed.faults fits.faults read_fits.faults
            is.faults)
            is.faults.order;
        files = files_same;
        rows = one_tally (map counted_line r.files.items) read.rows.items r.rows.items
            (subst (λ fs. IsTally (map counted_line fs) read.rows.items) files_same (is.adds_up.tally listed.0))
            (whole.adds_up.tally whole.lists_files);
        columns = subst (λ b. MatchBool b (read.columns ≡ all_columns) (KeepsRows read is.rows))
            listed.0 is.rows.kept;
        skipped = skipped.skipped;
      }
