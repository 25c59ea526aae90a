-- The report that is made of an object's members.
use Rattle.std.proofs.{lemmas.{Grind.common_steps, Bool.MatchBool-at_false, List.Sorted.length_permutation}, Common.{◌≡◌, ◌≢◌, ◌∙◌, ◌⊎◌, ℕ}}
use Rattle.std.proofs.Common.{Bool, true, false, List, [], ◌∷◌, map, refl, sym, ap, subst, Option, Some, None, option_map, Vec, arith}
use Rattle.std.specs.{Global.Global, Prelude.{MatchOption, is_some, unwrap_or}, Bool.MatchBool, List.Sorted.{IsPermutation, IsSortedByKey}}
use Rattle.lc_level.specs.{FaultLines.FaultLineModel, Level.{FileLineModel, SkippedLineModel}}
use Rattle.lc_tree.specs.ByteOrder.{bytes_cmp}
use Rattle.lc_walk.specs.{ReportTotals.counted_line, Sums.plus, Tally.{IsTally, sums_of_files}, TallyRows.{AddsUp, TallyRowModel}}
use Rattle.lc_walk.specs.{TallyRows.sums_of_rows, declared.{tally.{sums.Sums.Sums, classes.ClassSums.ClassSums}, report.Report.Report}}
use Rattle.lc_walk.specs.{Classes.binary_sums, AllColumns.all_columns}
use Rattle.lc_reading.specs.{Kept.{Agrees, IsFinished, IsKept, IsKeptOf}, Lines.{IsFaultOf, IsFileOf, IsSkippedOf}, Members.Member}
use Rattle.lc_reading.specs.{Members.{HasNumber, Lacks, members_of, named}, Objects.{HasLines, IsObjectOf, MayHaveLines, is_value}}
use Rattle.lc_reading.specs.{Reports.{HasOrdered, HaveColumns, IsNumbersOf, IsReportOf, row_in}, Rows.{HasSums, IsRowOf}}
use Rattle.lc_reading.specs.declared.{kept_files.Kept.Kept, member_name.MemberName.MemberName, numbers_of.Numbers.Numbers}
use Rattle.lc_reading.specs.declared.{object.Object.Object, rows.ReadRow.ReadRow}
use Rattle.lc_sheet.specs.declared.table_options.Columns.{Columns}
use Rattle.lc_reading.specs.declared.member_name.MemberName.TheVariants as name

-- ---- numbers, of members that are among others

sums_among : (n : MemberName) (ms vs : List Member) (s : Sums) → named n vs ≡ named n ms → HasSums n vs s → HasSums n ms s
sums_among n ms vs s e is = record { members = is.members; has = sym e ∙ is.has; sums = is.sums }

cut_among : (b : Bool) (ms vs : List Member) → b ≡ false → named name.Others vs ≡ named name.Others ms
    → MatchBool b (Unit {0}) (Lacks name.Others vs)
    → Lacks name.Others ms
cut_among b ms vs uncut e is = sym e ∙ MatchBool-at_false _ _ uncut is

entries_among : (o : Option ℕ) (ms vs : List Member) → named name.Entries vs ≡ named name.Entries ms
    → MatchOption o (Lacks name.Entries vs) (HasNumber name.Entries vs) → (b : Bool) → b ≡ is_some o → (n : ℕ) → n ≡ unwrap_or o 0
    → MatchBool b (HasNumber name.Entries ms n) (Lacks name.Entries ms × (n ≡ 0))
entries_among o ms vs e is b is_b n is_n = grind (arith, common_steps)

-- ---- lists

none_of : {A : Type 0} (xs : List A) → IsPermutation [] xs → xs ≡ []
none_of [] p = refl
none_of (x ∷ xs) p = let same = length_permutation [] (x ∷ xs) p in absurd (omega arith)

ordered_of : {L : Type 0} (Says : List Member → L → Type 0) (path : L → List ℕ) (n : MemberName) (ms : List Member) (found lines : List L)
    → HasLines Says n ms found → IsPermutation found lines → IsSortedByKey path bytes_cmp lines → HasOrdered Says path n ms lines
ordered_of Says path n ms found lines has same order = record { listed = found; has = has; same = same; order = order }

skipped_among : (ms : List Member) (o : Option ℕ) (s : Option (Vec SkippedLineModel Global)) (found : Vec SkippedLineModel Global) (lines
    : List SkippedLineModel)
    → MatchOption o ((s ≡ None) × (found.items ≡ [])) (λ _. s ≡ Some found)
    → MayHaveLines IsSkippedOf name.Left ms (option_map (λ v. v.items) s)
    → IsPermutation found.items lines → IsSortedByKey (λ (l : SkippedLineModel). l.path) bytes_cmp lines → (b : Bool) → b ≡ is_some o
    → MatchBool b (HasOrdered IsSkippedOf (λ l. l.path) name.Left ms lines) (Lacks name.Left ms × (lines ≡ []))
skipped_among ms None s found lines is may same order b is_b =
    subst (λ c. MatchBool c (HasOrdered IsSkippedOf (λ l. l.path) name.Left ms lines) (Lacks name.Left ms × (lines ≡ []))) (sym is_b) (
      subst (λ (t : Option (Vec SkippedLineModel Global)). MayHaveLines IsSkippedOf name.Left ms (option_map (λ v. v.items) t)) is.0 may,
      none_of lines (subst (λ (xs : List SkippedLineModel). IsPermutation xs lines) is.1 same),
    )
skipped_among ms (Some m) s found lines is may same order b is_b = grind (arith, common_steps, none_of, ordered_of)

-- ---- rows and files

-- what a report says of its files
abbrev FilesOf : List (List ℕ) → List Member → (has_files : Bool) → List FileLineModel → ℕ → Type 0
FilesOf attributes ms has_files files total =
    MatchBool has_files
    (HasOrdered (IsFileOf attributes) (λ f. f.path) name.Files ms files ⊎ (Lacks name.Files ms × (files ≡ []) × (total ≡ 0)))
    (Lacks name.Files ms × (files ≡ []) × (total ≢ 0))

files_among : (attributes : List (List ℕ)) (ms : List Member) (files : Option (List FileLineModel)) (columns : Columns)
    (rows : List TallyRowModel) (total : Sums)
    (k : Kept)
    → MayHaveLines (IsFileOf attributes) name.Files ms files → IsKept files columns rows total k
    → FilesOf attributes ms k.has_files k.files.items total.files
files_among attributes ms files columns rows total k may kept = grind (arith, common_steps, ordered_of, none_of)

abbrev RowsKept : Bool → Columns → Columns → List TallyRowModel → List TallyRowModel → Type 0
RowsKept has_files kept columns rows made =
    MatchBool has_files (kept ≡ all_columns) ((kept ≡ columns) × AddsUp rows made)

rows_kept : (files : Option (List FileLineModel)) (columns : Columns) (rows : List TallyRowModel) (total : Sums) (k : Kept)
    → IsKept files columns rows total k → RowsKept k.has_files k.columns columns rows k.rows.items
rows_kept files columns rows total k kept = grind (arith, common_steps)

-- the sums over the rows that are kept, and over the files
pub record SumsKept (total : Sums) (has_files : Bool) (rows : List TallyRowModel) (files : List FileLineModel) : Type 0 where
  pub rows_are : total ≡ sums_of_rows rows
  pub files_are : has_files ≡ true → total ≡ sums_of_files (map counted_line files)
  pub tally : has_files ≡ true → IsTally (map counted_line files) rows

sums_of_kept : (total : Sums) (files : List FileLineModel) (k : Kept) → IsKeptOf total files k
    → SumsKept total k.has_files k.rows.items k.files.items
sums_of_kept total files k kept = record { rows_are = kept.rows_are; files_are = λ h. kept.files_are; tally = λ h. kept.tally }

sums_kept : (files : Option (List FileLineModel)) (columns : Columns) (rows : List TallyRowModel) (total : Sums) (k : Kept)
    → IsKept files columns rows total k → SumsKept total k.has_files k.rows.items k.files.items
sums_kept files columns rows total k kept = grind (arith, common_steps, sums_of_kept)

-- ---- the whole report

pub report_is : (attributes : List (List ℕ)) (ms : List Member) (o : Object) (n : Numbers) (rows : Vec ReadRow Global)
    (columns : Columns) (tally : Vec
    TallyRowModel Global) (k : Kept)
    (skipped : Vec SkippedLineModel Global) (faults : Vec FaultLineModel Global) (r : Report)
    → IsObjectOf attributes ms o → IsNumbersOf (members_of o.values.items) n → n.is_cut ≡ false → o.rows ≡ Some rows
    → o.faults ≡ Some faults
    → MatchOption n.entries ((o.skipped ≡ None) × (skipped.items ≡ [])) (λ _. o.skipped ≡ Some skipped)
    → HaveColumns columns rows.items → tally.items ≡ map row_in rows.items
    → Agrees n columns tally.items (option_map (λ v. v.items) o.files) k → (k.has_files ≡ false → attributes ≡ [])
    → IsFinished n k skipped.items faults.items r → IsReportOf attributes ms r
report_is attributes ms o n rows columns tally k skipped faults r is numbers uncut rows_there faults_there skipped_are columns_are tally_is
    agrees listed made =
    let among : (m : MemberName) → is_value m ≡ true → named m (members_of o.values.items) ≡ named m ms = is.values in
    let vs : List Member = members_of o.values.items in
    let rows_in : HasLines IsRowOf name.Rows ms rows.items =
    subst (λ (t : Option (Vec ReadRow Global)). MayHaveLines IsRowOf name.Rows ms (option_map (λ v. v.items) t)) rows_there is.rows in
    let faults_in : HasLines IsFaultOf name.Faults ms faults.items =
    subst (λ (t : Option (Vec FaultLineModel Global)). MayHaveLines IsFaultOf name.Faults ms (option_map (λ v. v.items) t)) faults_there
    is.faults in
    let files : Option (List FileLineModel) = option_map (λ v. v.items) o.files in
    let binary_is : r.classes.binary ≡ n.binary = ap (λ (c : ClassSums). c.binary) made.classes_are in
    let sums : SumsKept n.total k.has_files k.rows.items k.files.items = sums_kept files columns tally.items n.total k agrees.kept in
    record {
      uncut = cut_among n.is_cut ms vs uncut (among name.Others refl) numbers.uncut;
      total = subst (HasSums name.Total ms) (sym made.totals_are) (sums_among name.Total ms vs n.total (among name.Total refl)
          numbers.total);
      text = subst (HasSums name.Text ms) (sym (ap (λ (c : ClassSums). c.text) made.classes_are)) (sums_among name.Text ms vs n.text
          (among name.Text refl) numbers.text);
      binary = subst (HasSums name.Binary ms) (sym binary_is) (sums_among name.Binary ms vs n.binary (among name.Binary refl)
          numbers.binary);
      directories = subst (HasNumber name.Directories ms) (sym made.directories_are) (sym (among name.Directories refl)
          ∙ numbers.directories);
      entries = entries_among n.entries ms vs (among name.Entries refl) numbers.entries r.lists.left_out made.left_out
          r.entries made.entries_are;
      rows = record {
        columns = columns;
        rows = rows.items;
        are = record { has = rows_in; columns_are = columns_are; total_is = made.totals_are ∙ agrees.rows_are ∙ ap sums_of_rows tally_is };
        nul = λ h. binary_is ∙ agrees.rows_nul h ∙ ap binary_sums tally_is;
        kept = subst (λ b. RowsKept b r.columns columns (map row_in rows.items) r.rows.items) (sym made.has_files)
            (subst (λ c. RowsKept k.has_files c columns (map row_in rows.items) r.rows.items) (sym made.columns_are)
            (subst (λ t. RowsKept k.has_files k.columns columns t r.rows.items) tally_is
            (subst (λ (v : Vec TallyRowModel Global). RowsKept k.has_files k.columns columns tally.items v.items) (sym made.rows_are)
            (rows_kept files columns tally.items n.total k agrees.kept))));
      };
      files = subst (λ b. FilesOf attributes ms b r.files.items r.totals.files) (sym made.has_files)
          (subst (λ (v : Vec FileLineModel Global). FilesOf attributes ms k.has_files v.items r.totals.files) (sym made.files_are)
          (subst (λ (s : Sums). FilesOf attributes ms k.has_files k.files.items s.files) (sym made.totals_are)
          (files_among attributes ms files columns tally.items n.total k is.files agrees.kept)));
      asked = λ h. listed (sym made.has_files ∙ h);
      skipped = skipped_among ms n.entries o.skipped skipped r.skipped.items skipped_are is.skipped made.skipped_are
          made.skipped_order
          r.lists.left_out made.left_out;
      faults = ordered_of IsFaultOf (λ f. f.path) name.Faults ms faults.items r.faults.items faults_in made.faults_are
          made.faults_order;
      adds_up = record {
        rows = made.totals_are ∙ sums.rows_are ∙ ap (λ (v : Vec TallyRowModel Global). sums_of_rows v.items) (sym made.rows_are);
        classes = made.totals_are ∙ agrees.parts ∙ ap (λ (c : ClassSums). plus c.text c.binary) (sym made.classes_are);
        files = λ h. made.totals_are ∙ sums.files_are (sym made.has_files ∙ h)
            ∙ ap (λ (v : Vec FileLineModel Global). sums_of_files (map counted_line v.items)) (sym made.files_are);
        tally = λ h. subst (λ (v : Vec FileLineModel Global). IsTally (map counted_line v.items) r.rows.items) (sym made.files_are)
            (subst (λ (v : Vec TallyRowModel Global). IsTally (map counted_line k.files.items) v.items) (sym made.rows_are) (sums.tally
            (sym made.has_files ∙ h)));
      };
      nul = λ h. binary_is ∙ agrees.nul (ap (λ (c : Columns). c.eol) (sym made.columns_are) ∙ h)
          ∙ ap (λ (v : Vec TallyRowModel Global). binary_sums v.items) (sym made.rows_are);
    }
