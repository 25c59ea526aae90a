-- What is true of the sheet of a report.
use Rattle.std.proofs.{lemmas.{Grind.common_steps, List.{Sums.sum_by-cons, Sorted.sum_by-IsPermutation}}, Common.{◌≡◌, ℕ, ◌+◌, Bool, true}}
use Rattle.std.proofs.Common.{false, List, [], ◌∷◌, ◌++◌, map, Option, Some, None, refl, sym, ap, ap₂, ◌∙◌, subst, arith, codes}
use Rattle.std.proofs.Common.{if◌then◌else◌}
use Rattle.std.specs.Prelude.{unwrap_or}
use Rattle.lc_sheet.specs.{Keys.are_of_files, Sheets.{SheetModel, line_of, lines_of, sheet_format}, Values.ValueModel}
use Rattle.lc_sheet.specs.declared.{column.{Column.Column, Number.{Number, TheVariants.{Files, Lines, Blank, Bytes}}}, form.Form.Form}
use Rattle.lc_sheet.specs.declared.table_options.{Format.{Format, TheVariants.{Tsv, Table, Json, Csv, Markdown}}, TableOptions.TableOptions}
use Rattle.lc_walk.proofs.RowSums.{same_sums}
use Rattle.lc_walk.specs.{Sums.{no_files, plus}, TallyRows.TallyRowModel, declared.tally.{sums.Sums.Sums, classes.ClassSums.ClassSums}}
use Rattle.lc_rows.specs.{Kinds.{NamedSumsModel, row_value, sums_value}, Laws.totals_of, RowKeys.{ShownRowModel, sums_of_shown}}
use Rattle.lc_rows.specs.{SheetColumns.{number_columns, row_columns, sums_columns}, SheetLaws.{SheetClassesLaw, SheetTotalsLaw, column_sum}}
use Rattle.lc_rows.specs.{SheetLaws.{first_number, is_number, number_at, number_of, numbers_in, same_number}, Sheets.form_of}
use Rattle.lc_rows.specs.{Sheets.{listed_files, others_lines, section_of, sheet_of}, ShownRows.number_in, ShownFiles.AreFilesSorted}
use Rattle.lc_rows.specs.Views.{view_of}
use Rattle.lc_rows.proofs.ViewLaws.{cut_totals_law, sorted_files_law}
use Rattle.lc_level.specs.Level.{FileLineModel}
use Rattle.lc_sheet.specs.declared.column.Column.TheVariants as column

-- ---- the column of a number

abbrev has_number : Number → List Column → Bool
has_number n [] = false
has_number n (c ∷ cs) = if is_number n c then true else has_number n cs

is_same : (n m : Number) → same_number n m ≡ true → n ≡ m
is_same Files Files e = refl
is_same Files Lines e = cc
is_same Files Blank e = cc
is_same Files Bytes e = cc
is_same Lines Files e = cc
is_same Lines Lines e = refl
is_same Lines Blank e = cc
is_same Lines Bytes e = cc
is_same Blank Files e = cc
is_same Blank Lines e = cc
is_same Blank Blank e = refl
is_same Blank Bytes e = cc
is_same Bytes Files e = cc
is_same Bytes Lines e = cc
is_same Bytes Blank e = cc
is_same Bytes Bytes e = refl

-- a column that has a number is that number's
is_its : (n : Number) (c : Column) → is_number n c ≡ true → c ≡ column.Number n
is_its n (column.Number m) e = ap column.Number (sym (is_same n m e))
is_its n (column.Key k) e = cc
is_its n column.Share e = cc
is_its n column.Bar e = cc
is_its n column.Path e = cc
is_its n column.Kind e = cc
is_its n column.Reason e = cc
is_its n column.Place e = cc
is_its n column.Entry e = cc
is_its n column.File e = cc
is_its n column.Line e = cc
is_its n column.Attribute e = cc
is_its n column.Fault e = cc
is_its n column.Site e = cc
is_its n column.Change e = cc
is_its n (column.Old x) e = cc
is_its n (column.New x) e = cc
is_its n (column.Difference m) e = cc
is_its n (column.Growth m) e = cc

-- a line has in the column of a number what it has for that number
at_column : (n : Number) (value : Column → ValueModel) (c : Column) (cs : List Column) (b : Bool) → is_number n c ≡ b
    → (has_number n cs ≡ true → number_at n cs (map value cs) ≡ number_of (value (column.Number n)))
    → (if b then true else has_number n cs) ≡ true
    → (if b then number_of (value c) else number_at n cs (map value cs)) ≡ number_of (value (column.Number n))
at_column n value c cs true e rest has = ap (λ d. number_of (value d)) (is_its n c e)
at_column n value c cs false e rest has = rest has

in_column : (n : Number) (value : Column → ValueModel) (cs : List Column) → has_number n cs ≡ true
    → number_at n cs (map value cs) ≡ number_of (value (column.Number n))
in_column n value [] has = cc
in_column n value (c ∷ cs) has = at_column n value c cs (is_number n c) refl (λ h. in_column n value cs h) has

true_or : (b c : Bool) → c ≡ true → (if b then true else c) ≡ true
true_or true c e = refl
true_or false c e = e

has_behind : (n : Number) (front cs : List Column) → has_number n cs ≡ true → has_number n (front ++ cs) ≡ true
has_behind n [] cs has = has
has_behind n (c ∷ front) cs has = true_or (is_number n c) (has_number n (front ++ cs)) (has_behind n front cs has)

has_numbers : (n : Number) (cs : List Column) → has_number n (number_columns ++ cs) ≡ true
has_numbers n cs = grind (arith, common_steps)

either : (b c d : Bool) → (c ≡ true → d ≡ true) → (if b then true else c) ≡ true → (if b then true else d) ≡ true
either true c d f e = refl
either false c d f e = f e

has_before : (n : Number) (front cs : List Column) → has_number n front ≡ true → has_number n (front ++ cs) ≡ true
has_before n [] cs has = cc
has_before n (c ∷ front) cs has =
    either (is_number n c) (has_number n front) (has_number n (front ++ cs)) (λ h. has_before n front cs h) has

rows_have : (n : Number) (options : TableOptions) → has_number n (row_columns options) ≡ true
rows_have n options = grind (arith, common_steps, has_before, has_behind, has_numbers)

sums_have : (n : Number) (format : Format) (rows : List Column) → has_number n rows ≡ true → has_number n (sums_columns format rows) ≡ true
sums_have n format rows has = grind (arith, common_steps, has_numbers)

-- ---- sums

pub number_plus : (n : Number) (a b : Sums) → number_in n (plus a b) ≡ number_in n a + number_in n b
number_plus n a b = grind (arith, common_steps)

no_number : (n : Number) → 0 ≡ number_in n (sums_of_shown [])
no_number n = grind (arith, common_steps)

one_more : (n : Number) (r : ShownRowModel) (rs : List ShownRowModel)
    → number_in n r.sums + number_in n (sums_of_shown rs) ≡ number_in n (sums_of_shown (r ∷ rs))
one_more n r rs = grind (arith, common_steps, sum_by-cons)

-- the rows of a section have the sums of the rows
rows_sum : (n : Number) (form : Form) (cs : List Column) → has_number n cs ≡ true → (rs : List ShownRowModel)
    → column_sum n (section_of (row_value form) cs rs) ≡ number_in n (sums_of_shown rs)
rows_sum n form cs has [] = no_number n
rows_sum n form cs has (r ∷ rs) =
    sum_by-cons (number_at n cs) (line_of (row_value form) cs r) (lines_of (row_value form) cs rs)
    ∙ ap₂ (λ a b. a + b) (in_column n (row_value form r) cs has) (rows_sum n form cs has rs) ∙ one_more n r rs

-- a line of sums has those sums
sums_line : (n : Number) (form : Form) (cs : List Column) → has_number n cs ≡ true → (s : NamedSumsModel)
    → number_at n cs (line_of (sums_value form) cs s) ≡ number_in n s.sums
sums_line n form cs has s = in_column n (sums_value form s) cs has

plus_none : (n : ℕ) → n + 0 ≡ n
plus_none n = omega arith

no_sums : (n : Number) → 0 ≡ number_in n no_files
no_sums n = grind (arith, common_steps)

others_sum : (n : Number) (form : Form) (cs : List Column) → has_number n cs ≡ true → (others : Option Sums)
    → column_sum n (section_of (sums_value form) cs (others_lines others)) ≡ number_in n (unwrap_or others no_files)
others_sum n form cs has None = no_sums n
others_sum n form cs has (Some s) =
    let line : NamedSumsModel = record { name = codes "others"; sums = s } in
    sum_by-cons (number_at n cs) (line_of (sums_value form) cs line) [] ∙ plus_none _ ∙ sums_line n form cs has line

-- the lines of sums
abbrev pub total_line : Sums → NamedSumsModel
total_line totals = record { name = codes "total"; sums = totals }

abbrev pub text_line : ClassSums → NamedSumsModel
text_line classes = record { name = codes "text"; sums = classes.text }

abbrev pub binary_line : ClassSums → NamedSumsModel
binary_line classes = record { name = codes "binary"; sums = classes.binary }

-- sorted files have the same totals
pub sorted_totals : (of_files : Bool) (sort : Option Number) (rs : List TallyRowModel) (fs sorted : List FileLineModel)
    → AreFilesSorted sort fs sorted → totals_of of_files rs sorted ≡ totals_of of_files rs fs
sorted_totals of_files sort rs fs sorted are = grind (arith, common_steps, sorted_files_law, same_sums, sum_by-IsPermutation)

-- ---- the laws

pub sheet_totals_law : SheetTotalsLaw
sheet_totals_law options attributes r s totals sheet n =
    let rows = sheet.has.rows in
    let files = sheet.files in
    let view = view_of options.top rows (listed_files options.files files) in
    let form = form_of options r.totals view.rows in
    let columns = row_columns options in
    let has = rows_have n options in
    let of_sums = sums_have n (sheet_format options.output) columns has in
    let sums = sums_columns (sheet_format options.output) columns in
    let same : plus (sums_of_shown view.rows) (unwrap_or view.others no_files) ≡ r.totals =
    cut_totals_law options.by options.sort options.top r.rows.items files rows (listed_files options.files files) sheet.has.are_rows
    ∙ sorted_totals (are_of_files options.by) options.sort r.rows.items r.files.items files sheet.are_files ∙ sym totals in
    let shown : column_sum n (sheet_of options attributes r view).rows + column_sum n (sheet_of options attributes r view).others
    ≡ first_number n (sheet_of options attributes r view).totals =
    ap₂ (λ a b. a + b) (rows_sum n form columns has view.rows) (others_sum n form sums of_sums view.others)
    ∙ sym (number_plus n (sums_of_shown view.rows) (unwrap_or view.others no_files)) ∙ ap (number_in n) same
    ∙ sym (sums_line n form sums of_sums (total_line r.totals)) in
    subst (λ (t : SheetModel). column_sum n t.rows + column_sum n t.others ≡ first_number n t.totals) (sym sheet.has.is) shown

pub sheet_classes_law : SheetClassesLaw
sheet_classes_law options attributes r s totals sheet n =
    let view = view_of options.top sheet.has.rows (listed_files options.files sheet.files) in
    let form = form_of options r.totals view.rows in
    let columns = row_columns options in
    let sums = sums_columns (sheet_format options.output) columns in
    let of_sums = sums_have n (sheet_format options.output) columns (rows_have n options) in
    let text = r.classes.text in
    let binary = r.classes.binary in
    let total : number_in n r.totals ≡ number_in n text + number_in n binary =
    ap (number_in n) totals ∙ number_plus n text binary in
    let line = sums_line n form sums of_sums in
    let shown : numbers_in n (sheet_of options attributes r view).totals
    ≡ (number_in n text + number_in n binary) ∷ number_in n text ∷ number_in n binary ∷ [] =
    ap₂ (λ a b. a ∷ b) (line (total_line r.totals) ∙ total)
    (ap₂ (λ a b. a ∷ b ∷ []) (line (text_line r.classes)) (line (binary_line r.classes))) in (
      number_in n text,
      number_in n binary,
      subst (λ (t : SheetModel). numbers_in n t.totals
          ≡ (number_in n text + number_in n binary) ∷ number_in n text ∷ number_in n binary ∷ []) (sym sheet.has.is) shown,
    )
