-- No row of a sheet has a share over the total or a bar over the longest.
use Rattle.std.proofs.{lemmas.{Grind.common_steps, List.Elements.{All-cons, All-map, All-nil}}, Common.{◌≡◌, ◌≤◌, ℕ, Bool, true, false}}
use Rattle.std.proofs.Common.{List, [], ◌∷◌, get_or, Option, Some, None, sym, subst, ◌∙◌, arith, if◌then◌else◌}
use Rattle.std.specs.{Prelude.unwrap_or, List.All}
use Rattle.lc_rules.specs.{declared.states.TextState.TextState, Attributes.StateModel}
use Rattle.lc_sheet.specs.{Keys.{has_key, are_of_files}, Sheets.{SheetModel, line_of, sheet_format}, Values.{ValueModel, summed, word}}
use Rattle.lc_sheet.specs.declared.{column.{Column.Column, Number.Number}, key.Key.Key, form.{Form.Form, Shares.Shares}}
use Rattle.lc_sheet.specs.declared.table_options.TableOptions.{TableOptions}
use Rattle.lc_walk.specs.{Sums.{no_files, plus}, declared.{report.Report.Report, tally.sums.Sums.Sums}}
use Rattle.lc_rows.specs.Kinds.{NamedSumsModel, bar_value, directory_in, extension_value, kept_value, key_value, row_value, share_value}
use Rattle.lc_rows.specs.{Kinds.{sums_value, state_value, text_value}, RowKeys.{RowKey, ShownRowModel, row_key, sums_of_shown}}
use Rattle.lc_rows.specs.{SheetColumns.{row_columns, sums_columns}, SheetLaws.{ClassPartsLaw, HasClassTotals, IsSectionWithin, IsWithin}}
use Rattle.lc_rows.specs.{SheetLaws.SheetPartsLaw, Sheets.{form_of, listed_files, others_lines, section_of, share_number, shares_of}}
use Rattle.lc_rows.specs.{Sheets.{sheet_of, totals_lines}, ShownRows.number_in, Views.{first_of, view_of}}
use Rattle.lc_rows.proofs.{RowLaws.totals_law, RowParts.{first_are, rows_within_largest, rows_within_sum}, SheetLawProofs.binary_line}
use Rattle.lc_rows.proofs.{SheetLawProofs.{number_plus, sorted_totals, text_line, total_line}, ViewLaws.cut_totals_law}
use Rattle.lc_rules.specs.declared.states.TextState.TheVariants as text
use Rattle.lc_sheet.specs.declared.column.Column.TheVariants as column
use Rattle.lc_sheet.specs.declared.key.Key.TheVariants as key
use Rattle.lc_rules.specs.Attributes as state

-- ---- values

kept_within : (kept : Bool) (v : ValueModel) → IsWithin v → IsWithin (kept_value kept v)
kept_within true v within = within
kept_within false v within = tt

extension_within : (extension : Option (List ℕ)) → IsWithin (extension_value extension)
extension_within None = tt
extension_within (Some bytes) = tt

directory_within : (directory : Option (List ℕ)) → IsWithin (directory_in directory)
directory_within None = tt
directory_within (Some []) = tt
directory_within (Some (b ∷ bs)) = tt

text_within : (state : TextState) → IsWithin (text_value state)
text_within state = grind (arith, common_steps)

state_within : (s : StateModel) → IsWithin (state_value s)
state_within s = grind (arith, common_steps)

key_within : (k : Key) (r : RowKey) → IsWithin (key_value k r)
key_within k r = grind (arith, common_steps, directory_within, state_within, extension_within, text_within)

share_within : (shown : Bool) (q : Shares) (s : Sums) → number_in q.number s ≤ q.total
    → IsWithin (share_value (if shown then Some q else None) s)
share_within true q s le = le
share_within false q s le = tt

bar_within : (shown : Bool) (q : Shares) (s : Sums) → number_in q.number s ≤ q.largest
    → IsWithin (bar_value (if shown then Some q else None) s)
bar_within true q s le = le
bar_within false q s le = tt

value_within : (form : Form) (r : ShownRowModel) → IsWithin (share_value form.shares r.sums) → IsWithin (bar_value form.shares r.sums)
    → (c : Column) → IsWithin (row_value form r c)
value_within form r part bar (column.Key k) = kept_within (has_key form.by k) _ (key_within k (row_key r))
value_within form r part bar (column.Number n) = tt
value_within form r part bar column.Share = part
value_within form r part bar column.Bar = bar
value_within form r part bar column.Path = tt
value_within form r part bar column.Kind = tt
value_within form r part bar column.Reason = tt
value_within form r part bar column.Place = tt
value_within form r part bar column.Entry = tt
value_within form r part bar column.File = tt
value_within form r part bar column.Line = tt
value_within form r part bar column.Attribute = tt
value_within form r part bar column.Fault = tt
value_within form r part bar column.Site = tt
value_within form r part bar column.Change = tt
value_within form r part bar (column.Old x) = tt
value_within form r part bar (column.New x) = tt
value_within form r part bar (column.Difference m) = tt
value_within form r part bar (column.Growth m) = tt

-- ---- rows

line_within : (form : Form) (r : ShownRowModel) (cs : List Column) → IsWithin (share_value form.shares r.sums)
    → IsWithin (bar_value form.shares r.sums) → All IsWithin (line_of (row_value form) cs r)
line_within form r cs part bar = All-map IsWithin (row_value form r) cs (λ i d low. value_within form r part bar (get_or cs i d))

named_within : (here : Bool) (n : List ℕ) → IsWithin (if here then word n else summed)
named_within true n = tt
named_within false n = tt

-- ---- sums

sums_within : (form : Form) (s : NamedSumsModel) → IsWithin (share_value form.shares s.sums) → (c : Column)
    → IsWithin (sums_value form s c)
sums_within form s part c = grind (arith, common_steps, named_within)

sums_line_within : (form : Form) (cs : List Column) (s : NamedSumsModel) → IsWithin (share_value form.shares s.sums)
    → All IsWithin (line_of (sums_value form) cs s)
sums_line_within form cs s part = All-map IsWithin (sums_value form s) cs (λ i d low. sums_within form s part (get_or cs i d))

-- a line of sums none of whose numbers is larger than the total
abbrev IsUnder : Number → Sums → NamedSumsModel → Type 0
IsUnder n totals s = number_in n s.sums ≤ number_in n totals

sums_section_within : (options : TableOptions) (totals : Sums) (shown : List ShownRowModel) (cs : List Column) (lines : List NamedSumsModel)
    → All (IsUnder (share_number options.sort) totals) lines
    → IsSectionWithin (section_of (sums_value (form_of options totals shown)) cs lines)
sums_section_within options totals shown cs lines under =
    let n = share_number options.sort in
    let form = form_of options totals shown in
    All-map (λ (line : List ValueModel). All IsWithin line) (line_of (sums_value form) cs) lines
    (λ i d low. sums_line_within form cs (get_or lines i d)
    (share_within options.share (shares_of n totals shown) (get_or lines i d).sums (under i d low)))

-- the sums over the rows that are cut off, if they are a part of all
others_under : (n : Number) (rest totals : Sums) (others : Option Sums) → plus rest (unwrap_or others no_files) ≡ totals
    → All (IsUnder n totals) (others_lines others)
others_under n rest totals others whole = grind (arith, common_steps, number_plus)

classes_under : (n : Number) (r : Report) → HasClassTotals r
    → All (IsUnder n r.totals) (totals_lines r.totals r.classes)
classes_under n r totals = grind (arith, common_steps, number_plus, total_line, text_line, binary_line)

-- ---- the laws

pub sheet_parts_law : SheetPartsLaw
sheet_parts_law options attributes r s totals sheet =
    let rows = sheet.has.rows in
    let shown = first_of options.top rows in
    let n = share_number options.sort in
    let form = form_of options r.totals shown in
    let columns = row_columns options in
    let quota = shares_of n r.totals shown in
    let same : sums_of_shown rows ≡ r.totals =
    totals_law options.by options.sort r.rows.items sheet.files rows sheet.has.are_rows
    ∙ sorted_totals (are_of_files options.by) options.sort r.rows.items r.files.items sheet.files sheet.are_files ∙ sym totals in
    let parts : All (λ (q : ShownRowModel). number_in n q.sums ≤ number_in n r.totals) shown =
    subst (λ (t : Sums). All (λ (q : ShownRowModel). number_in n q.sums ≤ number_in n t) shown) same
    (first_are (λ q. number_in n q.sums ≤ number_in n (sums_of_shown rows)) options.top rows (rows_within_sum n rows)) in
    let bars = rows_within_largest n shown in
    let within : All (λ (q : ShownRowModel). All IsWithin (line_of (row_value form) columns q)) shown =
    λ i d low. line_within form (get_or shown i d) columns (share_within options.share quota (get_or shown i d).sums (parts i d low))
    (bar_within options.share quota (get_or shown i d).sums (bars i d low)) in
    let files = listed_files options.files sheet.files in
    let others : IsSectionWithin (sheet_of options attributes r (view_of options.top rows files)).others =
    sums_section_within options r.totals shown (sums_columns (sheet_format options.output) columns)
    (others_lines (view_of options.top rows files).others)
    (others_under n (sums_of_shown shown) r.totals (view_of options.top rows files).others
    (cut_totals_law options.by options.sort options.top r.rows.items sheet.files rows files sheet.has.are_rows
    ∙ sorted_totals (are_of_files options.by) options.sort r.rows.items r.files.items sheet.files sheet.are_files ∙ sym totals)) in
    subst (λ (t : SheetModel). IsSectionWithin t.rows × IsSectionWithin t.others) (sym sheet.has.is)
    (All-map (λ (line : List ValueModel). All IsWithin line) (line_of (row_value form) columns) shown within, others)

pub class_parts_law : ClassPartsLaw
class_parts_law options attributes r s totals sheet =
    let view = view_of options.top sheet.has.rows (listed_files options.files sheet.files) in
    subst (λ (t : SheetModel). IsSectionWithin t.totals) (sym sheet.has.is)
    (sums_section_within options r.totals view.rows (sums_columns (sheet_format options.output) (row_columns options))
    (totals_lines r.totals r.classes)
    (classes_under (share_number options.sort) r totals))
