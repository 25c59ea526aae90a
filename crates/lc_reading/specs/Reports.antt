-- The members of a JSON object that is a report, and the report that it is.
use Rattle.std.specs.{Prelude.{◌≡◌, ◌≢◌, ◌⊎◌, ℕ, true, false, List, [], ◌∷◌, map, ⊤, MatchOption}, Bool.MatchBool}
use Rattle.std.specs.List.Sorted.{IsPermutation, IsSortedByKey}
use Rattle.lc_tree.specs.ByteOrder.{bytes_cmp}
use Rattle.lc_walk.specs.{ReportTotals.TotalsAddUp, TallyRows.{AddsUp, TallyRowModel, sums_of_rows}}
use Rattle.lc_walk.specs.declared.tally.sums.Sums.{Sums}
use Rattle.lc_reading.specs.{Lines.{IsFaultOf, IsFileOf, IsSkippedOf}, Members.{Member, HasNumber, Lacks}, Objects.HasLines, Rows.HasSums}
use Rattle.lc_reading.specs.{Rows.IsRowOf, declared.{member_name.MemberName.MemberName, numbers_of.Numbers.Numbers}}
use Rattle.lc_reading.specs.declared.rows.ReadRow.{ReadRow}
use Rattle.lc_reading.specs.declared.member_name.MemberName.TheVariants as member
use Rattle.lc_walk.specs.{Classes.binary_sums, AllColumns.all_columns}
use Rattle.lc_sheet.specs.declared.table_options.Columns.{Columns}
use Rattle.lc_walk.specs.declared.report.Report.{Report}

-- these numbers are those of a report with these members
pub record IsNumbersOf (ms : List Member) (n : Numbers) : Type 0 where
  pub uncut : MatchBool n.is_cut (Unit {0}) (Lacks member.Others ms)
  pub total : HasSums member.Total ms n.total
  pub text : HasSums member.Text ms n.text
  pub binary : HasSums member.Binary ms n.binary
  pub directories : HasNumber member.Directories ms n.directories
  pub entries : MatchOption n.entries (Lacks member.Entries ms) (HasNumber member.Entries ms)

-- these lines are those in the list of this member, in the order of their paths
pub record HasOrdered {L : Type 0} (Says : List Member → L → Type 0) (path : L
    → List ℕ) (name : MemberName) (ms : List Member) (lines : List L) : Type 0 where
  pub listed : List L
  pub has : HasLines Says name ms listed
  pub same : IsPermutation listed lines
  pub order : IsSortedByKey path bytes_cmp lines

abbrev pub row_in : ReadRow → TallyRowModel
row_in r = r.row

-- all rows have these columns
abbrev pub HaveColumns : Columns → List ReadRow → Type 0
HaveColumns columns [] = ⊤
HaveColumns columns (r ∷ rs) = (r.columns ≡ columns) × HaveColumns columns rs

-- all rows have these columns, and add up to the total
pub record AreRowsOf (columns : Columns) (ms : List Member) (total : Sums) (rows : List ReadRow) : Type 0 where
  pub has : HasLines IsRowOf member.Rows ms rows
  pub columns_are : HaveColumns columns rows
  pub total_is : total ≡ sums_of_rows (map row_in rows)

-- the rows of a report with these members: those of binary files add up to the sums of these. If files are listed too, the rows have all
-- columns
pub record HasRows (ms : List Member) (r : Report) : Type 0 where
  pub columns : Columns
  pub rows : List ReadRow
  pub are : AreRowsOf columns ms r.totals rows
  pub nul : columns.eol ≡ true → r.classes.binary ≡ binary_sums (map row_in rows)
  pub kept : MatchBool r.lists.files (r.columns ≡ all_columns) ((r.columns ≡ columns) × AddsUp (map row_in rows) r.rows.items)

-- an object with these members is this report, whose files have the states of these attributes
pub record IsReportOf (attributes : List (List ℕ)) (ms : List Member) (r : Report) : Type 0 where
  pub uncut : Lacks member.Others ms
  pub total : HasSums member.Total ms r.totals
  pub text : HasSums member.Text ms r.classes.text
  pub binary : HasSums member.Binary ms r.classes.binary
  pub directories : HasNumber member.Directories ms r.directories
  pub entries : MatchBool r.lists.left_out (HasNumber member.Entries ms r.entries)
      (Lacks member.Entries ms × (r.entries ≡ 0))
  pub rows : HasRows ms r
  -- a report has a list of files if it lists them, or counts none
  pub files : MatchBool r.lists.files
      (HasOrdered (IsFileOf attributes) (λ f. f.path) member.Files ms r.files.items
      ⊎ (Lacks member.Files ms × (r.files.items ≡ []) × (r.totals.files ≡ 0)))
      (Lacks member.Files ms × (r.files.items ≡ []) × (r.totals.files ≢ 0))
  -- only the files of a list have states
  pub asked : r.lists.files ≡ false → attributes ≡ []
  pub skipped : MatchBool r.lists.left_out (HasOrdered IsSkippedOf (λ l. l.path) member.Left ms r.skipped.items)
      (Lacks member.Left ms × (r.skipped.items ≡ []))
  pub faults : HasOrdered IsFaultOf (λ f. f.path) member.Faults ms r.faults.items
  pub adds_up : TotalsAddUp r
  pub nul : r.columns.eol ≡ true → r.classes.binary ≡ binary_sums r.rows.items
