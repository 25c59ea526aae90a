-- The report that several reports make when they are joined.
use Rattle.std.specs.Prelude.{◌≡◌, ℕ, ◌<◌, ◌^◌, Bool, List, cond, [], flat_map, sum_by, None, Result, MatchResult}
use Rattle.std.specs.List.{Contains, list_all}
use Rattle.std.specs.{List.Sorted.{IsPermutation, IsSortedByKey, IsStrictlySortedBy}, declared.cmp.Ordering.Ordering}
use Rattle.lc_level.specs.{FaultLines.FaultLineModel, Level.{FileLineModel, SkippedLineModel}}
use Rattle.lc_reports.specs.{LineOrder.{fault_cmp, skipped_cmp}, declared.join_fault.JoinFault.{JoinFault, TheVariants.{Memory, TooLarge}}}
use Rattle.lc_tree.specs.ByteOrder.{bytes_cmp}
use Rattle.lc_sheet.specs.{Keys.{columns_of, has_key}, declared.table_options.Columns.Columns}
use Rattle.lc_walk.specs.{Sums.IsInRange, TallyRows.{TallyRowModel, AddsUp, sums_of_rows}, declared.options.ReportLists.ReportLists}
use Rattle.lc_walk.specs.declared.{report.Report.Report, tally.sums.Sums.Sums}

-- ---- what several reports have, one report after another

abbrev pub all_rows : List Report → List TallyRowModel
all_rows rs = flat_map (λ (r : Report). r.rows.items) rs

abbrev pub all_files : List Report → List FileLineModel
all_files rs = flat_map (λ (r : Report). r.files.items) rs

abbrev pub all_faults : List Report → List FaultLineModel
all_faults rs = flat_map (λ (r : Report). r.faults.items) rs

abbrev pub all_skipped : List Report → List SkippedLineModel
all_skipped rs = flat_map (λ (r : Report). r.skipped.items) rs

abbrev pub all_totals : List Report → Sums
all_totals rs = record {
  files = sum_by (λ (r : Report). r.totals.files) rs;
  lines = sum_by (λ (r : Report). r.totals.lines) rs;
  blank = sum_by (λ (r : Report). r.totals.blank) rs;
  bytes = sum_by (λ (r : Report). r.totals.bytes) rs;
}

abbrev pub all_text : List Report → Sums
all_text rs = record {
  files = sum_by (λ (r : Report). r.classes.text.files) rs;
  lines = sum_by (λ (r : Report). r.classes.text.lines) rs;
  blank = sum_by (λ (r : Report). r.classes.text.blank) rs;
  bytes = sum_by (λ (r : Report). r.classes.text.bytes) rs;
}

abbrev pub all_binary : List Report → Sums
all_binary rs = record {
  files = sum_by (λ (r : Report). r.classes.binary.files) rs;
  lines = sum_by (λ (r : Report). r.classes.binary.lines) rs;
  blank = sum_by (λ (r : Report). r.classes.binary.blank) rs;
  bytes = sum_by (λ (r : Report). r.classes.binary.bytes) rs;
}

abbrev pub all_directories : List Report → ℕ
all_directories rs = sum_by (λ (r : Report). r.directories) rs

abbrev pub all_entries : List Report → ℕ
all_entries rs = sum_by (λ (r : Report). r.entries) rs

-- the columns that the rows of each of these reports are grouped by
abbrev pub shared_columns : List Report → Columns
shared_columns rs = columns_of (λ k. list_all (λ (r : Report). has_key r.columns k) rs)

-- the optional lists that each of these reports has
abbrev pub shared_lists : List Report → ReportLists
shared_lists rs = record {
  files = list_all (λ (r : Report). r.lists.files) rs;
  left_out = list_all (λ (r : Report). r.lists.left_out) rs;
}

-- this list if it is wanted, or else the empty list
abbrev pub if_wanted : {X : Type 0} → Bool → List X → List X
if_wanted wanted xs = cond wanted xs []

-- ---- the joined report

-- `united` has each of these lines once, in order
pub record IsUnited {X : Type 0} (cmp : X → X → Ordering) (xs united : List X) : Type 0 where
  pub kept : (x : X) → Contains xs x → Contains united x
  pub given : (x : X) → Contains united x → Contains xs x
  pub order : IsStrictlySortedBy cmp united

-- the joined report has a row for each key, with the sums over all rows that have the key. It has the columns that each report has, the
-- sums of all numbers, and each error once, in order. If each report lists files, it has all files, in the order of their paths. If each
-- report lists skipped entries, it has each of them once, in order.
pub record IsJoined (rs : List Report) (r : Report) : Type 0 where
  pub rows : AddsUp (all_rows rs) r.rows.items
  pub columns : r.columns ≡ shared_columns rs
  pub totals : r.totals ≡ all_totals rs
  pub text : r.classes.text ≡ all_text rs
  pub binary : r.classes.binary ≡ all_binary rs
  pub directories : r.directories ≡ all_directories rs
  pub entries : r.entries ≡ all_entries rs
  pub lists : r.lists ≡ shared_lists rs
  pub files : IsPermutation (if_wanted r.lists.files (all_files rs)) r.files.items
  pub file_order : IsSortedByKey (λ (f : FileLineModel). f.path) bytes_cmp r.files.items
  pub faults : IsUnited fault_cmp (all_faults rs) r.faults.items
  pub skipped : IsUnited skipped_cmp (if_wanted r.lists.left_out (all_skipped rs)) r.skipped.items

-- whether each sum fits its type
pub record Fits (rs : List Report) : Type 0 where
  pub rows : IsInRange (sums_of_rows (all_rows rs))
  pub totals : IsInRange (all_totals rs)
  pub text : IsInRange (all_text rs)
  pub binary : IsInRange (all_binary rs)
  pub directories : all_directories rs < 2 ^ 64
  pub entries : all_entries rs < 2 ^ 64

-- why there is no joined report: some sum does not fit its type, or each fits and an allocation failed
abbrev pub IsUnjoined : List Report → JoinFault → Type 0
IsUnjoined rs Memory = Fits rs
IsUnjoined rs TooLarge = Fits rs → ⊥

abbrev pub Joins : List Report → Result Report JoinFault → Type 0
Joins rs result = MatchResult result (IsJoined rs) (IsUnjoined rs)
