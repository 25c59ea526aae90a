-- Shares of a total, as a text for reading shows them.
use Rattle.std.specs.{Prelude.{⊤, ◌≡◌, ◌≤◌, ℕ, List}, List.All}
use Rattle.lc_formats.specs.{Cells.shown_text, Shares.share_word}
use Rattle.lc_rows.specs.{Sheets.IsSheetOf, WalkedReports.{IsOfWalk, ListsFilesFor}}
use Rattle.lc_sheet.specs.Sheets.{SectionModel, SheetModel}
use Rattle.lc_sheet.specs.Values.{ValueModel, missing, summed, blank, word, flag, name, path, number, share}
use Rattle.lc_sheet.specs.{Values.{bar, difference, growth}, declared.table_options.TableOptions.TableOptions}
use Rattle.lc_tree.specs.Trees.{Listings, Contents}
use Rattle.lc_walk.specs.declared.{options.Options.Options, report.Report.Report}

-- if a value is a share, its text is that of at most 1,000 tenths of a per cent
abbrev pub IsPrintedWithin : ValueModel → Type 0
IsPrintedWithin missing = ⊤
IsPrintedWithin summed = ⊤
IsPrintedWithin blank = ⊤
IsPrintedWithin (word w) = ⊤
IsPrintedWithin (flag is_set) = ⊤
IsPrintedWithin (name n) = ⊤
IsPrintedWithin (path p) = ⊤
IsPrintedWithin (number n) = ⊤
IsPrintedWithin (share part whole) = (tenths : ℕ) × (tenths ≤ 1000) × (shown_text (share part whole) ≡ share_word tenths)
IsPrintedWithin (bar part whole) = ⊤
IsPrintedWithin (difference old new) = ⊤
IsPrintedWithin (growth old new) = ⊤

abbrev pub AreSharesWithin : SectionModel → Type 0
AreSharesWithin section = All (λ (line : List ValueModel). All IsPrintedWithin line) section.lines

-- each share in the rows and the sums of a sheet is printed as at most 100.0 per cent
pub record PrintsShares (s : SheetModel) : Type 0 where
  pub rows : AreSharesWithin s.rows
  pub others : AreSharesWithin s.others
  pub totals : AreSharesWithin s.totals

-- the shares of each sheet of a walk's report, or of the part of it that meets conditions, are printed as at most 100.0 per cent
abbrev pub PrintedSharesLaw : (List ℕ → Listings) → (List ℕ → Contents) → Type 0
PrintedSharesLaw lists gives =
    (o : Options) (options : TableOptions) (attributes : List (List ℕ)) (r : Report) (s : SheetModel) → IsOfWalk lists gives o r
    → ListsFilesFor o options → IsSheetOf options attributes r s → PrintsShares s
