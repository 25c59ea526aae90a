-- The law that a plain table is written from its report alone.
use Rattle.std.specs.Prelude.{◌≡◌, ℕ, Bool, false, List, [], None, Ok}
use Rattle.lc_formats.specs.Tsv.{tsv_of}
use Rattle.lc_rows.specs.Sheets.{IsSheetOf}
use Rattle.lc_sheet.specs.{Sheets.SheetModel, declared.table_options.{Format.TheVariants.Tsv, Output.TheVariants.Text}}
use Rattle.lc_sheet.specs.declared.table_options.TableOptions.{TableOptions}
use Rattle.lc_tree.specs.Trees.{Listings, Contents}
use Rattle.lc_walk.specs.{Walks.Walks, declared.{options.Options.Options, report.Report.Report}}
use Rattle.lc_laws.specs.PlainTable.{plain_table}
use Rattle.lc_walk.specs.AllColumns.{all_columns}

-- the options of the table of a count without options, or with `--files`, that is not printed on a terminal
abbrev pub plain_options : Bool → TableOptions
plain_options files = record { output = Text Tsv; by = all_columns; sort = None; top = None; files = files; share = false }

-- a report that does not list skipped entries, so its table has no line for them or for the number of entries
pub record ListsNoSkipped (r : Report) : Type 0 where
  pub unlisted : r.lists.left_out ≡ false
  pub none : r.skipped.items ≡ []

-- the text of each sheet of a report with these options is the plain table of the report
abbrev pub PlainTableLaw : Type 0
PlainTableLaw =
    (files : Bool) (attributes : List (List ℕ)) (r : Report) (s : SheetModel) → ListsNoSkipped r
    → IsSheetOf (plain_options files) attributes r s → tsv_of s ≡ plain_table files r

-- the report of each walk whose options do not request the list of skipped entries does not list them
abbrev pub UnlistedLaw : (List ℕ → Listings) → (List ℕ → Contents) → Type 0
UnlistedLaw lists gives = (o : Options) (r : Report) → Walks lists gives o (Ok r) → o.lists.left_out ≡ false → ListsNoSkipped r
