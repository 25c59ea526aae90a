-- Reports of walks, and the parts of them that meet conditions.
use Rattle.std.specs.Prelude.{◌≡◌, ℕ, true, List, Ok}
use Rattle.lc_sheet.specs.{Conditions.{ConditionModel, is_on_files}, Keys.are_of_files, declared.table_options.TableOptions.TableOptions}
use Rattle.lc_tree.specs.Trees.{Listings, Contents}
use Rattle.lc_walk.specs.{Walks.Walks, declared.{options.{Options.Options, ReportLists.ReportLists}, report.Report.Report}}
use Rattle.lc_rows.specs.Kept.{IsKept}

-- the part of a walk's report that meets some conditions; without conditions, the whole report
pub record IsOfWalk (lists : List ℕ → Listings) (gives : List ℕ → Contents) (o : Options) (r : Report) : Type 0 where
  pub conditions : List ConditionModel
  pub whole : Report
  pub walked : Walks lists gives o (Ok whole)
  pub kept : IsKept conditions whole r

-- a sheet by directories or attributes is made of the files, so the walk, and its report, must list them
abbrev pub HasFilesFor : TableOptions → ReportLists → Type 0
HasFilesFor options lists = are_of_files options.by ≡ true → lists.files ≡ true

abbrev pub ListsFilesFor : Options → TableOptions → Type 0
ListsFilesFor o options = HasFilesFor options o.lists

-- a condition on a number or an attribute is tested on the files, so the walk must list them
abbrev pub ListsFilesToTest : Options → ConditionModel → Type 0
ListsFilesToTest o c = is_on_files c ≡ true → o.lists.files ≡ true
