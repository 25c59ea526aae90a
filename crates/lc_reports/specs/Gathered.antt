-- What is gathered from several reports before they are joined.
use Rattle.std.specs.Prelude.{◌≡◌, ◌+◌, ◌<◌, ◌^◌, List, ◌++◌}
use Rattle.lc_reports.specs.Joined.{all_rows, all_files, all_faults, all_skipped, all_binary, all_text, all_totals, all_directories}
use Rattle.lc_reports.specs.Joined.{all_entries}
use Rattle.lc_reports.specs.Joined.{if_wanted}
use Rattle.lc_reports.specs.declared.gathered.{Gathered.Gathered, Numbers.Numbers}
use Rattle.lc_walk.specs.{Sums.{IsInRange, no_files, plus}, TallyRows.sums_of_rows, declared.options.ReportLists.ReportLists}
use Rattle.lc_walk.specs.declared.report.Report.{Report}

-- ---- numbers

abbrev pub no_numbers : Numbers
no_numbers = record { rows = no_files; totals = no_files; text = no_files; binary = no_files; directories = 0; entries = 0 }

-- these numbers with the numbers of a report added
abbrev pub numbers_with : Numbers → Report → Numbers
numbers_with n r = record {
  rows = plus n.rows (sums_of_rows r.rows.items);
  totals = plus n.totals r.totals;
  text = plus n.text r.classes.text;
  binary = plus n.binary r.classes.binary;
  directories = n.directories + r.directories;
  entries = n.entries + r.entries;
}

abbrev pub numbers_of : List Report → Numbers
numbers_of rs = record {
  rows = sums_of_rows (all_rows rs);
  totals = all_totals rs;
  text = all_text rs;
  binary = all_binary rs;
  directories = all_directories rs;
  entries = all_entries rs;
}

-- each number fits its type
pub record NumbersFit (n : Numbers) : Type 0 where
  pub rows : IsInRange n.rows
  pub totals : IsInRange n.totals
  pub text : IsInRange n.text
  pub binary : IsInRange n.binary
  pub directories : n.directories < 2 ^ 64
  pub entries : n.entries < 2 ^ 64

-- ---- lines

-- `new` has what `old` has and then the rows and errors of the report, and its other lists if they are wanted
pub record Adds (lists : ReportLists) (old : Gathered) (r : Report) (new : Gathered) : Type 0 where
  pub rows : new.rows.items ≡ old.rows.items ++ r.rows.items
  pub files : new.files.items ≡ old.files.items ++ if_wanted lists.files r.files.items
  pub faults : new.faults.items ≡ old.faults.items ++ r.faults.items
  pub skipped : new.skipped.items ≡ old.skipped.items ++ if_wanted lists.left_out r.skipped.items

-- the rows and errors of all these reports, and their other lists if they are wanted
pub record IsGathered (lists : ReportLists) (rs : List Report) (g : Gathered) : Type 0 where
  pub rows : g.rows.items ≡ all_rows rs
  pub files : g.files.items ≡ if_wanted lists.files (all_files rs)
  pub faults : g.faults.items ≡ all_faults rs
  pub skipped : g.skipped.items ≡ if_wanted lists.left_out (all_skipped rs)
