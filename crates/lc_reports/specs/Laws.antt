-- The laws of reports with a name in front of their paths, of joined reports, and of sums of reports.
use Rattle.std.specs.{Prelude.{◌≡◌, ℕ, ◌<◌, List, ◌∷◌, ◌++◌, length}, List.{All, Sorted.IsPermutation}}
use Rattle.lc_glob.specs.Bytes.{slash}
use Rattle.lc_level.specs.Level.{FileLineModel}
use Rattle.lc_reports.specs.{Joined.{IsJoined, all_rows}, Named.{IsNamed, named_path, named_source}, Sums.{CanBeSummed, IsSumOf}}
use Rattle.lc_reports.specs.declared.{needs.Needs.Needs, part.Part.Part}
use Rattle.lc_rules.specs.declared.rule_source.RuleSource.{RuleSource, TheVariants.{InfoExclude, Gitignore}}
use Rattle.lc_text.specs.RulePlaces.{source_directory}
use Rattle.lc_walk.specs.{ReportTotals.TotalsAddUp, TallyRows.TallyRowModel, declared.report.Report.Report}

-- a report that joins some reports also joins the same reports in any other order
abbrev pub JoinOrderLaw : Type 0
JoinOrderLaw = (rs moved : List Report) (r : Report) → IsPermutation rs moved → IsJoined rs r → IsJoined moved r

-- if `one` joins the reports of `part`, a report that joins `one` and others also joins the reports of `part` and the others
abbrev pub JoinGroupLaw : Type 0
JoinGroupLaw = (part others : List Report) (one r : Report) → IsJoined part one → IsJoined (one ∷ others) r → IsJoined (part ++ others) r

-- a row has a file
abbrev pub HasFile : TallyRowModel → Type 0
HasFile row = 0 < row.sums.files

-- both reports are the same, except for the order of their files
pub record IsSame (r s : Report) : Type 0 where
  pub rows : r.rows.items ≡ s.rows.items
  pub columns : r.columns ≡ s.columns
  pub totals : r.totals ≡ s.totals
  pub classes : r.classes ≡ s.classes
  pub directories : r.directories ≡ s.directories
  pub entries : r.entries ≡ s.entries
  pub lists : r.lists ≡ s.lists
  pub files : IsPermutation r.files.items s.files.items
  pub faults : r.faults.items ≡ s.faults.items
  pub skipped : r.skipped.items ≡ s.skipped.items

-- reports have only one joined report if each of their rows has a file
abbrev pub JoinOnceLaw : Type 0
JoinOnceLaw = (rs : List Report) (r s : Report) → All HasFile (all_rows rs) → IsJoined rs r → IsJoined rs s → IsSame r s

-- if the totals of each report add up, the totals of the joined report do
abbrev pub JoinTotalsLaw : Type 0
JoinTotalsLaw = (rs : List Report) (r : Report) → All TotalsAddUp rs → IsJoined rs r → TotalsAddUp r

-- a file is below the top
abbrev pub HasPath : FileLineModel → Type 0
HasPath f = 0 < length f.path

abbrev pub NameTotalsLaw : Type 0
NameTotalsLaw =
    (name : List ℕ) (r named : Report) → All HasPath r.files.items → TotalsAddUp r → IsNamed name r named → TotalsAddUp named

-- the name is put in front of the directory of a rule's file as well as of the entry that the rule decides
abbrev pub IsNamedWith : List ℕ → List ℕ → RuleSource → Type 0
IsNamedWith name path source =
    source_directory (named_path name path) (named_source name source) ≡ name ++ slash ∷ source_directory path source

pub record NamedRulesLaw : Type 0 where
  pub info : (name : List ℕ) (b : ℕ) (bs : List ℕ) (depth : ℕ) → IsNamedWith name (b ∷ bs) (InfoExclude depth)
  pub own : (name : List ℕ) (b : ℕ) (bs : List ℕ) (depth : ℕ) → IsNamedWith name (b ∷ bs) (Gitignore depth)

-- if reports can be summed in one order, they can be summed in any order, and their sum is the same
pub record SumOrderLaw : Type 0 where
  pub can_be : (needs : Needs) (ps moved : List Part) → IsPermutation ps moved → CanBeSummed needs ps → CanBeSummed needs moved
  pub sum : (needs : Needs) (ps moved : List Part) (s : Report) → IsPermutation ps moved → IsSumOf needs ps s → IsSumOf needs moved s
