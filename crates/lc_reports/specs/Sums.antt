-- The sum of several reports, or why they are not summed.
use Rattle.std.specs.{Prelude.{◌≡◌, ℕ, Bool, true, false, List, ⊤, map, Some, None, Result, MatchResult}, List.find}
use Rattle.lc_reports.specs.{Joined.{Fits, IsJoined}, declared.{join_fault.JoinFault.JoinFault, needs.Needs.Needs, part.Part.Part}}
use Rattle.lc_reports.specs.declared.sum_fault.SumFault.{SumFault}
use Rattle.lc_reports.specs.declared.sum_fault.SumFault.TheVariants.{Memory, NoColumn, NoSharedColumn, NoFiles, NoSkipped, SamePath}
use Rattle.lc_reports.specs.declared.sum_fault.SumFault.TheVariants.{TooLarge}
use Rattle.lc_reports.specs.{Needs.{lacking, lacks_column, lacks_files, lacks_skipped, share_some}, Paths.AreApart}
use Rattle.lc_reports.specs.Paths.{IsFirstTwice, paths_of}
use Rattle.lc_sheet.specs.declared.key.Key.{Key}
use Rattle.lc_walk.specs.declared.report.Report.{Report}
use Rattle.lc_reports.specs.declared.join_fault.JoinFault.TheVariants as join

-- ---- what each report must have

abbrev pub NoneLacks : (Part → Bool) → List Part → Type 0
NoneLacks lacks ps = find lacks ps ≡ None

-- the first report that lacks something has this name
pub record FirstLacks (lacks : Part → Bool) (ps : List Part) (origin : List ℕ) : Type 0 where
  pub part : Part
  pub first : find lacks ps ≡ Some part
  pub named : origin ≡ part.origin.now

-- the first report that lacks a needed column has this name, and this is the key of the first needed column that it lacks
pub record FirstLacksColumn (needs : Needs) (ps : List Part) (origin : List ℕ) (key : Key) : Type 0 where
  pub part : Part
  pub first : find (lacks_column needs.columns) ps ≡ Some part
  pub named : origin ≡ part.origin.now
  pub lacks : key ≡ lacking needs.columns part

pub record HaveColumns (needs : Needs) (ps : List Part) : Type 0 where
  pub each : NoneLacks (lacks_column needs.columns) ps
  pub shared : needs.some_column ≡ true → share_some ps ≡ true

abbrev pub HaveFiles : Needs → List Part → Type 0
HaveFiles needs ps = needs.files ≡ true → NoneLacks lacks_files ps

pub record HaveLists (needs : Needs) (ps : List Part) : Type 0 where
  pub files : HaveFiles needs ps
  pub left_out : needs.left_out ≡ true → NoneLacks lacks_skipped ps

-- each report has what is needed, and no two listed files have the same path
pub record CanBeSummed (needs : Needs) (ps : List Part) : Type 0 where
  pub columns : HaveColumns needs ps
  pub lists : HaveLists needs ps
  pub apart : AreApart (paths_of ps)

-- ---- their sum

-- a report, with the needed lists alone
abbrev pub needed_report : Needs → Part → Report
needed_report needs p = record p.report { lists = record { files = needs.files; left_out = needs.left_out } }

abbrev pub needed_reports : Needs → List Part → List Report
needed_reports needs ps = map (needed_report needs) ps

-- the sum of the reports: their joined report, which lists its files if these are needed
pub record IsSumOf (needs : Needs) (ps : List Part) (s : Report) : Type 0 where
  pub joined : IsJoined (needed_reports needs ps) s
  pub files : needs.files ≡ true → s.lists.files ≡ true

-- ---- why there is none

-- the error if a report lacks a needed column, or if no column is shared although one must be
abbrev pub LacksColumns : Needs → List Part → SumFault → Type 0
LacksColumns needs ps (NoColumn origin key) = FirstLacksColumn needs ps origin.now key
LacksColumns needs ps NoSharedColumn =
    NoneLacks (lacks_column needs.columns) ps × (needs.some_column ≡ true) × (share_some ps ≡ false)
LacksColumns needs ps other = ⊥

-- the error if a report lacks a needed list: that of files, or else that of skipped entries
abbrev pub LacksLists : Needs → List Part → SumFault → Type 0
LacksLists needs ps (NoFiles origin) = (needs.files ≡ true) × FirstLacks lacks_files ps origin.now
LacksLists needs ps (NoSkipped origin) = HaveFiles needs ps × (needs.left_out ≡ true) × FirstLacks lacks_skipped ps origin.now
LacksLists needs ps other = ⊥

-- the error if two files have the same path, or an allocation fails
abbrev pub HasSamePath : List Part → SumFault → Type 0
HasSamePath ps (SamePath path) = IsFirstTwice path.items (paths_of ps)
HasSamePath ps Memory = ⊤
HasSamePath ps other = ⊥

-- the error for reports that can't be joined
abbrev pub fault_of_join : JoinFault → SumFault
fault_of_join join.Memory = Memory
fault_of_join join.TooLarge = TooLarge

-- the error if a sum does not fit its type, or an allocation fails
abbrev pub IsUnjoined : Needs → List Part → SumFault → Type 0
IsUnjoined needs ps TooLarge = Fits (needed_reports needs ps) → ⊥
IsUnjoined needs ps Memory = ⊤
IsUnjoined needs ps other = ⊥

-- the first of these errors that holds; an allocation fails only after each report was found to have the needed columns and lists
abbrev pub IsRefused : Needs → List Part → SumFault → Type 0
IsRefused needs ps Memory = HaveColumns needs ps × HaveLists needs ps
IsRefused needs ps (NoColumn origin key) = LacksColumns needs ps (NoColumn origin key)
IsRefused needs ps NoSharedColumn = LacksColumns needs ps NoSharedColumn
IsRefused needs ps (NoFiles origin) = HaveColumns needs ps × LacksLists needs ps (NoFiles origin)
IsRefused needs ps (NoSkipped origin) = HaveColumns needs ps × LacksLists needs ps (NoSkipped origin)
IsRefused needs ps (SamePath path) = HaveColumns needs ps × HaveLists needs ps × HasSamePath ps (SamePath path)
IsRefused needs ps TooLarge = CanBeSummed needs ps × IsUnjoined needs ps TooLarge

abbrev pub IsSummed : Needs → List Part → Result Report SumFault → Type 0
IsSummed needs ps result = MatchResult result (λ s. CanBeSummed needs ps × IsSumOf needs ps s) (IsRefused needs ps)
