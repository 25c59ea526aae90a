-- The directories on the way from the top of a tree down to a path.
use Rattle.std.specs.Prelude.{◌≡◌, ℕ, List, [], Option, Some, None, Result, Ok, Err, option_map, find, bytes_eq, slice_get}
use Rattle.lc_level.specs.{Answers.{Item, Items, Answers, entries_of}, FaultLines.FaultLineModel, Filters.FiltersModel, Job.JobModel}
use Rattle.lc_level.specs.{RuleFiles.{RuleBytes, rule_bytes, extended}, WellFormed.IsWellFormed, TreeAnswers.MayAnswer}
use Rattle.lc_rules.specs.declared.rule_source.RuleSource.{RuleSource, TheVariants.{ExcludeFrom, InfoExclude, Gitignore, CommandLine}}
use Rattle.lc_tree.specs.{Listing.EntryModel, Trees.{Listings, Contents}, declared.entry.Kind.Kind}

-- a directory on the way to a path: its job, whose chains have its own rule files; its entries; and the texts of `.git/info/exclude` and of
-- its `.gitignore`, if it has these files
pub record OpenDirModel : Type 0 where
  pub job : JobModel
  pub entries : List EntryModel
  pub info : Option (List ℕ)
  pub own : Option (List ℕ)

-- a stack: the directories on the way to a path, from the top down
abbrev pub DirStack : Type 0
DirStack = List OpenDirModel

-- the cached stacks, by number
abbrev pub DirStacks : Type 0
DirStacks = List DirStack

abbrev pub stack_or_none : Option DirStack → DirStack
stack_or_none None = []
stack_or_none (Some stack) = stack

-- the cached stack with this number, or with none: if there is no such stack, it has no directories
abbrev pub stack_at : DirStacks → ℕ → DirStack
stack_at stacks at = stack_or_none (slice_get stacks at)

abbrev pub stack_to : DirStacks → Option ℕ → DirStack
stack_to stacks None = []
stack_to stacks (Some at) = stack_at stacks at

-- ---- entering a directory

-- the directory with these items, after its rule files were read, or the first error
abbrev pub open_dir_after : JobModel → List Item → Result RuleBytes FaultLineModel → Result OpenDirModel FaultLineModel
open_dir_after j items (Ok files) =
    Ok (record { job = extended j files; entries = entries_of items; info = files.info.rules; own = files.own.rules })
open_dir_after j items (Err fault) = Err fault

abbrev pub open_dir_of : JobModel → Answers → Items → Result OpenDirModel FaultLineModel
open_dir_of j a (Ok items) = open_dir_after j items (rule_bytes j.ignore.no_ignore j.path items a)
open_dir_of j a (Err word) = Err (record { path = j.path; word = word })

-- the directory of a job, opened by these answers, or its first error
abbrev pub open_dir : JobModel → Answers → Result OpenDirModel FaultLineModel
open_dir j a = open_dir_of j a a.here

-- the directory of a job, opened by answers that the tree may give, or its first error
pub record MayEnter (lists : List ℕ → Listings) (gives : List ℕ → Contents) (j : JobModel) (entered : Result OpenDirModel FaultLineModel)
    : Type 0 where
  pub answers : Answers
  pub may : MayAnswer lists gives j.path answers
  pub well_formed : IsWellFormed answers
  pub gives_it : open_dir j answers ≡ entered

-- ---- what a way knows

-- the kind of the entry with this name, if there is one
abbrev pub kind_in : List EntryModel → List ℕ → Option Kind
kind_in entries name = option_map (λ (e : EntryModel). e.kind) (find (λ (e : EntryModel). bytes_eq e.name name) entries)

abbrev pub text_or_none : Option (List ℕ) → List ℕ
text_or_none None = []
text_or_none (Some text) = text

abbrev pub text_at : (OpenDirModel → Option (List ℕ)) → Option OpenDirModel → List ℕ
text_at text None = []
text_at text (Some directory) = text_or_none (text directory)

-- the text of the rules of this source; empty if there are none
abbrev pub text_in : FiltersModel → DirStack → RuleSource → List ℕ
text_in f stack ExcludeFrom = text_or_none f.exclude_from
text_in f stack (InfoExclude depth) = text_at (λ d. d.info) (slice_get stack depth)
text_in f stack (Gitignore depth) = text_at (λ d. d.own) (slice_get stack depth)
text_in f stack CommandLine = text_or_none f.exclude
