-- One level of the walk: what becomes of each entry of one directory.
use Rattle.std.specs.Prelude.{ℕ, ◌≡◌, Bool, true, false, cond, List, [], ◌∷◌, ◌++◌, length, flat_map, map, bytes_eq, codes, if◌then◌else◌}
use Rattle.std.specs.{Prelude.{Option, None, Some, option_map, Result, Ok, Err}, List.find, Option.{is_none, option_map_or, option_or}}
use Rattle.lc_rules.specs.{IgnoreChains.rules_in, IgnoreRules.RuleModel, Verdicts.last_match, declared.rule_source.RuleSource.RuleSource}
use Rattle.lc_rules.specs.{declared.states.TextState.TextState, Attributes.StateModel, AttrStates.{state_of, as_text}}
use Rattle.lc_census.specs.declared.line_count.Count.{Count}
use Rattle.lc_tree.specs.declared.entry.{Kind.{Kind, TheVariants.{File, Dir, Other}}, OtherKind.OtherKind}
use Rattle.lc_level.specs.{declared.fault_word.FaultWord.{FaultWord, TheVariants.Absent}, Answers.{Item, file_item, directory_item}}
use Rattle.lc_level.specs.{Answers.{other_item, name_of, Items, Answers}, Job.JobModel, FaultLines.FaultLineModel, Narrowing.part_of}
use Rattle.lc_level.specs.{Narrowing.absent_from, RuleFiles.{RuleBytes, rule_bytes, extended}, Filters.{FiltersModel, attribute_of}}
use Rattle.lc_level.specs.Filters.{value_of, is_state, patterns_for, include_rules, is_included}
use Rattle.lc_glob.specs.Path.{path_in}

-- a counted file, by its path from a directory or from the top, with the state of the attribute `text`, and with those of the attributes
-- that were asked for
pub record FileLineModel : Type 0 where
  pub path : List ℕ
  pub text : TextState
  pub asked : List StateModel
  pub count : Count

-- why an entry is skipped, the first of these that holds: it is named `.git`; the last rule that matches it ignores it, and is in a file of
-- this source, on the line with this number; an attribute has for it the state that this word requires; it is a file that no pattern
-- includes; it is neither a file nor a directory
pub data Reason : Type 0 where
  named_git : Reason
  by_rule : RuleSource → (line : ℕ) → Reason
  by_attribute : (word : List ℕ) → Reason
  not_included : Reason
  other_kind : OtherKind → Reason

-- a skipped entry: its path, its kind, and why it is skipped
pub record SkippedLineModel : Type 0 where
  pub path : List ℕ
  pub kind : Kind
  pub reason : Reason

-- a line of a file, with its path joined to the path of a directory above
abbrev pub file_below : List ℕ → FileLineModel → FileLineModel
file_below directory f = record { path = path_in directory f.path; text = f.text; asked = f.asked; count = f.count }

abbrev pub skipped_below : List ℕ → SkippedLineModel → SkippedLineModel
skipped_below directory l = record { path = path_in directory l.path; kind = l.kind; reason = l.reason }

-- what becomes of an entry: a file is counted, or has an error; a directory is to be visited, by this job; or the entry, of this kind, is
-- skipped
pub data Fate : Type 0 where
  counted : FileLineModel → Fate
  failed : FaultWord → Fate
  walked : JobModel → Fate
  skipped : Kind → Reason → Fate

-- what a directory contributes: an error at some path and nothing else; or the names of the selected entries with their fates, in the order
-- of the listing, and the paths of `--only` that are absent, relative to the directory
pub data Level : Type 0 where
  faulted_level : (path : List ℕ) → FaultWord → Level
  listed_level : List (List ℕ × Fate) → (absent : List (List ℕ)) → Level

-- ---- why an entry is skipped

-- whether the attribute of a word has at a path the state that the word requires
abbrev pub is_met : JobModel → List ℕ → Bool → List ℕ → Bool
is_met j path is_dir word = is_state (value_of word) (state_of j.attributes path is_dir (attribute_of word))

-- the first word of the filters whose attribute has the required state at a path, as a reason
abbrev pub attribute_reason : FiltersModel → JobModel → List ℕ → Bool → Option Reason
attribute_reason f j path is_dir = option_map by_attribute (find (is_met j path is_dir) f.without)

-- the last rule that matches, as a reason if it ignores the path
abbrev pub rule_reason : Option (RuleSource × RuleModel) → Option Reason
rule_reason None = None
rule_reason (Some rule) = if rule.1.is_negated then None else Some (by_rule rule.0 rule.1.line)

-- why the rules or the attributes skip a path, if they do
abbrev pub reason_at : FiltersModel → JobModel → List ℕ → Bool → Option Reason
reason_at f j path is_dir =
    option_or (rule_reason (last_match (rules_in j.ignore) path is_dir)) (attribute_reason f j path is_dir)

-- why the entry with this name in the directory is skipped, if it is, by its name, the rules or the attributes
abbrev pub reason_of : FiltersModel → JobModel → List ℕ → Bool → Option Reason
reason_of f j name is_dir = cond (bytes_eq name (codes ".git")) (Some named_git) (reason_at f j (path_in j.path name) is_dir)

-- why a file is skipped that matches none of the patterns that it must match
abbrev pub include_reason : Option (List RuleModel) → List ℕ → Option Reason
include_reason patterns path = cond (is_included patterns path) None (Some not_included)

-- why the file with this name in the directory is skipped, if it is
abbrev pub file_reason : FiltersModel → JobModel → List ℕ → Option Reason
file_reason f j name = option_or (reason_of f j name false) (include_reason (patterns_for (include_rules f) j.path) (path_in j.path name))

-- why the entry of this name and kind is skipped, if it is
abbrev pub reason_for : FiltersModel → JobModel → List ℕ → Kind → Option Reason
reason_for f j name File = file_reason f j name
reason_for f j name Dir = reason_of f j name true
reason_for f j name (Other what) = option_or (reason_of f j name false) (Some (other_kind what))

-- whether neither the rules nor the attributes skip a path
abbrev pub is_kept : FiltersModel → JobModel → List ℕ → Bool → Bool
is_kept f j path is_dir = is_none (reason_at f j path is_dir)

abbrev pub is_taken : FiltersModel → JobModel → List ℕ → Bool → Bool
is_taken f j name is_dir = is_none (reason_of f j name is_dir)

abbrev pub is_counted : FiltersModel → JobModel → List ℕ → Bool
is_counted f j name = is_none (file_reason f j name)

-- ---- fates

abbrev pub text_of : JobModel → List ℕ → TextState
text_of j path = as_text (state_of j.attributes path false (codes "text"))

-- the states of the attributes that the filters ask for, in their order
abbrev pub asked_of : FiltersModel → JobModel → List ℕ → List StateModel
asked_of f j path = map (state_of j.attributes path false) f.asked

-- the job of the directory at a path, with the chains of this job
abbrev pub job_at : JobModel → List ℕ → JobModel
job_at j path = record { path = path; ignore = j.ignore; attributes = j.attributes }

abbrev pub child_job : JobModel → List ℕ → JobModel
child_job j name = job_at j (path_in j.path name)

-- the fate of a file that is not skipped, by the result of counting it
abbrev pub file_fate : FiltersModel → JobModel → List ℕ → Result Count FaultWord → Fate
file_fate f j name (Ok count) =
    counted (record { path = name; text = text_of j (path_in j.path name); asked = asked_of f j (path_in j.path name); count = count })
file_fate f j name (Err word) = failed word

abbrev pub fate_of : FiltersModel → JobModel → Item → Fate
fate_of f j (file_item name count rules) = option_map_or (skipped File) (file_reason f j name) (file_fate f j name count)
fate_of f j (directory_item name) = option_map_or (skipped Dir) (reason_of f j name true) (walked (child_job j name))
fate_of f j (other_item name what) =
    option_map_or (skipped (Other what)) (reason_of f j name false) (skipped (Other what) (other_kind what))

abbrev pub fates_of : FiltersModel → JobModel → List Item → List (List ℕ × Fate)
fates_of f j items = map (λ item. (name_of item, fate_of f j item)) items

-- ---- what a list of fates holds

abbrev pub counted_of : List ℕ × Fate → List FileLineModel
counted_of (name, counted file) = file ∷ []
counted_of (name, _) = []

abbrev pub failed_of : List ℕ × Fate → List FaultLineModel
failed_of (name, failed word) = record { path = name; word = word } ∷ []
failed_of (name, _) = []

abbrev pub walked_of : List ℕ × Fate → List (List ℕ × JobModel)
walked_of (name, walked job) = (name, job) ∷ []
walked_of (name, _) = []

abbrev pub skipped_of : List ℕ × Fate → List SkippedLineModel
skipped_of (name, skipped kind reason) = record { path = name; kind = kind; reason = reason } ∷ []
skipped_of (name, _) = []

-- the counted files of some fates; the three definitions below have the errors of files, the child directories with their jobs, and the
-- skipped entries
abbrev pub counted_in : List (List ℕ × Fate) → List FileLineModel
counted_in fates = flat_map counted_of fates

abbrev pub failed_in : List (List ℕ × Fate) → List FaultLineModel
failed_in fates = flat_map failed_of fates

abbrev pub walked_in : List (List ℕ × Fate) → List (List ℕ × JobModel)
walked_in fates = flat_map walked_of fates

abbrev pub skipped_in : List (List ℕ × Fate) → List SkippedLineModel
skipped_in fates = flat_map skipped_of fates

-- an error for each absent path
abbrev pub absent_faults : List (List ℕ) → List FaultLineModel
absent_faults absent = map (λ rest. record { path = rest; word = Absent }) absent

-- the parts of a directory's level: its counted files, the errors of absent paths and of files, its child directories, its skipped entries,
-- and the number of its selected entries
pub record LevelParts : Type 0 where
  pub files : List FileLineModel
  pub faults : List FaultLineModel
  pub children : List (List ℕ × JobModel)
  pub skipped : List SkippedLineModel
  pub entries : ℕ

-- the level is that of a directory that was listed, and has these parts; the skipped entries are there only if `left_out` is set
pub record IsLevelOf (l : Level) (left_out : Bool) (parts : LevelParts) : Type 0 where
  pub fates : List (List ℕ × Fate)
  pub absent : List (List ℕ)
  pub listed : l ≡ listed_level fates absent
  pub counts : counted_in fates ≡ parts.files
  pub fails : absent_faults absent ++ failed_in fates ≡ parts.faults
  pub walks : walked_in fates ≡ parts.children
  pub leaves : (if left_out then skipped_in fates else []) ≡ parts.skipped
  pub numbers : length fates ≡ parts.entries

-- ---- the whole

abbrev pub level_of_items : FiltersModel → List Item → JobModel → Level
level_of_items f items j =
    listed_level (fates_of f j (part_of f.only j.path items)) (absent_from f.only j.path items)

-- the level of these items, by what reading the rule files gave
abbrev pub level_after : FiltersModel → JobModel → List Item → Result RuleBytes FaultLineModel → Level
level_after f j items (Ok files) = level_of_items f items (extended j files)
level_after f j items (Err fault) = faulted_level fault.path fault.word

abbrev pub level_of : FiltersModel → JobModel → Answers → Items → Level
level_of f j a (Ok items) = level_after f j items (rule_bytes j.ignore.no_ignore j.path items a)
level_of f j a (Err word) = faulted_level j.path word

-- the level of a directory, by the tree's answers for it
abbrev pub level : FiltersModel → JobModel → Answers → Level
level f j a = level_of f j a a.here
