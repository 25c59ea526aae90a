-- The rule files of a directory: gitignore(5), DESCRIPTION, and gitattributes(5), DESCRIPTION, on where rules are read.
use Rattle.std.specs.Prelude.{ℕ, Bool, true, false, ◌&&◌, ◌||◌, cond, List, [], ◌∷◌, ◌++◌, Option, Some, None, Result, Ok, Err, bytes_eq}
use Rattle.std.specs.Prelude.{option_map, codes}
use Rattle.lc_glob.specs.Path.{path_in, depth_of}
use Rattle.lc_rules.specs.{IgnoreRules.rules_of, AttrLines.attribute_file_of}
use Rattle.lc_level.specs.{declared.fault_word.FaultWord.FaultWord, Answers.{Item, file_item, directory_item, other_item, Items, Answers}}
use Rattle.lc_level.specs.{Job.JobModel, FaultLines.FaultLineModel}

-- what reading the file of a name gave, if there is a file of this name
abbrev pub file_named : List ℕ → List Item → Option (Result (List ℕ) FaultWord)
file_named name [] = None
file_named name (file_item m counted rules ∷ items) = cond (bytes_eq m name) (Some rules) (file_named name items)
file_named name (directory_item m ∷ items) = file_named name items
file_named name (other_item m what ∷ items) = file_named name items

-- what reading the ignore file of a name gave, if there is one: nothing if `no_ignore` is set
abbrev pub ignore_named : Bool → List ℕ → List Item → Option (Result (List ℕ) FaultWord)
ignore_named no_ignore name items = cond no_ignore None (file_named name items)

-- whether there is a directory of this name
abbrev pub has_directory : List ℕ → List Item → Bool
has_directory name [] = false
has_directory name (file_item m counted rules ∷ items) = has_directory name items
has_directory name (directory_item m ∷ items) = bytes_eq m name || has_directory name items
has_directory name (other_item m what ∷ items) = has_directory name items

abbrev pub is_top : List ℕ → Bool
is_top [] = true
is_top (b ∷ bs) = false

-- ---- what is read before the entries; the first fault ends it

abbrev pub and_then : {A B : Type 0} → Result A FaultLineModel → (A → Result B FaultLineModel) → Result B FaultLineModel
and_then (Ok x) next = next x
and_then (Err fault) next = Err fault

-- the bytes of a rule file at a path, if it is there
abbrev pub reading : List ℕ → Option (Result (List ℕ) FaultWord) → Result (Option (List ℕ)) FaultLineModel
reading path None = Ok None
reading path (Some (Ok bytes)) = Ok (Some bytes)
reading path (Some (Err word)) = Err (record { path = path; word = word })

-- the items of a directory at a path; none where it is not there
abbrev pub listing : Bool → List ℕ → Items → Result (List Item) FaultLineModel
listing false path items = Ok []
listing true path (Ok items) = Ok items
listing true path (Err word) = Err (record { path = path; word = word })

-- whether the items are those of a top that has a directory `.git`
abbrev pub has_git : List ℕ → List Item → Bool
has_git path items = is_top path && has_directory (codes ".git") items

-- the items of `.git/info`, where `.git` is there
abbrev pub info_items : Bool → Answers → Result (List Item) FaultLineModel
info_items there a =
    and_then (listing there (codes ".git") a.git)
    (λ in_git. listing (has_directory (codes "info") in_git) (codes ".git/info") a.info)

-- the bytes of an ignore file and of an attribute file, each if it is there
pub record Pair : Type 0 where
  pub rules : Option (List ℕ)
  pub attributes : Option (List ℕ)

-- the bytes of two rule files at these paths, or the first error; the first file is read first
abbrev pub both_read : List ℕ → Option (Result (List ℕ) FaultWord) → List ℕ → Option (Result (List ℕ) FaultWord)
    → Result Pair FaultLineModel
both_read path file other_path other =
    and_then (reading path file) (λ x. and_then (reading other_path other) (λ y. Ok (record { rules = x; attributes = y })))

-- the bytes of the two rule files in `.git/info`
abbrev pub info_bytes : Bool → List Item → Result Pair FaultLineModel
info_bytes no_ignore items =
    both_read (codes ".git/info/exclude") (ignore_named no_ignore (codes "exclude") items)
    (codes ".git/info/attributes") (file_named (codes "attributes") items)

-- the bytes of a directory's own two rule files
abbrev pub own_bytes : Bool → List ℕ → List Item → Result Pair FaultLineModel
own_bytes no_ignore path items =
    both_read (path_in path (codes ".gitignore")) (ignore_named no_ignore (codes ".gitignore") items)
    (path_in path (codes ".gitattributes")) (file_named (codes ".gitattributes") items)

-- the bytes of the rule files that are read for a directory: in the top those in `.git/info`, and its own
pub record RuleBytes : Type 0 where
  pub info : Pair
  pub own : Pair

-- the bytes of the rule files that are read for a directory, in the order of reading, or the first error
abbrev pub rule_bytes : Bool → List ℕ → List Item → Answers → Result RuleBytes FaultLineModel
rule_bytes no_ignore path items a =
    and_then (and_then (info_items (has_git path items) a) (info_bytes no_ignore))
    (λ i. and_then (own_bytes no_ignore path items) (λ o. Ok (record { info = i; own = o })))

-- ---- both chains with these files

-- a chain with a file at a depth, if there is one
abbrev pub with_file_at : {R : Type 0} → List (ℕ × R) → ℕ → Option R → List (ℕ × R)
with_file_at chain depth None = chain
with_file_at chain depth (Some file) = chain ++ (depth, file) ∷ []

-- the first of two, if it is there
abbrev pub first_of : {A : Type 0} → Option A → Option A → Option A
first_of (Some x) y = Some x
first_of None y = y

-- the job of a directory, with these rule files added to both chains
abbrev pub extended : JobModel → RuleBytes → JobModel
extended j files = record {
  path = j.path;
  ignore = record {
    exclude = j.ignore.exclude;
    info = first_of (option_map rules_of files.info.rules) j.ignore.info;
    tree = with_file_at j.ignore.tree (depth_of j.path) (option_map rules_of files.own.rules);
    command_line = j.ignore.command_line;
    no_ignore = j.ignore.no_ignore;
  };
  attributes = record {
    lowest = j.attributes.lowest;
    tree = with_file_at j.attributes.tree (depth_of j.path) (option_map (attribute_file_of (is_top j.path)) files.own.attributes);
    info = first_of (option_map (attribute_file_of true) files.info.attributes) j.attributes.info;
  };
}
