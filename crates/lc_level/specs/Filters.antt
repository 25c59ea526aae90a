-- What decides, besides a tree's own rule files, which of its entries are skipped.
use Rattle.std.specs.Prelude.{ℕ, Bool, true, false, ◌&&◌, ◌||◌, nat_eq, cond, List, [], ◌∷◌, length, take, slice_index, bytes_eq, Option}
use Rattle.std.specs.{Prelude.{Some, None, option_map}, List.{list_any, before_first, after_first, range_with_len}, Option.is_none}
use Rattle.std.specs.Option.{is_some}
use Rattle.lc_glob.specs.{Bytes.slash, Pieces.is_byte}
use Rattle.lc_rules.specs.{Attributes.{StateModel, set, unset, value, unspecified}, AttrLines.AttrFileModel, Bytes.equals_sign}
use Rattle.lc_rules.specs.{IgnoreRules.{RuleModel, rules_of}, Verdicts.{at_depth, last_match}}

-- the text of an ignore file that all others override; an attribute file that all others override; the patterns that override all others,
-- one a line; the patterns for files, one a line: if there are some, only files that they include stay; whether no ignore file of the tree
-- is read; words `ATTR` or `ATTR=VALUE`: what has the state that one of them requires is skipped; paths: if they are given, only what is at
-- or below one of them stays; and the attributes whose states each counted file has
pub record FiltersModel : Type 0 where
  pub exclude_from : Option (List ℕ)
  pub attributes_from : Option AttrFileModel
  pub exclude : Option (List ℕ)
  pub include : Option (List ℕ)
  pub no_ignore : Bool
  pub without : List (List ℕ)
  pub only : Option (List (List ℕ))
  pub asked : List (List ℕ)

-- the filters that skip only what a tree's own rules ignore, and ask for no attribute
abbrev pub no_filters : FiltersModel
no_filters = record {
  exclude_from = None;
  attributes_from = None;
  exclude = None;
  include = None;
  no_ignore = false;
  without = [];
  only = None;
  asked = [];
}

-- these filters with these words of attributes
abbrev pub leaving_out : FiltersModel → List (List ℕ) → FiltersModel
leaving_out f without = record {
  exclude_from = f.exclude_from;
  attributes_from = f.attributes_from;
  exclude = f.exclude;
  include = f.include;
  no_ignore = f.no_ignore;
  without = without;
  only = f.only;
  asked = f.asked;
}

-- these filters with these paths of `--only`, if any are given
abbrev pub narrowed : FiltersModel → Option (List (List ℕ)) → FiltersModel
narrowed f only = record {
  exclude_from = f.exclude_from;
  attributes_from = f.attributes_from;
  exclude = f.exclude;
  include = f.include;
  no_ignore = f.no_ignore;
  without = f.without;
  only = only;
  asked = f.asked;
}

-- these filters with these patterns for files
abbrev pub including : FiltersModel → Option (List ℕ) → FiltersModel
including f patterns = record {
  exclude_from = f.exclude_from;
  attributes_from = f.attributes_from;
  exclude = f.exclude;
  include = patterns;
  no_ignore = f.no_ignore;
  without = f.without;
  only = f.only;
  asked = f.asked;
}

-- the rules of the patterns for files
abbrev pub include_rules : FiltersModel → Option (List RuleModel)
include_rules f = option_map rules_of f.include

-- ---- words of attributes

-- the attribute that a word names: what stands before its first equals sign
abbrev pub attribute_of : List ℕ → List ℕ
attribute_of word = before_first (is_byte equals_sign) word

-- the value that a word requires: what follows its first equals sign, if it has one
abbrev pub value_of : List ℕ → Option (List ℕ)
value_of word = cond (list_any (is_byte equals_sign) word) (Some (after_first (is_byte equals_sign) word)) None

-- whether a value is the required one
abbrev pub is_value : Option (List ℕ) → List ℕ → Bool
is_value None found = false
is_value (Some wanted) found = bytes_eq found wanted

-- whether a state is the required one: exactly this value, or Set if no value is required
abbrev pub is_state : Option (List ℕ) → StateModel → Bool
is_state wanted set = is_none wanted
is_state wanted unset = false
is_state wanted (value found) = is_value wanted found
is_state wanted unspecified = false

-- ---- patterns of files

-- whether one of these patterns matches a path
abbrev pub matches : List RuleModel → List ℕ → Bool → Bool
matches patterns path is_dir = is_some (last_match (at_depth 0 patterns) path is_dir)

-- whether a slash is at place k of a path, and a pattern matches the directory before the slash
abbrev pub is_matched_parent : List RuleModel → List ℕ → ℕ → Bool
is_matched_parent patterns path k = nat_eq (slice_index path k) slash && matches patterns (take k path) true

-- whether a pattern matches a directory above the path, below the top
abbrev pub has_matched_parent : List RuleModel → List ℕ → Bool
has_matched_parent patterns path = list_any (is_matched_parent patterns path) (range_with_len 0 (length path))

-- whether a pattern matches the directory at a path, or one above it, below the top
abbrev pub is_within : List RuleModel → List ℕ → Bool
is_within patterns [] = false
is_within patterns (b ∷ bs) = matches patterns (b ∷ bs) true || has_matched_parent patterns (b ∷ bs)

-- the patterns of which a file of a directory must match one to stay: None if there are no patterns, or if one matches the directory or a
-- directory above it
abbrev pub patterns_for : Option (List RuleModel) → List ℕ → Option (List RuleModel)
patterns_for None directory = None
patterns_for (Some patterns) directory = cond (is_within patterns directory) None (Some patterns)

-- whether a file matches one of the patterns that it must match, if there are any
abbrev pub is_included : Option (List RuleModel) → List ℕ → Bool
is_included None path = true
is_included (Some patterns) path = matches patterns path false
