-- A report whose files have their languages as states of an attribute.
use Rattle.std.specs.Prelude.{◌≡◌, ℕ, List, map, Option, Some, None, slice_get, unwrap_or}
use Rattle.std.specs.List.{slice_set}
use Rattle.lc_languages.specs.Languages.{language_of}
use Rattle.lc_level.specs.Level.{FileLineModel}
use Rattle.lc_rows.specs.Directories.{name_of}
use Rattle.lc_rules.specs.Attributes.{StateModel, set, unset, value, unspecified}
use Rattle.lc_walk.specs.declared.report.Report.{Report}

abbrev pub state_of : Option (List ℕ) → StateModel
state_of None = unspecified
state_of (Some language) = value language

-- the language of a file, by its name and its state of the attribute `linguist-language`: the value of the attribute if it has one, or else
-- what the list says of the name
abbrev pub language_state : List ℕ → List ℕ → StateModel → StateModel
language_state list name (value v) = value v
language_state list name set = state_of (language_of list name)
language_state list name unset = state_of (language_of list name)
language_state list name unspecified = state_of (language_of list name)

-- a file, with its language in place of the state at this place
abbrev pub in_language : List ℕ → ℕ → FileLineModel → FileLineModel
in_language list place f = record {
  path = f.path;
  text = f.text;
  asked = slice_set f.asked place (language_state list (name_of f.path) (unwrap_or (slice_get f.asked place) unspecified));
  count = f.count;
}

-- `s` is the report `r`, but its files have their languages at this place of their states
pub record IsInLanguages (list : List ℕ) (place : ℕ) (r s : Report) : Type 0 where
  pub rows : s.rows.items ≡ r.rows.items
  pub columns : s.columns ≡ r.columns
  pub totals : s.totals ≡ r.totals
  pub classes : s.classes ≡ r.classes
  pub directories : s.directories ≡ r.directories
  pub entries : s.entries ≡ r.entries
  pub lists : s.lists ≡ r.lists
  pub files : s.files.items ≡ map (in_language list place) r.files.items
  pub faults : s.faults.items ≡ r.faults.items
  pub skipped : s.skipped.items ≡ r.skipped.items
