-- A report with a name in front of its paths.
use Rattle.std.specs.Prelude.{◌≡◌, ℕ, ◌+◌, List, [], ◌∷◌, ◌++◌, length, map}
use Rattle.lc_glob.specs.{Bytes.slash, Path.segments_of}
use Rattle.lc_level.specs.{FaultLines.FaultLineModel, Level.{FileLineModel, SkippedLineModel, Reason, named_git, by_rule, by_attribute}}
use Rattle.lc_level.specs.Level.{not_included, other_kind}
use Rattle.lc_rules.specs.declared.rule_source.RuleSource.{RuleSource, TheVariants.{ExcludeFrom, InfoExclude, Gitignore, CommandLine}}
use Rattle.lc_walk.specs.declared.report.Report.{Report}

-- the path of the named directory itself: the name, or a slash for the empty name, which stands for the directory `/`
abbrev pub named_top : List ℕ → List ℕ
named_top [] = slash ∷ []
named_top (b ∷ bs) = b ∷ bs

-- a path with a name in front: the name, a slash and the path. The empty path is that of the named directory itself
abbrev pub named_path : List ℕ → List ℕ → List ℕ
named_path name [] = named_top name
named_path name (b ∷ bs) = name ++ slash ∷ b ∷ bs

-- how many segments a name in front adds to a path
abbrev pub named_depth : List ℕ → ℕ
named_depth name = length (segments_of name)

-- the source of a rule after a name was put in front of the paths: a file in a directory gets deeper by the segments of the name
abbrev pub named_source : List ℕ → RuleSource → RuleSource
named_source name ExcludeFrom = ExcludeFrom
named_source name (InfoExclude depth) = InfoExclude (named_depth name + depth)
named_source name (Gitignore depth) = Gitignore (named_depth name + depth)
named_source name CommandLine = CommandLine

abbrev pub named_reason : List ℕ → Reason → Reason
named_reason name named_git = named_git
named_reason name (by_rule source line) = by_rule (named_source name source) line
named_reason name (by_attribute word) = by_attribute word
named_reason name not_included = not_included
named_reason name (other_kind what) = other_kind what

-- ---- lines

abbrev pub named_file : List ℕ → FileLineModel → FileLineModel
named_file name f = record { path = named_path name f.path; text = f.text; asked = f.asked; count = f.count }

abbrev pub named_fault : List ℕ → FaultLineModel → FaultLineModel
named_fault name f = record { path = named_path name f.path; word = f.word }

abbrev pub named_skipped : List ℕ → SkippedLineModel → SkippedLineModel
named_skipped name l = record { path = named_path name l.path; kind = l.kind; reason = named_reason name l.reason }

-- `named` is the report with the name in front of its paths: it has the same lines in the same order, with these paths, and the same
-- numbers
pub record IsNamed (name : List ℕ) (r named : Report) : Type 0 where
  pub rows : named.rows.items ≡ r.rows.items
  pub columns : named.columns ≡ r.columns
  pub totals : named.totals ≡ r.totals
  pub classes : named.classes ≡ r.classes
  pub directories : named.directories ≡ r.directories
  pub entries : named.entries ≡ r.entries
  pub lists : named.lists ≡ r.lists
  pub files : named.files.items ≡ map (named_file name) r.files.items
  pub faults : named.faults.items ≡ map (named_fault name) r.faults.items
  pub skipped : named.skipped.items ≡ map (named_skipped name) r.skipped.items
