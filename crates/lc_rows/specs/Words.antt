-- What is printed of a skipped entry: the word for what it is, and what follows its path.
use Rattle.std.specs.Prelude.{ℕ, List, [], codes}
use Rattle.lc_level.specs.Level.{Reason, named_git, by_rule, by_attribute, not_included, other_kind}
use Rattle.lc_tree.specs.declared.entry.{Kind.{Kind, TheVariants.{File, Dir, Other}}, OtherKind.TheVariants.{Special, Mounted}}

-- what a skipped entry is
abbrev pub kind_word : Kind → List ℕ
kind_word File = codes "file"
kind_word Dir = codes "dir"
kind_word (Other Special) = codes "other"
kind_word (Other Mounted) = codes "dir"

-- what follows the path of a skipped entry: a slash if it is a directory other than `.git`, or any directory of another file system
abbrev pub skipped_end : Kind → Reason → List ℕ
skipped_end Dir named_git = []
skipped_end Dir (by_rule source line) = codes "/"
skipped_end Dir (by_attribute name) = codes "/"
skipped_end Dir not_included = codes "/"
skipped_end Dir (other_kind what) = codes "/"
skipped_end File reason = []
skipped_end (Other Special) reason = []
skipped_end (Other Mounted) reason = codes "/"
