-- Where a rule is: the file that has it, and its line.
use Rattle.std.specs.{Prelude.{ℕ, ◌-◌, List, [], length, take, codes}, List.slice_index_or}
use Rattle.lc_rules.specs.{IgnoreRules.text_of_line, RuleLines.lines_of as rule_lines_of, Verdicts.below}
use Rattle.lc_rules.specs.declared.rule_source.RuleSource.{RuleSource, TheVariants.{ExcludeFrom, InfoExclude, Gitignore, CommandLine}}

-- the beginning of a path with this number of segments, each followed by its slash
abbrev pub above : ℕ → List ℕ → List ℕ
above depth path = take (length path - length (below depth path)) path

-- the directory of the file that has a rule for a path, or of the `.git` that has this file; nothing for `--exclude` and `--exclude-from`
abbrev pub source_directory : List ℕ → RuleSource → List ℕ
source_directory path ExcludeFrom = []
source_directory path (InfoExclude depth) = above depth path
source_directory path (Gitignore depth) = above depth path
source_directory path CommandLine = []

-- the path of the rule's file from this directory, or the name of the option
abbrev pub source_name : RuleSource → List ℕ
source_name ExcludeFrom = codes "--exclude-from"
source_name (InfoExclude depth) = codes ".git/info/exclude"
source_name (Gitignore depth) = codes ".gitignore"
source_name CommandLine = codes "--exclude"

-- the text of the rule on the line with this number
abbrev pub line_text : List ℕ → ℕ → List ℕ
line_text bytes number = text_of_line (slice_index_or (rule_lines_of bytes) (number - 1) [])
