-- The output for explained paths, in a style: a line of four fields for each path.
use Rattle.std.specs.{Prelude.{ℕ, Bool, true, false, List, [], Option, Some, None, flat_map, codes}, List.list_any}
use Rattle.lc_level.specs.{FaultLines.FaultLineModel, ReasonWords.{reason_word, attribute_of}, FaultWords.fault_word}
use Rattle.lc_rules.specs.declared.rule_source.RuleSource.{RuleSource}
use Rattle.lc_text.specs.{Names.NameModel, PathLines.{path_of, is_dir_line, undotted, or_dot}, RulePlaces.{source_directory, source_name}}
use Rattle.lc_paths.specs.{Styles.styled, declared.style.PathStyle.PathStyle, AnswerLines.answer_line, Explanations.Explained.CitedRule}
use Rattle.lc_paths.specs.Explanations.Explained.{Explanation, bad, faulted, below, ignored, included, unruled, left_out}

-- the path of an input line, and whether it is that of a directory: `./` at the beginning of the line means nothing
abbrev pub named_path : List ℕ → List ℕ
named_path line = path_of (undotted line)

abbrev pub names_dir : List ℕ → Bool
names_dir line = is_dir_line (undotted line)

-- the place of the rule that decides the path of a line: the directory of its file, the file and the number of the rule's line
abbrev pub rule_name : List ℕ → RuleSource → ℕ → NameModel
rule_name path source line = record {
  front = [];
  bytes = source_directory path source;
  end = source_name source;
  line = Some line;
}

-- a word that is printed where the place of a rule would be
abbrev pub word_name : List ℕ → NameModel
word_name word = record { front = word; bytes = []; end = []; line = None }

-- the reason, which is no rule, why a walk skips an entry: the word for it, or the word of an attribute
abbrev pub reason_name : List ℕ → Option (List ℕ) → NameModel
reason_name word None = word_name word
reason_name word (Some attribute) = record { front = codes "attribute:"; bytes = attribute; end = []; line = None }

-- output lines, with paths and patterns in this style
module _ (style : PathStyle) where
  -- the line for a path below a directory that has an error
  abbrev pub fault_line : FaultLineModel → List ℕ
  fault_line fault = answer_line (styled style) (codes "fault") (Some (word_name (fault_word fault.word))) None (or_dot fault.path)

  -- the line for a path that a rule decides: the place of the rule, and the text of its line
  abbrev pub rule_line : List ℕ → List ℕ → CitedRule → List ℕ
  rule_line word line rule =
      answer_line (styled style) word (Some (rule_name (named_path line) rule.source rule.line)) (Some rule.text) line

  -- the line for a path with this explanation: the word, the place or the reason, the pattern, and the path as it was read, or the path of
  -- the error
  abbrev pub explained_line : List ℕ → Explanation → List ℕ
  explained_line line bad = answer_line (styled style) (codes "bad") None None line
  explained_line line (faulted fault) = fault_line fault
  explained_line line (below rule) = rule_line (codes "below") line rule
  explained_line line (ignored rule) = rule_line (codes "ignored") line rule
  explained_line line (included rule) = rule_line (codes "included") line rule
  explained_line line unruled = answer_line (styled style) (codes "none") None None line
  explained_line line (left_out reason) =
      answer_line (styled style) (codes "left") (Some (reason_name (reason_word reason) (attribute_of reason))) None line

-- an input line and the explanation of its path
abbrev pub Told : Type 0
Told = List ℕ × Explanation

abbrev pub told_line : PathStyle → Told → List ℕ
told_line style told = explained_line style told.0 told.1

abbrev pub told_text : PathStyle → List Told → List ℕ
told_text style told = flat_map (told_line style) told

abbrev pub is_fault : Explanation → Bool
is_fault bad = false
is_fault (faulted fault) = true
is_fault (below rule) = false
is_fault (ignored rule) = false
is_fault (included rule) = false
is_fault unruled = false
is_fault (left_out reason) = false

-- whether a directory on the way to one of the paths had an error
abbrev pub has_fault : List Told → Bool
has_fault told = list_any (λ t. is_fault t.1) told
