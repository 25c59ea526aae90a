-- The text of an explained check: a line for each path, with the rule that gives the path its word.
use Rattle.std.specs.{Prelude.{ℕ, [], Bool, true, cond, List, length, take, Option, Some, None, option_map}, List.flat_map}
use Rattle.std.specs.List.{position_or_len, range_with_len}
use Rattle.lc_rules.specs.{IgnoreRules.{RuleModel, rules_of}, Verdicts.{at_depth, last_match}, declared.verdicts.Verdict.Verdict}
use Rattle.lc_paths.specs.{Checks.CheckText.{file_verdict, is_ignored_parent, has_ignored_parent, path_word}, AnswerLines.answer_line}
use Rattle.lc_text.specs.{Lines.input_paths_of, PathLines.{is_bad_path, is_dir_line, path_of}, RulePlaces.line_text}
use Rattle.lc_text.specs.declared.lines.PathEnd.{PathEnd}

-- the last rule of one file that matches a path, or a directory
abbrev pub file_rule : List RuleModel → List ℕ → Bool → Option RuleModel
file_rule rules path is_dir = option_map (λ r. r.1) (last_match (at_depth 0 rules) path is_dir)

-- the highest ignored directory above a path, if there is one: the first on the way down
abbrev pub highest_ignored : (List ℕ → Bool → Verdict) → List ℕ → List ℕ
highest_ignored verdict path = take (position_or_len (is_ignored_parent verdict path) (range_with_len 0 (length path))) path

-- the rule that gives a path its word: none for a bad path; the rule that ignores the highest ignored directory above the path; or else the
-- rule that decides the path itself
abbrev pub path_rule : List RuleModel → List ℕ → Bool → Option RuleModel
path_rule rules path is_dir =
    cond (is_bad_path path) None
    (cond (has_ignored_parent (file_verdict rules) path) (file_rule rules (highest_ignored (file_verdict rules) path) true)
    (file_rule rules path is_dir))

-- an output line by a rule of the file with this name: the word, the name with the number of the rule's line, the text of that line, and
-- the path as it was read
abbrev pub rule_line : (List ℕ → List ℕ) → List ℕ → List ℕ → List ℕ → Option RuleModel → List ℕ → List ℕ
rule_line escape name bytes word rule path =
    answer_line escape word (option_map (λ (r : RuleModel). record { front = []; bytes = name; end = []; line = Some r.line }) rule)
    (option_map (λ (r : RuleModel). line_text bytes r.line) rule) path

-- the output line for a path: its word as in a check, with the rule that gives the word
abbrev pub explained_line : (List ℕ → List ℕ) → List ℕ → List ℕ → List ℕ → List ℕ
explained_line escape name bytes line =
    rule_line escape name bytes (path_word (file_verdict (rules_of bytes)) (path_of line) (is_dir_line line))
    (path_rule (rules_of bytes) (path_of line) (is_dir_line line)) line

-- the lines for all paths of an input, by the rules of a file with this name and these bytes; the paths end as `end` says
abbrev pub explained_text_of : (List ℕ → List ℕ) → List ℕ → List ℕ → PathEnd → List ℕ → List ℕ
explained_text_of escape name bytes end paths = flat_map (explained_line escape name bytes) (input_paths_of end paths)
