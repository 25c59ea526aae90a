-- The rules of an ignore file: gitignore(5), PATTERN FORMAT.
use Rattle.std.specs.{Prelude.{ℕ, Bool, true, false, ◌==◌, if◌then◌else◌, List, [], ◌∷◌, map, Option, Some, None}, List.filter_map}
use Rattle.std.specs.List.{enumerate_from}
use Rattle.lc_glob.specs.{Bytes.{backslash, exclamation_mark}, Patterns.PatternModel, Reading.pattern_of}
use Rattle.lc_rules.specs.{Bytes.{carriage_return, space, hash}, RuleLines.lines_of}

-- a rule: the number of its line, counted from 1; whether it includes again what an earlier rule ignored; and its pattern,
-- perhaps a dead one
pub record RuleModel : Type 0 where
  pub line : ℕ
  pub is_negated : Bool
  pub pattern : PatternModel

-- the patterns of rules
abbrev pub patterns_of : List RuleModel → List PatternModel
patterns_of rules = map (λ rule. rule.pattern) rules

-- a line without one carriage return at its end
abbrev pub without_return : List ℕ → List ℕ
without_return [] = []
without_return (b ∷ []) = if b == carriage_return then [] else b ∷ []
without_return (b ∷ c ∷ cs) = b ∷ without_return (c ∷ cs)

-- a line's kept part with one more byte at its front: a space is dropped if nothing after it is kept
abbrev pub byte_before : ℕ → List ℕ → List ℕ
byte_before b [] = if b == space then [] else b ∷ []
byte_before b (c ∷ cs) = b ∷ c ∷ cs

-- a line without its trailing spaces. It is read in units, a backslash with the byte after it or one byte; the longest
-- run of units at its end that are single spaces is dropped, so that a quoted space stays
abbrev pub without_spaces : List ℕ → List ℕ
without_spaces [] = []
without_spaces (b ∷ []) = byte_before b []
without_spaces (b ∷ c ∷ cs) =
    if b == backslash then b ∷ c ∷ without_spaces cs else byte_before b (without_spaces (c ∷ cs))

-- the text of a line: the part of the line that is read as a rule
abbrev pub text_of_line : List ℕ → List ℕ
text_of_line line = without_spaces (without_return line)

-- a rule that ignores, and one that includes again
abbrev pub plain_rule : ℕ → List ℕ → RuleModel
plain_rule number bytes = record { line = number; is_negated = false; pattern = pattern_of bytes }

abbrev pub negated_rule : ℕ → List ℕ → RuleModel
negated_rule number bytes = record { line = number; is_negated = true; pattern = pattern_of bytes }

-- the rule of the text of a line with this number: none of an empty line and of a comment, which begins with a hash; an
-- exclamation mark negates the pattern after it
abbrev pub rule_from : ℕ → List ℕ → Option RuleModel
rule_from number [] = None
rule_from number (b ∷ bs) =
    if b == hash then None else Some (if b == exclamation_mark then negated_rule number bs else plain_rule number (b ∷ bs))

-- the rule that a line gives, by its number
abbrev pub rule_of_line : ℕ × List ℕ → Option RuleModel
rule_of_line (number, line) = rule_from number (text_of_line line)

-- the rules of an ignore file, in the order of their lines; lines are counted from 1
abbrev pub rules_of : List ℕ → List RuleModel
rules_of bytes = filter_map rule_of_line (enumerate_from 1 (lines_of bytes))
