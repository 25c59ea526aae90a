-- What holds of the rules of ignore files and of the rule that decides.
use Rattle.std.specs.{Prelude.{◌≡◌, ◌<◌, ◌+◌, ℕ, Bool, true, false, List, [], ◌∷◌, ◌++◌, length, Some, None, MatchOption}, List.All}
use Rattle.std.specs.{List.{list_any, slice_index_or}, Option.option_or}
use Rattle.lc_rules.specs.{IgnoreChains.{ChainModel, rules_if, rules_in, with_given}, IgnoreRules.{RuleModel, rule_of_line, rules_of}}
use Rattle.lc_rules.specs.{RuleLines.lines_of, declared.rule_source.RuleSource.{RuleSource, TheVariants.CommandLine}, Verdicts.rule_matches}
use Rattle.lc_rules.specs.Verdicts.{last_match}

-- a rule that is among the rules and matches, after which no rule matches
pub record IsLastMatch (rules : List (RuleSource × RuleModel)) (path : List ℕ) (is_dir : Bool)
    (rule : RuleSource × RuleModel) : Type 0 where
  pub older : List (RuleSource × RuleModel)
  pub later : List (RuleSource × RuleModel)
  pub stands : rules ≡ older ++ rule ∷ later
  pub matches : rule_matches path is_dir rule ≡ true
  pub last : list_any (rule_matches path is_dir) later ≡ false

-- the rule that decides is a last match, and there is no other; if no rule decides, none matches
abbrev pub LastMatchLaw : Type 0
LastMatchLaw =
    (rules : List (RuleSource × RuleModel)) (path : List ℕ) (is_dir : Bool)
    → MatchOption (last_match rules path is_dir) (list_any (rule_matches path is_dir) rules ≡ false) (IsLastMatch rules path is_dir)
    × ((rule : RuleSource × RuleModel) → IsLastMatch rules path is_dir rule → last_match rules path is_dir ≡ Some rule)

-- the last pattern of the command line that matches decides, whatever the files say; if none matches, the files decide as they do without
-- the command line
abbrev pub CommandLineLaw : Type 0
CommandLineLaw =
    (chain : ChainModel) (path : List ℕ) (is_dir : Bool)
    → last_match (rules_in chain) path is_dir
    ≡ option_or (last_match (rules_if CommandLine chain.command_line) path is_dir)
    (last_match (rules_in (with_given chain chain.exclude None)) path is_dir)

-- a rule that comes from the line with its number
pub record IsOnLine (lines : List (List ℕ)) (rule : RuleModel) : Type 0 where
  pub place : ℕ
  pub within : place < length lines
  pub counted : rule.line ≡ place + 1
  pub given : rule_of_line (rule.line, slice_index_or lines place []) ≡ Some rule

-- each rule of a file comes from the line with its number
abbrev pub LinesLaw : Type 0
LinesLaw = (bytes : List ℕ) → All (IsOnLine (lines_of bytes)) (rules_of bytes)
