-- Chains of ignore files: gitignore(5), DESCRIPTION, on the order of precedence.
use Rattle.std.specs.{Prelude.{ℕ, Bool, false, List, [], ◌∷◌, ◌++◌, Option, Some, None}, Option.option_or, declared.sync.Arc.Arc}
use Rattle.lc_rules.specs.{Chains.{lent, with_file}, IgnoreRules.RuleModel, Verdicts.{at_depth, from_file}}
use Rattle.lc_rules.specs.declared.rule_source.RuleSource.{RuleSource, TheVariants.{ExcludeFrom, InfoExclude, CommandLine}}

-- the rules for a directory's entries: the exclude file, that of `.git/info`, those of the tree from the top down, each with the depth of
-- its directory, and the patterns of the command line; and whether no ignore file of the tree is read
pub record ChainModel : Type 0 where
  pub exclude : Option (List RuleModel)
  pub info : Option (List RuleModel)
  pub tree : List (ℕ × List RuleModel)
  pub command_line : Option (List RuleModel)
  pub no_ignore : Bool

-- the rules of a file with this source, if there is such a file
abbrev pub rules_if : RuleSource → Option (List RuleModel) → List (RuleSource × RuleModel)
rules_if source None = []
rules_if source (Some rules) = from_file source rules

-- the rules of the tree's files, from the top down
abbrev pub joined : List (ℕ × List RuleModel) → List (RuleSource × RuleModel)
joined [] = []
joined (f ∷ fs) = at_depth f.0 f.1 ++ joined fs

-- all rules in one list, each file's after those of the files that it overrides
abbrev pub rules_in : ChainModel → List (RuleSource × RuleModel)
rules_in chain =
    rules_if ExcludeFrom chain.exclude ++ rules_if (InfoExclude 0) chain.info ++ joined chain.tree ++ rules_if CommandLine chain.command_line

-- ---- chains as they grow

abbrev pub no_ignore_files : ChainModel
no_ignore_files = record { exclude = None; info = None; tree = []; command_line = None; no_ignore = false }

-- the chain with other files in place of the tree's and `.git/info`'s, or in place of the exclude file and the command line
module _ (chain : ChainModel) where
  abbrev pub with_files : Option (List RuleModel) → List (ℕ × List RuleModel) → ChainModel
  with_files info tree = record {
    exclude = chain.exclude;
    info = info;
    tree = tree;
    command_line = chain.command_line;
    no_ignore = chain.no_ignore;
  }

  abbrev pub with_given : Option (List RuleModel) → Option (List RuleModel) → ChainModel
  with_given exclude command_line = record {
    exclude = exclude;
    info = chain.info;
    tree = chain.tree;
    command_line = command_line;
    no_ignore = chain.no_ignore;
  }

  -- the chain, marked with whether no ignore file of the tree is read
  abbrev pub with_no_ignore : Bool → ChainModel
  with_no_ignore no_ignore = record {
    exclude = chain.exclude;
    info = chain.info;
    tree = chain.tree;
    command_line = chain.command_line;
    no_ignore = no_ignore;
  }

-- the chain with a file in its place, or the unchanged chain if there is no file
module _ {A : Type 0} (chain : ChainModel) where
  abbrev pub with_exclude : Option (Arc (List RuleModel) A) → ChainModel
  with_exclude file = with_given chain (option_or (lent file) chain.exclude) chain.command_line

  abbrev pub with_command_line : Option (Arc (List RuleModel) A) → ChainModel
  with_command_line file = with_given chain chain.exclude (option_or (lent file) chain.command_line)

  abbrev pub with_info : Option (Arc (List RuleModel) A) → ChainModel
  with_info file = with_files chain (option_or (lent file) chain.info) chain.tree

  abbrev pub with_own : ℕ → Option (Arc (List RuleModel) A) → ChainModel
  with_own depth file = with_files chain chain.info (with_file chain.tree depth file)
