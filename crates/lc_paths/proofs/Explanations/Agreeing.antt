-- What is said of an entry agrees with its fate.
use Rattle.std.proofs.Common.{◌≡◌, ℕ, Option, Some, None, Ok, Err, MatchOption, true, false, refl, inl, inr}
use Rattle.std.specs.Option.{option_map_or, option_or}
use Rattle.lc_glob.specs.Path.{path_in}
use Rattle.lc_level.specs.{Answers.{file_item, directory_item, other_item}, Level.{Reason, Fate, failed, walked, skipped, other_kind}}
use Rattle.lc_level.specs.Level.{file_reason, reason_of, file_fate, child_job}
use Rattle.lc_rules.specs.{IgnoreChains.rules_in, IgnoreRules.RuleModel, Verdicts.last_match, declared.rule_source.RuleSource.RuleSource}
use Rattle.lc_tree.specs.declared.entry.{Kind.{Kind, TheVariants.{File, Dir, Other}}, OtherKind.OtherKind}
use Rattle.lc_paths.specs.Explanations.{Explained.{CitedRule, cited, said_by}, Laws.{IsSaidKept, Agrees, EntryLaw, IntoLaw}}

taken : (cite : RuleSource → ℕ → CitedRule) (rule : Option (RuleSource × RuleModel)) → IsSaidKept (said_by cite None rule)
taken cite None = inl refl
taken cite (Some rule) = inr (cite rule.0 rule.1.line, refl)

-- what is left out, or agrees otherwise
left_or : (cite : RuleSource → ℕ → CitedRule) (kind : Kind) (reason : Option Reason) (fate : Fate) (rule : Option (RuleSource × RuleModel))
    → Agrees cite fate (said_by cite None rule) → Agrees cite (option_map_or (skipped kind) reason fate) (said_by cite reason rule)
left_or cite kind None fate rule agrees = agrees
left_or cite kind (Some reason) fate rule agrees = refl

other : (cite : RuleSource → ℕ → CitedRule) (what : OtherKind) (reason : Option Reason) (rule : Option (RuleSource × RuleModel))
    → Agrees cite (option_map_or (skipped (Other what)) reason (skipped (Other what) (other_kind what)))
    (said_by cite (option_or reason (Some (other_kind what))) rule)
other cite what None rule = refl
other cite what (Some reason) rule = refl

-- for each entry of a level
pub agree : EntryLaw
agree f stack j (file_item name (Ok count) rules) =
    let rule = last_match (rules_in j.ignore) (path_in j.path name) false in
    left_or (cited f stack) File (file_reason f j name) (file_fate f j name (Ok count)) rule (taken (cited f stack) rule)
agree f stack j (file_item name (Err word) rules) =
    let rule = last_match (rules_in j.ignore) (path_in j.path name) false in
    left_or (cited f stack) File (file_reason f j name) (failed word) rule (taken (cited f stack) rule)
agree f stack j (directory_item name) =
    let rule = last_match (rules_in j.ignore) (path_in j.path name) true in
    left_or (cited f stack) Dir (reason_of f j name true) (walked (child_job j name)) rule (taken (cited f stack) rule)
agree f stack j (other_item name what) =
    other (cited f stack) what (reason_of f j name false) (last_match (rules_in j.ignore) (path_in j.path name) false)

-- a directory is explained further just where it is walked
pub into : IntoLaw
into f j name = by (reason_of f j name true)
  where
    by : (r : Option Reason) → MatchOption r (option_map_or (skipped Dir) r (walked (child_job j name)) ≡ walked (child_job j name))
        (λ reason. option_map_or (skipped Dir) r (walked (child_job j name)) ≡ skipped Dir reason)
    by None = refl
    by (Some reason) = refl
