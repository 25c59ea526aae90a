-- The rule that decides is the last one that matches.
use Rattle.std.proofs.Common.{◌≡◌, ℕ, Bool, true, false, cond, ◌||◌, List, [], ◌∷◌, ◌++◌, Option, Some, None, MatchOption, filter, refl}
use Rattle.std.proofs.Common.{sym, ◌∙◌, ap, ap₂, subst, append-nil}
use Rattle.std.specs.{Option.option_or, List.{list_any, last_or}}
use Rattle.lc_rules.specs.{IgnoreRules.RuleModel, declared.rule_source.RuleSource.RuleSource}
use Rattle.lc_rules.specs.{declared.rule_source.RuleSource.TheVariants.{CommandLine, ExcludeFrom, InfoExclude}, IgnoreChains.joined}
use Rattle.lc_rules.specs.{IgnoreChains.{rules_if, rules_in, with_given}, IgnoreLaws.{CommandLineLaw, IsLastMatch, LastMatchLaw}}
use Rattle.lc_rules.specs.Verdicts.{rule_matches, last_match}
use Rattle.lc_rules.proofs.LastRule.{last_match-append, last_match_one}

filter_step : {X : Type 0} (p : X → Bool) (x : X) (xs : List X) → (list_any p xs ≡ false → filter p xs ≡ []) → (b : Bool) → p x ≡ b
    → (b || list_any p xs) ≡ false → filter p (x ∷ xs) ≡ []
filter_step p x xs more true is none = absurd (cc)
filter_step p x xs more false is none = ap (λ b. cond b (x ∷ filter p xs) (filter p xs)) is ∙ more none

-- where no element passes, none is kept
filter_none : {X : Type 0} (p : X → Bool) (xs : List X) → list_any p xs ≡ false → filter p xs ≡ []
filter_none p [] none = refl
filter_none p (x ∷ xs) none = filter_step p x xs (filter_none p xs) (p x) refl none

module _ (path : List ℕ) (is_dir : Bool) where
  -- what was found among these rules decides
  abbrev Told : List (RuleSource × RuleModel) → Option (RuleSource × RuleModel) → Type 0
  Told rules found = MatchOption found (list_any (rule_matches path is_dir) rules ≡ false) (IsLastMatch rules path is_dir)

  told_more : (r : RuleSource × RuleModel) (rules : List (RuleSource × RuleModel)) (found : Option (RuleSource × RuleModel))
      → Told rules found
      → (b : Bool) → rule_matches path is_dir r ≡ b → Told (r ∷ rules) (option_or found (cond b (Some r) None))
  told_more r rules (Some x) last b e = record {
    older = r ∷ last.older;
    later = last.later;
    stands = ap (λ l. r ∷ l) last.stands;
    matches = last.matches;
    last = last.last;
  }
  told_more r rules None none true e = record { older = []; later = rules; stands = refl; matches = e; last = none }
  told_more r rules None none false e = ap (λ b. b || list_any (rule_matches path is_dir) rules) e ∙ none

  told : (rules : List (RuleSource × RuleModel)) → Told rules (last_match rules path is_dir)
  told [] = refl
  told (r ∷ rules) =
      subst (Told (r ∷ rules))
      (sym (last_match-append (r ∷ []) rules path is_dir
      ∙ ap (option_or (last_match rules path is_dir)) (last_match_one r path is_dir (rule_matches path is_dir r) refl)))
      (told_more r rules (last_match rules path is_dir) (told rules) (rule_matches path is_dir r) refl)

  -- the last rule that matches decides
  last_decides : (rules : List (RuleSource × RuleModel)) (r : RuleSource × RuleModel) → IsLastMatch rules path is_dir r
      → last_match rules path is_dir ≡ Some r
  last_decides rules r last =
      ap (λ l. last_match l path is_dir) last.stands
      ∙ last_match-append last.older (r ∷ last.later) path is_dir
      ∙ ap (λ o. option_or o (last_match last.older path is_dir))
      (last_match-append (r ∷ []) last.later path is_dir
      ∙ ap₂ option_or (ap (last_or None) (filter_none (rule_matches path is_dir) last.later last.last))
      (last_match_one r path is_dir true last.matches))

-- the rule that decides is the last one that matches, and no other rule is
pub decides_by_last : LastMatchLaw
decides_by_last rules path is_dir = (told path is_dir rules, last_decides path is_dir rules)

-- the command line decides, or else the files
pub decides_by_command_line : CommandLineLaw
decides_by_command_line chain path is_dir =
    let files = rules_if ExcludeFrom chain.exclude ++ rules_if (InfoExclude 0) chain.info ++ joined chain.tree in
    last_match-append files (rules_if CommandLine chain.command_line) path is_dir
    ∙ ap (λ l. option_or (last_match (rules_if CommandLine chain.command_line) path is_dir) (last_match l path is_dir))
    (sym (append-nil files))
