-- The rule that ignores a directory, and the rules of the directories above a path.
use Rattle.std.proofs.Common.{◌≡◌, ℕ, ◌<◌, Bool, true, false, cond, List, Option, Some, None, Bor, length, take, get_or, nat_eq, is_some}
use Rattle.std.proofs.Common.{refl, sym, ap, ◌∙◌}
use Rattle.std.specs.Prelude.{option_map}
use Rattle.lc_rules.specs.{IgnoreRules.RuleModel, Verdicts.{verdict_from, last_match, at_depth}, declared.rule_source.RuleSource.RuleSource}
use Rattle.lc_rules.specs.declared.verdicts.Verdict.TheVariants.{Ignored, Included}
use Rattle.lc_paths.specs.Checks.{CheckText.{file_verdict, is_ignored, is_ignored_parent, IsClearTo}, ExplainedText.file_rule}
use Rattle.lc_paths.specs.Checks.Findings.{ignoring_rule, IsIgnoringAbove}
use Rattle.lc_paths.proofs.Checks.Directories.{is_ignored_parent-slash, has_ignored_parent-some, highest_ignored-is}

-- of what decides: the rule that ignores
abbrev ignoring_of : Option (RuleSource × RuleModel) → Option RuleModel
ignoring_of found = cond (is_ignored (verdict_from found)) (option_map (λ r. r.1) found) None

signed : (rule : RuleModel) (b : Bool) → cond (is_ignored (cond b Included Ignored)) (Some rule) None ≡ None
    → is_ignored (cond b Included Ignored) ≡ false
signed rule true e = refl
signed rule false e = absurd (cc)

none_ignores : (found : Option (RuleSource × RuleModel)) → ignoring_of found ≡ None → is_ignored (verdict_from found) ≡ false
none_ignores None e = refl
none_ignores (Some r) e = signed r.1 r.1.is_negated e

-- where no rule ignores a directory, it is not ignored
pub not_ignored : (rules : List RuleModel) (directory : List ℕ) → ignoring_rule rules directory ≡ None
    → is_ignored (file_verdict rules directory true) ≡ false
not_ignored rules directory e = none_ignores (last_match (at_depth 0 rules) directory true) e

by_test : (b : Bool) (found : Option RuleModel) (r : RuleModel) → cond b found None ≡ Some r → (b ≡ true) × (found ≡ Some r)
by_test true found r e = (refl, e)
by_test false found r e = absurd (cc)

-- a rule that ignores a directory decides it, and it is ignored
pub is_ignored_by : (rules : List RuleModel) (directory : List ℕ) (r : RuleModel) → ignoring_rule rules directory ≡ Some r
    → (is_ignored (file_verdict rules directory true) ≡ true) × (file_rule rules directory true ≡ Some r)
is_ignored_by rules directory r e = by_test (is_ignored (file_verdict rules directory true)) (file_rule rules directory true) r e

-- a rule that ignores the directory before a place, where none above it is ignored
pub ignores_above : (rules : List RuleModel) (path : List ℕ) (k : ℕ) → IsClearTo (file_verdict rules) path k → k < length path
    → is_ignored_parent (file_verdict rules) path k ≡ true → (r : Bor RuleModel) → file_rule rules (take k path) true ≡ Some r.now
    → IsIgnoringAbove rules path (Some r)
ignores_above rules path k to low is r told = (
  has_ignored_parent-some (file_verdict rules) path k low is,
  ap (λ directory. file_rule rules directory true) (highest_ignored-is (file_verdict rules) path k to low is) ∙ told,
)

-- what was found of the directory before a place with a slash, where none above it is ignored
module _ (rules : List RuleModel) (path : List ℕ) (k : ℕ) (to : IsClearTo (file_verdict rules) path k) (low : k < length path)
    (slash : nat_eq (get_or path k 0) 47 ≡ true) where
  -- a rule that ignores it is that of the highest
  pub found_above : (found : Option (Bor RuleModel)) → is_some found ≡ true
      → option_map (λ r. r.now) found ≡ ignoring_rule rules (take k path) → IsIgnoringAbove rules path found
  found_above None some is = absurd (cc)
  found_above (Some r) some is =
      let by = is_ignored_by rules (take k path) r.now (sym is) in
      ignores_above rules path k to low (is_ignored_parent-slash (file_verdict rules) path k true slash (sym by.0)) r by.1

  -- with no such rule it is not ignored either
  pub found_none : (found : Option (Bor RuleModel)) → is_some found ≡ false
      → option_map (λ r. r.now) found ≡ ignoring_rule rules (take k path) → is_ignored_parent (file_verdict rules) path k ≡ false
  found_none None none is =
      is_ignored_parent-slash (file_verdict rules) path k false slash (sym (not_ignored rules (take k path) (sym is)))
  found_none (Some r) none is = absurd (cc)
