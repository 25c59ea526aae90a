-- The rule that gives a path its word says it.
use Rattle.std.proofs.Common.{◌≡◌, ℕ, ◌<◌, Bool, true, cond, nat_eq, List, Option, Some, None, length, take, get_or, codes, ⊎_elim, refl}
use Rattle.std.proofs.Common.{sym, ap, ap₂, ◌∙◌, arith}
use Rattle.std.proofs.lemmas.List.{Folds.Any-from_list_any, FromFn.length-range_with_len, Sums.{passes_at_first, fails_before_first}}
use Rattle.std.proofs.lemmas.Bool.{cases_lt, and_parts}
use Rattle.std.specs.{Prelude.option_map, List.{list_any, range_with_len, position_or_len}}
use Rattle.lc_rules.specs.{IgnoreRules.RuleModel, declared.rule_source.RuleSource.RuleSource}
use Rattle.lc_rules.specs.{declared.verdicts.Verdict.{Verdict, TheVariants.{Ignored, Included, NoRule}}, Verdicts.{last_match, at_depth}}
use Rattle.lc_rules.specs.Verdicts.{verdict_from, verdict_by}
use Rattle.lc_paths.specs.Checks.CheckText.{file_verdict, is_ignored, is_ignored_parent, has_ignored_parent, verdict_word}
use Rattle.lc_paths.specs.Checks.{ExplainedText.{file_rule, highest_ignored}, Laws.{rule_word, WordLaw}}
use Rattle.lc_paths.proofs.Checks.Directories.{get_or-range}

only_ignored : (v : Verdict) → is_ignored v ≡ true → v ≡ Ignored
only_ignored Ignored e = refl
only_ignored Included e = absurd (cc)
only_ignored NoRule e = absurd (cc)

-- if what was found ignores a path, it is a rule, and the verdict by this rule alone is that the path is ignored
by_ignored : (found : Option (RuleSource × RuleModel)) → is_ignored (verdict_from found) ≡ true
    → (rule : RuleModel) × (option_map (λ r. r.1) found ≡ Some rule) × (verdict_by rule ≡ Ignored)
by_ignored None e = absurd (cc)
by_ignored (Some r) e = (r.1, refl, only_ignored (verdict_by r.1) e)

-- and of what decides in any way
by_verdict : (found : Option (RuleSource × RuleModel)) → verdict_word (verdict_from found) ≡ rule_word (option_map (λ r. r.1) found)
by_verdict None = refl
by_verdict (Some r) = refl

-- the first element that passes stands within, where one passes
first_within : {X : Type 0} (p : X → Bool) (xs : List X) → list_any p xs ≡ true → position_or_len p xs < length xs
first_within p xs some =
    let found = Any-from_list_any p xs some in
    ⊎_elim (λ within. within)
    (λ over. let fails = fails_before_first p xs found.0 found.1 (omega (arith, found.2, over)) in
    let same = ap p found.3 in absurd (cc (fails, same, found.4)))
    (cases_lt (position_or_len p xs) (length xs))

-- the highest ignored directory is ignored, where there is one
highest-ignored : (verdict : List ℕ → Bool → Verdict) (path : List ℕ) → has_ignored_parent verdict path ≡ true
    → is_ignored (verdict (highest_ignored verdict path) true) ≡ true
highest-ignored verdict path some =
    let places = range_with_len 0 (length path) in
    let place = position_or_len (is_ignored_parent verdict path) places in
    let within = first_within (is_ignored_parent verdict path) places some in
    let low : place < length path = omega (arith, within, length-range_with_len 0 (length path)) in
    let is = ap (is_ignored_parent verdict path) (sym (get_or-range (length path) place 0 low))
    ∙ passes_at_first (is_ignored_parent verdict path) places 0 within in
    (and_parts (nat_eq (get_or path place 0) 47) (is_ignored (verdict (take place path) true)) is).1

-- the rule that gives a path its word says it
pub rule_gives_word : WordLaw
rule_gives_word rules path is_dir =
    let verdict = file_verdict rules in
    let own = file_rule rules path is_dir in
    let above = file_rule rules (highest_ignored verdict path) true in
    record {
      bad = λ bad. ap (λ b. cond b None (cond (has_ignored_parent verdict path) above own)) bad;
      below = λ good below.
          let by = by_ignored (last_match (at_depth 0 rules) (highest_ignored verdict path) true) (highest-ignored verdict path below) in (
            by.0,
            ap₂ (λ b h. cond b None (cond h above own)) good below ∙ by.1,
            by.2,
          );
      own = λ good none.
          ap₂ (λ b h. cond b (codes "bad") (cond h (codes "below") (verdict_word (verdict path is_dir)))) good none
          ∙ by_verdict (last_match (at_depth 0 rules) path is_dir)
          ∙ sym (ap rule_word (ap₂ (λ b h. cond b None (cond h above own)) good none));
    }
