-- Which files patterns include, by the directories above them.
use Rattle.std.proofs.Common.{◌≡◌, ◌∙◌, ◌<◌, ℕ, zero-add, true, false, List, length, get_or, sym, subst}
use Rattle.std.proofs.lemmas.List.{Folds.{list_any_none, list_any-from_Any}, FromFn.{get_or-range_with_len, length-range_with_len}}
use Rattle.std.specs.List.{range_with_len}
use Rattle.lc_rules.specs.IgnoreRules.{RuleModel}
use Rattle.lc_level.specs.Filters.{is_matched_parent, has_matched_parent}

-- a number of a range from 0 stands at the place that it tells
get_or-range : (n k d : ℕ) → k < n → get_or (range_with_len 0 n) k d ≡ k
get_or-range n k d low = get_or-range_with_len 0 n k d low ∙ zero-add k

module _ (patterns : List RuleModel) (path : List ℕ) where
  -- no directory that ends before this place is matched
  abbrev pub NoneBefore : ℕ → Type 0
  NoneBefore n = (k : ℕ) → k < n → is_matched_parent patterns path k ≡ false

  -- none in all of the path
  pub none_matched : NoneBefore (length path) → has_matched_parent patterns path ≡ false
  none_matched none = list_any_none (is_matched_parent patterns path) (range_with_len 0 (length path))
      (λ k d low. let within : k < length path = subst (λ (n : ℕ). k < n) (length-range_with_len 0 (length path)) low in
      subst (λ (n : ℕ). is_matched_parent patterns path n ≡ false) (sym (get_or-range (length path) k d within)) (none k within))

  -- one of them
  pub some_matched : (k : ℕ) → k < length path → is_matched_parent patterns path k ≡ true → has_matched_parent patterns path ≡ true
  some_matched k low is = list_any-from_Any (is_matched_parent patterns path) (range_with_len 0 (length path))
      (k, k, subst (λ (n : ℕ). k < n) (sym (length-range_with_len 0 (length path))) low, get_or-range (length path) k k low, is)
