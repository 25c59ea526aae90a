-- The directories above a path.
use Rattle.std.proofs.Common.{◌≡◌, ℕ, ◌<◌, ◌≤◌, ◌+◌, ◌-◌, zero-add, ◌∙◌, Bool, true, false, nat_eq, ◌&&◌, List, Some, None, length, take}
use Rattle.std.proofs.{Common.{drop, get_or, sym, ap, ap₂, subst, arith, ⊎_elim, take-take}, lemmas.Bool.{cases_lt, false_from_ne_true}}
use Rattle.std.proofs.lemmas.List.{get_or-take, get_or-drop, length-drop, length-take-le, take_rest}
use Rattle.std.proofs.lemmas.List.{Folds.{list_any_none, list_any-from_Any}, Sums.position_or_len_is}
use Rattle.std.proofs.lemmas.List.FromFn.{get_or-range_with_len, length-range_with_len}
use Rattle.std.specs.List.{range_with_len}
use Rattle.memchr.specs.Find.{IsFirstByte, is_byte}
use Rattle.lc_rules.specs.declared.verdicts.Verdict.{Verdict}
use Rattle.lc_paths.specs.Checks.{CheckText.{is_ignored, is_ignored_parent, has_ignored_parent, IsClearTo}, ExplainedText.highest_ignored}

-- a number of a range from 0 stands at the place that it tells
pub get_or-range : (n k d : ℕ) → k < n → get_or (range_with_len 0 n) k d ≡ k
get_or-range n k d low = get_or-range_with_len 0 n k d low ∙ zero-add k

module _ (verdict : List ℕ → Bool → Verdict) where
  -- a place tells of the bytes before it alone
  is_ignored_parent-take : (path : List ℕ) (n k : ℕ) → k < n → is_ignored_parent verdict (take n path) k ≡ is_ignored_parent verdict path k
  is_ignored_parent-take path n k low =
      ap₂ (λ b above. nat_eq b 47 && is_ignored (verdict above true)) (get_or-take n path k 0 low) (take-take k n path (omega arith))

  -- two paths with the same front
  is_ignored_parent-shared : (one other : List ℕ) (n k : ℕ) → take n one ≡ take n other → k < n
      → is_ignored_parent verdict other k ≡ is_ignored_parent verdict one k
  is_ignored_parent-shared one other n k same low =
      sym (is_ignored_parent-take other n k low) ∙ (ap (λ l. is_ignored_parent verdict l k) (sym same) ∙ is_ignored_parent-take one n k low)

  -- a byte that is no slash
  is_ignored_parent-other : (path : List ℕ) (k : ℕ) → nat_eq (get_or path k 0) 47 ≡ false → is_ignored_parent verdict path k ≡ false
  is_ignored_parent-other path k other = ap (λ b. b && is_ignored (verdict (take k path) true)) other

  -- a slash
  pub is_ignored_parent-slash : (path : List ℕ) (k : ℕ) (b : Bool) → nat_eq (get_or path k 0) 47 ≡ true
      → b ≡ is_ignored (verdict (take k path) true) → is_ignored_parent verdict path k ≡ b
  is_ignored_parent-slash path k b slash told = ap₂ (λ x y. x && y) slash (sym told)

  -- no place has an ignored directory before it
  pub has_ignored_parent-clear : (path : List ℕ) → IsClearTo verdict path (length path) → has_ignored_parent verdict path ≡ false
  has_ignored_parent-clear path all = list_any_none (is_ignored_parent verdict path) (range_with_len 0 (length path))
      (λ k d low. let within : k < length path = subst (λ (n : ℕ). k < n) (length-range_with_len 0 (length path)) low in
      subst (λ (n : ℕ). is_ignored_parent verdict path n ≡ false) (sym (get_or-range (length path) k d within)) (all.clear k within))

  -- some place has one
  pub has_ignored_parent-some : (path : List ℕ) (k : ℕ) → k < length path → is_ignored_parent verdict path k ≡ true
      → has_ignored_parent verdict path ≡ true
  has_ignored_parent-some path k low is = list_any-from_Any (is_ignored_parent verdict path) (range_with_len 0 (length path))
      (k, k, subst (λ (n : ℕ). k < n) (sym (length-range_with_len 0 (length path))) low, get_or-range (length path) k k low, is)

  -- what is clear of one path is clear of another as far as they share their front
  pub clear-shared : (one other : List ℕ) (n : ℕ) → n ≤ length one → n ≤ length other → take n one ≡ take n other
      → ((k : ℕ) → k < length one → is_ignored_parent verdict one k ≡ false) → IsClearTo verdict other n
  clear-shared one other n within_one within_other same clear = record {
    within = within_other;
    clear = λ k low. is_ignored_parent-shared one other n k same low ∙ clear k (omega (arith, low, within_one));
  }

  -- one place more
  pub clear-more : (path : List ℕ) (n : ℕ) → n < length path → IsClearTo verdict path n → is_ignored_parent verdict path n ≡ false
      → IsClearTo verdict path (n + 1)
  clear-more path n low to here = record {
    within = omega arith;
    clear = λ k within. ⊎_elim (λ before. to.clear k before)
        (λ after. let same : n ≡ k = omega (arith, within, after) in
        subst (λ (j : ℕ). is_ignored_parent verdict path j ≡ false) same here) (cases_lt k n);
  }

  -- a path's front is as clear
  pub clear-take : (path : List ℕ) (n : ℕ) → IsClearTo verdict path n → (k : ℕ) → k < length (take n path)
      → is_ignored_parent verdict (take n path) k ≡ false
  clear-take path n to k low = let before : k < n = omega (arith, length-take-le n path to.within, low) in
      is_ignored_parent-take path n k before ∙ to.clear k before

  module _ (path : List ℕ) (at : ℕ) (to : IsClearTo verdict path at) where
    -- what is left of the path
    abbrev left : List ℕ
    left = take (length path - at) (drop at path)

    left_length : at + length left ≡ length path
    left_length = omega (arith, ap length (take_rest path at), length-drop at path, to.within)

    get_or-left : (j : ℕ) → get_or left j 0 ≡ get_or path (at + j) 0
    get_or-left j = ap (λ l. get_or l j 0) (take_rest path at) ∙ get_or-drop at path j 0

    -- no slash in the next bytes
    clear-on : (n : ℕ) → at + n ≤ length path → ((j : ℕ) → j < n → nat_eq (get_or left j 0) 47 ≡ false) → IsClearTo verdict path (at + n)
    clear-on n within other = record {
      within = within;
      clear = λ k low. ⊎_elim (λ before. to.clear k before)
          (λ after. let there : at + (k - at) ≡ k = omega (arith, after) in
          is_ignored_parent-other path k
          (ap (λ b. nat_eq b 47) (ap (λ i. get_or path i 0) (sym there) ∙ sym (get_or-left (k - at)))
          ∙ other (k - at) (omega (arith, low, after))))
          (cases_lt k at);
    }

    -- up to the next slash
    pub clear-slash : (len : ℕ) → IsFirstByte (is_byte 47) left (Some len) → IsClearTo verdict path (at + len)
    clear-slash len first =
        clear-on len (omega (arith, left_length, first.0.high)) (λ j low. false_from_ne_true _ (first.0.before j (omega arith) low))

    -- to the end, where there is none
    pub clear-end : IsFirstByte (is_byte 47) left None → IsClearTo verdict path (length path)
    clear-end none = subst (λ (n : ℕ). IsClearTo verdict path n) left_length
        (clear-on (length left) (omega (arith, left_length)) (λ j low. false_from_ne_true _ (none j (omega arith) low)))

    -- the next slash stands in the path
    pub slash-within : (len : ℕ) → IsFirstByte (is_byte 47) left (Some len) → at + len < length path
    slash-within len first = omega (arith, left_length, first.0.high)

    -- it is a slash
    pub slash-is : (len : ℕ) → IsFirstByte (is_byte 47) left (Some len) → nat_eq (get_or path (at + len) 0) 47 ≡ true
    slash-is len first = ap (λ b. nat_eq b 47) (sym (get_or-left len)) ∙ first.1

-- the first place with an ignored directory before it tells the highest
pub highest_ignored-is : (verdict : List ℕ → Bool → Verdict) (path : List ℕ) (k : ℕ) → IsClearTo verdict path k → k < length path
    → is_ignored_parent verdict path k ≡ true → highest_ignored verdict path ≡ take k path
highest_ignored-is verdict path k to low is =
    let all = length-range_with_len 0 (length path) in
    ap (λ n. take n path) (position_or_len_is (is_ignored_parent verdict path) (range_with_len 0 (length path)) k 0
    (omega (arith, all, low))
    (λ j before. ap (is_ignored_parent verdict path) (get_or-range (length path) j 0 (omega (arith, low, before))) ∙ to.clear j before)
    (λ within. ap (is_ignored_parent verdict path) (get_or-range (length path) k 0 low) ∙ is))
