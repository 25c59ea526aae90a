-- Two reports have only one comparison.
use Rattle.std.proofs.Common.{arith, ◌≡◌, Bool, true, false, not, ◌&&◌, ◌||◌, List, [], ◌∷◌, refl, sym, ◌∙◌, ap}
use Rattle.std.proofs.lemmas.{Grind.common_steps, Cmp.{nat_list_cmp_total, tied_itself}, List.Elements.recursion_from_All}
use Rattle.std.proofs.lemmas.Map.Lookups.{CmpEqualImpliesEq, exact_bytes}
use Rattle.std.specs.{Cmp.IsTotalOrder, List.{AllByRecursion, Sorted.IsStrictlySortedBy}, Ordering.{eq_by_cmp, is_eq, ordering_reverse}}
use Rattle.std.specs.declared.cmp.Ordering.{Ordering, TheVariants.{Less, Equal, Greater}}
use Rattle.lc_changes.proofs.{Merging.{Below, Rises, further, none_passes}, SelfLaw.one_file}
use Rattle.lc_changes.specs.{Changes.{IsRowOf, changed_key}, FileChanges.{IsFileOf, changed_path, file_path}, Laws.OneComparisonLaw}
use Rattle.lc_changes.specs.Merged.{AreMerged, IsLineAt, has_key}
use Rattle.lc_rows.{proofs.SameKeys.{exact_row_keys, row_key_cmp_total}, specs.RowKeys.{row_key, row_key_cmp}}
use Rattle.lc_tree.specs.ByteOrder.{bytes_cmp}

module _ {L K : Type 0} (key : L → K) (cmp : K → K → Ordering) (total : IsTotalOrder cmp) (exact : CmpEqualImpliesEq cmp) where
  abbrev HaveSame : List L → List L → Type 0
  HaveSame ls ms = (keys : K → Bool) → has_key key keys ls ≡ has_key key keys ms

  is_first : (l : L) (ls : List L) → has_key key (eq_by_cmp cmp (key l)) (l ∷ ls) ≡ true
  is_first l ls = ap (λ o. is_eq o || has_key key (eq_by_cmp cmp (key l)) ls) (tied_itself total (key l))

  -- a test that all others pass alike
  others_alike : (k : K) (test : K → Bool) (ls : List L) → Below key cmp k ls
      → has_key key (λ j. test j && not (eq_by_cmp cmp k j)) ls ≡ has_key key test ls
  others_alike k test [] below = refl
  others_alike k test (m ∷ ms) below =
      ap (λ o. (test (key m) && not (is_eq o)) || has_key key (λ j. test j && not (eq_by_cmp cmp k j)) ms) below.0
      ∙ (λ i. with_true (test (key m)) i || others_alike k test ms below.1 i)
    where
      with_true : (b : Bool) → (b && true) ≡ b
      with_true true = refl
      with_true false = refl

  without_first : (l : L) (test : K → Bool) (ls : List L) → Below key cmp (key l) ls
      → has_key key (λ j. test j && not (eq_by_cmp cmp (key l) j)) (l ∷ ls) ≡ has_key key test ls
  without_first l test ls below =
      grind (arith, common_steps, tied_itself total (key l), others_alike (key l) test ls below)

  not_less : (l m : L) (ls ms : List L) → Below key cmp (key m) ms → HaveSame (l ∷ ls) (m ∷ ms) → cmp (key l) (key m) ≡ Less
      → {A : Type 0} → A
  not_less l m ls ms below same less =
      let none = none_passes key cmp (key l) is_eq (m ∷ ms) refl (less, further key cmp total (key l) (key m) ms less below) in
      absurd (let e : true ≡ false = sym (is_first l ls) ∙ same (eq_by_cmp cmp (key l)) ∙ none in cc)

  first_same : (l m : L) (ls ms : List L) → Below key cmp (key l) ls → Below key cmp (key m) ms → HaveSame (l ∷ ls) (m ∷ ms)
      → (o : Ordering) → cmp (key l) (key m) ≡ o → key l ≡ key m
  first_same l m ls ms below_l below_m same Less is = not_less l m ls ms below_m same is
  first_same l m ls ms below_l below_m same Equal is = exact (key l) (key m) is
  first_same l m ls ms below_l below_m same Greater is =
      not_less m l ms ls below_l (λ keys. sym (same keys)) (total.antisymm (key m) (key l) ∙ ap ordering_reverse is)

  -- lines whose keys rise are the same if they have the same keys, and a key determines its line
  one_list : (Is : L → Type 0) → ((l m : L) → key l ≡ key m → Is l → Is m → l ≡ m) → (ls ms : List L) → Rises key cmp ls
      → Rises key cmp ms → HaveSame ls ms → AllByRecursion Is ls → AllByRecursion Is ms → ls ≡ ms
  unfolding IsStrictlySortedBy
  one_list Is unique [] [] order_l order_m same are_l are_m = refl
  one_list Is unique [] (m ∷ ms) order_l order_m same are_l are_m = absurd (let e : false ≡ true = same (λ _. true) in cc)
  one_list Is unique (l ∷ ls) [] order_l order_m same are_l are_m = absurd (let e : true ≡ false = same (λ _. true) in cc)
  one_list Is unique (l ∷ ls) (m ∷ ms) order_l order_m same are_l are_m =
      let first : key l ≡ key m = first_same l m ls ms order_l.0 order_m.0 same (cmp (key l) (key m)) refl in
      let others : HaveSame ls ms = λ test.
      sym (without_first l test ls order_l.0) ∙ same (λ j. test j && not (eq_by_cmp cmp (key l) j))
      ∙ ap (λ k. has_key key (λ j. test j && not (eq_by_cmp cmp k j)) (m ∷ ms)) first ∙ without_first m test ms order_m.0 in
      λ i. unique l m first are_l.0 are_m.0 i ∷ one_list Is unique ls ms order_l.1 order_m.1 others are_l.1 are_m.1 i

module _ {X L K : Type 0} (key : X → K) (cmp : K → K → Ordering) (line_key : L → K) (IsOf : List X → List X → L → Type 0)
    (total : IsTotalOrder cmp) (exact : CmpEqualImpliesEq cmp) where
  merged_once : (olds news : List X) (ls ms : List L) → ((l m : L) → line_key l ≡ line_key m
      → IsLineAt key cmp line_key IsOf olds news l → IsLineAt key cmp line_key IsOf olds news m → l ≡ m)
      → AreMerged key cmp line_key IsOf olds news ls → AreMerged key cmp line_key IsOf olds news ms → ls ≡ ms
  merged_once olds news ls ms unique a b =
      one_list line_key cmp total exact (IsLineAt key cmp line_key IsOf olds news) unique ls ms a.order b.order
      (λ keys. a.present keys ∙ sym (b.present keys)) (recursion_from_All _ ls a.each) (recursion_from_All _ ms b.each)

pub one_comparison : OneComparisonLaw
one_comparison = record {
  rows = λ olds news rows others. merged_once row_key row_key_cmp changed_key IsRowOf row_key_cmp_total exact_row_keys olds news rows others
      (λ a b key is_a is_b. grind (arith, common_steps));
  files = λ olds news files others olds_apart news_apart.
      merged_once file_path bytes_cmp changed_path IsFileOf nat_list_cmp_total exact_bytes olds news files others
      (λ a b path is_a is_b. grind (arith, common_steps, one_file));
}
