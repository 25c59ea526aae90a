-- Places in order of their paths: what one holds comes next after it.
use Rattle.std.proofs.Common.{◌≡◌, ◌⊎◌, inl, inr, ℕ, ◌+◌, ◌<◌, ◌≤◌, Bool, Result, Ok, Err, IfErr, true, false, List, [], ◌∷◌, ◌++◌}
use Rattle.std.proofs.Common.{length, take, drop, get_or, refl, sym, ◌∙◌, ap, ap₂, append_assoc, subst, arith, ◌-◌, take_all}
use Rattle.std.proofs.Common.{IsPermutation, nat_cmp, nat_eq, append-nil, le_antisymm, suc-add, take-append-drop, zero, suc}
use Rattle.std.proofs.{Math.Seq.take-append_seam, lemmas.Cmp.{nat_cmp_total, nat_list_cmp_total, tied_itself}}
use Rattle.std.proofs.lemmas.List.Sorted.{IsPermutation-refl, IsPermutation-trans, ranks_by, sorted_far}
use Rattle.std.specs.{Cmp.{ranked, Lexicographic.bytes_decides}, FinMap.{nat_cmp-IsAntisymmetric, slice_cmp-IsAntisymmetric}, Global.Global}
use Rattle.std.specs.{List.{AllPairs, AllZip, starts_with, Sorted.IsSortedByKey}, Prelude.{Option, String, string_bytes}, Ordering.is_lt}
use Rattle.std.specs.{Ordering.{ordering_reverse, ordering_then}, declared.cmp.Ordering.{Ordering, TheVariants.{Less, Equal, Greater}}}
use Rattle.lc_program.specs.Nested.{AreApart, AreNested, HoldsNot, NoneHolds, OneHolds, Place, holds, nested_line, places_of}
use Rattle.lc_program.specs.declared.cause.Cause.{Cause, TheVariants.{Memory, Nested}}
use Rattle.lc_tree.specs.ByteOrder.{bytes_cmp}

-- ---- bytes at the front

begins : (p s : List ℕ) → starts_with nat_eq (p ++ s) p ≡ true
begins p s = (bytes_decides p (take (length p) (p ++ s))).1 (sym (take-append_seam p s))

rest_after : (xs p : List ℕ) → starts_with nat_eq xs p ≡ true → p ++ drop (length p) xs ≡ xs
rest_after xs p has = ap (λ l. l ++ drop (length p) xs) ((bytes_decides p (take (length p) xs)).0 has) ∙ take-append-drop (length p) xs

not_less : (b c : ℕ) (o rest : Ordering) → o ≡ nat_cmp b c → is_lt (ordering_then o rest) ≡ false → c ≤ b
not_less b c Less rest is no_lt = absurd (cc)
not_less b c Equal rest is no_lt = let same : b ≡ c = ranked b c Equal is in omega (arith, same)
not_less b c Greater rest is no_lt = let more : c < b = ranked b c Greater is in omega (arith, more)

rest_not_less : (b : ℕ) (rest : Ordering) → is_lt (ordering_then (nat_cmp b b) rest) ≡ false → is_lt rest ≡ false
rest_not_less b rest no_lt = ap (λ o. is_lt (ordering_then o rest)) (sym (tied_itself nat_cmp_total b)) ∙ no_lt

-- bytes between some and these with others behind them begin with them
between : (p s y : List ℕ) → is_lt (bytes_cmp y p) ≡ false → is_lt (bytes_cmp (p ++ s) y) ≡ false → (t : List ℕ) × (y ≡ p ++ t)
between [] s y low high = (y, refl)
between (c ∷ p) s [] low high = absurd (cc)
between (c ∷ p) s (b ∷ y) low high =
    let up : c ≤ b = not_less b c (nat_cmp b c) (bytes_cmp y p) refl low in
    let down : b ≤ c = not_less c b (nat_cmp c b) (bytes_cmp (p ++ s) y) refl high in
    let same : b ≡ c = le_antisymm down up in
    let inner = between p s y
    (rest_not_less c (bytes_cmp y p) (subst (λ k. is_lt (ordering_then (nat_cmp k c) (bytes_cmp y p)) ≡ false) same low))
    (rest_not_less c (bytes_cmp (p ++ s) y)
    (subst (λ k. is_lt (ordering_then (nat_cmp c k) (bytes_cmp (p ++ s) y)) ≡ false) same high)) in
    (inner.0, ap (λ k. k ∷ y) same ∙ ap (λ l. c ∷ l) inner.1)

-- and are not less than they
longer : (p s : List ℕ) → is_lt (bytes_cmp (p ++ s) p) ≡ false
longer [] [] = refl
longer [] (b ∷ s) = refl
longer (c ∷ p) s = ap (λ o. is_lt (ordering_then o (bytes_cmp (p ++ s) p))) (tied_itself nat_cmp_total c) ∙ longer p s

same_if_neither : (xs ys : List ℕ) → (o : Ordering) → o ≡ bytes_cmp xs ys → is_lt o ≡ false → is_lt (ordering_reverse o) ≡ false → xs ≡ ys
same_if_neither xs ys Less is a b = absurd (cc)
same_if_neither xs ys Equal is a b = slice_cmp-IsAntisymmetric nat_cmp-IsAntisymmetric xs ys (sym is)
same_if_neither xs ys Greater is a b = absurd (cc)

-- ---- places

-- no place holds the next one
abbrev pub AreNextApart : List Place → Type 0
AreNextApart [] = Unit {0}
AreNextApart (p ∷ []) = Unit {0}
AreNextApart (p ∷ q ∷ ps) = (holds p q ≡ false) × AreNextApart (q ∷ ps)

next_at : (ps : List Place) → AreNextApart ps → (k : ℕ) (d : Place) → k + 1 < length ps
    → holds (get_or ps k d) (get_or ps (k + 1) d) ≡ false
next_at [] apart k d low = absurd (omega arith)
next_at (p ∷ []) apart k d low = absurd (omega arith)
next_at (p ∷ q ∷ ps) apart zero d low = apart.0
next_at (p ∷ q ∷ ps) apart (suc k) d low =
    subst (λ n. holds (get_or (q ∷ ps) k d) (get_or (p ∷ q ∷ ps) n d) ≡ false) (sym (suc-add k 1))
    (next_at (q ∷ ps) apart.1 k d (omega arith))

module _ (ps : List Place) (sorted : IsSortedByKey (λ (p : Place). p.path) bytes_cmp ps) (apart : AreNextApart ps) where
  far : (i j : ℕ) (d : Place) → i ≤ j → j < length ps → is_lt (bytes_cmp (get_or ps j d).path (get_or ps i d).path) ≡ false
  far i j d low high = sorted_far (λ (a b : Place). is_lt (bytes_cmp a.path b.path))
      (ranks_by nat_list_cmp_total (λ (p : Place). p.path)) ps
      sorted i j d low high

  later_apart : (i j : ℕ) (d : Place) → i < j → j < length ps → (b : Bool) → b ≡ holds (get_or ps i d) (get_or ps j d) → b ≡ false
  later_apart i j d low high false is = refl
  later_apart i j d low high true is =
      let p : List ℕ = (get_or ps i d).path in
      let z : List ℕ = (get_or ps j d).path in
      let y : List ℕ = (get_or ps (i + 1) d).path in
      let whole : p ++ drop (length p) z ≡ z = rest_after z p (sym is) in
      let found = between p (drop (length p) z) y (far i (i + 1) d (omega arith) (omega arith))
      (subst (λ l. is_lt (bytes_cmp l y) ≡ false) (sym whole) (far (i + 1) j d (omega arith) high)) in
      let held : starts_with nat_eq y p ≡ true = subst (λ l. starts_with nat_eq l p ≡ true) (sym found.1) (begins p found.0) in
      sym held ∙ next_at ps apart i d (omega arith)

  earlier_apart : (i j : ℕ) (d : Place) → i < j → j < length ps → (b : Bool) → b ≡ holds (get_or ps j d) (get_or ps i d) → b ≡ false
  earlier_apart i j d low high false is = refl
  earlier_apart i j d low high true is =
      let p : List ℕ = (get_or ps i d).path in
      let z : List ℕ = (get_or ps j d).path in
      let whole : z ++ drop (length z) p ≡ p = rest_after p z (sym is) in
      let above : is_lt (bytes_cmp p z) ≡ false = subst (λ l. is_lt (bytes_cmp l z) ≡ false) whole (longer z (drop (length z) p)) in
      let below : is_lt (bytes_cmp z p) ≡ false = far i j d (omega arith) high in
      let same : p ≡ z = same_if_neither p z (bytes_cmp p z) refl above
      (ap is_lt (sym (nat_list_cmp_total.antisymm z p)) ∙ below) in
      let held : holds (get_or ps i d) (get_or ps j d) ≡ true =
      subst (λ l. starts_with nat_eq l p ≡ true) (append-nil p ∙ same) (begins p []) in
      sym held ∙ later_apart i j d low high (holds (get_or ps i d) (get_or ps j d)) refl

  all_apart : AllPairs HoldsNot ps
  all_apart i j d low high = (later_apart i j d low high _ refl, earlier_apart i j d low high _ refl)

  pub none_holds : NoneHolds ps
  none_holds = (ps, IsPermutation-refl ps, all_apart)

-- ---- places that are gone through

-- those that are left come after some, and all are apart where these are
abbrev pub AreLeft : List Place → List Place → Type 0
AreLeft all rest = (AreNextApart rest → AreNextApart all) × ((front : List Place) × (all ≡ front ++ rest))

-- all but the first
tail_of : (p q : Place) (ps : List Place) → take (length (p ∷ q ∷ ps) - 1) (drop 1 (p ∷ q ∷ ps)) ≡ q ∷ ps
tail_of p q ps = take_all (length (p ∷ q ∷ ps) - 1) (q ∷ ps) (omega arith)

pub left_after : (all rest : List Place) (outer inner d e : Place) → 2 ≤ length rest → outer ≡ get_or rest 0 d → inner ≡ get_or rest 1 e
    → holds outer inner ≡ false → AreLeft all rest → AreLeft all (take (length rest - 1) (drop 1 rest))
left_after all [] outer inner d e two first second apart left = absurd (omega arith)
left_after all (p ∷ []) outer inner d e two first second apart left = absurd (omega arith)
left_after all (p ∷ q ∷ ps) outer inner d e two first second apart left = (
  λ others. left.0 (ap₂ holds (sym first) (sym second) ∙ apart, subst AreNextApart (tail_of p q ps) others),
  (
    left.1.0 ++ p ∷ [],
    left.1.1 ∙ sym (append_assoc left.1.0 (p ∷ []) (q ∷ ps)) ∙ ap (λ l. (left.1.0 ++ p ∷ []) ++ l) (sym (tail_of p q ps)),
  ),
)

pub few_apart : (rest : List Place) → length rest < 2 → AreNextApart rest
few_apart [] few = tt
few_apart (p ∷ []) few = tt
few_apart (p ∷ q ∷ ps) few = absurd (omega arith)

pub one_holds : (all rest : List Place) (outer inner d e : Place) (line : String Global) → 2 ≤ length rest → outer ≡ get_or rest 0 d
    → inner ≡ get_or rest 1 e → holds outer inner ≡ true → string_bytes line ≡ nested_line outer inner → AreLeft all rest
    → OneHolds all (Nested line)
one_holds all [] outer inner d e line two first second held is left = absurd (omega arith)
one_holds all (p ∷ []) outer inner d e line two first second held is left = absurd (omega arith)
one_holds all (p ∷ q ∷ ps) outer inner d e line two first second held is left = (
  left.1.0,
  ps,
  p,
  q,
  subst (IsPermutation all) left.1.1 (IsPermutation-refl all),
  ap₂ holds (sym first) (sym second) ∙ held,
  (line, is ∙ ap₂ nested_line first second, refl),
)

-- ---- in any order

pub none_hold_sorted : (ps sorted : List Place) → IsPermutation ps sorted → NoneHolds sorted → NoneHolds ps
none_hold_sorted ps sorted moved (ordered, more, apart) = (ordered, IsPermutation-trans ps sorted ordered moved more, apart)

pub one_holds_sorted : (ps sorted : List Place) (cause : Cause) → IsPermutation ps sorted → OneHolds sorted cause → OneHolds ps cause
one_holds_sorted ps sorted cause moved (front, back, outer, inner, more, held, told) =
    (front, back, outer, inner, IsPermutation-trans ps sorted (front ++ outer ∷ inner ∷ back) moved more, held, told)

module _ (may_stand : List ℕ → Option (List ℕ) → Type 0) where
  pub many_names : (names : List (List ℕ)) (paths : List (Option (List ℕ))) → AllZip may_stand names paths
      → NoneHolds (places_of names paths) → AreApart may_stand names
  many_names [] paths all apart = tt
  many_names (n ∷ []) paths all apart = tt
  many_names (m ∷ n ∷ ns) paths all apart = (paths, all, apart)

  -- what was seen of the places of some names, sorted and lent
  pub apart_of : (names : List (List ℕ)) (ps lent sorted : List Place)
      → ((paths : List (Option (List ℕ))) × AllZip may_stand names paths × (ps ≡ places_of names paths)) → IsPermutation ps sorted
      → lent ≡ sorted → NoneHolds lent → AreApart may_stand names
  apart_of names ps lent sorted (paths, all, is) moved same apart =
      many_names names paths all (subst NoneHolds is (none_hold_sorted ps sorted moved (subst NoneHolds same apart)))

  pub nested_of : (names : List (List ℕ)) (ps lent sorted : List Place) (answer : Result (Unit {0}) Cause)
      → ((paths : List (Option (List ℕ))) × AllZip may_stand names paths × (ps ≡ places_of names paths)) → IsPermutation ps sorted
      → lent ≡ sorted → IfErr answer (λ cause. OneHolds lent cause ⊎ (cause ≡ Memory))
      → IfErr answer (λ cause. AreNested may_stand names cause ⊎ (cause ≡ Memory))
  nested_of names ps lent sorted (Ok done) found moved same told = tt
  nested_of names ps lent sorted (Err cause) (paths, all, is) moved same (inl held) =
      inl (
        paths,
        all,
        subst (λ l. OneHolds l cause) is
            (one_holds_sorted ps sorted cause moved (subst (λ l. OneHolds l cause) same held)),
      )
  nested_of names ps lent sorted (Err cause) found moved same (inr none) = inr none
