-- Some attributes of a list that grows.
use Rattle.std.proofs.Common.{◌≡◌, ◌∙◌, ◌<◌, ◌+◌, ◌⊎◌, ℕ, suc, List, [], ◌∷◌, ◌++◌, Vec, ap, arith, get_or, inl, inr, length, map, refl}
use Rattle.std.proofs.{Common.{sym, take}, Math.Seq.take-suc, lemmas.List.map-append}
use Rattle.std.specs.Global.{Global}
use Rattle.lc_level.specs.{NamedAttributes.{AreSomeAttributes, AreSomeOf}, declared.named_attributes.NotedWord.NotedWord}

-- a name at the end that is not among them
some_left : (ns os : List (List ℕ)) (o : List ℕ) → AreSomeOf ns os → AreSomeOf ns (os ++ o ∷ [])
some_left [] os o some = tt
some_left (n ∷ ns) [] o some = absurd some
some_left (n ∷ ns) (x ∷ os) o (inl (same, some)) = inl (same, some_left ns os o some)
some_left (n ∷ ns) (x ∷ os) o (inr some) = inr (some_left (n ∷ ns) os o some)

-- a name at the end of both
some_more : (ns os : List (List ℕ)) (o : List ℕ) → AreSomeOf ns os → AreSomeOf (ns ++ o ∷ []) (os ++ o ∷ [])
some_more [] [] o some = inl (refl, tt)
some_more [] (x ∷ os) o some = inr (some_more [] os o tt)
some_more (n ∷ ns) [] o some = absurd some
some_more (n ∷ ns) (x ∷ os) o (inl (same, some)) = inl (same, some_more ns os o some)
some_more (n ∷ ns) (x ∷ os) o (inr some) = inr (some_more (n ∷ ns) os o some)

-- the list is as before, or has this attribute added
abbrev AddsAtMost : List ℕ → List (Vec ℕ Global) → List (Vec ℕ Global) → Type 0
AddsAtMost attribute before after =
    (after ≡ before) ⊎ ((told : Vec ℕ Global) × (told.items ≡ attribute) × (after ≡ before ++ told ∷ []))

-- one attribute more, which may have been added
one_more : (attributes : List (List ℕ)) (attribute : List ℕ) (before after : List (Vec ℕ Global))
    → AreSomeAttributes attributes before → AddsAtMost attribute before after
    → AreSomeAttributes (attributes ++ attribute ∷ []) after
one_more attributes attribute before after some (inl same) = rw same (some_left _ attributes attribute some)
one_more attributes attribute before after some (inr (told, is, added)) =
    rw added (rw (map-append (λ (a : Vec ℕ Global). a.items) before (told ∷ [])) (rw is (some_more _ attributes attribute some)))

abbrev attribute_in : NotedWord → List ℕ
attribute_in w = w.attribute.items

-- one word further
pub one_further : (words : List NotedWord) (i : ℕ) (w : NotedWord) (before after : List (Vec ℕ Global)) → i < length words
    → w ≡ get_or words i w → AreSomeAttributes (map attribute_in (take i words)) before
    → AddsAtMost (attribute_in w) before after → AreSomeAttributes (map attribute_in (take (i + 1) words)) after
one_further words i w before after low is some adds =
    let one : i + 1 ≡ suc i = omega arith in
    let taken : map attribute_in (take (i + 1) words) ≡ map attribute_in (take i words) ++ attribute_in w ∷ [] =
    ap (λ k. map attribute_in (take k words)) one ∙ ap (map attribute_in) (take-suc words i w low)
    ∙ map-append attribute_in (take i words) (get_or words i w ∷ [])
    ∙ ap (λ v. map attribute_in (take i words) ++ attribute_in v ∷ []) (sym is) in
    rw taken (one_more _ (attribute_in w) before after some adds)
