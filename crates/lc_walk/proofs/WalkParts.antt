-- Recursive walks by parts of what each directory gives.
use Rattle.std.proofs.lemmas.Grind.{common_steps}
use Rattle.std.proofs.Common.{◌≡◌, ℕ, zero, suc, ◌≤◌, List, [], ◌∷◌, ◌++◌, map, length, refl, sym, ◌∙◌, ap, subst, arith, append_assoc}
use Rattle.std.proofs.{Common.{IsPermutation, length-append}, lemmas.List.map-append}
use Rattle.std.proofs.lemmas.List.Sorted.{IsPermutation-refl, IsPermutation-trans, IsPermutation-append, IsPermutation-append_comm}
use Rattle.std.proofs.lemmas.List.Sorted.{IsPermutation-append_left, IsPermutation-append_right}
use Rattle.lc_walk.specs.RecursiveWalk.{walks_below, walk_by}

-- two lists of two parts each, part by part
interchange : {X : Type 0} (a b c d : List X) → IsPermutation ((a ++ b) ++ (c ++ d)) ((a ++ c) ++ (b ++ d))
interchange a b c d =
    let inner : b ++ (c ++ d) ≡ (b ++ c) ++ d = sym (append_assoc b c d) in
    let outer : (c ++ b) ++ d ≡ c ++ (b ++ d) = append_assoc c b d in
    let middle : IsPermutation (b ++ (c ++ d)) (c ++ (b ++ d)) =
    subst (λ l. IsPermutation l (c ++ (b ++ d))) (sym inner)
    (subst (IsPermutation ((b ++ c) ++ d)) outer (IsPermutation-append_left d (b ++ c) (c ++ b) (IsPermutation-append_comm b c))) in
    subst (λ l. IsPermutation l ((a ++ c) ++ (b ++ d))) (sym (append_assoc a b (c ++ d)))
    (subst (IsPermutation (a ++ (b ++ (c ++ d)))) (sym (append_assoc a c (b ++ d)))
    (IsPermutation-append_right a (b ++ (c ++ d)) (c ++ (b ++ d)) middle))

module _ {J N A : Type 0} (children : J → A → List (N × J)) where
  module _ {X : Type 0} (whole one two : J → A → List X) (parts : (j : J) (a : A) → whole j a ≡ one j a ++ two j a) where
    below_splits : (depth : ℕ) (t : List N → A) (cs : List (N × J)) →
        ((j : J) (u : List N → A) → IsPermutation (walk_by whole children depth j u)
        (walk_by one children depth j u ++ walk_by two children depth j u)) →
        IsPermutation (walks_below whole children (walk_by whole children depth) t cs)
        (walks_below one children (walk_by one children depth) t cs ++ walks_below two children (walk_by two children depth) t cs)
    below_splits depth t [] known = IsPermutation-refl []
    below_splits depth t (c ∷ cs) known =
        IsPermutation-trans _ _ _
        (IsPermutation-append _ _ _ _ (known c.1 (λ place. t (c.0 ∷ place))) (below_splits depth t cs known))
        (interchange (walk_by one children depth c.1 (λ place. t (c.0 ∷ place))) (walk_by two children depth c.1 (λ place. t (c.0 ∷ place)))
        (walks_below one children (walk_by one children depth) t cs) (walks_below two children (walk_by two children depth) t cs))

    -- a walk finds what a walk by each part finds
    pub walk_splits : (depth : ℕ) (j : J) (t : List N → A) →
        IsPermutation (walk_by whole children depth j t) (walk_by one children depth j t ++ walk_by two children depth j t)
    walk_splits zero j t = IsPermutation-refl []
    walk_splits (suc depth) j t =
        subst (λ l. IsPermutation (l ++ walks_below whole children (walk_by whole children depth) t (children j (t [])))
        (walk_by one children (suc depth) j t ++ walk_by two children (suc depth) j t)) (sym (parts j (t [])))
        (IsPermutation-trans _ _ _
        (IsPermutation-append_right (one j (t []) ++ two j (t [])) _ _
        (below_splits depth t (children j (t [])) (λ k u. walk_splits depth k u)))
        (interchange (one j (t [])) (two j (t []))
        (walks_below one children (walk_by one children depth) t (children j (t [])))
        (walks_below two children (walk_by two children depth) t (children j (t [])))))

  module _ {X Y : Type 0} (f : X → Y) (found : J → A → List X) where
    below_maps : (depth : ℕ) (t : List N → A) (cs : List (N × J)) →
        ((j : J) (u : List N → A) → walk_by (λ k a. map f (found k a)) children depth j u ≡ map f (walk_by found children depth j u)) →
        walks_below (λ k a. map f (found k a)) children (walk_by (λ k a. map f (found k a)) children depth) t cs
        ≡ map f (walks_below found children (walk_by found children depth) t cs)
    below_maps depth t [] known = refl
    below_maps depth t (c ∷ cs) known = grind (arith, common_steps, map-append, below_maps depth t cs known)

    -- what is made of each thing that a directory gives is made of each thing that a walk finds
    pub walk_maps : (depth : ℕ) (j : J) (t : List N → A) →
        walk_by (λ k a. map f (found k a)) children depth j t ≡ map f (walk_by found children depth j t)
    walk_maps zero j t = refl
    walk_maps (suc depth) j t =
        ap (λ l. map f (found j (t [])) ++ l) (below_maps depth t (children j (t [])) (λ k u. walk_maps depth k u))
        ∙ sym (map-append f (found j (t [])) (walks_below found children (walk_by found children depth) t (children j (t []))))

  module _ {X : Type 0} (found : J → A → List X) where
    below_grows : (depth : ℕ) (t : List N → A) (cs : List (N × J)) →
        ((j : J) (u : List N → A) → length (walk_by found children depth j u) ≤ length (walk_by found children (suc depth) j u)) →
        length (walks_below found children (walk_by found children depth) t cs)
        ≤ length (walks_below found children (walk_by found children (suc depth)) t cs)
    below_grows depth t [] known = omega arith
    below_grows depth t (c ∷ cs) known = grind (arith, common_steps, length-append, below_grows depth t cs known)

    -- a walk that goes a level deeper finds no fewer things
    pub walk_grows : (depth : ℕ) (j : J) (t : List N → A) →
        length (walk_by found children depth j t) ≤ length (walk_by found children (suc depth) j t)
    walk_grows zero j t = omega arith
    walk_grows (suc depth) j t =
        omega (
          arith,
          below_grows depth t (children j (t [])) (λ k u. walk_grows depth k u),
          length-append (found j (t [])) (walks_below found children (walk_by found children depth) t (children j (t []))),
          length-append (found j (t [])) (walks_below found children (walk_by found children (suc depth)) t (children j (t []))),
        )
