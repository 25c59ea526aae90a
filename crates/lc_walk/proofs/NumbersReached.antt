-- What a walk of a history's tree finds, by the numbers that it reaches.
use Rattle.std.proofs.Common.{arith}
use Rattle.std.proofs.lemmas.Grind.{common_steps}
use Rattle.std.proofs.Common.{◌≡◌, ◌≢◌, ℕ, zero, suc, Bool, true, false, cond, List, [], ◌∷◌, ◌++◌, refl, sym, ◌∙◌, ap, Option, Some}
use Rattle.std.proofs.{Common.{None, append_assoc, bytes_eq}, Math.Path.fun_ext, lemmas.Grind.flat_map-append}
use Rattle.std.specs.List.{flat_map, AllByRecursion}
use Rattle.lc_board.specs.{State.{Absent, status}, LegalHistory.{posts_under, IsLegal}, RowsInPlace.job_posted, declared.event.Event.Event}
use Rattle.lc_level.specs.Job.{JobModel}
use Rattle.lc_walk.specs.{RecursiveWalk.{walks_below, walk_by}, RowViews.ChildModel, Lawful.{jobs_of, named}, TreeOfRows.child_number}
use Rattle.lc_walk.specs.TreeOfRows.{tree_from}
use Rattle.lc_board.proofs.{Weights.each-map, PostedNumbers.{Known, known}}
use Rattle.lc_walk.proofs.{Reach.reach, Levels.IsApart}
use Rattle.lc_level.proofs.WellFormed.{bytes_same}

-- of one value there is one
pub same_some : {A : Type 0} (x y : A) → Some x ≡ Some y → x ≡ y
same_some x y e = cc

-- equal lists begin with equal elements
pub same_head : {A : Type 0} (x y : A) (xs ys : List A) → x ∷ xs ≡ y ∷ ys → x ≡ y
same_head x y xs ys e = cc

-- and go on equally
pub same_tail : {A : Type 0} (x y : A) (xs ys : List A) → x ∷ xs ≡ y ∷ ys → xs ≡ ys
same_tail x y xs ys e = cc

-- under the name of each child the tree at i is the tree at the post's number
abbrev pub Under : {A : Type 0} → (ℕ → List (List ℕ) → A) → ℕ → List (List ℕ × JobModel) → List (ℕ × JobModel) → Type 0
Under trees i [] ps = Unit {0}
Under trees i (c ∷ cs) [] = Unit {0}
Under {A} trees i (c ∷ cs) (p ∷ ps) = ((λ (q : List (List ℕ)). trees i (c.0 ∷ q)) ≡ trees p.0) × Under trees i cs ps

-- a tree for each number: at i it answers as the number's answers do, and under a child's name it is the tree of that child
pub record Grows {A X R : Type 0} (found : JobModel → A → List X) (children : JobModel → A → List (List ℕ × JobModel))
    (h : List (Event JobModel R)) (job : ℕ → JobModel) (answers : ℕ → A) (trees : ℕ → List (List ℕ) → A) : Type 0 where
  -- what a number's tree finds at its top is what its answers give
  pub same_found : (i : ℕ) → status h i ≢ Absent → found (job i) (trees i []) ≡ found (job i) (answers i)
  -- and so are its children
  pub same_children : (i : ℕ) → status h i ≢ Absent → children (job i) (trees i []) ≡ children (job i) (answers i)
  -- below it stand the trees of what was posted under it
  pub under : (i : ℕ) → status h i ≢ Absent → Under trees i (children (job i) (answers i)) (posts_under i h)

module _ {A X R : Type 0} (found : JobModel → A → List X) (children : JobModel → A → List (List ℕ × JobModel)) (c n : ℕ)
    (top : JobModel) (h : List (Event JobModel R))
    (job : ℕ → JobModel) (answers : ℕ → A) (trees : ℕ → List (List ℕ) → A) (legal : IsLegal c n h)
    (posted : (i : ℕ) → status h i ≢ Absent → job_posted top h i ≡ Some (job i))
    (jobs : (i : ℕ) → status h i ≢ Absent → jobs_of (posts_under i h) ≡ jobs_of (children (job i) (answers i)))
    (grows : Grows found children h job answers trees) where
  -- what the directory of a number gives
  abbrev pub gives : ℕ → List X
  gives i = found (job i) (answers i)

  below_is : (k i : ℕ) → ((m : ℕ) → status h m ≢ Absent → walk_by found children k (job m) (trees m) ≡ flat_map gives (reach h k m)) →
      (cs : List (List ℕ × JobModel)) (ps : List (ℕ × JobModel)) → Under trees i cs ps → jobs_of ps ≡ jobs_of cs →
      AllByRecursion (λ p. (job p.0 ≡ p.1) × (status h p.0 ≢ Absent)) ps →
      walks_below found children (walk_by found children k) (trees i) cs ≡ flat_map gives (flat_map (λ p. reach h k p.0) ps)
  below_is k i rec [] [] u e a = refl
  below_is k i rec [] (p ∷ ps) u e a = cc
  below_is k i rec (c ∷ cs) [] u e a = cc
  below_is k i rec (c ∷ cs) (p ∷ ps) u e a =
      let rest : jobs_of ps ≡ jobs_of cs = same_tail p.1 c.1 (jobs_of ps) (jobs_of cs) e in
      grind (arith, common_steps, same_head, reach, same_tail, flat_map-append, below_is k i rec cs ps u.1 rest a.1)

  own : (i : ℕ) → AllByRecursion (λ p. (job p.0 ≡ p.1) × (status h p.0 ≢ Absent)) (posts_under i h)
  own i =
      each-map (Known c top h i) (λ p. (job p.0 ≡ p.1) × (status h p.0 ≢ Absent))
      (λ p k. (same_some (job p.0) p.1 (sym (posted p.0 k.there) ∙ k.value), k.there)) (posts_under i h) (known c n top h legal i)

  -- the walk finds, in its order, what the directories of the numbers that it reaches give
  pub walk_is : (k i : ℕ) → status h i ≢ Absent → walk_by found children k (job i) (trees i) ≡ flat_map gives (reach h k i)
  walk_is zero i a = refl
  walk_is (suc k) i a =
      ap (λ (xs : List X). xs ++ walks_below found children (walk_by found children k) (trees i) (children (job i) (trees i [])))
      (grows.same_found i a)
      ∙ ap (λ (cs : List (List ℕ × JobModel)). gives i ++ walks_below found children (walk_by found children k) (trees i) cs)
      (grows.same_children i a)
      ∙ ap (λ (xs : List X). gives i ++ xs) (below_is k i (walk_is k) (children (job i) (answers i)) (posts_under i h)
      (grows.under i a) (jobs i a) (own i))

-- ---- the tree of rows grows so

-- each child's name leads to its post's number
abbrev pub Finds : (List ℕ → Option ℕ) → List (List ℕ × JobModel) → List (ℕ × JobModel) → Type 0
Finds look [] ps = Unit {0}
Finds look (c ∷ cs) [] = Unit {0}
Finds look (c ∷ cs) (p ∷ ps) = (look c.0 ≡ Some p.0) × Finds look cs ps

hit : (b : Bool) (x y : Option ℕ) → b ≡ true → cond b x y ≡ x
hit b x y e = grind (arith, common_steps)

find_more : (k : ChildModel) (ks : List ChildModel) (cs : List (List ℕ × JobModel)) (ps : List (ℕ × JobModel)) →
    AllByRecursion (λ d. bytes_eq d.0 k.name ≡ false) cs → Finds (λ m. child_number m ks) cs ps → Finds (λ m. child_number m (k ∷ ks)) cs ps
find_more k ks [] ps a f = tt
find_more k ks (c ∷ cs) [] a f = tt
find_more k ks (c ∷ cs) (p ∷ ps) a f = grind (arith, common_steps, find_more k ks cs ps a.1 f.1)

-- names with no two the same are found at their own places
pub finds : (cs : List (List ℕ × JobModel)) (ps : List (ℕ × JobModel)) → IsApart cs → Finds (λ m. child_number m (named cs ps)) cs ps
finds [] ps a = tt
finds (c ∷ cs) [] a = tt
finds (c ∷ cs) (p ∷ ps) a = (
  hit (bytes_eq c.0 c.0) (Some p.0) (child_number c.0 (named cs ps)) (bytes_same c.0 c.0 refl),
  find_more (record { name = c.0; number = p.0 }) (named cs ps) cs ps a.0 (finds cs ps a.1),
)

open_child : {A : Type 0} (blank : A) (answers : ℕ → A) (children : ℕ → List ChildModel) (o : Option ℕ) (k : ℕ) → o ≡ Some k →
    (λ (p : List (List ℕ)). elim o [ None ↦ blank | Some d ↦ tree_from blank answers children d p ]) ≡ tree_from blank answers children k
open_child blank answers children o k e = grind (arith, common_steps)

-- the tree of rows has the trees of the children under each number
pub under_rows : {A : Type 0} (blank : A) (answers : ℕ → A) (children : ℕ → List ChildModel) (i : ℕ) (cs : List (List ℕ × JobModel))
    (ps : List (ℕ × JobModel)) →
    Finds (λ m. child_number m (children i)) cs ps → Under (tree_from blank answers children) i cs ps
under_rows blank answers children i [] ps f = tt
under_rows blank answers children i (c ∷ cs) [] f = tt
under_rows blank answers children i (c ∷ cs) (p ∷ ps) f =
    (open_child blank answers children (child_number c.0 (children i)) p.0 f.0, under_rows blank answers children i cs ps f.1)

-- ---- a tree that answers each place once

-- the place of each child is its parent's place and its name
abbrev pub PlacedUnder : (ℕ → List (List ℕ)) → ℕ → List (List ℕ × JobModel) → List (ℕ × JobModel) → Type 0
PlacedUnder place i [] ps = Unit {0}
PlacedUnder place i (c ∷ cs) [] = Unit {0}
PlacedUnder place i (c ∷ cs) (p ∷ ps) = (place p.0 ≡ place i ++ c.0 ∷ []) × PlacedUnder place i cs ps

-- and so has a tree whose places are those of the numbers
pub under_places : {A : Type 0} (t : List (List ℕ) → A) (place : ℕ → List (List ℕ)) (i : ℕ) (cs : List (List ℕ × JobModel))
    (ps : List (ℕ × JobModel)) →
    PlacedUnder place i cs ps → Under (λ k p. t (place k ++ p)) i cs ps
under_places t place i [] ps f = tt
under_places t place i (c ∷ cs) [] f = tt
under_places t place i (c ∷ cs) (p ∷ ps) f = grind (arith, common_steps, fun_ext, append_assoc, under_places t place i cs ps f.1)
