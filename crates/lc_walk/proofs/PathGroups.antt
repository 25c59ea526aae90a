-- Groups of paths of a directory, each at or below its own name.
use Rattle.std.proofs.{Common.{arith, ◌≡◌, ◌≢◌, ℕ, List, [], ◌∷◌, ◌++◌, map, ◌∙◌, ap, append-nil}, lemmas.Grind.common_steps}
use Rattle.std.proofs.lemmas.List.{append_cancel_left}
use Rattle.std.specs.List.{flat_map, AllByRecursion}
use Rattle.lc_tree.specs.Paths.{names_of_path}
use Rattle.lc_board.proofs.Weights.{each-map, each-append}
use Rattle.lc_walk.proofs.Distinct.{Distinct, distinct-append}

-- a path at or below a directory, and at or below a name in it
abbrev pub Below : List ℕ → List ℕ → Type 0
Below d x = (rest : List (List ℕ)) × (names_of_path x ≡ names_of_path d ++ rest)

abbrev pub Under : List ℕ → List ℕ → List ℕ → Type 0
Under d n x = (rest : List (List ℕ)) × (names_of_path x ≡ names_of_path d ++ n ∷ rest)

apart_under : (d m n x y : List ℕ) → Under d m x → Under d n y → m ≢ n → x ≢ y
apart_under d m n x y u v a = grind (arith, common_steps, append_cancel_left)

-- what stands below a directory is not the directory
apart_above : (d n x : List ℕ) → Under d n x → d ≢ x
apart_above d n x u e =
    let nothing : [] ≡ n ∷ u.0 =
    append_cancel_left (names_of_path d) [] (n ∷ u.0) (append-nil (names_of_path d) ∙ ap names_of_path e ∙ u.1) in
    absurd (cc nothing)

-- a name with paths
abbrev pub Group : Type 0
Group = List ℕ × List (List ℕ)

-- these stand at or below it in a directory, and none stands twice
abbrev pub IsGroup : List ℕ → Group → Type 0
IsGroup d g = AllByRecursion (Under d g.0) g.1 × Distinct g.1

far : (d n x : List ℕ) → Under d n x → (gs : List Group) → AllByRecursion (IsGroup d) gs
    → AllByRecursion (λ m. n ≢ m) (map (λ g. g.0) gs) → AllByRecursion (λ y. x ≢ y) (flat_map (λ g. g.1) gs)
far d n x u [] a b = tt
far d n x u (g ∷ gs) a b =
    each-append (λ y. x ≢ y) g.1 (flat_map (λ h. h.1) gs)
    (each-map (Under d g.0) (λ y. x ≢ y) (λ y v. apart_under d n g.0 x y u v b.0) g.1 a.0.0) (far d n x u gs a.1 b.1)

-- where no name stands twice, no path does
pub groups_distinct : (d : List ℕ) (gs : List Group) → AllByRecursion (IsGroup d) gs → Distinct (map (λ g. g.0) gs)
    → Distinct (flat_map (λ g. g.1) gs)
groups_distinct d [] a b = tt
groups_distinct d (g ∷ gs) a b =
    distinct-append g.1 (flat_map (λ h. h.1) gs) a.0.1 (groups_distinct d gs a.1 b.1)
    (each-map (Under d g.0) (λ x. AllByRecursion (λ y. x ≢ y) (flat_map (λ h. h.1) gs)) (λ x u. far d g.0 x u gs a.1 b.0) g.1 a.0.0)

-- all of them stand below the directory
pub groups_below : (d : List ℕ) (gs : List Group) → AllByRecursion (IsGroup d) gs → AllByRecursion (Below d) (flat_map (λ g. g.1) gs)
groups_below d [] a = tt
groups_below d (g ∷ gs) a = grind (arith, common_steps, each-append, each-map, groups_below d gs a.1)

-- and none is the directory's
pub groups_above : (d : List ℕ) (gs : List Group) → AllByRecursion (IsGroup d) gs → AllByRecursion (λ x. d ≢ x) (flat_map (λ g. g.1) gs)
groups_above d [] a = tt
groups_above d (g ∷ gs) a =
    each-append (λ x. d ≢ x) g.1 (flat_map (λ h. h.1) gs) (each-map (Under d g.0) (λ x. d ≢ x) (apart_above d g.0) g.1 a.0.0)
    (groups_above d gs a.1)
