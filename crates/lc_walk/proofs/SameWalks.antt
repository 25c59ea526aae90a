-- A walk of some paths finds the same by any answers that give the same levels.
use Rattle.std.proofs.Common.{arith, ◌≡◌, ℕ, zero, suc, List, [], ◌∷◌, ◌++◌, refl, sym, ◌∙◌, ap, subst, inr, Some, None}
use Rattle.std.proofs.lemmas.Grind.{common_steps}
use Rattle.lc_level.specs.{Answers.{Answers, Tree}, Job.JobModel, Level.level, Filters.{FiltersModel, narrowed}}
use Rattle.lc_level.proofs.AskedPaths.{all_take_part}
use Rattle.lc_walk.specs.{Found.{Found, found_of, found_at, children_of, children_at}, FoundAt.{WalksInto, LeadsTo}, PartOfWalk.AnswerAlike}
use Rattle.lc_walk.specs.{PartOfWalk.part_walk, RecursiveWalk.{walks_below, walk_of}}
use Rattle.lc_walk.proofs.{Elements.{In, is_in, contains}, FoundByPlace.child_by_level, TakingPart.in_filter}

module _ (s : FiltersModel) (only : List (List ℕ)) where
  abbrev part : FiltersModel
  part = narrowed s (Some only)

  abbrev whole : FiltersModel
  whole = narrowed s None

  -- a directory that a walk of some paths goes into the walk of the whole tree goes into
  into_whole : (j : JobModel) (a : Answers) (n : List ℕ) (inside : JobModel) → WalksInto part j a n inside → WalksInto whole j a n inside
  into_whole j a n inside l = grind (arith, common_steps, contains, all_take_part, in_filter, is_in)

  abbrev Alike : JobModel → Tree → Tree → Type 0
  Alike j t u =
      (place : List (List ℕ)) (k : JobModel) → LeadsTo whole j t place k → LeadsTo part j u place k
      → level part k (u place) ≡ level part k (t place)

  -- so it is below
  alike_below : (j : JobModel) (t u : Tree) → Alike j t u → (c : List ℕ × JobModel) → In c (children_at part j (t []))
      → In c (children_at part j (u [])) → Alike c.1 (λ p. t (c.0 ∷ p)) (λ p. u (c.0 ∷ p))
  alike_below j t u alike c mine its place k leads also =
      let one = child_by_level part j (t []) c mine in
      let other = child_by_level part j (u []) c its in
      alike (c.0 ∷ place) k
      (one.0, into_whole j (t []) c.0 one.0 one.1, subst (λ (i : JobModel). LeadsTo whole i (λ p. t (c.0 ∷ p)) place k) one.2 leads)
      (other.0, other.1, subst (λ (i : JobModel). LeadsTo part i (λ p. u (c.0 ∷ p)) place k) other.2 also)

  abbrev Walks : Type 0
  Walks = JobModel → Tree → List Found

  abbrev below : Walks → Tree → List (List ℕ × JobModel) → List Found
  below walk t cs = walks_below (found_at part) (children_at part) walk t cs

  same_below : (walk : Walks) (t u : Tree) (cs : List (List ℕ × JobModel))
      → ((c : List ℕ × JobModel) → In c cs → walk c.1 (λ p. u (c.0 ∷ p)) ≡ walk c.1 (λ p. t (c.0 ∷ p)))
      → below walk u cs ≡ below walk t cs
  same_below walk t u [] same = refl
  same_below walk t u (c ∷ cs) same = grind (arith, common_steps, same_below walk t u cs (λ d has. same d (inr has)))

  same_from : (depth : ℕ) (j : JobModel) (t u : Tree) → Alike j t u → walk_of part depth j u ≡ walk_of part depth j t
  same_from zero j t u alike = refl
  same_from (suc depth) j t u alike =
      let here : level part j (u []) ≡ level part j (t []) = alike [] j refl refl in
      let children : children_at part j (u []) ≡ children_at part j (t []) = ap children_of here in
      ap (λ (xs : List Found). xs ++ below (walk_of part depth) u (children_at part j (u []))) (ap (found_of j) here)
      ∙ ap (λ (cs : List (List ℕ × JobModel)). found_at part j (t []) ++ below (walk_of part depth) u cs) children
      ∙ ap (λ (xs : List Found). found_at part j (t []) ++ xs)
      (same_below (walk_of part depth) t u (children_at part j (t []))
      (λ c has. same_from depth c.1 (λ p. t (c.0 ∷ p)) (λ p. u (c.0 ∷ p))
      (alike_below j t u alike c has (subst (In c) (sym children) has))))

-- so it is of answers that are alike
pub same_walk : (s : FiltersModel) (only : List (List ℕ)) (depth : ℕ) (top : JobModel) (t u : Tree) → AnswerAlike s only depth top t u
    → part_walk s only depth top u ≡ part_walk s only depth top t
same_walk s only depth top t u alike = same_from s only depth top t u alike
