-- The recursive walk over a tree: what all workers of a walk together must find.
use Rattle.std.specs.Prelude.{ℕ, zero, suc, List, [], ◌∷◌, ◌++◌}
use Rattle.lc_level.specs.{Answers.Tree, Job.JobModel, Filters.FiltersModel}
use Rattle.lc_walk.specs.Found.{Found, found_at, children_at}

-- for answers of any type: what the directory contributes, then the walks of its child directories, one after another
module _ {J N A X : Type 0} (found : J → A → List X) (children : J → A → List (N × J)) where
  -- what `walk` finds in some child directories, one after another
  abbrev pub walks_below : (J → (List N → A) → List X) → (List N → A) → List (N × J) → List X
  walks_below walk tree [] = []
  walks_below walk tree (c ∷ cs) = walk c.1 (λ place. tree (c.0 ∷ place)) ++ walks_below walk tree cs

  -- the walk of a directory and of what is below, down to this depth
  abbrev pub walk_by : ℕ → J → (List N → A) → List X
  walk_by zero j tree = []
  walk_by (suc depth) j tree = found j (tree []) ++ walks_below (walk_by depth) tree (children j (tree []))

-- what the recursive walk of a tree finds, down to this depth
abbrev pub walk_of : FiltersModel → ℕ → JobModel → Tree → List Found
walk_of filters depth top tree = walk_by (found_at filters) (children_at filters) depth top tree
