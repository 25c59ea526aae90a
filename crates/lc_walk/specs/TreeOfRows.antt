-- The tree that rows make.
use Rattle.std.specs.Prelude.{ℕ, zero, suc, cond, List, [], ◌∷◌, ◌++◌, slice_get, Option, Some, None, bytes_eq}
use Rattle.lc_board.specs.declared.answers.Ended.{Ended}
use Rattle.lc_level.specs.Answers.{Answers, no_answers, Tree}
use Rattle.lc_walk.specs.{RowViews.ChildModel, Rows.{row_of, children_in}, declared.row.Row.Row}

-- the number of the child with this name
abbrev pub child_number : List ℕ → List ChildModel → Option ℕ
child_number name [] = None
child_number name (c ∷ cs) = cond (bytes_eq name c.name) (Some c.number) (child_number name cs)

-- the tree at a number: the answers at the number, and under each child's name the tree at the child's number; `blank` elsewhere
abbrev pub tree_from : {A : Type 0} → A → (ℕ → A) → (ℕ → List ChildModel) → ℕ → List (List ℕ) → A
tree_from blank answers children i [] = answers i
tree_from blank answers children i (name ∷ place) =
    elim (child_number name (children i)) [ None ↦ blank | Some k ↦ tree_from blank answers children k place ]

abbrev pub children_at_row : Option (Ended Row) → List ChildModel
children_at_row None = []
children_at_row (Some e) = children_in (row_of e)

-- the children of each number
abbrev pub children_by_rows : List (Ended Row) → ℕ → List ChildModel
children_by_rows rows i = children_at_row (slice_get rows i)

abbrev pub tree_of_rows : List (Ended Row) → (ℕ → Answers) → Tree
tree_of_rows rows answers = tree_from no_answers answers (children_by_rows rows) 0

-- the numbers from 0 up to one less than this
abbrev pub numbers_below : ℕ → List ℕ
numbers_below zero = []
numbers_below (suc n) = numbers_below n ++ n ∷ []
