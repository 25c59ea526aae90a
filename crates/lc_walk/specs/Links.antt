-- Which numbers are known to be linked after a part of the rows' children was checked, in order.
use Rattle.std.specs.Prelude.{◌≡◌, ℕ, ◌<◌, ◌≤◌, Bool, true, false, ◌⊎◌, List, length, slice_get, Some}
use Rattle.lc_board.specs.declared.answers.Ended.{Ended}
use Rattle.lc_glob.specs.Path.{path_in}
use Rattle.lc_walk.specs.{RowViews.ChildModel, Rows.{row_of, job_of, children_in}, Assembled.{IsEdge, IsPlaced}, declared.row.Row.Row}
use Rattle.lc_walk.specs.declared.{walk_fault.WalkFault.WalkFault, report.tree_check.TreeFault.{TreeFault, TheVariants.{Memory, Torn}}}
use Rattle.lc_walk.specs.declared.walk_fault.WalkFault.TheVariants as fault

-- the child at the place i of the row p comes before that at the place j of the row `at`
abbrev pub Seen : ℕ → ℕ → ℕ → ℕ → Type 0
Seen at j p i = (p < at) ⊎ ((p ≡ at) × (i < j))

-- one of the children seen so far has this number, with the right path, and no other child seen so far has it
pub record IsLinkedSoFar (rows : List (Ended Row)) (at j k : ℕ) : Type 0 where
  pub row : Ended Row
  pub its : slice_get rows k ≡ Some row
  pub parent : ℕ
  pub place : ℕ
  pub lower : parent < k
  pub seen : Seen at j parent place
  pub edge : IsEdge rows parent place k
  pub path : (job_of (row_of row)).path ≡ path_in (job_of (row_of edge.above)).path edge.child.name
  pub only : (p i : ℕ) → Seen at j p i → IsEdge rows p i k → (p ≡ parent) × (i ≡ place)

-- from 1 on, each marked number is linked by the children seen so far, and a number that is not marked is that of none of these children
pub record AreLinked (rows : List (Ended Row)) (at j : ℕ) (linked : List Bool) : Type 0 where
  pub long : length linked ≡ length rows
  pub unnamed : (k : ℕ) → 1 ≤ k → slice_get linked k ≡ Some false → (p i : ℕ) → Seen at j p i → IsEdge rows p i k → ⊥
  pub links : (k : ℕ) → 1 ≤ k → slice_get linked k ≡ Some true → IsLinkedSoFar rows at j k

-- this is the child at the place j of the row `at`
pub record IsNext (rows : List (Ended Row)) (at j : ℕ) (child : ChildModel) : Type 0 where
  pub above : Ended Row
  pub is : slice_get rows at ≡ Some above
  pub here : slice_get (children_in (row_of above)) j ≡ Some child

-- the directory with this number has this path
pub record IsPathAt (rows : List (Ended Row)) (k : ℕ) (path : List ℕ) : Type 0 where
  pub row : Ended Row
  pub is : slice_get rows k ≡ Some row
  pub path_is : (job_of (row_of row)).path ≡ path

-- why the check of the rows fails
abbrev pub RefusesTree : List (Ended Row) → TreeFault → Type 0
RefusesTree rows Memory = Unit {0}
RefusesTree rows (Torn n) = IsPlaced rows n → ⊥

abbrev pub fault_of_tree : TreeFault → WalkFault
fault_of_tree Memory = fault.Memory
fault_of_tree (Torn n) = fault.Torn n
