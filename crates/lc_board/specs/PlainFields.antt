-- The invariant of the fields of a single-threaded board.
use Rattle.std.specs.Prelude.{◌≡◌, ℕ, ◌<◌, ◌≤◌, length, Option, Some}
use Rattle.lc_board.specs.{PlainBoard.{Board, held_by, cell_at}, PlainCalls.IsOpen, declared.plain.cell.Cell.{Cell, TheVariants.Held}}
use Rattle.lc_board.specs.Limits.{capacity_limit}

module _ {J R : Type 0} where
  abbrev pub IsHeldBy : ℕ → Option (Cell J R) → Type 0
  IsHeldBy w (Some (Held v n)) = v ≡ w
  IsHeldBy w _ = ⊥

  -- numbers below `next` are claimed or ended, and used numbers from `next` on are open; a claimed number is the claim of the worker in its
  -- cell
  pub record IsSound (next : ℕ) (b : Board J R) : Type 0 where
    pub small : b.capacity ≤ capacity_limit
    pub fits : length b.cells ≤ b.capacity
    pub reached : next ≤ length b.cells
    pub below : (k : ℕ) → k < next → ¬ IsOpen (cell_at b k)
    pub above : (k : ℕ) → next ≤ k → k < length b.cells → IsOpen (cell_at b k)
    pub holds : (w i : ℕ) → held_by b w ≡ Some i → IsHeldBy w (cell_at b i)
    pub owned : (k w n : ℕ) → cell_at b k ≡ Some (Held w n) → (held_by b w ≡ Some k) × (n < length b.cells)
