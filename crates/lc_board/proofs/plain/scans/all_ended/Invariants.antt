use Rattle.std.proofs.Common.{◌≡◌, ℕ, ◌++◌, map, slice_get}
use Rattle.std.specs.Vec.Iter.{into_iter_items}
use Rattle.lc_board.specs.PlainCalls.{cell_of, IsPending}
use Rattle.lc_board.proofs.plain.scans.all_ended.Given as goal

abbrev pub invariant-loop-cell : goal.invariant-loop-cell
invariant-loop-cell g l = record {
  so_far : map cell_of l.rows.items ++ into_iter_items l.cell-iterator ≡ l.fn.cells.items;
  ended : (k : ℕ) → ¬ IsPending (slice_get (into_iter_items l.cell-iterator) k);
}
