use Rattle.std.proofs.Common.{◌≤◌, ◌+◌, drop, length}
use Rattle.lc_rows.proofs.Above.{IsRaised}
use Rattle.lc_rows.proofs.directory_tree.all_levels.Given as goal

abbrev pub invariant-levels : goal.invariant-levels
invariant-levels l =
    IsRaised l.depth l.rows l.all.items l.raised.items (drop l.done l.rows) l.left × (l.done ≤ length l.rows) × (l.left ≤ l.depth + 1)

abbrev pub decreases-levels : goal.decreases-levels
decreases-levels l = l.left
