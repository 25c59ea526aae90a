use Rattle.std.proofs.Common.{◌≡◌, ℕ, ◌<◌, slice_get, Some}
use Rattle.lc_board.specs.declared.answers.Ended.{Ended}
use Rattle.lc_walk.specs.{Rows.row_of, Assembled.IsBrokenBy, declared.row.Row.Row}
use Rattle.lc_walk.proofs.report.assembly.some_broken.Given as goal

abbrev pub invariant-loop-at : goal.invariant-loop-at
invariant-loop-at l = (i : ℕ) (e : Ended Row) → i < l.at → slice_get l.rows i ≡ Some e → IsBrokenBy l.cause (row_of e) → ⊥
