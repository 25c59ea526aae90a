use Rattle.std.proofs.Common.{◌≡◌, ℕ, Some, slice_get, vec_len}
use Rattle.lc_board.specs.{Pass.new_pass, Notes.mine_of}
use Rattle.lc_board.proofs.locked.LockedShared.start.Given as goal

abbrev pub invariant-loop-worker : goal.invariant-loop-worker
invariant-loop-worker g l =
    (vec_len l.passes ≡ l.worker)
    × ((k : ℕ) (p : _) → slice_get l.passes.items k ≡ Some p
    → record { worker = p.worker; mine = mine_of p.notes.items; full = p.full; refused = p.refused } ≡ new_pass k)
