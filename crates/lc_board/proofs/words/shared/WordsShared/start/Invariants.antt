use Rattle.std.proofs.Common.{◌≡◌, ℕ, [], Some, slice_get, vec_len}
use Rattle.lc_board.specs.{Pass.new_pass, WordsBoard.{Owns, known, told}}
use Rattle.lc_board.proofs.words.shared.WordsShared.start.Given as goal

abbrev pub invariant-loop-worker : goal.invariant-loop-worker
invariant-loop-worker g l =
    (vec_len l.passes ≡ l.worker)
    × ((w : ℕ) (p : _) → slice_get l.passes.items w ≡ Some p → Owns l.board p × (told p ≡ new_pass w) × ((known p).seen ≡ []))
    × ((p : _) → slice_get l.passes.items 0 ≡ Some p → ((known p).made ≡ l.worker) × ((known p).workers ≡ l.fn.workers))
