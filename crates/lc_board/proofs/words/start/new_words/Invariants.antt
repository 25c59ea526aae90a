use Rattle.std.proofs.Common.{◌≡◌, ◌∷◌, replicate}
use Rattle.lc_board.proofs.words.start.new_words.Given as goal

abbrev pub invariant-loop : goal.invariant-loop
invariant-loop l = l.row.items ≡ 1 ∷ replicate l.counter 0
