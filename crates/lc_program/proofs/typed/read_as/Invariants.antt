use Rattle.std.proofs.Common.{◌≡◌, map, take}
use Rattle.lc_program.proofs.typed.read_as.Given as goal

abbrev pub invariant-loop-word : goal.invariant-loop-word
invariant-loop-word g l = map (λ word. word.now) l.words.items ≡ map g.W.AsStr.text (take l.word-index l.typed)
