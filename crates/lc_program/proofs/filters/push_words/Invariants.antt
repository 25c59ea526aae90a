use Rattle.std.proofs.Common.{◌≡◌, ◌++◌, map, take}
use Rattle.lc_program.proofs.filters.push_words.Given as goal

abbrev pub invariant-loop-word : goal.invariant-loop-word
invariant-loop-word l =
    map (λ word. word.items) l.words.items
    ≡ map (λ word. word.items) l.initial.words.items ++ map (λ word. word.now) (take l.word-index l.without)
