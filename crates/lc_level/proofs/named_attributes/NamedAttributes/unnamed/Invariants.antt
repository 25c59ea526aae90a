use Rattle.std.proofs.Common.{map, take}
use Rattle.lc_level.specs.{NamedAttributes.AreSomeAttributes, declared.named_attributes.NotedWord.NotedWord}
use Rattle.lc_level.proofs.named_attributes.NamedAttributes.unnamed.Given as goal

abbrev pub invariant-loop-word : goal.invariant-loop-word
invariant-loop-word l =
    AreSomeAttributes (map (λ (w : NotedWord). w.attribute.items) (take l.word-index l.word-items)) l.unnamed.items
