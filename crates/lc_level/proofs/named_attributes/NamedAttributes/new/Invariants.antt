use Rattle.std.proofs.Common.{◌≡◌, take}
use Rattle.lc_level.specs.NamedAttributes.{attributes_of, noted}
use Rattle.lc_level.proofs.named_attributes.NamedAttributes.new.Given as goal

abbrev pub invariant-loop-word : goal.invariant-loop-word
invariant-loop-word l = noted record { words = l.noted } ≡ attributes_of (take l.word-index l.words)
