use Rattle.std.proofs.Common.{◌≡◌, map, take}
use Rattle.lc_arguments.specs.Reports.{named_of, report_model}
use Rattle.lc_arguments.proofs.reports.named.Given as goal

abbrev pub invariant-loop-word : goal.invariant-loop-word
invariant-loop-word l = map report_model l.reports.items ≡ map (λ word. named_of word.now) (take l.word-index l.words)
