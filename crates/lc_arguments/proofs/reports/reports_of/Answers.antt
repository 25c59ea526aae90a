use Rattle.std.proofs.{Common.{◌∙◌, ◌&&◌, ap₂, sym, List, ℕ}, lemmas.Simd.map-map}
use Rattle.std.specs.Borrow.{Bor}
use Rattle.lc_arguments.specs.Reports.{named_of}
use Rattle.lc_arguments.proofs.Misnaming.{none_wrong}
use Rattle.lc_arguments.proofs.reports.reports_of.Goals as goal

pub returns-in-Ok : goal.returns-in-Ok
returns-in-Ok c = (
  c.in-Ok.ensures ∙ sym (map-map named_of (λ (word : Bor (List ℕ)). word.now) c.args.words.now),
  ap₂ (λ a b. a && b) (none_wrong _ (rw c.in_default.is at c.first_bad.ensures.some))
      (none_wrong _ (rw c.in_default-second_input.is at c.second_input.ensures)),
)
