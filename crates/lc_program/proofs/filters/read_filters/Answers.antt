use Rattle.std.proofs.Common.{◌≡◌, ℕ, List, Option, Result, Ok, Err, inl, inr}
use Rattle.std.specs.Result.{IsErrAnd}
use Rattle.lc_arguments.specs.declared.filter_request.FilterRequest.{FilterRequest}
use Rattle.lc_level.specs.Filters.{FiltersModel}
use Rattle.lc_level.specs.declared.rule_files.rule_text.RulesFileFault.TheVariants as fault
use Rattle.lc_tree.specs.Trees.{Contents}
use Rattle.lc_program.specs.Filters.{AnswersFilters}
use Rattle.lc_program.specs.declared.{cause.Cause.{Cause, TheVariants.Memory}, unread_reason.UnreadReason.UnreadReason}
use Rattle.lc_program.proofs.filters.read_filters.Goals as goal

-- memory may be refused at any time
refused : (holds : List ℕ → Contents) (may_unread : List ℕ → Option UnreadReason → Type 0) (asked : FilterRequest)
    (names : List (List ℕ)) (answer : Result FiltersModel Cause) → IsErrAnd answer (λ cause. cause ≡ Memory)
    → AnswersFilters holds may_unread asked names answer
refused holds may_unread asked names (Ok f) is = absurd is
refused holds may_unread asked names (Err cause) is = inr (inr (inl (fault.Memory, tt, is)))

pub returns-in_err-without : goal.returns-in_err-without
returns-in_err-without g c =
    refused (g.Y.System.holds c.args.system.now) (g.Y.System.unreads c.args.system.now) c.args.asked.now
    _ c.from_residual-in_err-without.result c.from_residual-in_err-without.ensures.1

pub returns-in_err-names : goal.returns-in_err-names
returns-in_err-names g c =
    refused (g.Y.System.holds c.args.system.now) (g.Y.System.unreads c.args.system.now) c.args.asked.now
    _ c.from_residual-in_err-names.result c.from_residual-in_err-names.ensures.1
