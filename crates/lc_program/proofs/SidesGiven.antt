-- Sides of a comparison that have a report, or none.
use Rattle.std.proofs.Common.{◌≡◌, ℕ, Bool, true, false, List, [], Result, Ok, Err, inl, inr, subst, sym, ◌∙◌}
use Rattle.lc_arguments.specs.declared.{diff.DiffRequest.DiffRequest, walk_request.WalkRequest.WalkRequest}
use Rattle.std.specs.{Prelude.{◌⊎◌, Option, Some, None}, Result.IsErrAnd}
use Rattle.lc_io.specs.Reads.{Answer}
use Rattle.lc_level.specs.FaultLines.{FaultLineModel}
use Rattle.lc_program.specs.Choices.{AcceptsSides, AnswersRefusal, AreSides, refusal_of}
use Rattle.lc_program.specs.{Faults.has_path, LanguageColumns.HasLanguages, Reasons.unexplained_line, ReportFiles.Refuses}
use Rattle.lc_program.specs.{ReportLines.IsTold, Sides.CountsSide}
use Rattle.lc_program.specs.{Sides.{GivesSide, GivesSides, ReadsSide}, Systems.SystemMay, WalkRequests.entered_by}
use Rattle.lc_program.specs.declared.{cause.Cause.{Cause, TheVariants.Memory}, sides.Side.Side, unread_reason.UnreadReason.UnreadReason}
use Rattle.lc_reports.specs.declared.needs.Needs.{Needs}
use Rattle.lc_tree.specs.declared.file_systems.FileSystems.{FileSystems}
use Rattle.lc_walk.specs.{Walks.Walks, declared.{options.Options.Options, report.Report.Report}}

module _ (may : SystemMay) (w : WalkRequest) (o : Options) (columns : List (List ℕ)) (name : List ℕ) (entered : FileSystems)
    (is : entered ≡ entered_by w) where
  -- a directory that was listed
  pub side_counted : (r s : Report) (path : List ℕ) (faults : List FaultLineModel) (has : Bool)
      → Walks (may.list name entered) (may.give name entered) o (Ok r) → has ≡ has_path path faults → has ≡ false → path ≡ []
      → faults ≡ r.faults.items → HasLanguages columns r s → CountsSide may w o columns name (Ok s)
  side_counted r s path faults has walked says is_false empty are languages = (
    r,
    subst (λ e. Walks (may.list name e) (may.give name e) o (Ok r)) is walked,
    subst (λ fs. has_path [] fs ≡ false) are (subst (λ p. has_path p faults ≡ false) empty (sym says ∙ is_false)),
    languages,
  )

  -- one that was not, for a reason that is told unless an allocation fails
  pub side_unlisted : (r : Report) (path : List ℕ) (faults : List FaultLineModel) (has : Bool) (cause : Cause)
      → Walks (may.list name entered) (may.give name entered) o (Ok r) → has ≡ has_path path faults → has ≡ true → path ≡ []
      → faults ≡ r.faults.items
      → (((why : Option UnreadReason) × may.unlist name why × IsTold (unexplained_line name why) cause) ⊎ (cause ≡ Memory))
      → CountsSide may w o columns name (Err cause)
  side_unlisted r path faults has cause walked says is_true empty are told =
      inr (inl (
        r,
        subst (λ e. Walks (may.list name e) (may.give name e) o (Ok r)) is walked,
        subst (λ fs. has_path [] fs ≡ true) are (subst (λ p. has_path p faults ≡ true) empty (sym says ∙ is_true)),
        told,
      ))

-- reports that were not read
module _ (may : SystemMay) {I : Type 0} (may_give : I → ℕ → Answer → I → Type 0) (attributes : List (List ℕ)) (needs : Needs)
    (name : List ℕ) (input read : I) where
  pub side_unread : (answer : Result Report Cause) (cause : Cause) → IsErrAnd answer (λ given. given ≡ cause)
      → Refuses may_give may.hold may.unread attributes (None, name) input cause read ⊎ (cause ≡ Memory)
      → ReadsSide may may_give attributes needs name input answer read
  side_unread (Ok r) cause is refused = absurd is
  side_unread (Err given) cause is refused =
      subst (λ c. ReadsSide may may_give attributes needs name input (Err c) read) (sym is) (inl refused)

-- sides of which one has no report
module _ (may : SystemMay) {I : Type 0} (may_give : I → ℕ → Answer → I → Type 0) (w : WalkRequest) (o : Options)
    (attributes : List (List ℕ)) (needs : Needs) (sides : Side × Side) (old new : List ℕ) (input read : I) where
  pub old_missing : (answer : Result (Report × Report) Cause) (cause : Cause) → IsErrAnd answer (λ given. given ≡ cause)
      → GivesSide may may_give w o attributes needs sides.0 old input (Err cause) read
      → GivesSides may may_give w o attributes needs sides old new input answer read
  old_missing (Ok both) cause is none = absurd is
  old_missing (Err given) cause is none =
      subst (λ c. GivesSides may may_give w o attributes needs sides old new input (Err c) read) (sym is) (inl none)

  pub new_missing : (answer : Result (Report × Report) Cause) (cause : Cause) (r : Report) (between : I)
      → IsErrAnd answer (λ given. given ≡ cause) → GivesSide may may_give w o attributes needs sides.0 old input (Ok r) between
      → GivesSide may may_give w o attributes needs sides.1 new between (Err cause) read
      → GivesSides may may_give w o attributes needs sides old new input answer read
  new_missing (Ok both) cause r between is first none = absurd is
  new_missing (Err given) cause r between is first none =
      subst (λ c. GivesSides may may_give w o attributes needs sides old new input (Err c) read) (sym is) (inr (r, between, first, none))

-- what the sides are decides whether a comparison is refused
module _ (may_unlist : List ℕ → Option UnreadReason → Type 0) (d : DiffRequest) (sides : Side × Side)
    (are : AreSides may_unlist d sides) where
  pub sides_refused : (answer : Result (Side × Side) Cause) (cause : Cause) (refusal : Option (List ℕ))
      → refusal_of d.walk d.old.now d.new.now sides ≡ refusal → IsErrAnd answer (λ given. given ≡ cause)
      → AnswersRefusal refusal (Err cause) → AcceptsSides may_unlist d answer
  sides_refused (Ok both) cause refusal is passed refused = absurd passed
  sides_refused (Err given) cause None is passed refused = absurd refused
  sides_refused (Err given) cause (Some lines) is passed refused =
      inl (sides, lines, are, is, subst (IsTold lines) (sym passed) refused)

  pub sides_accepted : (refusal : Option (List ℕ)) → refusal_of d.walk d.old.now d.new.now sides ≡ refusal
      → AnswersRefusal refusal (Ok tt) → AcceptsSides may_unlist d (Ok sides)
  sides_accepted None is accepted = (are, is)
  sides_accepted (Some lines) is accepted = absurd accepted
