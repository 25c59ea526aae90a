-- Which comparisons are refused by what their sides are.
use Rattle.std.specs.Prelude.{◌≡◌, ◌⊎◌, ℕ, not, if◌then◌else◌, List, ◌++◌, Option, Some, None, is_some, option_map, Result, Ok, Err, codes}
use Rattle.lc_glob.specs.Lists.{is_empty}
use Rattle.lc_arguments.specs.declared.{diff.DiffRequest.DiffRequest, walk_request.WalkRequest.WalkRequest}
use Rattle.lc_program.specs.{Reasons.unexplained_line, ReportLines.{IsTold, origin_of}, Sides.IsSide}
use Rattle.lc_program.specs.declared.cause.Cause.{Cause, TheVariants.Memory}
use Rattle.lc_program.specs.declared.sides.Side.{Side, TheVariants.{Directory, Missing}}
use Rattle.lc_program.specs.declared.unread_reason.UnreadReason.{UnreadReason}
use Rattle.lc_text.specs.Visible.{visible_bytes}
use Rattle.lc_program.specs.declared.unread_reason.UnreadReason.TheVariants as reason

-- the words that say that both sides are reports
abbrev pub are_reports : List ℕ → List ℕ → List ℕ
are_reports old new = visible_bytes (origin_of old) ++ codes " and " ++ visible_bytes (origin_of new) ++ codes " are reports\n"

-- the line about an option that chooses files, where both sides of a comparison are reports
abbrev pub choice_line : List ℕ → List ℕ → List ℕ → List ℕ
choice_line option old new = codes "lc: " ++ option ++ codes " chooses files of a directory, and " ++ are_reports old new

-- the option of the command line that chooses files; of several, the first in this order, not in the order in which they were typed
abbrev pub first_choice : WalkRequest → Option (List ℕ)
first_choice w =
    if is_some w.filters.exclude_from then Some (codes "--exclude-from")
    else if is_some w.filters.attributes_from then Some (codes "--attributes-from")
    else if not (is_empty w.filters.exclude.items) then Some (codes "--exclude")
    else if not (is_empty w.filters.include.items) then Some (codes "--include")
    else if w.filters.no_ignore then Some (codes "--no-ignore")
    else if w.filters.archive then Some (codes "--archive")
    else if not (is_empty w.filters.without.items) then Some (codes "--without")
    else if not (is_empty w.only.items) then Some (codes "--only")
    else if is_some w.only_from then Some (codes "--only-from")
    else if w.one_file_system then Some (codes "--one-file-system")
    else None

-- the lines that say that a side is missing, and how commits are compared
abbrev pub missing_lines : List ℕ → List ℕ
missing_lines old =
    unexplained_line old (Some reason.Missing)
    ++ codes "lc: to compare a commit: git worktree add --detach ../old COMMIT && lc diff ../old .\n"

-- why a comparison of what these sides are is refused, as lines: nothing has the name of either; or an option chooses files, and neither
-- is a directory
abbrev pub refusal_of : WalkRequest → List ℕ → List ℕ → Side × Side → Option (List ℕ)
refusal_of w old new (Missing, Missing) = Some (missing_lines old)
refusal_of w old new (Directory, other) = None
refusal_of w old new (other, Directory) = None
refusal_of w old new sides = option_map (λ option. choice_line option old new) (first_choice w)

-- a comparison is refused with these lines, or is not
abbrev pub AnswersRefusal : Option (List ℕ) → Result (Unit {0}) Cause → Type 0
AnswersRefusal None (Ok _) = Unit {0}
AnswersRefusal None (Err cause) = ⊥
AnswersRefusal (Some lines) (Ok _) = ⊥
AnswersRefusal (Some lines) (Err cause) = IsTold lines cause

module _ (may_unlist : List ℕ → Option UnreadReason → Type 0) (d : DiffRequest) where
  -- what the sides of a comparison are, by the system's answers
  abbrev pub AreSides : Side × Side → Type 0
  AreSides sides = IsSide may_unlist d.old.now sides.0 × IsSide may_unlist d.new.now sides.1

  -- the sides are accepted; or the comparison is refused, or an allocation fails
  abbrev pub AcceptsSides : Result (Side × Side) Cause → Type 0
  AcceptsSides (Ok sides) = AreSides sides × (refusal_of d.walk d.old.now d.new.now sides ≡ None)
  AcceptsSides (Err cause) =
      ((sides : Side × Side) × (lines : List ℕ) × AreSides sides × (refusal_of d.walk d.old.now d.new.now sides ≡ Some lines)
      × IsTold lines cause)
      ⊎ (cause ≡ Memory)
