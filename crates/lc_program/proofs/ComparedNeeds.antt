-- What a comparison needs of its sides.
use Rattle.std.proofs.Common.{◌≡◌, ◌||◌, ℕ, Bool, true, false, not, List, Result, refl, subst₂, ap, ◌∙◌}
use Rattle.lc_arguments.specs.declared.{diff.DiffRequest.DiffRequest, walk_request.WalkRequest.WalkRequest}
use Rattle.lc_changes.specs.ChangeSheets.{needs_files}
use Rattle.lc_io.specs.Reads.{Answer}
use Rattle.lc_program.specs.{Differences.{change_options, compared_columns, compared_needs}, Sides.GivesSides, Systems.SystemMay}
use Rattle.lc_program.specs.declared.{cause.Cause.Cause, sides.Side.Side}
use Rattle.lc_sheet.specs.{ChangeKinds.are_all_changes, Keys.are_of_files, declared.table_options.Format.Format}
use Rattle.lc_reports.specs.declared.needs.Needs.{Needs}
use Rattle.lc_walk.specs.declared.{options.Options.Options, report.Report.Report}
use Rattle.lc_sheet.specs.Conditions as condition

either : (a b c d : Bool) → (a || b) ≡ true → ((a || d) || b || c) ≡ true
either true b c d is = refl
either false true c true is = refl
either false true c false is = refl
either false false c d is = absurd (cc)

-- where a comparison shows files, each side must list them
pub files_needed : (other : Format) (d : DiffRequest) (needs : Needs) → needs ≡ compared_needs d
    → needs_files (change_options other d) ≡ true → needs.files ≡ true
files_needed other d needs is asked =
    ap (λ (n : Needs). n.files) is
    ∙ either d.table.files (are_of_files (compared_columns d.table)) (condition.needs_files d.conditions.items)
    (not (are_all_changes d.changes)) asked

-- sides that were given by what a comparison needs
pub sides_given : (may : SystemMay) {I : Type 0} (may_give : I → ℕ → Answer → I → Type 0) (w : WalkRequest) (o : Options)
    (sides : Side × Side) (attributes names : List (List ℕ)) (needs needed : Needs) (old new : List ℕ) (input : I)
    (answer : Result (Report × Report) Cause) (read : I) → attributes ≡ names → needs ≡ needed
    → GivesSides may may_give w o attributes needs sides old new input answer read
    → GivesSides may may_give w o names needed sides old new input answer read
sides_given may may_give w o sides attributes names needs needed old new input answer read are is given =
    subst₂ (λ as_named n. GivesSides may may_give w o as_named n sides old new input answer read) are is given
