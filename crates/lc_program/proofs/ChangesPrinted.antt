-- What is left of two reports that are compared.
use Rattle.std.proofs.Common.{◌≡◌, List, subst}
use Rattle.lc_arguments.specs.declared.diff.DiffRequest.{DiffRequest}
use Rattle.lc_changes.specs.{KeptChanges.AreKeptParts, declared.options.ChangeOptions.ChangeOptions}
use Rattle.lc_program.specs.Differences.{KeepsAsked, change_options}
use Rattle.lc_rows.specs.Kept.{IsKept}
use Rattle.lc_sheet.specs.{Conditions.ConditionModel, declared.table_options.Format.Format}
use Rattle.lc_walk.specs.declared.report.Report.{Report}

-- what is left of two reports, by what is equal to what is asked
pub keeps_asked : (d : DiffRequest) (old new : Report) (these those : List ConditionModel) (options : ChangeOptions) (other : Format)
    (a b kept_old kept_new : Report) → these ≡ d.conditions.items → those ≡ d.conditions.items → options ≡ change_options other d
    → IsKept these old a → IsKept those new b → AreKeptParts d.changes options.by.attributes a b kept_old kept_new
    → KeepsAsked d old new kept_old kept_new
keeps_asked d old new these those options other a b kept_old kept_new same alike asked first second kept = (
  a,
  b,
  subst (λ cs. IsKept cs old a) same first,
  subst (λ cs. IsKept cs new b) alike second,
  subst (λ (os : ChangeOptions). AreKeptParts d.changes os.by.attributes a b kept_old kept_new) asked kept,
)
