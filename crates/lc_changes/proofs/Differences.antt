-- Changes are from the old number to the new one.
use Rattle.std.proofs.{Common.{arith, ◌≡◌, Option, Some, None, refl}, lemmas.Grind.common_steps}
use Rattle.lc_changes.specs.{FileChanges.side_number, ChangeValues.value_or, Laws.DifferencesLaw}
use Rattle.lc_level.specs.Level.{FileLineModel}
use Rattle.lc_sheet.specs.{Conditions.number_of, Values.missing, declared.{column.Number.Number, form.Form.Form}}
use Rattle.lc_sheet.specs.declared.column.Column.TheVariants as column

number_of_side : (form : Form) (file : Option FileLineModel) (n : Number)
    → side_number n file ≡ number_of (value_or missing form file (column.Number n))
number_of_side form None n = refl
number_of_side form (Some f) n = refl

pub differences_law : DifferencesLaw
differences_law = grind (arith, common_steps, number_of_side)
