-- A comparison has the sums that tables of both reports show.
use Rattle.std.proofs.{Common.{◌≡◌, Bool, true, false, List, Option, sym, ◌∙◌, ap}, lemmas.Bool.{or_left, or_right}}
use Rattle.std.specs.Bool.{MatchBool}
use Rattle.lc_changes.proofs.{CountedOnce.counted_once, RowsCompared.{AddUpAlike, compared_as}}
use Rattle.lc_changes.specs.{Changes.{AreCompared, IsRowOf, changed_key}, Laws.TablesLaw, Merged.IsLineAt}
use Rattle.lc_changes.specs.declared.changed_row.ChangedRow.{ChangedRow}
use Rattle.lc_level.specs.Level.{FileLineModel}
use Rattle.lc_rows.proofs.{Folding.{AreAlike, alike_permuted, alike_sums}, RowLaws.moved}
use Rattle.lc_rows.specs.{RowKeys.{ShownRowModel, has_within, row_key, row_key_cmp, rows_within, sums_of_shown}, ShownRows.AreAddedUp}
use Rattle.lc_rows.specs.{ShownRows.{AreShown, parts_of}}
use Rattle.lc_sheet.specs.{Keys.are_all, declared.{column.Number.Number, table_options.Columns.Columns}}
use Rattle.lc_walk.specs.TallyRows.{TallyRowModel}

-- the sums and the keys of summed rows are those of their parts
summed_alike : (b : Bool) (parts summed : List ShownRowModel) → MatchBool b (summed ≡ parts) (AreAddedUp parts summed)
    → AddUpAlike parts summed
summed_alike true parts summed same = record {
  sums = λ keys. ap (λ rs. sums_of_shown (rows_within keys rs)) (sym same);
  present = λ keys. ap (has_within keys) (sym same);
}
summed_alike false parts summed adds_up = record { sums = λ keys. sym (adds_up.sums keys); present = λ keys. sym (adds_up.present keys) }

-- and so are those of shown rows
shown_alike : (by : Columns) (sort : Option Number) (rs : List TallyRowModel) (fs : List FileLineModel) (shown : List ShownRowModel)
    → AreShown by sort rs fs shown → AddUpAlike (parts_of by rs fs) shown
shown_alike by sort rs fs shown are =
    let alike : AreAlike are.0 shown = alike_permuted are.0 shown (moved sort are.0 shown are.2) in
    let summed = summed_alike (are_all by) (parts_of by rs fs) are.0 are.1 in
    record {
      sums = λ keys. summed.sums keys ∙ sym (alike_sums are.0 shown alike keys);
      present = λ keys. summed.present keys ∙ sym (alike.present keys);
    }

pub tables_law : TablesLaw
tables_law by sort old new olds news rows old_shown new_shown parts_compared =
    let compared : AreCompared olds news rows = compared_as _ _ olds news rows
    (shown_alike by sort old.rows.items old.files.items olds old_shown) (shown_alike by sort new.rows.items new.files.items news new_shown)
    parts_compared in
    let Is : ChangedRow → Type 0 = IsLineAt row_key row_key_cmp changed_key IsRowOf olds news in
    record {
      compared = compared;
      old_total = counted_once olds (λ r. r.old_sums) rows Is compared.each (λ r is. is.0)
          (λ keys there. compared.present keys ∙ or_left (has_within keys olds) (has_within keys news) there) compared.order;
      new_total = counted_once news (λ r. r.new_row.sums) rows Is compared.each (λ r is. is.1)
          (λ keys there. compared.present keys ∙ or_right (has_within keys olds) (has_within keys news) there) compared.order;
    }
