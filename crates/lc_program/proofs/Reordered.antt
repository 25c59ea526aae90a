-- Reports whose files are in another order.
use Rattle.std.proofs.{Common.{List, Option, Some, None, Vec, refl, subst, sym, IsPermutation}, lemmas.List.Sorted.IsPermutation-refl}
use Rattle.std.specs.Global.{Global}
use Rattle.lc_level.specs.Level.{FileLineModel}
use Rattle.lc_rows.specs.ShownFiles.{AreFilesSorted}
use Rattle.lc_sheet.specs.declared.column.Number.{Number}
use Rattle.lc_walk.specs.declared.report.Report.{Report}
use Rattle.lc_program.specs.ReportTexts.{IsReordered}

-- sorting files orders them anew
sorted_anew : (sort : Option Number) (files sorted : List FileLineModel) → AreFilesSorted sort files sorted → IsPermutation files sorted
sorted_anew None files sorted same = subst (IsPermutation files) (sym same) (IsPermutation-refl files)
sorted_anew (Some n) files sorted is = is.0

-- so a report is reordered whose files are sorted
pub reordered_by : (sort : Option Number) (r : Report) (files : Vec FileLineModel Global) → AreFilesSorted sort r.files.items files.items
    → IsReordered r (record r { files = files })
reordered_by sort r files sorted = record { files = sorted_anew sort r.files.items files.items sorted; rest = refl }
