-- The parts of two reports whose files are marked are those of the pairs that are kept.
use Rattle.std.proofs.{Common.{arith, ◌≡◌, ℕ, Bool, false, List}, lemmas.Grind.common_steps}
use Rattle.std.specs.{List.items_where_true}
use Rattle.lc_changes.proofs.Searching.{kept_by_marks}
use Rattle.lc_changes.specs.{FileChanges.FileChangeModel, KeptChanges.{AreKeptParts, AreMarked, files_of_pairs, marks_by}}
use Rattle.lc_level.specs.Level.{FileLineModel}
use Rattle.lc_rows.specs.Kept.{IsPartWith}
use Rattle.lc_sheet.specs.{ChangeKinds.are_all_changes, declared.change_kinds.ChangeKinds.ChangeKinds}
use Rattle.lc_walk.specs.declared.report.Report.{Report}

part_of_pairs : (pairs : List FileChangeModel) (r part : Report) (marks : List Bool) → marks ≡ marks_by pairs r.files.items
    → IsPartWith (items_where_true marks r.files.items) r part → IsPartWith (files_of_pairs pairs r.files.items) r part
part_of_pairs pairs r part marks are is = grind (arith, common_steps, kept_by_marks)

pub kept_parts : (kinds : ChangeKinds) (n : ℕ) (old new old_part new_part : Report) (olds news : List FileLineModel)
    (old_marks new_marks : List Bool) → false ≡ are_all_changes kinds → olds ≡ old.files.items → news ≡ new.files.items
    → AreMarked kinds n olds news old_marks new_marks → IsPartWith (items_where_true old_marks old.files.items) old old_part
    → IsPartWith (items_where_true new_marks new.files.items) new new_part → AreKeptParts kinds n old new old_part new_part
kept_parts kinds n old new old_part new_part olds news old_marks new_marks some of_old of_new are kept_old kept_new =
    grind (arith, common_steps, part_of_pairs)
