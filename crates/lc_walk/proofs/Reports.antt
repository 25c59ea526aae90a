-- A report tells nothing of the order in which things were found.
use Rattle.std.proofs.{Common.{arith, Bool, cond, List, [], sym, ◌∙◌, IsPermutation}, lemmas.Grind.common_steps}
use Rattle.std.proofs.lemmas.List.Sorted.{IsPermutation-sym, IsPermutation-trans, length_permutation, sum_by-IsPermutation}
use Rattle.lc_walk.proofs.{Joining.{tally_permuted, sums_permuted}, MovedLists.lists_moved}
use Rattle.lc_walk.specs.FoundReports.{tallied_in, file_in, fault_in, directory_in, skipped_lines_in, entries_in, tallied_of, files_of}
use Rattle.lc_walk.specs.FoundReports.{directories_of, skipped_lines_of, ReportLaw}

cond_moved : {A : Type 0} (b : Bool) (xs ys : List A) → IsPermutation xs ys → IsPermutation (cond b xs []) (cond b ys [])
cond_moved b xs ys m = grind (arith, common_steps)

-- reports of what was found in any order are the same
pub report_law : ReportLaw
report_law lists xs ys r moved is =
    let counted = lists_moved tallied_in xs ys moved in
    record {
      lists_are = is.lists_are;
      tally = tally_permuted r.rows.items (tallied_of xs) (tallied_of ys) counted is.tally;
      columns = is.columns;
      classes = is.classes;
      totals = is.totals ∙ sums_permuted (tallied_of xs) (tallied_of ys) counted;
      directories =
          is.directories ∙ sym (length_permutation (directories_of xs) (directories_of ys) (lists_moved directory_in xs ys moved));
      entries = is.entries ∙ sym (sum_by-IsPermutation entries_in xs ys moved);
      files_are = IsPermutation-trans _ _ _ (IsPermutation-sym _ _
          (cond_moved lists.files (files_of xs) (files_of ys) (lists_moved file_in xs ys moved))) is.files_are;
      file_order = is.file_order;
      faults_are = IsPermutation-trans _ _ _ (IsPermutation-sym _ _ (lists_moved fault_in xs ys moved)) is.faults_are;
      fault_order = is.fault_order;
      skipped_are = IsPermutation-trans _ _ _ (IsPermutation-sym _ _
          (cond_moved lists.left_out (skipped_lines_of xs) (skipped_lines_of ys) (lists_moved skipped_lines_in xs ys moved)))
          is.skipped_are;
      skipped_order = is.skipped_order;
    }
