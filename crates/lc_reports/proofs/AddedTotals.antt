-- The totals of joined reports, and of named ones, are the sums over their rows and over their files.
use Rattle.std.proofs.Common.{◌≡◌, ℕ, ◌<◌, Bool, true, false, ◌&&◌, List, [], ◌∷◌, ◌++◌, map, refl, sym, ◌∙◌, ap, ap₂, subst, arith, All}
use Rattle.std.proofs.{Common.{IsPermutation, length}, lemmas.List.{map-append, Concat.flat_map-cons, Elements.{All-head, All-tail}}}
use Rattle.std.proofs.lemmas.List.Sorted.{IsPermutation-map}
use Rattle.std.specs.List.{after_last, list_all}
use Rattle.lc_glob.specs.{Bytes.slash, Pieces.is_byte}
use Rattle.lc_level.specs.Level.{FileLineModel}
use Rattle.lc_reports.proofs.{NamedPaths.last_after, NumbersInTurn.{binary_cons, text_cons, totals_cons}}
use Rattle.lc_reports.specs.Joined.{all_binary, all_files, all_rows, all_text, all_totals, if_wanted}
use Rattle.lc_reports.specs.Laws.{HasPath, JoinTotalsLaw, NameTotalsLaw}
use Rattle.lc_reports.specs.Named.{named_file, named_path}
use Rattle.lc_walk.proofs.{Joining.{stands_both, stands_none, sums_permuted, tally_added_up, tally_permuted}, RowSums.{has_same, same_sums}}
use Rattle.lc_walk.proofs.{RowSums.sums_of_both, Totals.same_totals}
use Rattle.lc_walk.specs.{Extension.extension_of, ReportTotals.{TotalsAddUp, counted_line}, Sums.{no_files, plus}, Tally.CountedFile}
use Rattle.lc_walk.specs.{Tally.{IsTally, StandsFor, TallyModel, counted, sums_of_files}, TallyRows.{TallyRowModel, sums_of_rows}}
use Rattle.lc_walk.specs.declared.{options.ReportLists.ReportLists, report.Report.Report}
use Rattle.lc_walk.specs.declared.tally.{classes.ClassSums.ClassSums, sums.Sums.Sums}

-- the totals of all are the sums over the rows of all
rows_total : (rs : List Report) → All TotalsAddUp rs → all_totals rs ≡ sums_of_rows (all_rows rs)
rows_total [] all = refl
rows_total (r ∷ rs) all =
    totals_cons r rs ∙ ap₂ plus (All-head TotalsAddUp r rs all).rows (rows_total rs (All-tail TotalsAddUp r rs all))
    ∙ sym (sums_of_both r.rows.items (all_rows rs)) ∙ ap sums_of_rows (sym (flat_map-cons (λ (x : Report). x.rows.items) r rs))

-- and over their text and over their binary files
classes_total : (rs : List Report) → All TotalsAddUp rs → all_totals rs ≡ plus (all_text rs) (all_binary rs)
classes_total [] all = refl
classes_total (r ∷ rs) all =
    totals_cons r rs ∙ ap₂ plus (All-head TotalsAddUp r rs all).classes (classes_total rs (All-tail TotalsAddUp r rs all))
    ∙ crossed r.classes.text r.classes.binary (all_text rs) (all_binary rs) ∙ sym (ap₂ plus (text_cons r rs) (binary_cons r rs))
  where
    crossed : (a b c d : Sums) → plus (plus a b) (plus c d) ≡ plus (plus a c) (plus b d)
    crossed a b c d = same_sums _ _ (omega arith) (omega arith) (omega arith) (omega arith)

-- ---- where each lists its files

abbrev counted_files : List Report → List CountedFile
counted_files rs = map counted_line (all_files rs)

abbrev tally_model : List TallyRowModel → Sums → TallyModel
tally_model rows totals = record { rows = rows; totals = totals }

-- the rows of all, before they are added up, stand for the files of all
stand_for_all : (rs : List Report) → All TotalsAddUp rs → list_all (λ (r : Report). r.lists.files) rs ≡ true
    → StandsFor (tally_model (all_rows rs) (all_totals rs)) (counted_files rs)
stand_for_all [] all listed = stands_none [] no_files refl refl
stand_for_all (r ∷ rs) all listed =
    let own = All-head TotalsAddUp r rs all in
    let first_listed = left_of r.lists.files (list_all (λ (x : Report). x.lists.files) rs) listed in
    let rest_listed = right_of r.lists.files (list_all (λ (x : Report). x.lists.files) rs) listed in
    let tally = own.tally first_listed in
    let first : StandsFor (tally_model r.rows.items r.totals) (map counted_line r.files.items) =
    record { sums = tally.sums; filled = tally.filled; totals = own.files first_listed } in
    let rest = stand_for_all rs (All-tail TotalsAddUp r rs all) rest_listed in
    let rows : Report → List TallyRowModel = λ x. x.rows.items in
    let files : Report → List FileLineModel = λ x. x.files.items in
    subst (λ (l : List TallyRowModel). StandsFor (tally_model l (all_totals (r ∷ rs))) (counted_files (r ∷ rs)))
    (sym (flat_map-cons rows r rs))
    (subst (StandsFor (tally_model (r.rows.items ++ all_rows rs) (all_totals (r ∷ rs))))
    (sym (ap (map counted_line) (flat_map-cons files r rs) ∙ map-append counted_line r.files.items (all_files rs)))
    (stands_both (tally_model r.rows.items r.totals) (tally_model (all_rows rs) (all_totals rs))
    (tally_model (r.rows.items ++ all_rows rs) (all_totals (r ∷ rs))) (map counted_line r.files.items) (counted_files rs)
    (has_same (r.rows.items ++ all_rows rs)) (totals_cons r rs) first rest))
  where
    left_of : (a b : Bool) → (a && b) ≡ true → a ≡ true
    left_of true b e = refl
    left_of false b e = absurd (cc)

    right_of : (a b : Bool) → (a && b) ≡ true → b ≡ true
    right_of true b e = e
    right_of false b e = absurd (cc)

pub join_totals : JoinTotalsLaw
join_totals rs r all is =
    let files_of_all : r.lists.files ≡ true → IsPermutation (counted_files rs) (map counted_line r.files.items) =
    λ listed. IsPermutation-map counted_line (all_files rs) r.files.items
    (subst (λ b. IsPermutation (if_wanted b (all_files rs)) r.files.items) listed is.files) in
    let stood : r.lists.files ≡ true → StandsFor (tally_model (all_rows rs) (all_totals rs)) (counted_files rs) =
    λ listed. stand_for_all rs all (sym (ap (λ (l : ReportLists). l.files) is.lists) ∙ listed) in
    record {
      rows = is.totals ∙ rows_total rs all ∙ sym (same_totals r.rows.items (all_rows rs) is.rows.same.sums);
      classes = is.totals ∙ classes_total rs all ∙ sym (ap₂ plus is.text is.binary);
      files = λ listed. is.totals ∙ (stood listed).totals
          ∙ sums_permuted (counted_files rs) (map counted_line r.files.items) (files_of_all listed);
      tally = λ listed. tally_permuted r.rows.items (counted_files rs) (map counted_line r.files.items) (files_of_all listed)
          (tally_added_up (tally_model (all_rows rs) (all_totals rs)) r.rows.items (counted_files rs) is.rows (stood listed));
    }

-- ---- below a name

-- the name of a file is the same
kept_name : (name : List ℕ) (b : ℕ) (bs : List ℕ)
    → after_last (is_byte slash) (named_path name (b ∷ bs)) ≡ after_last (is_byte slash) (b ∷ bs)
kept_name name b bs = last_after name slash (b ∷ bs) refl

same_line : (name : List ℕ) (f : FileLineModel) → 0 < length f.path → counted_line (named_file name f) ≡ counted_line f
same_line name f long = at f.path long
  where
    at : (path : List ℕ) → 0 < length path
        → counted (extension_of (after_last (is_byte slash) (named_path name path))) f.text f.count
        ≡ counted (extension_of (after_last (is_byte slash) path)) f.text f.count
    at [] long = absurd (omega arith)
    at (b ∷ bs) long = ap (λ n. counted (extension_of n) f.text f.count) (kept_name name b bs)

same_counted : (name : List ℕ) (fs : List FileLineModel) → All HasPath fs
    → map counted_line (map (named_file name) fs) ≡ map counted_line fs
same_counted name [] all = refl
same_counted name (f ∷ fs) all =
    ap₂ (λ x xs. x ∷ xs) (same_line name f (All-head HasPath f fs all)) (same_counted name fs (All-tail HasPath f fs all))

pub name_totals : NameTotalsLaw
name_totals name r named have adds is =
    let same : map counted_line named.files.items ≡ map counted_line r.files.items = ap (map counted_line) is.files
    ∙ same_counted name r.files.items have in
    let listed : named.lists.files ≡ true → r.lists.files ≡ true = λ e. sym (ap (λ (l : ReportLists). l.files) is.lists) ∙ e in
    record {
      rows = is.totals ∙ adds.rows ∙ ap sums_of_rows (sym is.rows);
      classes = is.totals ∙ adds.classes ∙ ap (λ (c : ClassSums). plus c.text c.binary) (sym is.classes);
      files = λ e. is.totals ∙ adds.files (listed e) ∙ ap sums_of_files (sym same);
      tally = λ e. subst (λ l. IsTally l named.rows.items) (sym same) (subst (IsTally (map counted_line r.files.items)) (sym is.rows)
          (adds.tally (listed e)));
    }
