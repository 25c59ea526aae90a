-- The totals of a report are the sums of its rows and of its files.
use Rattle.std.proofs.Common.{rules, ◌≡◌, ℕ, ◌+◌, ◌-◌, ◌<◌, ◌==◌, Bool, true, false, not, cond, List, [], ◌∷◌, ◌++◌, length, map, get_or}
use Rattle.std.proofs.{Common.{refl, sym, ◌∙◌, ap, subst, arith, append_assoc, length-append, IsPermutation, Ok}, lemmas.Grind.common_steps}
use Rattle.std.proofs.lemmas.List.{get_or-append-add, get_or_append_left, Sorted.IsPermutation-map, Sums.{sum_by-cons, suffix_len_is}}
use Rattle.std.proofs.Math.Seq.{drop-append_seam}
use Rattle.std.specs.List.{AllByRecursion, after_last, filter, flat_map, sum_by}
use Rattle.lc_board.proofs.Weights.{each-append}
use Rattle.lc_glob.specs.{Bytes.slash, Path.path_in, Pieces.is_byte}
use Rattle.lc_level.specs.{Answers.{Item, Answers, name_of}, Filters.FiltersModel, Job.JobModel, Level.{Fate, counted, fate_of, fates_of}}
use Rattle.lc_level.specs.WellFormed.{IsWellFormed}
use Rattle.lc_level.proofs.WellFormed.{IsGoodName, Spread}
use Rattle.lc_tree.specs.Trees.{Listings, Contents}
use Rattle.lc_walk.proofs.{Joining.{tally_permuted, sums_permuted}, Levels.{level_keeps, well_formed_part}, PresentFaults.each_led}
use Rattle.lc_walk.proofs.{Classes.both_are_all, RowSums.same_sums, RowTrees.by_answers, Totals.same_totals}
use Rattle.lc_walk.specs.{Found.{Found, found_file, found_absent, found_at, found_by}, FoundReports.{IsReportOf, files_of, tallied_of}}
use Rattle.lc_walk.specs.{Key.same_key, ReportTotals.{ReportTotalsLaw, TotalsAddUp, counted_line}, Sums.{one_file, plus}, Tally.CountedFile}
use Rattle.lc_walk.specs.{Tally.{IsTally, files_with, key_of, sums_of_files}, TallyRows.{TallyRowModel, row_with, sums_of_rows}}
use Rattle.lc_walk.specs.{WalkOptions.{asked_by, top_of}, Walks.Walks, declared.tally.classes.ClassSums.ClassSums}
use Rattle.lc_walk.specs.declared.{options.{Options.Options, ReportLists.ReportLists}, report.Report.Report}

-- ---- the sums of a tally

-- a row of one file
abbrev row_of_file : CountedFile → TallyRowModel
row_of_file f = row_with (key_of f) (one_file f.count)

-- the sum over what a list is mapped to
pub sum_by-map : {X Y : Type 0} (v : Y → ℕ) (f : X → Y) (xs : List X) → sum_by v (map f xs) ≡ sum_by (λ x. v (f x)) xs
sum_by-map v f xs = grind (arith, common_steps, sum_by-cons)

-- what passes a test of what a list is mapped to
pub filter-map : {X Y : Type 0} (p : Y → Bool) (f : X → Y) (xs : List X) → filter p (map f xs) ≡ map f (filter (λ x. p (f x)) xs)
filter-map p f [] = refl
filter-map {X} p f (x ∷ xs) = grind (arith, common_steps, filter-map p f xs)

-- as many ones as elements
pub ones : {X : Type 0} (xs : List X) → sum_by (λ _. 1) xs ≡ length xs
ones [] = refl
ones (x ∷ xs) = let rest = ones xs in omega (arith, sum_by-cons (λ _. 1) x xs)

-- rows of one file each have the sums of the files
sums_of_ones : (fs : List CountedFile) → sums_of_rows (map row_of_file fs) ≡ sums_of_files fs
sums_of_ones fs = search (rules, arith, same_sums, sum_by-map, ones)

-- the rows of a tally have the sums of its files
pub tally_sums : (fs : List CountedFile) (rs : List TallyRowModel) → IsTally fs rs → sums_of_rows rs ≡ sums_of_files fs
tally_sums fs rs is =
    same_totals rs (map row_of_file fs)
    (λ k. is.sums k ∙ sym (ap sums_of_rows (filter-map (λ (r : TallyRowModel). same_key k r.key) row_of_file fs)
    ∙ sums_of_ones (files_with k fs)))
    ∙ sums_of_ones fs

-- ---- the names of files

-- whether a byte is no slash
abbrev in_name : ℕ → Bool
in_name b = not (is_byte slash b)

no_slash_at : (n : List ℕ) → AllByRecursion (λ b. (b == 47) ≡ false) n → (i : ℕ) → i < length n → in_name (get_or n i 0) ≡ true
no_slash_at n good i low = grind (arith, common_steps)

-- what is after the last slash, where some bytes end with a slash or are none
after_front : (front n : List ℕ) → AllByRecursion (λ b. (b == 47) ≡ false) n
    → (0 < length front → in_name (get_or (front ++ n) (length front - 1) 0) ≡ false) → after_last (is_byte slash) (front ++ n) ≡ n
after_front front n good ends = grind (arith, common_steps, length-append, suffix_len_is, get_or-append-add, no_slash_at, drop-append_seam)

after_path : (d n : List ℕ) → IsGoodName n → after_last (is_byte slash) (path_in d n) ≡ n
after_path [] n good = after_front [] n good.1 (λ some. absurd (omega arith))
after_path (b ∷ bs) n good =
    let front : List ℕ = (b ∷ bs) ++ slash ∷ [] in
    let whole : front ++ n ≡ path_in (b ∷ bs) n = append_assoc (b ∷ bs) (slash ∷ []) n in
    let long = length-append (b ∷ bs) (slash ∷ []) in
    let place : length (b ∷ bs) + 0 ≡ length front - 1 = omega arith in
    let ends : in_name (get_or (front ++ n) (length front - 1) 0) ≡ false =
    grind (arith, common_steps, get_or_append_left, get_or-append-add) in
    ap (after_last (is_byte slash)) (sym whole) ∙ after_front front n good.1 (λ some. ends)

-- ---- what a directory gives

-- the name of a file is what is after the last slash of its path
abbrev IsNamed : Found → Type 0
IsNamed (found_file directory f) = after_last (is_byte slash) (path_in directory f.path) ≡ f.path
IsNamed thing = Unit {0}

-- an entry that is counted has its name
abbrev HasName : List ℕ → Fate → Type 0
HasName n (counted f) = f.path ≡ n
HasName n fate = Unit {0}

item_has : (s : FiltersModel) (k : JobModel) (e : Item) → HasName (name_of e) (fate_of s k e)
item_has s k e = grind (arith, common_steps)

items_named : (s : FiltersModel) (k : JobModel) (d : List ℕ) (es : List Item) → Spread es
    → AllByRecursion IsNamed (flat_map (found_by d) (fates_of s k es))
items_named s k d [] spread = tt
items_named s k d (e ∷ es) spread = grind (arith, common_steps, each-append, after_path, item_has, items_named s k d es spread.2)

absent_named : (d : List ℕ) (rests : List (List ℕ)) → AllByRecursion IsNamed (map (found_absent d) rests)
absent_named d [] = tt
absent_named d (r ∷ rs) = (tt, absent_named d rs)

level_named : (s : FiltersModel) (j : JobModel) (a : Answers) → IsWellFormed a → AllByRecursion IsNamed (found_at s j a)
level_named s j a good = grind (arith, common_steps, level_keeps, each-append, absent_named, items_named, well_formed_part)

-- ---- the report

-- so the lines of files are what the tally counts
lines_counted : (xs : List Found) → AllByRecursion IsNamed xs → map counted_line (files_of xs) ≡ tallied_of xs
lines_counted [] named = refl
lines_counted (found_file d f ∷ xs) named = grind (arith, common_steps, lines_counted xs named.1)
lines_counted (thing ∷ xs) named = lines_counted xs named.1

-- the report of what has such names
pub report_adds_up : (lists : ReportLists) (xs : List Found) (r : Report) → AllByRecursion IsNamed xs → IsReportOf lists xs r
    → TotalsAddUp r
report_adds_up lists xs r named is =
    let moved : r.lists.files ≡ true → IsPermutation (tallied_of xs) (map counted_line r.files.items) =
    λ asked. subst (λ l. IsPermutation l (map counted_line r.files.items)) (lines_counted xs named)
    (IsPermutation-map counted_line (files_of xs) r.files.items
    (subst (λ b. IsPermutation (cond b (files_of xs) []) r.files.items) (sym (ap (λ (l : ReportLists). l.files) is.lists_are) ∙ asked)
    is.files_are)) in
    let rows : r.totals ≡ sums_of_rows r.rows.items = is.totals ∙ sym (tally_sums (tallied_of xs) r.rows.items is.tally) in record {
      rows = rows;
      classes = rows ∙ sym (both_are_all r.rows.items) ∙ ap (λ (c : ClassSums). plus c.text c.binary) (sym is.classes);
      files = λ asked. is.totals ∙ sums_permuted (tallied_of xs) (map counted_line r.files.items) (moved asked);
      tally = λ asked. tally_permuted r.rows.items (tallied_of xs) (map counted_line r.files.items) (moved asked) is.tally;
    }

-- a report of a walk has the lists that were asked for
pub walked_lists : (lists : List ℕ → Listings) (gives : List ℕ → Contents) (o : Options) (r : Report) → Walks lists gives o (Ok r)
    → r.lists ≡ o.lists
walked_lists lists gives o r w = ((by_answers lists gives o r w).report o.max_dirs (omega arith)).lists_are

pub report_totals_law : (lists : List ℕ → Listings) (gives : List ℕ → Contents) → ReportTotalsLaw lists gives
report_totals_law lists gives o r w =
    let by = by_answers lists gives o r w in
    let s : FiltersModel = (asked_by o).filters in
    report_adds_up o.lists _ r
    (each_led s (found_at s) IsNamed o.max_dirs (top_of o) by.answers
    (λ place k leads. level_named s k (by.answers place) (by.listings place k leads)))
    (by.report o.max_dirs (omega arith))
