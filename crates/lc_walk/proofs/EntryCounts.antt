-- The entries of listed directories are what a walk finds.
use Rattle.std.proofs.Common.{rules, ◌≡◌, ◌≢◌, ℕ, suc, ◌+◌, ◌≤◌, List, [], ◌∷◌, ◌++◌, length, map, true, ap, subst, arith, refl}
use Rattle.std.proofs.{Common.{length-append, IsPermutation, zero}, lemmas.Grind.common_steps}
use Rattle.std.proofs.lemmas.List.{length-map, Sorted.length_permutation, Sums.{sum_by-append, sum_by-cons}}
use Rattle.std.specs.List.{flat_map, Contains, AllByRecursion}
use Rattle.lc_glob.specs.Path.{path_in}
use Rattle.lc_level.specs.{Answers.{Item, Answers, Tree}, Job.JobModel, Level.{Fate, counted, failed, walked, Level}}
use Rattle.lc_level.specs.{Level.{faulted_level, listed_level, level, walked_in, fates_of}, Narrowing.{absent_from, paths_in, part_of}}
use Rattle.lc_level.specs.{FaultLines.FaultLineModel, Filters.FiltersModel, declared.fault_word.FaultWord.TheVariants.Absent}
use Rattle.lc_level.specs.RuleFiles.{extended}
use Rattle.lc_tree.specs.Trees.{Listings, Contents}
use Rattle.lc_walk.specs.{Accounts.{absent_line, IsAccounted, EntriesLaw}, Found.{Found, found_file, found_fault, found_directory}}
use Rattle.lc_walk.specs.{Found.{found_absent, found_by, found_of, found_at, children_at, children_of}, RecursiveWalk.walks_below}
use Rattle.lc_walk.specs.{RecursiveWalk.{walk_by, walk_of}, WalkOptions.{asked_by, top_of}, FoundReports.{tallied_in, directory_in}}
use Rattle.lc_walk.specs.FoundReports.{skipped_lines_in, tallied_of, faults_of, directories_of, skipped_lines_of, entry_count, IsReportOf}
use Rattle.lc_walk.specs.{FoundReports.entries_in, declared.{options.ReportLists.ReportLists, report.Report.Report}}
use Rattle.lc_walk.proofs.{Levels.level_keeps, AbsentPaths.absent_asked, Elements.{In, contains}, Listings.no_entries_within}
use Rattle.lc_walk.proofs.{Listings.{no_entries_absent, after_absent}, PresentFaults.{IsOther, IsFineFate, IsFineLevel, level_fine}}
use Rattle.lc_walk.proofs.{PresentFaults.each_led, Reports.report_law, RowTrees.by_answers, WalkParts.{walk_splits, walk_maps, walk_grows}}

-- each entry is found, or is a child directory
each_fate : (d : List ℕ) (fates : List (List ℕ × Fate)) → length (flat_map (found_by d) fates) + length (walked_in fates) ≡ length fates
each_fate d [] = refl
each_fate d ((name, counted file) ∷ fates) = omega (arith, each_fate d fates)
each_fate d ((name, fate) ∷ fates) = omega (arith, each_fate d fates)

-- the paths that are absent of a directory
abbrev absent_of : JobModel → Level → List (List ℕ)
absent_of j (faulted_level path word) = []
absent_of j (listed_level fates absent) = map (path_in j.path) absent

-- what is found of it beside them
abbrev own_of : JobModel → Level → List Found
own_of j (faulted_level path word) = found_fault path word ∷ []
own_of j (listed_level fates absent) = found_directory j.path (length fates) ∷ flat_map (found_by j.path) fates

-- a fault of what is there
abbrev IsPresent : Found → Type 0
IsPresent (found_fault path word) = IsOther word
IsPresent thing = Unit {0}

present_by : (d : List ℕ) (fates : List (List ℕ × Fate)) → AllByRecursion (λ f. IsFineFate f.1) fates
    → AllByRecursion IsPresent (flat_map (found_by d) fates)
present_by d [] fine = tt
present_by d ((name, failed word) ∷ fates) fine = (fine.0, present_by d fates fine.1)
present_by d ((name, walked job) ∷ fates) fine = present_by d fates fine.1
present_by d ((name, fate) ∷ fates) fine = (tt, present_by d fates fine.1)

own_present : (j : JobModel) (l : Level) → IsFineLevel l → AllByRecursion IsPresent (own_of j l)
own_present j l fine = grind (arith, common_steps, present_by)

-- and so are the lines of faults
present_lines : (xs : List Found) → AllByRecursion IsPresent xs → AllByRecursion (λ (f : FaultLineModel). IsOther f.word) (faults_of xs)
present_lines [] fine = tt
present_lines (found_fault path word ∷ xs) fine = (fine.0, present_lines xs fine.1)
present_lines (thing ∷ xs) fine = present_lines xs fine.1

abbrev absent_fault : List ℕ → Found
absent_fault path = found_fault path Absent

absent_mapped : (d : List ℕ) (absent : List (List ℕ)) → map (found_absent d) absent ≡ map absent_fault (map (path_in d) absent)
absent_mapped d [] = refl
absent_mapped d (rest ∷ absent) = ap (λ l. found_absent d rest ∷ l) (absent_mapped d absent)

both_found : (j : JobModel) (l : Level) → found_of j l ≡ map absent_fault (absent_of j l) ++ own_of j l
both_found j l = grind (arith, common_steps, absent_mapped)

module _ (filters : FiltersModel) where
  abbrev own_at : JobModel → Answers → List Found
  own_at j a = own_of j (level filters j a)

  abbrev absent_at : JobModel → Answers → List (List ℕ)
  absent_at j a = absent_of j (level filters j a)

  -- what a walk finds, but for the paths that are absent; and these
  abbrev own_walk : ℕ → JobModel → Tree → List Found
  own_walk depth j t = walk_by own_at (children_at filters) depth j t

  abbrev absent_walk : ℕ → JobModel → Tree → List (List ℕ)
  absent_walk depth j t = walk_by absent_at (children_at filters) depth j t

  two_walks : (depth : ℕ) (j : JobModel) (t : Tree) →
      IsPermutation (walk_of filters depth j t) (map absent_fault (absent_walk depth j t) ++ own_walk depth j t)
  two_walks depth j t =
      subst (λ l. IsPermutation (walk_of filters depth j t) (l ++ own_walk depth j t))
      (walk_maps (children_at filters) absent_fault absent_at depth j t)
      (walk_splits (children_at filters) (found_at filters) (λ k a. map absent_fault (absent_at k a)) own_at
      (λ k a. both_found k (level filters k a)) depth j t)

  absent_here : (j : JobModel) (a : Answers) → AllByRecursion (Contains (paths_in filters.only)) (absent_at j a)
  absent_here j a =
      level_keeps (λ l. AllByRecursion (Contains (paths_in filters.only)) (absent_of j l)) filters j a (λ p w. tt)
      (λ es e b. asked_paths (absent_from filters.only j.path es) (absent_asked filters.only j.path es))
    where
      asked_paths : (rests : List (List ℕ))
          → AllByRecursion (λ r. In (path_in j.path r) (paths_in filters.only) × (j.path ≡ [] → r ≢ [])) rests
          → AllByRecursion (Contains (paths_in filters.only)) (map (path_in j.path) rests)
      asked_paths [] all = tt
      asked_paths (r ∷ rs) all = (contains (path_in j.path r) (paths_in filters.only) all.0.0, asked_paths rs all.1)

  abbrev Walks : Type 0
  Walks = JobModel → Tree → List Found

  abbrev below : Walks → Tree → List (List ℕ × JobModel) → List Found
  below walk t cs = walks_below own_at (children_at filters) walk t cs

  -- what is found in child directories of whose walks this is so
  few_below : (walk : Walks) (t : Tree) (cs : List (List ℕ × JobModel))
      → ((k : JobModel) (u : Tree) → length (walk k u) ≤ 1 + entry_count (walk k u)) →
      length (below walk t cs) ≤ length cs + entry_count (below walk t cs)
  few_below walk t [] few = omega arith
  few_below walk t (c ∷ cs) few =
      let first : List Found = walk c.1 (λ place. t (c.0 ∷ place)) in
      omega (
        arith,
        few c.1 (λ place. t (c.0 ∷ place)),
        few_below walk t cs few,
        length-append first (below walk t cs),
        sum_by-append entries_in first (below walk t cs),
      )

  many_below : (walk next : Walks) (t : Tree) (cs : List (List ℕ × JobModel))
      → ((k : JobModel) (u : Tree) → 1 + entry_count (walk k u) ≤ length (next k u)) →
      length cs + entry_count (below walk t cs) ≤ length (below next t cs)
  many_below walk next t [] many = omega arith
  many_below walk next t (c ∷ cs) many =
      let first : List Found = walk c.1 (λ place. t (c.0 ∷ place)) in
      omega (
        arith,
        many c.1 (λ place. t (c.0 ∷ place)),
        many_below walk next t cs many,
        length-append (next c.1 (λ place. t (c.0 ∷ place))) (below next t cs),
        sum_by-append entries_in first (below walk t cs),
      )

  -- the things and the entries of a listed directory, with those below it
  long_level : (j : JobModel) (es : List Item) (more : List Found)
      → length ((found_directory j.path (length (fates_of filters j es)) ∷ flat_map (found_by j.path) (fates_of filters j es)) ++ more)
      ≡ 1 + length (flat_map (found_by j.path) (fates_of filters j es)) + length more
  long_level j es more = omega (arith, length-append (flat_map (found_by j.path) (fates_of filters j es)) more)

  counted_level : (j : JobModel) (es : List Item) (more : List Found)
      → entry_count ((found_directory j.path (length (fates_of filters j es)) ∷ flat_map (found_by j.path) (fates_of filters j es))
      ++ more) ≡ length (fates_of filters j es) + entry_count more
  counted_level j es more = grind (arith, common_steps, sum_by-cons, sum_by-append, no_entries_within)

  abbrev level_and : Walks → JobModel → Tree → List Item → List Found
  level_and walk k t es =
      (found_directory k.path (length (fates_of filters k es)) ∷ flat_map (found_by k.path) (fates_of filters k es))
      ++ below walk t (walked_in (fates_of filters k es))

  few_in_items : (walk : Walks) (t : Tree) → ((k : JobModel) (u : Tree) → length (walk k u) ≤ 1 + entry_count (walk k u)) →
      (k : JobModel) (es : List Item) → length (level_and walk k t es) ≤ 1 + entry_count (level_and walk k t es)
  few_in_items walk t few k es =
      let more : List Found = below walk t (walked_in (fates_of filters k es)) in
      omega (
        arith,
        long_level k es more,
        counted_level k es more,
        each_fate k.path (fates_of filters k es),
        few_below walk t (walked_in (fates_of filters k es)) few,
      )

  -- a walk finds no more things than its top and the entries of the directories that it lists
  few : (depth : ℕ) (j : JobModel) (t : Tree) → length (own_walk depth j t) ≤ 1 + entry_count (own_walk depth j t)
  few zero j t = omega arith
  few (suc depth) j t =
      level_keeps
      (λ l. length (own_of j l ++ below (own_walk depth) t (children_of l))
      ≤ 1 + entry_count (own_of j l ++ below (own_walk depth) t (children_of l)))
      filters j (t [])
      (λ p w. omega arith)
      (λ es e b. few_in_items (own_walk depth) t (few depth) (extended j b) (part_of filters.only j.path es))

  many_in_items : (walk next : Walks) (t : Tree) → ((k : JobModel) (u : Tree) → 1 + entry_count (walk k u) ≤ length (next k u)) →
      (k : JobModel) (es : List Item) → 1 + entry_count (level_and walk k t es) ≤ length (level_and next k t es)
  many_in_items walk next t many k es =
      let cs : List (List ℕ × JobModel) = walked_in (fates_of filters k es) in
      omega (
        arith,
        long_level k es (below next t cs),
        counted_level k es (below walk t cs),
        each_fate k.path (fates_of filters k es),
        many_below walk next t cs many,
      )

  -- and one that goes a level deeper finds all of these
  many : (depth : ℕ) (j : JobModel) (t : Tree)
      → 1 + entry_count (own_walk depth j t) ≤ length (own_walk (suc depth) j t)
  many zero j t =
      level_keeps (λ l. 1 ≤ length (own_of j l ++ below (own_walk zero) t (children_of l))) filters j (t [])
      (λ p w. omega arith)
      (λ es e b. omega (
        arith,
        long_level (extended j b) (part_of filters.only j.path es)
            (below (own_walk zero) t (walked_in (fates_of filters (extended j b) (part_of filters.only j.path es)))),
      ))
  many (suc depth) j t =
      level_keeps
      (λ l. 1 + entry_count (own_of j l ++ below (own_walk depth) t (children_of l))
      ≤ length (own_of j l ++ below (own_walk (suc depth)) t (children_of l)))
      filters j (t [])
      (λ p w. omega arith)
      (λ es e b. many_in_items (own_walk depth) (own_walk (suc depth)) t (many depth) (extended j b) (part_of filters.only j.path es))

-- each thing that is found is of one kind
by_kinds : (xs : List Found)
    → length xs ≡ length (tallied_of xs) + length (faults_of xs) + length (directories_of xs) + length (skipped_lines_of xs)
by_kinds [] = refl
by_kinds (found_file directory f ∷ xs) = omega (arith, by_kinds xs)
by_kinds (thing ∷ xs) = omega (arith, by_kinds xs)

-- what is absent gives faults alone
tallied_beside : (ps : List (List ℕ)) (xs : List Found) → tallied_of (map absent_fault ps ++ xs) ≡ tallied_of xs
tallied_beside ps xs = after_absent tallied_in absent_fault (λ p. refl) ps xs

directories_beside : (ps : List (List ℕ)) (xs : List Found) → directories_of (map absent_fault ps ++ xs) ≡ directories_of xs
directories_beside ps xs = after_absent directory_in absent_fault (λ p. refl) ps xs

skipped_beside : (ps : List (List ℕ)) (xs : List Found) → skipped_lines_of (map absent_fault ps ++ xs) ≡ skipped_lines_of xs
skipped_beside ps xs = after_absent skipped_lines_in absent_fault (λ p. refl) ps xs

entries_beside : (ps : List (List ℕ)) (xs : List Found) → entry_count (map absent_fault ps ++ xs) ≡ entry_count xs
entries_beside ps xs = no_entries_absent absent_fault (λ p. refl) ps xs

faults_beside : (ps : List (List ℕ)) (xs : List Found) → faults_of (map absent_fault ps ++ xs) ≡ map absent_line ps ++ faults_of xs
faults_beside [] xs = refl
faults_beside (p ∷ ps) xs = ap (λ l. absent_line p ∷ l) (faults_beside ps xs)

ruleset beside = (tallied_beside, directories_beside, skipped_beside, entries_beside, faults_beside)

-- what a report tells of such paths and of other things
record Tells (ps : List (List ℕ)) (xs : List Found) (r : Report) : Type 0 where
  faults : IsPermutation (map absent_line ps ++ faults_of xs) r.faults.items
  -- as many faults, of either kind
  many : length ps + length (faults_of xs) ≡ length r.faults.items
  -- as many other things
  all : length xs ≡ r.totals.files + length (faults_of xs) + r.directories + length r.skipped.items
  entries : r.entries ≡ entry_count xs

tells : (lists : ReportLists) (ps : List (List ℕ)) (xs : List Found) (r : Report) → lists.left_out ≡ true →
    IsReportOf lists (map absent_fault ps ++ xs) r → Tells ps xs r
tells lists ps xs r asked is =
    search (rules, arith, beside, length_permutation, length-append, length-map, by_kinds)

-- a report of walks to two depths accounts for all entries
accounted : (lists : ReportLists) (filters : FiltersModel) (depth : ℕ) (top : JobModel) (t : Tree) (r : Report) →
    lists.left_out ≡ true → IsReportOf lists (walk_of filters depth top t) r → IsReportOf lists (walk_of filters (suc depth) top t) r →
    AllByRecursion IsPresent (own_walk filters depth top t) → IsAccounted (paths_in filters.only) r
accounted lists filters depth top t r asked is deeper present =
    let here = tells lists (absent_walk filters depth top t) (own_walk filters depth top t) r asked
    (report_law lists _ _ r (two_walks filters depth top t) is) in
    let below = tells lists (absent_walk filters (suc depth) top t) (own_walk filters (suc depth) top t) r asked
    (report_law lists _ _ r (two_walks filters (suc depth) top t) deeper) in record {
      absent = absent_walk filters depth top t;
      asked = each_led filters (absent_at filters) (Contains (paths_in filters.only)) depth top t
          (λ place k leads. absent_here filters k (t place));
      others = faults_of (own_walk filters depth top t);
      present = present_lines (own_walk filters depth top t) present;
      faults = here.faults;
      all = grind (arith, common_steps, few, many, walk_grows);
    }

-- so does the report of a walk
pub entries_law : (lists : List ℕ → Listings) (gives : List ℕ → Contents) → EntriesLaw lists gives
entries_law lists gives o r w asked =
    let by = by_answers lists gives o r w in
    let s : FiltersModel = (asked_by o).filters in
    accounted o.lists s o.max_dirs (top_of o) by.answers r asked (by.report o.max_dirs (omega arith))
    (by.report (suc o.max_dirs) (omega arith))
    (each_led s (own_at s) IsPresent o.max_dirs (top_of o) by.answers
    (λ place k leads. own_present k (level s k (by.answers place))
    (level_fine lists gives s k (by.answers place) (by.given place k leads))))
