-- From a closed board, and from what its workers left, to a closed walk and its report.
use Rattle.std.proofs.Common.{rules, ◌≡◌, ℕ, zero, suc, ◌<◌, ◌≤◌, Bool, true, false, cond, List, [], ◌∷◌, ◌++◌, length, slice_get, map}
use Rattle.std.proofs.{Common.{refl, sym, ◌∙◌, ap, arith, subst, Option, Some, None, IsPermutation}, lemmas.Grind.common_steps}
use Rattle.std.proofs.lemmas.{Bool.{or_left, or_right}, List.Sorted.IsPermutation-sym}
use Rattle.std.specs.List.{flat_map, list_any, range_with_len, enumerate_from, Sorted.IsStrictlySortedBy}
use Rattle.lc_board.specs.{Ends.{Saying, RowsHold, ends}, Part.part, RowsInPlace.InPlace, Pass.Pass, ClosedBoard.{Promises, Settled}}
use Rattle.lc_board.specs.declared.{event.Event.{Event, TheVariants.Return}, answers.Ended.Ended}
use Rattle.lc_walk.specs.{Tally.{TallyModel, CountedFile, StandsFor}, Report.IsReport}
use Rattle.lc_walk.specs.{declared.{report.{Report.Report, findings.Findings.Findings}, row.Row.{Row}}, Found.Found}
use Rattle.lc_walk.specs.{Found.{path_of, found_at}, Rows.{row_of, job_of, IsWhole}, Lawful.{Asked, IsLawful, Says}}
use Rattle.lc_walk.specs.{TreeOfRows.{numbers_below, child_number, tree_from, children_by_rows, tree_of_rows}, ClosedWalks.Walked}
use Rattle.lc_walk.specs.{ClosedWalks.{AreWhole, row_found, rows_found}, FoundReports.{file_in, fault_in, directory_in, skipped_lines_in}}
use Rattle.lc_walk.specs.FoundReports.{entries_in, tallied_of, files_of, faults_of, directories_of, skipped_lines_of, entry_count}
use Rattle.lc_walk.specs.{FoundReports.IsReportOf, Assembled.{directories_by_row, files_by_row, faults_by_row, skipped_by_row}}
use Rattle.lc_walk.specs.Assembled.{entries_by_row, directories_in_rows, files_in_rows, faults_in_rows, skipped_in_rows, entries_in_rows}
use Rattle.lc_walk.specs.{Assembled.AreFindings, WorkerResults.{IsLawfulEnd, AreLawful, returned_files, files_given, files_of_pass}}
use Rattle.lc_walk.specs.{WorkerResults.files_of_passes, BoardAnswers.{SomeRows, IsWalkReport}, RecursiveWalk.walk_of, RowViews.ChildModel}
use Rattle.lc_tree.specs.ByteOrder.{AreApart}
use Rattle.lc_walk.proofs.{Joining.stands_permuted, RefusedPosts.{fuller_says, full_pass}, Reports.report_law, PathsApart.paths_once_law}
use Rattle.lc_walk.proofs.PathsApart.{found_apart, file_list_apart, fault_list_apart, skipped_list_apart, all_lists_apart}
use Rattle.lc_walk.proofs.{MovedLists.lists_moved, WalkOfRows.{core_law, one_answer_law}, OneTree.agrees, Listings.{flat_twice, sum_twice}}
use Rattle.lc_walk.proofs.Listings.{flat_asked, tallied_went, files_went, faults_went, skipped_went, directories_went, entries_went}
use Rattle.lc_walk.proofs.Listings.{got_here, by_number, by_place, sums_by_number, below_all, numbers_from_0}
use Rattle.lc_level.specs.{Answers.{Answers, no_answers}, Job.JobModel, WellFormed.IsWellFormed}
use Rattle.lc_board.proofs.{EndsInPlace.rows_hold, RowsOfWorkers.rows_are_ends, Weights.{each-map, flat_map-on}}
use Rattle.lc_board.specs.declared.answers.Ended.TheVariants as ended

-- whether a post of a pass was answered Full
abbrev pub is_full : Option (Pass JobModel Row) → Bool
is_full None = false
is_full (Some p) = p.full

some_full : (passes : List (Pass JobModel Row)) (w : ℕ) → is_full (slice_get passes w) ≡ true → list_any (λ q. q.full) passes ≡ true
some_full [] w f = f
some_full (q ∷ qs) zero f = or_left q.full (list_any (λ q. q.full) qs) f
some_full (q ∷ qs) (suc w) f = or_right q.full (list_any (λ q. q.full) qs) (some_full qs w f)

-- the files of the rows that some events gave, by answers that stand for their numbers
abbrev files_by_end : Asked → Ended Row → Answers → List CountedFile
files_by_end ask (ended.Returned r) a = returned_files ask r a
files_by_end ask (ended.Faulted r) a = []

files_by_ends : (ask : Asked) (by : ℕ → Answers) (m : List (Event JobModel Row))
    → files_given ask m (map (λ x. by x.0) (ends m)) ≡ flat_map (λ x. files_by_end ask x.1 (by x.0)) (ends m)
files_by_ends ask by [] = refl
files_by_ends ask by (Return w i r ∷ m) = ap (λ l. returned_files ask r (by i) ++ l) (files_by_ends ask by m)
files_by_ends ask by (event ∷ m) = files_by_ends ask by m

abbrev or_no_answers : Option (Ended Row) → Answers → Answers
or_no_answers None a = no_answers
or_no_answers (Some e) a = a

module _ (ask : Asked) (MayAnswer : List ℕ → Answers → Type 0) (capacity workers : ℕ) (top : JobModel) (promises : Promises)
    (passes : List (Pass JobModel Row)) (rows : List (Ended Row))
    (room : 1 ≤ capacity) (keeps : promises.keeps ≡ true) (count : length passes ≡ workers)
    (settled : Settled capacity workers top promises passes rows) (given : ℕ → List Answers)
    (lawful : (w : ℕ) (p : Pass JobModel Row) → slice_get passes w ≡ Some p → AreLawful ask p.full MayAnswer p.mine (given w)) where
  abbrev pub history : List (Event JobModel Row)
  history = settled.history

  -- what a worker's own list says of an end
  abbrev pub Lawful : Saying JobModel Row Answers
  Lawful w got posts e a = IsLawfulEnd ask (is_full (slice_get passes w)) MayAnswer got posts e a

  -- what each worker's list says of its ends is so of the rows
  pub held : RowsHold Lawful workers settled.history passes rows given
  held = rows_hold Lawful no_answers capacity workers top promises passes rows settled keeps count given
      (λ w p is. subst (λ full. AreLawful ask full MayAnswer p.mine (given w)) (sym (ap is_full is)) (lawful w p is))

  abbrev pub answers : ℕ → Answers
  answers i = or_no_answers (slice_get rows i) (held.by i)

  abbrev pub full : Bool
  full = list_any (λ (p : Pass JobModel Row). p.full) passes

  in_place : InPlace top history rows
  in_place = settled.in_place keeps

  answers_are : (i : ℕ) (e : Ended Row) → slice_get rows i ≡ Some e → answers i ≡ held.by i
  answers_are i e is = ap (λ o. or_no_answers o (held.by i)) is

  -- each row is lawful in the whole history, by answers that the tree may give
  pub lawful_here : (i : ℕ) (e : Ended Row) → slice_get rows i ≡ Some e →
      IsLawful ask full history i e (answers i) × MayAnswer (job_of (row_of e)).path (answers i)
  lawful_here i e is =
      let l = held.holds i e is in
      subst (λ a. IsLawful ask full history i e a × MayAnswer (job_of (row_of e)).path a) (sym (answers_are i e is)) (
        record {
          job_is = l.job_is;
          well_formed = l.well_formed;
          says = grind (arith, common_steps, fuller_says, held, some_full);
        },
        l.may,
      )

  -- so it is a closed walk
  pub walked : Walked ask full capacity workers top history rows answers
  walked = record {
    room = room;
    legal = settled.legal;
    over = settled.over;
    numbers = settled.numbers;
    in_place = in_place;
    lawful = λ i e is. (lawful_here i e is).0;
  }

  -- a post was answered Full only where all numbers are used
  pub full_rows : promises.fills ≡ true → full ≡ true → length rows ≡ capacity
  full_rows fills is_full = let p = full_pass passes is_full in settled.all_used fills p.worker p.pass p.is p.was

  abbrev pub some_rows : SomeRows MayAnswer ask capacity workers top promises
  some_rows = record {
    full = full;
    history = history;
    rows = rows;
    answers = answers;
    filled = full_rows;
    walked = walked;
    may = λ i e is. (lawful_here i e is).1;
  }

  -- ---- the files of all passes are those of the rows

  abbrev by_end : ℕ × Ended Row → List CountedFile
  by_end x = files_by_end ask x.1 (held.by x.0)

  one_pass : (w : ℕ) (p : Pass JobModel Row) → slice_get passes w ≡ Some p
      → files_of_pass ask (given w) (slice_get passes w) ≡ flat_map by_end (ends (part w history))
  one_pass w p is =
      ap (files_of_pass ask (given w)) is ∙ ap (files_given ask p.mine) (held.given_by w p is) ∙ files_by_ends ask held.by p.mine
      ∙ ap (λ m. flat_map by_end (ends m)) (sym (settled.parts w p is))

  all_passes : files_of_passes ask given passes ≡ flat_map by_end (flat_map (λ w. ends (part w history)) (range_with_len 0 workers))
  all_passes =
      flat_map-on (λ w. files_of_pass ask (given w) (slice_get passes w)) (λ w. flat_map by_end (ends (part w history)))
      (numbers_below (length passes))
      (each-map (λ w. w < length passes) (λ w. files_of_pass ask (given w) (slice_get passes w) ≡ flat_map by_end (ends (part w history)))
      (λ w b. let p = got_here passes w b in one_pass w p.0 p.1) (numbers_below (length passes)) (below_all (length passes)))
      ∙ sym (flat_twice by_end (λ w. ends (part w history)) (numbers_below (length passes)))
      ∙ ap (λ ns. flat_map by_end (flat_map (λ w. ends (part w history)) ns)) (numbers_from_0 (length passes) ∙ ap (range_with_len 0) count)

  by_rows : IsPermutation (files_of_passes ask given passes) (flat_map by_end (enumerate_from 0 rows))
  by_rows = subst (λ l. IsPermutation l (flat_map by_end (enumerate_from 0 rows))) (sym all_passes)
      (lists_moved by_end _ (enumerate_from 0 rows)
      (rows_are_ends capacity workers top history rows settled.legal settled.over settled.numbers in_place))

  module _ (whole : AreWhole rows) where
    -- ---- what one row says is what it found

    record RowFinds (e : Ended Row) (a : Answers) (xs : List Found) : Type 0 where
      pub tally : files_by_end ask e a ≡ tallied_of xs
      pub files : cond ask.lists.files (files_of xs) [] ≡ files_by_row (row_of e)
      pub faults : faults_of xs ≡ faults_by_row (row_of e)
      pub skipped : cond ask.lists.left_out (skipped_lines_of xs) [] ≡ skipped_by_row (row_of e)
      pub directories : directories_of xs ≡ directories_by_row (row_of e)
      pub entries : entry_count xs ≡ entries_by_row (row_of e)

    row_finds : (e : Ended Row) (a : Answers) (posts : List (ℕ × JobModel)) → Says ask full e a posts → IsWhole (row_of e)
        → RowFinds e a (found_at ask.filters (job_of (row_of e)) a)
    row_finds e a posts s w = search (rules, arith, tallied_went, files_went, faults_went, skipped_went, directories_went, entries_went)

    finds_here : (i : ℕ) (e : Ended Row) → slice_get rows i ≡ Some e
        → RowFinds e (answers i) (found_at ask.filters (job_of (row_of e)) (answers i))
    finds_here i e is = row_finds e (answers i) _ (lawful_here i e is).0.says (whole i e is)

    -- ---- all rows

    abbrev found : List Found
    found = rows_found ask rows answers

    spread_out : {B : Type 0} (g : Found → List B)
        → flat_map g found ≡ flat_map (λ i. flat_map g (row_found ask (slice_get rows i) (answers i))) (numbers_below (length rows))
    spread_out g = flat_twice g (λ i. row_found ask (slice_get rows i) (answers i)) (numbers_below (length rows))

    at_row : {B : Type 0} (g : Found → List B) (i : ℕ) (e : Ended Row) → slice_get rows i ≡ Some e →
        flat_map g (row_found ask (slice_get rows i) (answers i)) ≡ flat_map g (found_at ask.filters (job_of (row_of e)) (answers i))
    at_row g i e is = ap (λ o. flat_map g (row_found ask o (answers i))) is

    tally_rows : flat_map by_end (enumerate_from 0 rows) ≡ tallied_of found
    tally_rows = grind (arith, common_steps, by_place, at_row, finds_here, answers_are, spread_out)

    -- the files that the passes counted are those that the rows found, in some order
    pub files_found : IsPermutation (files_of_passes ask given passes) (tallied_of found)
    files_found = subst (IsPermutation (files_of_passes ask given passes)) tally_rows by_rows

    -- a list that was asked for, or none
    asked_rows : {B : Type 0} (b : Bool) (g : Found → List B) (f : Row → List B) →
        ((i : ℕ) (e : Ended Row) → slice_get rows i ≡ Some e →
        cond b (flat_map g (found_at ask.filters (job_of (row_of e)) (answers i))) [] ≡ f (row_of e)) →
        cond b (flat_map g found) [] ≡ flat_map (λ e. f (row_of e)) rows
    asked_rows b g f same =
        ap (λ l. cond b l []) (spread_out g)
        ∙ sym (flat_asked b (λ i. flat_map g (row_found ask (slice_get rows i) (answers i))) (numbers_below (length rows)))
        ∙ by_number (λ i. cond b (flat_map g (row_found ask (slice_get rows i) (answers i))) []) (λ e. f (row_of e)) rows
        (λ i e is. ap (λ l. cond b l []) (at_row g i e is) ∙ same i e is)

    file_rows : cond ask.lists.files (files_of found) [] ≡ files_in_rows rows
    file_rows = asked_rows ask.lists.files file_in files_by_row (λ i e is. (finds_here i e is).files)

    skipped_rows : cond ask.lists.left_out (skipped_lines_of found) [] ≡ skipped_in_rows rows
    skipped_rows = asked_rows ask.lists.left_out skipped_lines_in skipped_by_row (λ i e is. (finds_here i e is).skipped)

    fault_rows : faults_of found ≡ faults_in_rows rows
    fault_rows = asked_rows true fault_in faults_by_row (λ i e is. (finds_here i e is).faults)

    directory_rows : directories_of found ≡ directories_in_rows rows
    directory_rows = asked_rows true directory_in directories_by_row (λ i e is. (finds_here i e is).directories)

    entry_rows : entry_count found ≡ entries_in_rows rows
    entry_rows =
        sum_twice entries_in (λ i. row_found ask (slice_get rows i) (answers i)) (numbers_below (length rows))
        ∙ sums_by_number (λ i. entry_count (row_found ask (slice_get rows i) (answers i))) (λ e. entries_by_row (row_of e)) rows
        (λ i e is. ap (λ o. entry_count (row_found ask o (answers i))) is ∙ (finds_here i e is).entries)

    -- the report of what the rows found
    pub report_of_rows : (t : TallyModel) → StandsFor t (files_of_passes ask given passes) → (told : Findings) → AreFindings rows told →
        (r : Report) → IsReport t ask.lists told r → IsReportOf ask.lists found r
    report_of_rows t stood told tells r is =
        let stands = stands_permuted t (files_of_passes ask given passes) (tallied_of found) files_found stood in
        record {
          lists_are = is.lists_are;
          tally = is.tally (tallied_of found) stands;
          columns = is.columns;
          totals = is.totals ∙ stands.totals;
          classes = is.classes;
          directories = is.directories ∙ tells.directories ∙ sym (ap length directory_rows);
          entries = is.entries ∙ tells.entries ∙ sym entry_rows;
          files_are = subst (λ l. IsPermutation l r.files.items) (tells.files ∙ sym file_rows) is.files;
          file_order = is.file_order;
          faults_are = subst (λ l. IsPermutation l r.faults.items) (tells.faults ∙ sym fault_rows) is.faults;
          fault_order = is.fault_order;
          skipped_are = subst (λ l. IsPermutation l r.skipped.items) (tells.skipped ∙ sym skipped_rows) is.skipped;
          skipped_order = is.skipped_order;
        }

    -- ---- no path stands twice

    no_listings : IsWellFormed no_answers
    unfolding IsStrictlySortedBy
    no_listings = grind (arith, common_steps)

    well_formed_or : (i : ℕ) (o : Option (Ended Row)) → slice_get rows i ≡ o → IsWellFormed (or_no_answers o (held.by i))
    well_formed_or i None is = no_listings
    well_formed_or i (Some e) is = subst IsWellFormed (answers_are i e is) (lawful_here i e is).0.well_formed

    well_formed_at : (i : ℕ) → IsWellFormed (answers i)
    well_formed_at i = well_formed_or i (slice_get rows i) refl

    well_formed_from : (children : ℕ → List ChildModel) (i : ℕ) (place : List (List ℕ))
        → IsWellFormed (tree_from no_answers answers children i place)
    well_formed_from children i [] = well_formed_at i
    well_formed_from children i (n ∷ place) = at (child_number n (children i)) (λ k. well_formed_from children k place)
      where
        at : (o : Option ℕ) → ((k : ℕ) → IsWellFormed (tree_from no_answers answers children k place))
            → IsWellFormed (elim o [ None ↦ no_answers | Some k ↦ tree_from no_answers answers children k place ])
        at None rec = no_listings
        at (Some k) rec = rec k

    moved : IsPermutation (walk_of ask.filters capacity top (tree_of_rows rows answers)) found
    moved = core_law ask full capacity workers top history rows answers walked whole capacity (omega arith)

    once : AreApart (map path_of found)
    once = found_apart _ found moved (paths_once_law ask.filters capacity top (tree_of_rows rows answers)
        (well_formed_from (children_by_rows rows) 0))

    -- ---- the report of the walk

    -- what is assembled of the rows is the report of the walk
    pub report_of_walk : top.path ≡ [] → (t : TallyModel) → StandsFor t (files_of_passes ask given passes) →
        (told : Findings) → AreFindings rows told → (r : Report) → IsReport t ask.lists told r →
        IsWalkReport MayAnswer ask capacity workers top promises r
    report_of_walk at_top t stood told tells r is =
        let ours = report_of_rows t stood told tells r is in
        record {
          found = some_rows;
          whole = whole;
          report = λ depth deep. report_law ask.lists found (walk_of ask.filters depth top (tree_of_rows rows answers)) r
              (IsPermutation-sym _ _ (core_law ask full capacity workers top history rows answers walked whole depth deep)) ours;
          files_once = grind (arith, common_steps, file_rows, file_list_apart, once);
          faults_once = grind (arith, common_steps, fault_rows, fault_list_apart, once);
          skipped_once = grind (arith, common_steps, skipped_rows, skipped_list_apart, once);
          apart = all_lists_apart found once ask.lists r ours;
          one_answer = λ tree one depth deep. report_law ask.lists found (walk_of ask.filters depth top tree) r
              (IsPermutation-sym _ _ (one_answer_law tree ask full capacity workers top history rows answers walked whole at_top
              (agrees ask full capacity workers top history rows answers walked whole at_top MayAnswer
              (λ i e here. (lawful_here i e here).1) tree one)
              depth deep)) ours;
        }
