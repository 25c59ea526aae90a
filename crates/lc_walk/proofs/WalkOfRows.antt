-- The laws of the walk.
use Rattle.std.proofs.{lemmas.{Grind.common_steps, Bool.cases_lt}, Common.{◌≡◌, ◌≢◌, ℕ, zero, suc, ◌<◌, ◌≤◌, Bool, List, [], ◌∷◌, ◌++◌}}
use Rattle.std.proofs.Common.{length, slice_get, refl, sym, ◌∙◌, ap, arith, subst, Option, Some, None, IsPermutation, append-nil}
use Rattle.std.specs.List.{flat_map, AllByRecursion}
use Rattle.lc_board.specs.{State.{Absent, status}, LegalHistory.posts_under, RowsInPlace.job_posted, declared.event.Event.Event}
use Rattle.lc_board.specs.declared.answers.Ended.{Ended}
use Rattle.lc_board.proofs.{PartsOfWhole.part_says_whole, Weights.{each-map, flat_map-on, times, permuted, permuted_lists}}
use Rattle.lc_board.proofs.PostedNumbers.{start, top_posted, Known, known}
use Rattle.lc_tree.specs.Paths.{names_of_path}
use Rattle.lc_level.specs.{Answers.{Answers, no_answers, Tree}, Job.JobModel, Level.level}
use Rattle.lc_walk.specs.{Found.{Found, found_of, found_at, children_of, children_at}, RecursiveWalk.walk_of, RowViews.ChildModel}
use Rattle.lc_walk.specs.{Rows.{row_of, job_of, children_in, IsWhole}, Lawful.{Asked, Says, named, jobs_of}, TreeOfRows.child_number}
use Rattle.lc_walk.specs.{TreeOfRows.{tree_from, children_by_rows, tree_of_rows, numbers_below}, ClosedWalks.{Walked, AreWhole, row_found}}
use Rattle.lc_walk.specs.{ClosedWalks.rows_found, Laws.{CoreLaw, NumbersLaw, OneAnswerLaw, PartLaw, walk_numbers}, declared.row.Row.Row}
use Rattle.lc_walk.proofs.{Reach.{reach, reach_times}, Levels.{apart_level, good_level, IsChild}, Places.names_of_path-path_in}
use Rattle.lc_walk.proofs.NumbersReached.{Grows, walk_is, Finds, finds, under_rows, PlacedUnder, under_places, same_head, same_tail}
use Rattle.lc_walk.proofs.{NumbersReached.same_some, Listings.below_all}

-- ---- the row of a number

-- what a row that is not Broken says of its directory
pub record Parts (ask : Asked) (e : Ended Row) (a : Answers) (posts : List (ℕ × JobModel)) : Type 0 where
  -- what was posted is its child directories
  pub jobs : jobs_of posts ≡ jobs_of (children_at ask.filters (job_of (row_of e)) a)
  -- and its children have the posts' numbers
  pub children : children_in (row_of e) ≡ named (children_at ask.filters (job_of (row_of e)) a) posts

-- a whole row that says the truth has these parts
pub parts : (ask : Asked) (full : Bool) (e : Ended Row) (a : Answers) (posts : List (ℕ × JobModel)) → Says ask full e a posts
    → IsWhole (row_of e) → Parts ask e a posts
parts ask full e a posts s w = grind (arith, common_steps)

pub record Here (rows : List (Ended Row)) (i : ℕ) : Type 0 where
  -- a row
  pub row : Ended Row
  -- it stands there
  pub is : slice_get rows i ≡ Some row

-- below their number there is a row
pub row_here : (rows : List (Ended Row)) (i : ℕ) → i < length rows → Here rows i
row_here [] i l = absurd (omega arith)
row_here (e ∷ es) zero l = record { row = e; is = refl }
row_here (e ∷ es) (suc i) l = let r = row_here es i (omega arith) in record { row = r.row; is = r.is }

abbrev pub job_or : JobModel → Option (Ended Row) → JobModel
job_or top None = top
job_or top (Some e) = job_of (row_of e)

module _ (ask : Asked) (full : Bool) (capacity workers : ℕ) (top : JobModel) (h : List (Event JobModel Row)) (rows : List (Ended Row))
    (answers : ℕ → Answers)
    (walked : Walked ask full capacity workers top h rows answers) where
  abbrev pub job_at : ℕ → JobModel
  job_at i = job_or top (slice_get rows i)

  -- a number that is not absent has a row
  pub inside : (i : ℕ) → status h i ≢ Absent → i < length rows
  inside i a = grind (arith, common_steps, cases_lt)

  -- and a number with a row is not absent
  pub there : (i : ℕ) → i < length rows → status h i ≢ Absent
  there i b a = let past = (walked.numbers i).0 a in absurd (omega arith)

  -- the job that was posted at a number is that of its row
  pub posted_here : (i : ℕ) (e : Ended Row) → slice_get rows i ≡ Some e → job_posted top h i ≡ Some (job_of (row_of e))
  posted_here i e is = sym (walked.in_place.handed i e is) ∙ (walked.lawful i e is).job_is

  -- so it is the job at the number
  pub posted_at : (i : ℕ) → status h i ≢ Absent → job_posted top h i ≡ Some (job_at i)
  posted_at i a = let r = row_here rows i (inside i a) in posted_here i r.row r.is ∙ ap (λ o. Some (job_or top o)) (sym r.is)

  -- that of number 0 is the top's
  pub job_at_top : job_at 0 ≡ top
  job_at_top = same_some (job_at 0) top (sym (posted_at 0 (start h)) ∙ top_posted capacity workers top h walked.legal)

  -- each post under a number has the job of the number posted
  pub own_jobs : (i : ℕ) → AllByRecursion (λ p. job_at p.0 ≡ p.1) (posts_under i h)
  own_jobs i =
      each-map (Known capacity top h i) (λ p. job_at p.0 ≡ p.1) (λ p k. same_some (job_at p.0) p.1 (sym (posted_at p.0 k.there) ∙ k.value))
      (posts_under i h) (known capacity workers top h walked.legal i)

  module _ (whole : AreWhole rows) where
    abbrev children_of_number : ℕ → List (List ℕ × JobModel)
    children_of_number i = children_at ask.filters (job_at i) (answers i)

    pub record HasItsChildren (i : ℕ) : Type 0 where
      pub jobs : jobs_of (posts_under i h) ≡ jobs_of (children_of_number i)
      pub children : children_by_rows rows i ≡ named (children_of_number i) (posts_under i h)
      pub looked : Finds (λ m. child_number m (children_by_rows rows i)) (children_of_number i) (posts_under i h)
      pub named_so : AllByRecursion (IsChild (job_at i).path) (children_of_number i)

    -- each number that was posted has its children
    pub fits : (i : ℕ) → status h i ≢ Absent → HasItsChildren i
    fits i a =
        let r = row_here rows i (inside i a) in
        let lawful = walked.lawful i r.row r.is in
        let p = parts ask full r.row (answers i) (posts_under i h) lawful.says (whole i r.row r.is) in
        let job : job_of (row_of r.row) ≡ job_at i = ap (job_or top) (sym r.is) in
        let children : children_by_rows rows i ≡ named (children_of_number i) (posts_under i h) = grind (arith, common_steps) in
        record {
          jobs = p.jobs ∙ ap (λ j. jobs_of (children_at ask.filters j (answers i))) job;
          children = children;
          looked = subst (λ (cs : List ChildModel). Finds (λ m. child_number m cs) (children_of_number i) (posts_under i h)) (sym children)
              (finds (children_of_number i) (posts_under i h) (apart_level ask.filters (job_at i) (answers i) lawful.well_formed));
          named_so = good_level ask.filters (job_at i) (answers i) lawful.well_formed;
        }

    -- ---- the tree of rows

    grows : Grows (found_at ask.filters) (children_at ask.filters) h job_at answers
        (tree_from no_answers answers (children_by_rows rows))
    grows = record {
      same_found = λ i a. refl;
      same_children = λ i a. refl;
      under = λ i a. under_rows no_answers answers (children_by_rows rows) i (children_of_number i) (posts_under i h) (fits i a).looked;
    }

    times_same : (depth : ℕ) → capacity ≤ depth → (p : ℕ) → times p (reach h depth 0) ≡ times p (numbers_below (length rows))
    times_same depth deep p = reach_times capacity workers top h walked.room walked.legal (length rows) walked.numbers depth deep p

    abbrev gives_number : ℕ → List Found
    gives_number i = found_at ask.filters (job_at i) (answers i)

    one_found : (i : ℕ) → i < length rows → gives_number i ≡ row_found ask (slice_get rows i) (answers i)
    one_found i b =
        let r = row_here rows i b in
        ap (λ o. found_at ask.filters (job_or top o) (answers i)) r.is ∙ sym (ap (λ o. row_found ask o (answers i)) r.is)

    found_by_number : flat_map gives_number (numbers_below (length rows)) ≡ rows_found ask rows answers
    found_by_number = grind (arith, common_steps, flat_map-on, each-map, one_found, below_all)

    -- a walk that finds what the numbers give that are reached
    by_reach : (depth : ℕ) → capacity ≤ depth → (xs : List Found) → xs ≡ flat_map gives_number (reach h depth 0)
        → IsPermutation xs (rows_found ask rows answers)
    by_reach depth deep xs e = grind (arith, common_steps, reach, found_by_number, permuted_lists, times_same)

    -- the walk of the tree of rows finds what the rows found
    pub of_rows : (depth : ℕ) → capacity ≤ depth
        → IsPermutation (walk_of ask.filters depth top (tree_of_rows rows answers)) (rows_found ask rows answers)
    of_rows depth deep =
        by_reach depth deep _
        (ap (λ j. walk_of ask.filters depth j (tree_of_rows rows answers)) (sym job_at_top)
        ∙ walk_is (found_at ask.filters) (children_at ask.filters) capacity workers top h job_at answers
        (tree_from no_answers answers (children_by_rows rows)) walked.legal
        posted_at (λ i a. (fits i a).jobs) grows depth 0 (start h))

    -- ---- each number once

    abbrev number_found : JobModel → (ℕ × Answers) → List ℕ
    number_found j a = a.0 ∷ []

    abbrev number_children : JobModel → (ℕ × Answers) → List (List ℕ × JobModel)
    number_children j a = children_at ask.filters j a.1

    numbers_grow : Grows number_found number_children h job_at (λ i. (i, answers i))
        (tree_from (0, no_answers) (λ i. (i, answers i)) (children_by_rows rows))
    numbers_grow = record {
      same_found = λ i a. refl;
      same_children = λ i a. refl;
      under = λ i a. under_rows (0, no_answers) (λ i. (i, answers i)) (children_by_rows rows) i (children_of_number i)
          (posts_under i h) (fits i a).looked;
    }

    singles : (xs : List ℕ) → flat_map (λ i. i ∷ []) xs ≡ xs
    singles [] = refl
    singles (x ∷ xs) = ap (λ l. x ∷ l) (singles xs)

    -- and comes to each number once
    pub of_numbers : (depth : ℕ) → capacity ≤ depth → IsPermutation (walk_numbers ask depth top rows answers) (numbers_below (length rows))
    of_numbers depth deep =
        let is : walk_numbers ask depth top rows answers ≡ reach h depth 0 =
        ap (λ j. walk_numbers ask depth j rows answers) (sym job_at_top)
        ∙ walk_is number_found number_children capacity workers top h job_at (λ i. (i, answers i))
        (tree_from (0, no_answers) (λ i. (i, answers i)) (children_by_rows rows)) walked.legal
        posted_at (λ i a. (fits i a).jobs) numbers_grow depth 0 (start h)
        ∙ singles (reach h depth 0) in
        subst (λ l. IsPermutation l (numbers_below (length rows))) (sym is)
        (permuted (reach h depth 0) (numbers_below (length rows)) (times_same depth deep))

    -- ---- a tree that answers each place once

    abbrev pub place_at : ℕ → List (List ℕ)
    place_at i = names_of_path (job_at i).path

    place_under : (i : ℕ) (cs : List (List ℕ × JobModel)) (ps : List (ℕ × JobModel)) → AllByRecursion (IsChild (job_at i).path) cs
        → jobs_of ps ≡ jobs_of cs →
        AllByRecursion (λ p. job_at p.0 ≡ p.1) ps → PlacedUnder place_at i cs ps
    place_under i [] ps a e k = tt
    place_under i (c ∷ cs) [] a e k = tt
    place_under i (c ∷ cs) (p ∷ ps) a e k =
        let this : p.1 ≡ c.1 = same_head p.1 c.1 (jobs_of ps) (jobs_of cs) e in
        let rest : jobs_of ps ≡ jobs_of cs = same_tail p.1 c.1 (jobs_of ps) (jobs_of cs) e in (
          ap (λ (j : JobModel). names_of_path j.path) (k.0 ∙ this) ∙ ap names_of_path a.0.1 ∙ names_of_path-path_in (job_at i).path c.0
              a.0.0,
          place_under i cs ps a.1 rest k.1,
        )

    -- each child stands at the place of its name
    pub all_placed : (i : ℕ) → status h i ≢ Absent → PlacedUnder place_at i (children_of_number i) (posts_under i h)
    all_placed i a = place_under i (children_of_number i) (posts_under i h) (fits i a).named_so (fits i a).jobs (own_jobs i)

    -- a tree that answers each place as the rows were answered is walked as theirs is
    pub of_one_tree : (t : Tree) → top.path ≡ [] →
        ((i : ℕ) (e : Ended Row) → slice_get rows i ≡ Some e →
        level ask.filters (job_of (row_of e)) (answers i) ≡ level ask.filters (job_of (row_of e))
        (t (names_of_path (job_of (row_of e)).path))) →
        (depth : ℕ) → capacity ≤ depth → IsPermutation (walk_of ask.filters depth top t) (rows_found ask rows answers)
    of_one_tree t at_top agree depth deep =
        by_reach depth deep _
        (ap (λ j. walk_of ask.filters depth j t) (sym job_at_top)
        ∙ ap (λ (u : List (List ℕ) → Answers). walk_of ask.filters depth (job_at 0) u) (sym whole_tree)
        ∙ walk_is (found_at ask.filters) (children_at ask.filters) capacity workers top h job_at answers
        (λ i p. t (place_at i ++ p)) walked.legal
        posted_at (λ i a. (fits i a).jobs) tree_grows depth 0 (start h))
      where
        at_level : (i : ℕ) → status h i ≢ Absent
            → level ask.filters (job_at i) (t (place_at i ++ [])) ≡ level ask.filters (job_at i) (answers i)
        at_level i a =
            let r = row_here rows i (inside i a) in
            let job : job_of (row_of r.row) ≡ job_at i = ap (job_or top) (sym r.is) in
            ap (λ p. level ask.filters (job_at i) (t p)) (append-nil (place_at i))
            ∙ subst (λ j. level ask.filters j (t (names_of_path j.path)) ≡ level ask.filters j (answers i)) job
            (sym (agree i r.row r.is))

        tree_grows : Grows (found_at ask.filters) (children_at ask.filters) h job_at answers (λ i p. t (place_at i ++ p))
        tree_grows = record {
          same_found = λ i a. ap (found_of (job_at i)) (at_level i a);
          same_children = λ i a. ap children_of (at_level i a);
          under = λ i a. under_places t place_at i (children_of_number i) (posts_under i h) (all_placed i a);
        }

        whole_tree : (λ (p : List (List ℕ)). t (place_at 0 ++ p)) ≡ t
        whole_tree = ap {B = List (List ℕ) → Answers} (λ (x : List (List ℕ)) (p : List (List ℕ)). t (x ++ p))
            (ap (λ (j : JobModel). names_of_path j.path) job_at_top ∙ ap names_of_path at_top)

-- the tree of rows has what the rows found
pub core_law : CoreLaw
core_law ask full capacity workers top h rows answers walked whole depth deep =
    of_rows ask full capacity workers top h rows answers walked whole depth deep

-- and each number once
pub numbers_law : NumbersLaw
numbers_law ask full capacity workers top h rows answers walked whole depth deep =
    of_numbers ask full capacity workers top h rows answers walked whole depth deep

-- so has a tree whose levels are those of the rows
pub one_answer_law : OneAnswerLaw
one_answer_law t ask full capacity workers top h rows answers walked whole at_top agree depth deep =
    of_one_tree ask full capacity workers top h rows answers walked whole t at_top agree depth deep

-- what is lawful in a part is lawful in the whole history
pub part_law : PartLaw
part_law = grind (arith, common_steps, part_says_whole)
