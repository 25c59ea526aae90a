-- The answers of the tree of a walk's rows are some that its tree may give.
use Rattle.std.proofs.Common.{◌≡◌, ◌≢◌, ℕ, List, [], ◌∷◌, refl, sym, ◌∙◌, ap, subst, inl, inr}
use Rattle.std.specs.List.{AllByRecursion}
use Rattle.lc_board.specs.{ClosedBoard.Promises, LegalHistory.posts_under, State.{Absent, status}}
use Rattle.lc_board.proofs.{PostedNumbers.{start, Known, known}, Weights.each-map}
use Rattle.lc_level.specs.{Answers.{Answers, no_answers, Tree}, Job.JobModel, Level.child_job, WellFormed.IsWellFormed}
use Rattle.lc_level.specs.TreeAnswers.{MayAnswer}
use Rattle.lc_tree.specs.Trees.{Listings, Contents}
use Rattle.lc_walk.specs.{FoundAt.LeadsTo, GivenAnswers.ByAnswersLaw, Lawful.{Asked, jobs_of}, Rows.{row_of, job_of}, TreeOfRows.tree_from}
use Rattle.lc_walk.specs.{TreeOfRows.{children_by_rows, tree_of_rows}, ClosedWalks.AreWhole, BoardAnswers.SomeRows, WalkOptions.asked_by}
use Rattle.lc_walk.specs.WalkOptions.{top_of}
use Rattle.lc_walk.proofs.{NumbersReached.{Under, under_rows, same_head, same_tail, same_some}, Elements.In, FoundByPlace.level_by_child}
use Rattle.lc_walk.proofs.WalkOfRows.{row_here, job_or, job_at, inside, posted_at, job_at_top, fits}

module _ (lists : List ℕ → Listings) (gives : List ℕ → Contents) (ask : Asked) (capacity workers : ℕ) (top : JobModel)
    (promises : Promises) (found : SomeRows (MayAnswer lists gives) ask capacity workers top promises) (whole : AreWhole found.rows) where
  abbrev IsThere : ℕ → Type 0
  IsThere i = status found.history i ≢ Absent

  abbrev job : ℕ → JobModel
  job i = job_at ask found.full capacity workers top found.history found.rows found.answers found.walked i

  abbrev tree : ℕ → Tree
  tree i = tree_from no_answers found.answers (children_by_rows found.rows) i

  -- a child's number, where its tree stands
  record ChildNumber (i : ℕ) (c : List ℕ × JobModel) : Type 0 where
    number : ℕ
    below : (λ (q : List (List ℕ)). tree i (c.0 ∷ q)) ≡ tree number
    job_is : job number ≡ c.1
    there : IsThere number

  child_number_of : (i : ℕ) (cs : List (List ℕ × JobModel)) (ps : List (ℕ × JobModel)) → Under tree i cs ps → jobs_of ps ≡ jobs_of cs
      → AllByRecursion (λ p. (job p.0 ≡ p.1) × IsThere p.0) ps → (c : List ℕ × JobModel) → In c cs → ChildNumber i c
  child_number_of i [] ps under jobs own c has = absurd has
  child_number_of i (d ∷ cs) [] under jobs own c has = absurd (cc jobs)
  child_number_of i (d ∷ cs) (p ∷ ps) under jobs own c (inl e) = subst (ChildNumber i) e (record {
    number = p.0;
    below = under.0;
    job_is = own.0.0 ∙ same_head p.1 d.1 (jobs_of ps) (jobs_of cs) jobs;
    there = own.0.1;
  })
  child_number_of i (d ∷ cs) (p ∷ ps) under jobs own c (inr has) =
      child_number_of i cs ps under.1 (same_tail p.1 d.1 (jobs_of ps) (jobs_of cs) jobs) own.1 c has

  own_posts : (i : ℕ) → AllByRecursion (λ p. (job p.0 ≡ p.1) × IsThere p.0) (posts_under i found.history)
  own_posts i =
      each-map (Known capacity top found.history i) (λ p. (job p.0 ≡ p.1) × IsThere p.0)
      (λ p k. (
        same_some (job p.0) p.1 (sym (posted_at ask found.full capacity workers top found.history found.rows found.answers found.walked
            p.0 k.there) ∙ k.value),
        k.there,
      )) (posts_under i found.history) (known capacity workers top found.history found.walked.legal i)

  -- the number of a directory that names lead to
  record NumberAt (i : ℕ) (place : List (List ℕ)) (k : JobModel) : Type 0 where
    number : ℕ
    there : IsThere number
    job_is : job number ≡ k
    answers_are : tree i place ≡ found.answers number

  number_at : (place : List (List ℕ)) (i : ℕ) (k : JobModel) → IsThere i → LeadsTo ask.filters (job i) (tree i) place k
      → NumberAt i place k
  number_at [] i k there leads = record { number = i; there = there; job_is = leads; answers_are = refl }
  number_at (name ∷ place) i k there (within, leaves, leads) =
      let f = fits ask found.full capacity workers top found.history found.rows found.answers found.walked whole i there in
      let c = child_number_of i _ (posts_under i found.history)
      (under_rows no_answers found.answers (children_by_rows found.rows) i _ (posts_under i found.history) f.looked) f.jobs (own_posts i)
      (name, child_job within name) (level_by_child ask.filters (job i) (tree i []) name within leaves) in
      let on : LeadsTo ask.filters (job c.number) (tree c.number) place k =
      subst (λ (j : JobModel). LeadsTo ask.filters j (tree c.number) place k) (sym c.job_is)
      (subst (λ (t : Tree). LeadsTo ask.filters (child_job within name) t place k) c.below leads) in
      let n = number_at place c.number k c.there on in
      record {
        number = n.number;
        there = n.there;
        job_is = n.job_is;
        answers_are = ap (λ (t : Tree). t place) c.below ∙ n.answers_are;
      }

  -- so the tree of the rows answers as the tree may, with listings
  pub rows_given : (place : List (List ℕ)) (k : JobModel) → LeadsTo ask.filters top (tree_of_rows found.rows found.answers) place k
      → MayAnswer lists gives k.path (tree_of_rows found.rows found.answers place)
      × IsWellFormed (tree_of_rows found.rows found.answers place)
  rows_given place k leads =
      let first : job 0 ≡ top = job_at_top ask found.full capacity workers top found.history found.rows found.answers found.walked in
      let n = number_at place 0 k (start found.history)
      (subst (λ (j : JobModel). LeadsTo ask.filters j (tree 0) place k) (sym first) leads) in
      let r = row_here found.rows n.number
      (inside ask found.full capacity workers top found.history found.rows found.answers found.walked n.number n.there) in
      let same : job_of (row_of r.row) ≡ k = ap (job_or top) (sym r.is) ∙ n.job_is in (
        subst (λ (a : Answers). MayAnswer lists gives k.path a) (sym n.answers_are)
            (subst (λ (j : JobModel). MayAnswer lists gives j.path (found.answers n.number)) same (found.may n.number r.row r.is)),
        subst IsWellFormed (sym n.answers_are) (found.walked.lawful n.number r.row r.is).well_formed,
      )

-- so is each report of a walk by answers that its tree may give
pub by_answers : (lists : List ℕ → Listings) (gives : List ℕ → Contents) → ByAnswersLaw lists gives
by_answers lists gives o r w =
    let given = rows_given lists gives (asked_by o) o.max_dirs o.threads (top_of o) _ w.found w.whole in
    record {
      answers = tree_of_rows w.found.rows w.found.answers;
      listings = λ place k leads. (given place k leads).1;
      given = λ place k leads. (given place k leads).0;
      report = w.report;
    }
