-- The rows of a walk whose tree answers as one tree stand where names lead in that tree.
use Rattle.std.proofs.{lemmas.{Grind.common_steps, Option.slice_get_within}, Common.{◌≡◌, ◌≢◌, ℕ, zero, suc, ◌<◌, Bool, List, [], ◌∷◌}}
use Rattle.std.proofs.Common.{◌++◌, slice_get, refl, sym, ◌∙◌, ap, subst, Some, inl, inr, arith}
use Rattle.std.specs.List.{AllByRecursion}
use Rattle.lc_board.specs.{State.{Absent, status}, LegalHistory.posts_under, declared.{event.Event.Event, answers.Ended.Ended}}
use Rattle.lc_board.proofs.Parents.{IsIn, HasParent, parent, posted_above}
use Rattle.lc_tree.specs.Paths.{names_of_path}
use Rattle.lc_level.specs.{Answers.{Answers, Tree}, Job.JobModel, Level.{level, child_job}, Filters.FiltersModel}
use Rattle.lc_walk.specs.{Found.children_at, FoundAt.{WalksInto, LeadsTo}, Lawful.{Asked, jobs_of}, Rows.{row_of, job_of}}
use Rattle.lc_walk.specs.{BoardAnswers.IsOneAnswer, ClosedWalks.{Walked, AreWhole}, declared.row.Row.Row}
use Rattle.lc_walk.proofs.{NumbersReached.{same_head, same_tail}, Elements.In, FoundByPlace.child_by_level, WalkOfRows.{row_here, job_or}}
use Rattle.lc_walk.proofs.{WalkOfRows.{job_at, inside, there, job_at_top, own_jobs, fits}, Levels.IsChild, Places.names_of_path-path_in}

-- where names lead to a directory that leaves in a child, they lead on to the child
pub leads_on : (filters : FiltersModel) (place : List (List ℕ)) (j k inside : JobModel) (name : List ℕ) (t : Tree)
    → LeadsTo filters j t place k → WalksInto filters k (t place) name inside
    → LeadsTo filters j t (place ++ name ∷ []) (child_job inside name)
leads_on filters [] j k inside name t e l = grind (arith, common_steps)
leads_on filters (n ∷ place) j k inside name t (i, l, more) leaves =
    grind (arith, common_steps, leads_on filters place (child_job i n) k inside name (λ p. t (n ∷ p)) more leaves)

-- a child directory that was posted at this number
record PostedChild (d : List ℕ) (cs : List (List ℕ × JobModel)) (job : JobModel) : Type 0 where
  child : List ℕ × JobModel
  among : In child cs
  good : IsChild d child
  job_is : child.1 ≡ job

posted_as : (d : List ℕ) (job : ℕ → JobModel) (cs : List (List ℕ × JobModel)) (ps : List (ℕ × JobModel)) (k : ℕ)
    → jobs_of ps ≡ jobs_of cs → AllByRecursion (IsChild d) cs → AllByRecursion (λ p. job p.0 ≡ p.1) ps → IsIn k ps
    → PostedChild d cs (job k)
posted_as d job cs [] k e a b i = absurd i
posted_as d job [] (p ∷ ps) k e a b i = absurd (cc e)
posted_as d job (c ∷ cs) (p ∷ ps) k e a b (inl same) = grind (arith, common_steps, same_head, same_tail)
posted_as d job (c ∷ cs) (p ∷ ps) k e a b (inr i) =
    grind (arith, common_steps, same_head, same_tail, posted_as d job cs ps k (same_tail p.1 c.1 (jobs_of ps) (jobs_of cs) e) a.1 b.1 i)

module _ (ask : Asked) (full : Bool) (capacity workers : ℕ) (top : JobModel) (h : List (Event JobModel Row)) (rows : List (Ended Row))
    (answers : ℕ → Answers) (walked : Walked ask full capacity workers top h rows answers) (whole : AreWhole rows)
    (at_top : top.path ≡ []) (MayAnswer : List ℕ → Answers → Type 0)
    (may : (i : ℕ) (e : Ended Row) → slice_get rows i ≡ Some e → MayAnswer (job_of (row_of e)).path (answers i))
    (t : Tree) (one : IsOneAnswer ask.filters MayAnswer top t) where
  abbrev job : ℕ → JobModel
  job i = job_at ask full capacity workers top h rows answers walked i

  abbrev place : ℕ → List (List ℕ)
  place i = names_of_path (job i).path

  abbrev IsLed : ℕ → Type 0
  IsLed i = LeadsTo ask.filters top t (place i) (job i)

  -- its level is then that of the tree there
  same_level : (i : ℕ) → status h i ≢ Absent → IsLed i
      → level ask.filters (job i) (answers i) ≡ level ask.filters (job i) (t (place i))
  same_level i a led =
      let r = row_here rows i (inside ask full capacity workers top h rows answers walked i a) in
      one (place i) (job i) led (answers i)
      (subst (λ (k : JobModel). MayAnswer k.path (answers i)) (ap (job_or top) (sym r.is)) (may i r.row r.is))

  -- and names lead on to what was posted under it
  led_below : (p k : ℕ) → status h p ≢ Absent → IsLed p → IsIn k (posts_under p h) → IsLed k
  led_below p k a led i =
      let f = fits ask full capacity workers top h rows answers walked whole p a in
      let c = posted_as (job p).path job (children_at ask.filters (job p) (answers p)) (posts_under p h) k f.jobs f.named_so
      (own_jobs ask full capacity workers top h rows answers walked p) i in
      let among : In c.child (children_at ask.filters (job p) (t (place p))) = grind (arith, common_steps, same_level) in
      let left = child_by_level ask.filters (job p) (t (place p)) c.child among in
      let there : place k ≡ place p ++ c.child.0 ∷ [] = grind (arith, common_steps, names_of_path-path_in) in
      subst (λ x. LeadsTo ask.filters top t x (job k)) (sym there)
      (subst (LeadsTo ask.filters top t (place p ++ c.child.0 ∷ [])) (sym left.2 ∙ c.job_is)
      (leads_on ask.filters (place p) top (job p) left.0 c.child.0 t led left.1))

  led_by : (k : ℕ) → HasParent h k → ((p : ℕ) → p < k → status h p ≢ Absent → IsLed p) → IsLed k
  led_by k (inl first) above =
      subst IsLed (sym first)
      (subst (λ (j : JobModel). LeadsTo ask.filters top t (names_of_path j.path) j)
      (sym (job_at_top ask full capacity workers top h rows answers walked))
      (subst (λ p. LeadsTo ask.filters top t (names_of_path p) top) (sym at_top) refl))
  led_by k (inr (p, a, i)) above =
      led_below p k a (above p (posted_above capacity workers top h walked.legal p k i) a) i

  led_under : (n k : ℕ) → k < n → status h k ≢ Absent → IsLed k
  led_under zero k low a = absurd (omega (arith, low))
  led_under (suc n) k low a =
      led_by k (parent capacity workers h walked.legal k a) (λ p below b. led_under n p (omega (arith, low, below)) b)

  -- each row's level is that of the tree
  pub agrees : (i : ℕ) (e : Ended Row) → slice_get rows i ≡ Some e →
      level ask.filters (job_of (row_of e)) (answers i)
      ≡ level ask.filters (job_of (row_of e)) (t (names_of_path (job_of (row_of e)).path))
  agrees i e is =
      let a = there ask full capacity workers top h rows answers walked i (slice_get_within rows i e is) in
      subst (λ (k : JobModel). level ask.filters k (answers i) ≡ level ask.filters k (t (names_of_path k.path)))
      (sym (ap (job_or top) (sym is)))
      (same_level i a (led_under (suc i) i (omega arith) a))
