-- From what the board's close, the workers and `assemble` ensure to what a walk answers.
use Rattle.std.proofs.{lemmas.{Grind.common_steps, Bool.cases_lt}, Common.{◌≡◌, ◌≢◌, ℕ, ◌≤◌, Bool, true, false, List, [], ◌∷◌, length}}
use Rattle.std.proofs.Common.{slice_get, sym, ◌∙◌, ap, arith, Some, Result, Ok, Err, map, ◌⊎◌, inl, inr, ◌<◌}
use Rattle.std.specs.List.{list_any}
use Rattle.lc_board.specs.{State.{Status, Open, Claimed, status}, Part.part, LegalHistory.{IsOver, posts_under}, Pass.Pass}
use Rattle.lc_board.specs.{ClosedBoard.{Promises, Settled, IsUnended, RefusesClose}, declared.event.Event.TheVariants.Over}
use Rattle.lc_board.specs.{declared.answers.{CloseFault.CloseFault, Ended.Ended}, WordClose.words_promises}
use Rattle.lc_board.proofs.{OverHistories.over_stays, PostedNumbers.within}
use Rattle.lc_walk.specs.{Tally.{TallyModel, StandsFor}, declared.{report.Report.Report, options.Options.Options}}
use Rattle.lc_walk.specs.declared.{broken_cause.BrokenCause.{BrokenCause, TheVariants.{TooManyDirs, TooDeep}}, row.Row.Row}
use Rattle.lc_walk.specs.{declared.walk_fault.WalkFault.WalkFault, Rows.{row_of, job_of}, Lawful.{Asked, Says, IsCause}}
use Rattle.lc_walk.specs.{Assembled.{IsBrokenBy, Assembles}, WorkerResults.{AreLawful, files_of_passes, FoundOver}, BoardAnswers.SomeRows}
use Rattle.lc_walk.specs.{BoardAnswers.WalkAnswers, CloseFaults.fault_of_close, WalkOptions.{asked_by, top_of}, Walks.Walks}
use Rattle.lc_level.specs.{Answers.Answers, Job.JobModel, TreeAnswers.MayAnswer}
use Rattle.lc_tree.specs.Trees.{Listings, Contents}
use Rattle.lc_walk.proofs.{Composed.{some_rows, answers, walked, lawful_here, report_of_walk}, Placing.placed, Listings.got_here}
use Rattle.lc_board.specs.declared.answers.CloseFault.TheVariants as close
use Rattle.lc_walk.specs.declared.walk_fault.WalkFault.TheVariants as fault

-- what a Broken row says of its cause
cause_said : (ask : Asked) (f : Bool) (c : BrokenCause) (e : Ended Row) (a : Answers) (posts : List (ℕ × JobModel)) → Says ask f e a posts
    → IsBrokenBy c (row_of e) → IsCause ask f (job_of (row_of e)) a posts c
cause_said ask f c e a posts s b = grind (arith, common_steps)

module _ (ask : Asked) (MayAnswer : List ℕ → Answers → Type 0) (capacity workers : ℕ) (top : JobModel) (promises : Promises)
    (passes : List (Pass JobModel Row))
    (room : 1 ≤ capacity) (count : length passes ≡ workers) (at_top : top.path ≡ []) where
  -- the board was closed
  module _ (given : ℕ → List Answers) (lawful : (w : ℕ) (p : Pass JobModel Row) → slice_get passes w ≡ Some p
      → AreLawful ask p.full MayAnswer p.mine (given w))
      (rows : List (Ended Row)) (settled : Settled capacity workers top promises passes rows) where
    abbrev rows_so : promises.keeps ≡ true → SomeRows MayAnswer ask capacity workers top promises
    rows_so keeps = some_rows ask MayAnswer capacity workers top promises passes rows room keeps count settled given lawful

    cause_here : (keeps : promises.keeps ≡ true) (c : BrokenCause) (i : ℕ) (e : Ended Row) → slice_get rows i ≡ Some e
        → IsBrokenBy c (row_of e) →
        IsCause ask (list_any (λ (p : Pass JobModel Row). p.full) passes) (job_of (row_of e))
        (answers ask MayAnswer capacity workers top promises passes rows room keeps count settled given lawful i)
        (posts_under i settled.history) c
    cause_here keeps c i e is b =
        cause_said ask _ c e _ _ (lawful_here ask MayAnswer capacity workers top promises passes rows room keeps count settled given
        lawful i e is).0.says b

    -- what is assembled of a closed board answers the walk
    pub assembled_walk : (t : TallyModel) → StandsFor t (files_of_passes ask given passes) → (result : Result Report WalkFault)
        → Assembles ask.lists t rows result →
        WalkAnswers MayAnswer ask capacity workers top promises result
    assembled_walk t stood (Ok r) a = λ keeps.
        report_of_walk ask MayAnswer capacity workers top promises passes rows room keeps count settled given lawful a.whole at_top t
        stood a.found a.told r a.report
    assembled_walk t stood (Err fault.Memory) a = tt
    assembled_walk t stood (Err fault.TooManyDirs) a = λ keeps fills.
        let found = rows_so keeps in
        let cause = cause_here keeps TooManyDirs a.0.0 a.0.1.0 a.0.1.1 a.0.1.2 in
        record {
          found = found;
          filled = found.filled fills cause.0;
          number = a.0.0;
          row = a.0.1.0;
          is = a.0.1.1;
          more = cause.1;
        }
    assembled_walk t stood (Err fault.TooDeep) a = λ keeps.
        record {
          found = rows_so keeps;
          number = a.0.0;
          row = a.0.1.0;
          is = a.0.1.1;
          deep = cause_here keeps TooDeep a.0.0 a.0.1.0
              a.0.1.1 a.0.1.2;
        }
    assembled_walk t stood (Err (fault.Torn n)) a = λ keeps compares.
        a.1 (placed ask (list_any (λ (p : Pass JobModel Row). p.full) passes) capacity workers top settled.history rows
        (answers ask MayAnswer capacity workers top promises passes rows room keeps count settled given lawful)
        (walked ask MayAnswer capacity workers top promises passes rows room keeps count settled given lawful) a.0 at_top n)
    assembled_walk t stood (Err (fault.Mismatch w)) a = absurd a

  -- the board was not closed
  unended : (s : Status) → IsUnended s → s ≢ Open → ((w : ℕ) → s ≢ Claimed w) → ⊥
  unended s u n m = grind (arith, common_steps)

  -- what a refused close answers
  pub refused_walk : 1 ≤ workers → ((w : ℕ) (p : Pass JobModel Row) → slice_get passes w ≡ Some p → (p.worker ≡ w) × FoundOver p) →
      (f : CloseFault) → RefusesClose capacity workers promises passes f
      → WalkAnswers MayAnswer ask capacity workers top promises (Err (fault_of_close f))
  refused_walk some ended_so (close.Unfinished n) u = λ keeps compares.
      let p = got_here passes 0 (omega arith) in
      let e = ended_so 0 p.0 p.1 in
      let told : part 0 u.history ≡ Over 0 ∷ e.1.0 = u.parts compares 0 p.0 p.1 ∙ e.1.1 ∙ ap (λ w. Over w ∷ e.1.0) e.0 in
      let over : IsOver u.history = over_stays capacity workers u.history u.legal 0 e.1.0 told in
      unended (status u.history n) u.left (over n).0 (over n).1
  refused_walk some ended_so (close.Mismatch w) u = λ compares. let both : true ≡ false = sym u.0 ∙ compares in absurd (cc both)
  refused_walk some ended_so close.Memory u = tt

-- there are no more rows than numbers
pub few_rows : (capacity workers : ℕ) (top : JobModel) (promises : Promises) (passes : List (Pass JobModel Row))
    (rows : List (Ended Row)) → 1 ≤ capacity → Settled capacity workers top promises passes rows → length rows ≤ capacity
few_rows capacity workers top promises passes rows room settled = at (cases_lt capacity (length rows))
  where
    at : (capacity < length rows) ⊎ (length rows ≤ capacity) → length rows ≤ capacity
    at (inl l) = let low = within capacity workers settled.history settled.legal room capacity
        (λ a. let past = (settled.numbers capacity).0 a in absurd (omega arith)) in absurd (omega arith)
    at (inr b) = b

-- a mapped list is as long
pub mapped : {A B : Type 0} (f : A → B) (xs : List A) → length (map f xs) ≡ length xs
mapped f xs = grind (arith, common_steps)

-- what a walk over words answers, by what closing these promises
pub by_words : (lists : List ℕ → Listings) (gives : List ℕ → Contents) (o : Options) (answer : Result Report WalkFault) →
    WalkAnswers (MayAnswer lists gives) (asked_by o) o.max_dirs o.threads (top_of o) words_promises answer → Walks lists gives o answer
by_words lists gives o answer a = grind (arith, common_steps)
