-- The rows by which a worker ends its claims are lawful.
use Rattle.std.proofs.{lemmas.{Grind.common_steps, List.{length-map, length-take-le, Sorted.IsPermutation-append_comm}}, Common.{◌≡◌, ℕ}}
use Rattle.std.proofs.Common.{◌<◌, false, List, [], ◌++◌, length, map, take, cond, refl, sym, ◌∙◌, ap, subst, Option, Some, None, Result}
use Rattle.std.proofs.{Common.{Ok, Err, arith}, Math.Seq.take-length}
use Rattle.std.specs.declared.alloc.AllocError.{AllocError}
use Rattle.lc_board.specs.{Holding.{job_held, posts_held}, Pass.{Pass, after_give, after_fault}}
use Rattle.lc_tree.specs.Trees.{Listings, Contents}
use Rattle.lc_level.specs.declared.{fault_word.FaultWord.FaultWord, counting.CountedFiles.CountedFiles, opening.Opened.Opened}
use Rattle.lc_level.specs.{declared.fault_site.FaultSite.FaultSite, Answers.Answers, CountedNames.IsCounted, Deep.has_too_deep}
use Rattle.lc_level.specs.{Job.JobModel, Classified.bytes_of, Laws.parts_with, Level.{IsLevelOf, level, walked_in}, Opens.IsOpened}
use Rattle.lc_level.specs.{Opens.OpensLevel, WellFormed.IsWellFormed, TreeAnswers.MayAnswer}
use Rattle.lc_level.proofs.{CountedLevels.{opened_level, counted_level}, SomeAnswers.HasAnswers}
use Rattle.lc_walk.specs.{Found.{children_of, children_at}, Lawful.{Asked, IsCause, jobs_of, named, counted_files, files_at}}
use Rattle.lc_walk.specs.{Posting.{HasPosted, RefusesPost}, RowViews.ListedRowModel, Serving.{HoldsJob, BreaksOff, AddsFiles, WorksOn}}
use Rattle.lc_walk.specs.{Serving.Serves, Tally.{TallyModel, CountedFile, StandsFor}, FoundReports.tallied, WorkerResults.IsLawfulEnd}
use Rattle.lc_walk.specs.declared.broken_cause.BrokenCause.{BrokenCause, TheVariants.{Memory, TooManyDirs, TooDeep}}
use Rattle.lc_walk.specs.declared.row.Row.{Row, TheVariants.{Listed, Faulted, Broken}}
use Rattle.lc_walk.proofs.{Joining.stands_permuted, Posted.{posts_come, job_stays}, Working.{works_posts, works_give, works_fault}}
use Rattle.lc_walk.proofs.Working.{serves_broken, then_serves}
use Rattle.lc_board.specs.declared.answers.Ended.TheVariants as ended
use Rattle.lc_level.specs.declared.open_fault.OpenFault.TheVariants as open_fault

module _ (ask : Asked) (lists : List ℕ → Listings) (gives : List ℕ → Contents) where
  abbrev Lawful : Pass JobModel Row → JobModel → BrokenCause → Answers → Type 0
  Lawful p j c a = IsLawfulEnd ask p.full (MayAnswer lists gives) (job_held p.mine) (posts_held p.mine)
      (ended.Returned (Broken (record { job = j; cause = c }))) a

  -- a directory was broken off before anything was posted
  memory_end : (p : Pass JobModel Row) (j : JobModel) (some : HasAnswers lists gives j.path) → HoldsJob j p → Lawful p j Memory some.0
  memory_end p j some h = grind (arith, common_steps)

  -- and with it the tally, whatever stood there
  pub serves_unasked : (p : Pass JobModel Row) (j : JobModel) (t : Option TallyModel) → HasAnswers lists gives j.path → HoldsJob j p
      → WorksOn ask (MayAnswer lists gives) p (after_give p (Broken (record { job = j; cause = Memory }))) t None
  serves_unasked p j t some h = grind (arith, common_steps, works_give, memory_end)

  -- a directory was broken off before it was opened, for want of memory
  pub serves_unread : (p : Pass JobModel Row) (j : JobModel) (t : TallyModel) (result : Result (Unit {0}) AllocError)
      → HasAnswers lists gives j.path → HoldsJob j p → BreaksOff Memory result →
      Serves ask (MayAnswer lists gives) p (after_give p (Broken (record { job = j; cause = Memory }))) t t result
  serves_unread p j t result some h g = grind (arith, common_steps, serves_broken, memory_end)

  -- or since one of its entries is too deep
  pub serves_too_deep : (p : Pass JobModel Row) (j : JobModel) (t : TallyModel) (result : Result (Unit {0}) AllocError)
      → HoldsJob j p → OpensLevel lists gives ask.lists.left_out ask.filters j (Err open_fault.TooDeep) → BreaksOff TooDeep result →
      Serves ask (MayAnswer lists gives) p (after_give p (Broken (record { job = j; cause = TooDeep }))) t t result
  serves_too_deep p j t result h o g = grind (arith, common_steps, serves_broken)

  -- a directory at fault
  pub serves_faulted : (p : Pass JobModel Row) (j : JobModel) (site : FaultSite) (word : FaultWord) (t : TallyModel) → HoldsJob j p →
      OpensLevel lists gives ask.lists.left_out ask.filters j (Err (open_fault.Faulted site word)) →
      WorksOn ask (MayAnswer lists gives) p (after_fault p (Faulted (record { job = j; site = site; word = word }))) (Some t) (Some t)
  serves_faulted p j site word t h o = grind (arith, common_steps, works_fault)

  -- a directory was opened, and child directories were posted
  module _ (p q : Pass JobModel Row) (j : JobModel) (o : Opened) (h : HoldsJob j p)
      (c : IsOpened lists gives ask.lists.left_out ask.filters j o) where
    same_children : children_at ask.filters j c.inside.answers ≡ o.children.items
    same_children = let l = opened_level lists gives ask.lists.left_out ask.filters j o c in ap children_of l.listed ∙ l.walks

    job_now : (jobs : List JobModel) → HasPosted p q jobs → job_held q.mine ≡ Some j
    job_now jobs x = ap job_held x.mine ∙ job_stays x.since p.mine x.only ∙ h.job_is

    posts_now : (jobs : List JobModel) (x : HasPosted p q jobs) → posts_held q.mine ≡ posts_held x.since
    posts_now jobs x = ap posts_held x.mine ∙ posts_come x.since p.mine x.only ∙ ap (λ ps. ps ++ posts_held x.since) h.none

    broken_end : (cause : BrokenCause) (n : ℕ) → HasPosted p q (take n (jobs_of o.children.items))
        → IsCause ask q.full j c.inside.answers (posts_held q.mine) cause → Lawful q j cause c.inside.answers
    broken_end cause n x is = record {
      job_is = job_now _ x;
      well_formed = c.inside.well_formed;
      says = record {
        posted = n;
        posts_are = ap jobs_of (posts_now _ x) ∙ x.jobs_are ∙ ap (λ cs. take n (jobs_of cs))
            (sym same_children);
        cause_is = is;
      };
      may = c.inside.may;
    }

    -- fewer than all were posted
    fewer : (n : ℕ) → HasPosted p q (take n (jobs_of o.children.items)) → n < length (jobs_of o.children.items)
        → length (posts_held q.mine) < length (children_at ask.filters j c.inside.answers)
    fewer n x few = omega (
      arith,
      few,
      ap length (posts_now _ x),
      length-map (posts_held x.since) (λ (y : ℕ × JobModel). y.1),
      ap length x.jobs_are,
      length-take-le n (jobs_of o.children.items) (omega (arith, few)),
      length-map o.children.items (λ (y : List ℕ × JobModel). y.1),
      ap length same_children,
    )

    -- not all were posted
    pub serves_refused : (cause : BrokenCause) (t : TallyModel) (result : Result (Unit {0}) AllocError)
        → RefusesPost (jobs_of o.children.items) p q cause → BreaksOff cause result →
        Serves ask (MayAnswer lists gives) p (after_give q (Broken (record { job = j; cause = cause }))) t t result
    serves_refused Memory t result x g =
        then_serves ask (MayAnswer lists gives) p q _ t t result (works_posts ask (MayAnswer lists gives) p q _ (Some t) x.1)
        (serves_broken ask (MayAnswer lists gives) q j Memory c.inside.answers t t result (broken_end Memory x.0 x.1 tt) g (λ n. refl))
    serves_refused TooManyDirs t result x g =
        then_serves ask (MayAnswer lists gives) p q _ t t result (works_posts ask (MayAnswer lists gives) p q _ (Some t) x.1)
        (serves_broken ask (MayAnswer lists gives) q j TooManyDirs c.inside.answers t t result
        (broken_end TooManyDirs x.0 x.1 (x.2, fewer x.0 x.1 x.3)) g
        (λ n. refl))
    serves_refused TooDeep t result x g = absurd x

    -- all were posted, and then an allocation failed
    pub serves_uncounted : (t u : TallyModel) (result : Result (Unit {0}) AllocError) → HasPosted p q (jobs_of o.children.items)
        → BreaksOff Memory result →
        Serves ask (MayAnswer lists gives) p (after_give q (Broken (record { job = j; cause = Memory }))) t u result
    serves_uncounted t u result x g =
        let all = subst (HasPosted p q) (sym (take-length (jobs_of o.children.items))) x in
        then_serves ask (MayAnswer lists gives) p q _ t u result (works_posts ask (MayAnswer lists gives) p q _ (Some t) x)
        (serves_broken ask (MayAnswer lists gives) q j Memory c.inside.answers t u result (broken_end Memory _ all tt) g
        (λ n. absurd (n refl)))

    -- a row that has what was opened, counted and posted
    pub record IsRowOf (row : ListedRowModel) (found : CountedFiles) (posts : List (ℕ × JobModel)) : Type 0 where
      pub job : row.job ≡ j
      pub entries : row.entries ≡ o.entries
      pub files : row.files ≡ cond ask.lists.files found.files.items []
      pub faults : row.faults ≡ found.faults.items
      pub skipped : row.skipped ≡ o.skipped.items
      pub children : row.children ≡ named o.children.items posts

    -- and its files were counted
    pub serves_listed : (found : CountedFiles) (t u : TallyModel) (row : ListedRowModel) (x : HasPosted p q (jobs_of o.children.items))
        → IsCounted gives ask.filters o.job (bytes_of o.files.items) o.absent.items found →
        AddsFiles (map tallied found.files.items) t u (Ok tt) → IsRowOf row found (posts_held x.since) →
        WorksOn ask (MayAnswer lists gives) p (after_give q (Listed row)) (Some t) (Some u)
    serves_listed found t u row x f adds is first w =
        works_give ask (MayAnswer lists gives) q (Listed row) counted.0 (Some t) (Some u) lawful gains (λ e. absurd (cc e)) first
        (works_posts ask (MayAnswer lists gives) p q _ (Some t) x first w)
      where
        counted : (a : Answers) × MayAnswer lists gives j.path a × IsWellFormed a
            × IsLevelOf (level ask.filters j a) ask.lists.left_out (parts_with o found.files.items found.faults.items)
            × (has_too_deep ask.filters j a ≡ false)
        counted = counted_level lists gives ask.lists.left_out ask.filters j o c found f

        here : IsLevelOf (level ask.filters row.job counted.0) ask.lists.left_out (parts_with o found.files.items found.faults.items)
        here =
            subst (λ k. IsLevelOf (level ask.filters k counted.0) ask.lists.left_out
            (parts_with o found.files.items found.faults.items)) (sym is.job) counted.3

        own_files : files_at ask.filters row.job counted.0 ≡ found.files.items
        own_files = ap counted_files here.listed ∙ here.counts

        lawful : IsLawfulEnd ask q.full (MayAnswer lists gives) (job_held q.mine) (posts_held q.mine) (ended.Returned (Listed row))
            counted.0
        lawful = record {
          job_is = job_now _ x ∙ ap Some (sym is.job);
          well_formed = counted.2;
          says = record {
            fates = here.fates;
            absent = here.absent;
            level_is = here.listed;
            entries_are = is.entries ∙ sym here.numbers;
            files_are = is.files ∙ ap (λ fs. cond ask.lists.files fs []) (sym here.counts);
            faults_are = is.faults ∙ sym here.fails;
            skipped_are = is.skipped ∙ sym here.leaves;
            posts_are = ap jobs_of (posts_now _ x) ∙ x.jobs_are ∙ ap jobs_of (sym here.walks);
            children_are = is.children ∙ ap (λ cs. named cs (posts_held x.since)) (sym here.walks)
                ∙ ap (named (walked_in here.fates)) (sym (posts_now _ x));
            shallow = ap (λ k. has_too_deep ask.filters k counted.0) is.job ∙ counted.4;
          };
          may = subst (λ (k : JobModel). MayAnswer lists gives k.path counted.0) (sym is.job) counted.1;
        }

        gains : (fs : List CountedFile) → StandsFor t fs → StandsFor u (map tallied (files_at ask.filters row.job counted.0) ++ fs)
        gains fs s =
            subst (λ xs. StandsFor u (map tallied xs ++ fs)) (sym own_files)
            (stands_permuted u (fs ++ map tallied found.files.items) (map tallied found.files.items ++ fs)
            (IsPermutation-append_comm fs (map tallied found.files.items)) (adds fs s))
