-- What a worker has done goes on with each call.
use Rattle.std.proofs.Common.{arith, rules, ◌≡◌, ◌≢◌, ◌⊎◌, inl, inr, ℕ, Bool, List, [], ◌∷◌, ◌++◌, refl, ap, subst, Option, Some, None}
use Rattle.std.proofs.{Common.{Result, true, append_assoc}, lemmas.Grind.common_steps}
use Rattle.std.specs.{List.AllByRecursion, Result.is_err, declared.alloc.AllocError.AllocError}
use Rattle.lc_board.specs.{Holding.{job_held, posts_held}, Pass.{Pass, held_number, after_claim, after_give, after_fault}}
use Rattle.lc_board.specs.declared.event.Event.{Event, TheVariants.{Post, Claim, Return, Fault, Over}}
use Rattle.lc_board.specs.{declared.answers.Claim.Claim as ClaimAnswer}
use Rattle.lc_level.specs.{Answers.Answers, Job.JobModel}
use Rattle.lc_walk.specs.{Lawful.Asked, Posting.{IsPost, HasPosted}, Serving.{BreaksOff, WorksOn, Serves}, Tally.{TallyModel, CountedFile}}
use Rattle.lc_walk.specs.{Tally.StandsFor, WorkerResults.{IsLawfulEnd, AreLawful, AreLawfulSince, HasWorked, TalliesFor, RanOutOfMemory}}
use Rattle.lc_walk.specs.{WorkerResults.{files_given, returned_files}, Assembled.IsBrokenBy}
use Rattle.lc_walk.specs.declared.{broken_cause.BrokenCause.{BrokenCause, TheVariants.Memory}, row.Row.{Row, TheVariants.Broken}}
use Rattle.lc_walk.proofs.RefusedPosts.{fuller_since}
use Rattle.lc_board.specs.declared.answers.Claim.TheVariants as answer
use Rattle.lc_board.specs.declared.answers.Ended.TheVariants as ended

abbrev Events : Type 0
Events = List (Event JobModel Row)

-- posts give no row
posts_lawful : (ask : Asked) (full : Bool) (MayAnswer : List ℕ → Answers → Type 0) (old s m : Events) (given : List Answers) →
    AllByRecursion IsPost s → AreLawfulSince ask full MayAnswer old m given → AreLawfulSince ask full MayAnswer old (s ++ m) given
posts_lawful ask full MayAnswer old [] m given a l = l
posts_lawful ask full MayAnswer old (Post w p i j ∷ s) m given a l = posts_lawful ask full MayAnswer old s m given a.1 l
posts_lawful ask full MayAnswer old (event ∷ s) m given a l = absurd a.0

-- the rows given before and since are all rows that were given
pub lawful_since : (ask : Asked) (full : Bool) (MayAnswer : List ℕ → Answers → Type 0) (old since : Events) (before given : List Answers) →
    AreLawful ask full MayAnswer old before → AreLawfulSince ask full MayAnswer old since given →
    AreLawful ask full MayAnswer (since ++ old) (given ++ before)
lawful_since ask full MayAnswer old [] before [] b l = b
lawful_since ask full MayAnswer old [] before (a ∷ given) b l = absurd l
lawful_since ask full MayAnswer old (Return w i r ∷ m) before [] b l = absurd l
lawful_since ask full MayAnswer old (Return w i r ∷ m) before (a ∷ given) b l =
    (l.0, lawful_since ask full MayAnswer old m before given b l.1)
lawful_since ask full MayAnswer old (Fault w i r ∷ m) before [] b l = absurd l
lawful_since ask full MayAnswer old (Fault w i r ∷ m) before (a ∷ given) b l =
    (l.0, lawful_since ask full MayAnswer old m before given b l.1)
lawful_since ask full MayAnswer old (event ∷ m) before given b l = lawful_since ask full MayAnswer old m before given b l

posts_files : (ask : Asked) (s m : Events) (given : List Answers) → AllByRecursion IsPost s
    → files_given ask (s ++ m) given ≡ files_given ask m given
posts_files ask [] m given a = refl
posts_files ask (Post w p i j ∷ s) m given a = posts_files ask s m given a.1
posts_files ask (event ∷ s) m given a = absurd a.0

posts_keep_refusal : (s m : Events) → AllByRecursion IsPost s → RanOutOfMemory m → RanOutOfMemory (s ++ m)
posts_keep_refusal [] m a u = u
posts_keep_refusal (Post w p i j ∷ s) m a u = posts_keep_refusal s m a.1 u
posts_keep_refusal (event ∷ s) m a u = absurd a.0

module _ (ask : Asked) (MayAnswer : List ℕ → Answers → Type 0) where
  -- a worker that has done nothing has no files
  pub works_first : (p : Pass JobModel Row) (t : TallyModel) → StandsFor t [] → HasWorked ask MayAnswer p p (Some t)
  works_first p t s = record {
    worker = refl;
    since = [];
    mine = refl;
    answers = [];
    lawful = tt;
    tallied = s;
    untallied = λ e. absurd
        (cc e);
  }

  -- what a worker has done goes on with events that give no row
  works_on : (first p q : Pass JobModel Row) (t : Option TallyModel) (since : Events) (w : HasWorked ask MayAnswer first p t)
      → q.worker ≡ p.worker → q.mine ≡ since ++ first.mine → AreLawfulSince ask q.full MayAnswer first.mine since w.answers
      → TalliesFor t (files_given ask since w.answers) → (t ≡ None → RanOutOfMemory since) → HasWorked ask MayAnswer first q t
  works_on first p q t since w same mine lawful tallied untallied = grind (arith, common_steps)

  -- a claim
  pub works_claim : (p : Pass JobModel Row) (a : ClaimAnswer JobModel) (t : Option TallyModel)
      → WorksOn ask MayAnswer p (after_claim p a) t t
  works_claim p (answer.Got i j) t first w =
      works_on first p _ t (Claim p.worker i j ∷ w.since) w refl (ap (λ m. Claim p.worker i j ∷ m) w.mine) w.lawful w.tallied w.untallied
  works_claim p answer.Later t first w = w
  works_claim p answer.Over t first w =
      works_on first p _ t (Over p.worker ∷ w.since) w refl (ap (λ m. Over p.worker ∷ m) w.mine) w.lawful w.tallied w.untallied
  works_claim p answer.Memory t first w = works_on first p _ t w.since w refl w.mine w.lawful w.tallied w.untallied

  -- posts
  pub works_posts : (p q : Pass JobModel Row) (jobs : List JobModel) (t : Option TallyModel) → HasPosted p q jobs
      → WorksOn ask MayAnswer p q t t
  works_posts p q jobs t h = search (rules, arith, works_on, append_assoc, posts_lawful, fuller_since, posts_files, posts_keep_refusal)

  -- a claim is ended by a lawful row, of which the tally gets the files
  pub works_give : (p : Pass JobModel Row) (r : Row) (a : Answers) (t u : Option TallyModel)
      → IsLawfulEnd ask p.full MayAnswer (job_held p.mine) (posts_held p.mine) (ended.Returned r) a →
      ((fs : List CountedFile) → TalliesFor t fs → TalliesFor u (returned_files ask r a ++ fs))
      → (u ≡ None → IsBrokenBy Memory r ⊎ (t ≡ None)) → WorksOn ask MayAnswer p (after_give p r) t u
  works_give p r a t u l more none first w = record {
    worker = w.worker;
    since = Return p.worker (held_number p) r ∷ w.since;
    mine = ap (λ m. Return p.worker (held_number p) r ∷ m) w.mine;
    answers = a ∷ w.answers;
    lawful = (subst (λ m. IsLawfulEnd ask p.full MayAnswer (job_held m) (posts_held m) (ended.Returned r) a) w.mine l, w.lawful);
    tallied = more _ w.tallied;
    untallied = λ e. at (none e);
  }
    where
      at : IsBrokenBy Memory r ⊎ (t ≡ None) → IsBrokenBy Memory r ⊎ RanOutOfMemory w.since
      at (inl b) = inl b
      at (inr e) = inr (w.untallied e)

  -- a fault
  pub works_fault : (p : Pass JobModel Row) (r : Row) (a : Answers) (t : Option TallyModel)
      → IsLawfulEnd ask p.full MayAnswer (job_held p.mine) (posts_held p.mine) (ended.Faulted r) a
      → WorksOn ask MayAnswer p (after_fault p r) t t
  works_fault p r a t l first w = record {
    worker = w.worker;
    since = Fault p.worker (held_number p) r ∷ w.since;
    mine = ap (λ m. Fault p.worker (held_number p) r ∷ m) w.mine;
    answers = a ∷ w.answers;
    lawful = (subst (λ m. IsLawfulEnd ask p.full MayAnswer (job_held m) (posts_held m) (ended.Faulted r) a) w.mine l, w.lawful);
    tallied = w.tallied;
    untallied = w.untallied;
  }

  -- a directory was broken off
  pub serves_broken : (p : Pass JobModel Row) (j : JobModel) (c : BrokenCause) (a : Answers) (t u : TallyModel)
      (result : Result (Unit {0}) AllocError) →
      IsLawfulEnd ask p.full MayAnswer (job_held p.mine) (posts_held p.mine) (ended.Returned (Broken (record { job = j; cause = c })))
      a → BreaksOff c result → (c ≢ Memory → t ≡ u) →
      Serves ask MayAnswer p (after_give p (Broken (record { job = j; cause = c }))) t u result
  serves_broken p j c a t u result l g same = grind (arith, common_steps, works_give)

  -- a claim, and what is done under it
  pub then_serves : (p q r : Pass JobModel Row) (t u : TallyModel) (result : Result (Unit {0}) AllocError)
      → WorksOn ask MayAnswer p q (Some t) (Some t) → Serves ask MayAnswer q r t u result → Serves ask MayAnswer p r t u result
  then_serves p q r t u result a b = grind (arith, common_steps)

  -- where an allocation failed no tally is left
  pub refused_serves : (p q : Pass JobModel Row) (t u : TallyModel) (result : Result (Unit {0}) AllocError) → is_err result ≡ true
      → Serves ask MayAnswer p q t u result → WorksOn ask MayAnswer p q (Some t) None
  refused_serves p q t u result e s = grind (arith, common_steps)
