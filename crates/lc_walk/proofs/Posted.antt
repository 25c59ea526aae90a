-- What posts leave of a pass.
use Rattle.std.proofs.lemmas.Grind.{common_steps}
use Rattle.std.proofs.Common.{◌≡◌, ℕ, zero, suc, ◌<◌, List, [], ◌∷◌, ◌++◌, length, take, refl, sym, ◌∙◌, ap, subst, Ok, Err, append_assoc}
use Rattle.std.proofs.{Common.{append-nil, arith}, lemmas.List.{length-append, length-map, map-append}, Math.Seq.take-append_seam}
use Rattle.std.specs.List.{AllByRecursion}
use Rattle.lc_board.specs.{Pass.{Pass, held_number, adding, filled}, declared.event.Event.{Event, TheVariants.Post}}
use Rattle.lc_level.specs.Job.{JobModel}
use Rattle.lc_walk.specs.{Lawful.{jobs_of, named}, Posting.{IsPost, HasPosted, RefusesPost, PostsMore}, RowViews.ChildModel}
use Rattle.lc_walk.specs.declared.{broken_cause.BrokenCause.{BrokenCause, TheVariants.{Memory, TooManyDirs, TooDeep}}, row.Row.Row}
use Rattle.lc_board.specs.Holding as events

abbrev Events : Type 0
Events = List (Event JobModel Row)

-- ---- what posts leave as it was

-- what was posted before, and what was posted since
pub posts_come : (s m : Events) → AllByRecursion IsPost s → events.posts_held (s ++ m) ≡ events.posts_held m ++ events.posts_held s
posts_come [] m a = sym (append-nil (events.posts_held m))
posts_come (Post w p i j ∷ s) m a = grind (arith, common_steps, append-nil, append_assoc, posts_come s m a.1)
posts_come (event ∷ s) m a = absurd a.0

-- a post leaves the claim as it was
pub job_stays : (s m : Events) → AllByRecursion IsPost s → events.job_held (s ++ m) ≡ events.job_held m
job_stays [] m a = refl
job_stays (Post w p i j ∷ s) m a = job_stays s m a.1
job_stays (event ∷ s) m a = absurd a.0

both_only : (s m : Events) → AllByRecursion IsPost s → AllByRecursion IsPost m → AllByRecursion IsPost (s ++ m)
both_only s m a b = grind (arith, common_steps)

-- ---- posts of a pass

-- nothing was posted
pub posted_none : (p : Pass JobModel Row) → HasPosted p p []
posted_none p = record { worker = refl; fuller = λ f. f; since = []; mine = refl; only = tt; jobs_are = refl }

abbrev posted_child : (p : Pass JobModel Row) (i : ℕ) (j : JobModel) (child : List ℕ × JobModel) → j ≡ child.1
    → HasPosted p (adding p (Post p.worker (held_number p) i j)) (child.1 ∷ [])
posted_child p i j child e = record {
  worker = refl;
  fuller = λ f. f;
  since = Post p.worker (held_number p) i j ∷ [];
  mine = refl;
  only = (tt, tt);
  jobs_are = ap (λ k. k ∷ []) e;
}

-- a child directory was posted, and noted or not
pub posted_noted : (p : Pass JobModel Row) (i : ℕ) (j : JobModel) (child : List ℕ × JobModel) (before after : List ChildModel)
    → j ≡ child.1 →
    after ≡ before ++ record { name = child.0; number = i } ∷ []
    → PostsMore (child ∷ []) p (adding p (Post p.worker (held_number p) i j)) before after (Ok tt)
posted_noted p i j child before after e is = (posted_child p i j child e, is)

-- a post whose number could not be noted
pub posted_unnoted : (p : Pass JobModel Row) (i : ℕ) (j : JobModel) (child : List ℕ × JobModel) (before after : List ChildModel)
    → j ≡ child.1 →
    PostsMore (child ∷ []) p (adding p (Post p.worker (held_number p) i j)) before after (Err Memory)
posted_unnoted p i j child before after e = (1, posted_child p i j child e)

-- a post that was answered Full posts nothing
pub posted_full : (p : Pass JobModel Row) → HasPosted p (filled p) []
posted_full p = record { worker = refl; fuller = λ f. refl; since = []; mine = refl; only = tt; jobs_are = refl }

-- posts, and more posts
pub posted_then : (p q r : Pass JobModel Row) (js ks : List JobModel) → HasPosted p q js → HasPosted q r ks → HasPosted p r (js ++ ks)
posted_then p q r js ks a b = record {
  worker = b.worker ∙ a.worker;
  fuller = λ f. b.fuller (a.fuller f);
  since = b.since ++ a.since;
  mine = b.mine ∙ ap (λ m. b.since ++ m) a.mine ∙ sym (append_assoc b.since a.since p.mine);
  only = both_only b.since a.since b.only a.only;
  jobs_are =
      ap jobs_of (posts_come b.since a.since b.only)
      ∙ map-append (λ (x : ℕ × JobModel). x.1) (events.posts_held a.since) (events.posts_held b.since)
      ∙ ap (λ x. x ++ jobs_of (events.posts_held b.since)) a.jobs_are
      ∙ ap (λ x. js ++ x) b.jobs_are;
}

-- ---- the children's names with the numbers of their posts

-- the children of both with the numbers of both
pub named_both : (cs ds : List (List ℕ × JobModel)) (ps qs : List (ℕ × JobModel)) → jobs_of ps ≡ jobs_of cs
    → named (cs ++ ds) (ps ++ qs) ≡ named cs ps ++ named ds qs
named_both [] ds [] qs e = refl
named_both [] ds (p ∷ ps) qs e = cc
named_both (c ∷ cs) ds [] qs e = cc
named_both (c ∷ cs) ds (p ∷ ps) qs e = let rest : jobs_of ps ≡ jobs_of cs = cc in ap (λ x. record { name = c.0; number = p.0 } ∷ x)
    (named_both cs ds ps qs rest)

-- after some child directories one more
pub posted_more : (p q r : Pass JobModel Row) (done : List (List ℕ × JobModel)) (c : List ℕ × JobModel)
    (before after : List ChildModel) (a : HasPosted p q (jobs_of done)) →
    before ≡ named done (events.posts_held a.since) → PostsMore (c ∷ []) q r before after (Ok tt)
    → (x : HasPosted p r (jobs_of (done ++ c ∷ []))) × (after ≡ named (done ++ c ∷ []) (events.posts_held x.since))
unfolding posted_then
posted_more p q r done c before after a names more =
    let e = map-append (λ (x : List ℕ × JobModel). x.1) done (c ∷ []) in
    let b = more.0 in (
      record {
        worker = b.worker ∙ a.worker;
        fuller = λ f. b.fuller (a.fuller f);
        since = b.since ++ a.since;
        mine = (posted_then p q r _ _ a b).mine;
        only = both_only b.since a.since b.only a.only;
        jobs_are = (posted_then p q r _ _ a b).jobs_are ∙ sym e;
      },
      more.1
          ∙ ap (λ x. x ++ named (c ∷ []) (events.posts_held b.since)) names
          ∙ sym (named_both done (c ∷ []) (events.posts_held a.since) (events.posts_held b.since) a.jobs_are)
          ∙ ap (named (done ++ c ∷ [])) (sym (posts_come b.since a.since b.only)),
    )

-- all were posted
pub posted_all : (p q : Pass JobModel Row) (done rest all : List (List ℕ × JobModel)) (children : List ChildModel) → done ++ rest ≡ all
    → rest ≡ [] →
    (x : HasPosted p q (jobs_of done)) × (children ≡ named done (events.posts_held x.since))
    → (x : HasPosted p q (jobs_of all)) × (children ≡ named all (events.posts_held x.since))
posted_all p q done rest all children e none x =
    subst (λ (cs : List (List ℕ × JobModel)). (x : HasPosted p q (jobs_of cs)) × (children ≡ named cs (events.posts_held x.since)))
    (sym (append-nil done) ∙ ap (λ r. done ++ r) (sym none) ∙ e) x

-- the first jobs of all
firsts : (done rest all : List (List ℕ × JobModel)) → done ++ rest ≡ all → jobs_of done ≡ take (length (jobs_of done)) (jobs_of all)
firsts done rest all e = grind (arith, common_steps, take-append_seam, map-append)

-- of all child directories these were posted, and of the next none
posted_before : (p q r : Pass JobModel Row) (done rest all : List (List ℕ × JobModel)) (c : List ℕ × JobModel) → done ++ c ∷ rest ≡ all →
    HasPosted p q (jobs_of done) → HasPosted q r [] → HasPosted p r (take (length (jobs_of done)) (jobs_of all))
posted_before p q r done rest all c e a b =
    subst (HasPosted p r) (append-nil (jobs_of done) ∙ firsts done (c ∷ rest) all e) (posted_then p q r (jobs_of done) [] a b)

-- or some
pub posted_first : (p q r : Pass JobModel Row) (done rest all : List (List ℕ × JobModel)) (c : List ℕ × JobModel) (n : ℕ)
    → done ++ c ∷ rest ≡ all →
    HasPosted p q (jobs_of done) → HasPosted q r (take n (c.1 ∷ [])) → (k : ℕ) × HasPosted p r (take k (jobs_of all))
posted_first p q r done rest all c zero e a b = (length (jobs_of done), posted_before p q r done rest all c e a b)
posted_first p q r done rest all c (suc n) e a b = (
  length (jobs_of (done ++ c ∷ [])),
  subst (HasPosted p r)
      (sym (map-append (λ (x : List ℕ × JobModel). x.1) done (c ∷ [])) ∙ firsts (done ++ c ∷ []) rest all
      (append_assoc done (c ∷ []) rest ∙ e)) (posted_then p q r (jobs_of done) (c.1 ∷ []) a (one n b)),
)
  where
    one : (n : ℕ) → HasPosted q r (take (suc n) (c.1 ∷ [])) → HasPosted q r (c.1 ∷ [])
    one zero h = h
    one (suc n) h = h

-- why the posting of all was refused, where that of the next was
pub refused_first : (p q r : Pass JobModel Row) (done rest all : List (List ℕ × JobModel)) (c : List ℕ × JobModel) (cause : BrokenCause)
    → done ++ c ∷ rest ≡ all →
    HasPosted p q (jobs_of done) → RefusesPost (c.1 ∷ []) q r cause → RefusesPost (jobs_of all) p r cause
refused_first p q r done rest all c Memory e a b = posted_first p q r done rest all c b.0 e a b.1
refused_first p q r done rest all c TooManyDirs e a (n, posted, full, few) = at n posted few
  where
    fewer : length (jobs_of done) < length (jobs_of all)
    fewer = omega (
      arith,
      ap length e,
      length-append done (c ∷ rest),
      length-map done (λ (x : List ℕ × JobModel). x.1),
      length-map all (λ (x : List ℕ × JobModel). x.1),
    )

    at : (n : ℕ) → HasPosted q r (take n (c.1 ∷ [])) → n < 1 → RefusesPost (jobs_of all) p r TooManyDirs
    at zero posted few = (length (jobs_of done), posted_before p q r done rest all c e a posted, full, fewer)
    at (suc n) posted few = absurd (omega (arith, few))
refused_first p q r done rest all c TooDeep e a b = b
