-- How posting child directories changes a worker's pass.
use Rattle.std.specs.{Prelude.{◌≡◌, ℕ, ◌<◌, true, List, ◌++◌, length, take, Vec, Result, Ok, Err}, Global.Global, List.AllByRecursion}
use Rattle.lc_board.specs.{Holding.posts_held, Pass.Pass, declared.event.Event.{Event, TheVariants.{Post, Claim, Return, Fault, Over}}}
use Rattle.lc_level.specs.Job.{JobModel}
use Rattle.lc_walk.specs.{Lawful.{jobs_of, named}, RowViews.ChildModel}
use Rattle.lc_walk.specs.declared.{broken_cause.BrokenCause.{BrokenCause, TheVariants.{Memory, TooManyDirs, TooDeep}}, row.Row.Row}

abbrev pub IsPost : Event JobModel Row → Type 0
IsPost (Post w p i j) = Unit {0}
IsPost (Claim w i j) = ⊥
IsPost (Return w i r) = ⊥
IsPost (Fault w i r) = ⊥
IsPost (Over w) = ⊥

-- between the old state of a pass and the new one, the worker only posted these jobs, in order
pub record HasPosted (old new : Pass JobModel Row) (jobs : List JobModel) : Type 0 where
  pub worker : new.worker ≡ old.worker
  pub fuller : old.full ≡ true → new.full ≡ true
  pub since : List (Event JobModel Row)
  pub mine : new.mine ≡ since ++ old.mine
  pub only : AllByRecursion IsPost since
  pub jobs_are : jobs_of (posts_held since) ≡ jobs

-- why only the first of the jobs were posted. With the cause TooManyDirs, they are fewer than all
abbrev pub RefusesPost : List JobModel → Pass JobModel Row → Pass JobModel Row → BrokenCause → Type 0
RefusesPost jobs old new Memory = (n : ℕ) × HasPosted old new (take n jobs)
RefusesPost jobs old new TooManyDirs = (n : ℕ) × HasPosted old new (take n jobs) × (new.full ≡ true) × (n < length jobs)
RefusesPost jobs old new TooDeep = ⊥

-- what each result of posting further child directories means: their names and numbers are appended to those posted before
abbrev pub PostsMore : List (List ℕ × JobModel) → Pass JobModel Row → Pass JobModel Row →
    List ChildModel → List ChildModel → Result (Unit {0}) BrokenCause → Type 0
PostsMore children old new before after (Ok _) =
    (p : HasPosted old new (jobs_of children)) × (after ≡ before ++ named children (posts_held p.since))
PostsMore children old new before after (Err cause) = RefusesPost (jobs_of children) old new cause

-- what each result of posting child directories means: the names of the directories with the numbers of their posts
abbrev pub PostsChildren : List (List ℕ × JobModel) → Pass JobModel Row → Pass JobModel Row
    → Result (Vec ChildModel Global) BrokenCause → Type 0
PostsChildren children old new (Ok posted) =
    (p : HasPosted old new (jobs_of children)) × (posted.items ≡ named children (posts_held p.since))
PostsChildren children old new (Err cause) = RefusesPost (jobs_of children) old new cause
