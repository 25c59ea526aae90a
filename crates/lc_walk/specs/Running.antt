-- What is true after all workers of a walk have run.
use Rattle.std.specs.{Prelude.{◌≡◌, ℕ, ◌<◌, List, length, slice_get, slice_index_or, Option, Some}, List.flat_map}
use Rattle.lc_board.specs.Pass.{Pass}
use Rattle.lc_level.specs.{Answers.Answers, Job.JobModel}
use Rattle.lc_walk.specs.{BoardPasses.{IsFree, IsPassOf}, Lawful.Asked, Serving.EndsAs, Tally.{TallyModel, CountedFile, StandsFor}}
use Rattle.lc_walk.specs.{TreeOfRows.numbers_below, WorkerResults.{TalliesFor, HasWorked}, declared.row.Row.Row}
use Rattle.lc_walk.specs.declared.worker.{StopReason.{StopReason, TheVariants.Over}, WorkerResult.WorkerResult}

-- between the first state of its pass and the last, a worker has worked; it stopped for the reason `end`, with this tally
pub record HasRun (ask : Asked) (MayAnswer : List ℕ → Answers → Type 0)
    (first last : Pass JobModel Row) (end : StopReason) (tally : Option TallyModel) : Type 0 where
  pub ends : EndsAs end last
  pub worked : HasWorked ask MayAnswer first last tally

-- about the passes of a board
module _ {B P : Type 0} (owns : B → P → Type 0) (view : P → Pass JobModel Row) (board : B) where
  -- each pass is the board's own, and its worker has claimed nothing
  abbrev pub AreFree : List P → Type 0
  AreFree passes = (i : ℕ) (p : P) → i < length passes → p ≡ slice_index_or passes i p → IsPassOf owns view board IsFree p

  -- a worker that got the pass `given` has run, and returned a pass that is the board's own
  abbrev pub HasRunOn : Asked → (List ℕ → Answers → Type 0) → P → WorkerResult P → Type 0
  HasRunOn ask MayAnswer given worked =
      owns board worked.pass × HasRun ask MayAnswer (view given) (view worked.pass) worked.end worked.tally

  -- each worker that got one of these passes, in order, has run
  abbrev pub HaveRunOn : Asked → (List ℕ → Answers → Type 0) → List P → List (WorkerResult P) → Type 0
  HaveRunOn ask MayAnswer passes workers = (i : ℕ) (p : P) (w : WorkerResult P) → i < length passes →
      HasRunOn ask MayAnswer (slice_index_or passes i p) (slice_index_or workers i w)

module _ {P : Type 0} where
  -- each worker has found the board over
  abbrev pub AllOver : List (WorkerResult P) → Type 0
  AllOver workers = (w : ℕ) (x : WorkerResult P) → slice_get workers w ≡ Some x → x.end ≡ Over

  -- the tally is that of the files of all workers' tallies
  abbrev pub TalliesAll : List (WorkerResult P) → TallyModel → Type 0
  TalliesAll workers tally =
      (files : ℕ → List CountedFile) → ((w : ℕ) (x : WorkerResult P) → slice_get workers w ≡ Some x → TalliesFor x.tally (files w)) →
      StandsFor tally (flat_map files (numbers_below (length workers)))
