-- Closing a board: what the call requires, and what the workers of its passes have done before.
use Rattle.std.specs.Prelude.{◌≡◌, ℕ, ◌≤◌, List, [], length, slice_get, Some}
use Rattle.lc_board.specs.{Limits.capacity_limit, Pass.Pass}
use Rattle.lc_walk.specs.{Tally.{TallyModel, StandsFor}, Lawful.Asked, WorkerResults.{AreLawful, FoundOver, files_of_passes}}
use Rattle.lc_walk.specs.declared.{options.ReportLists.ReportLists, row.Row.Row}
use Rattle.lc_level.specs.{Answers.Answers, Job.JobModel, Filters.FiltersModel}

-- a board of this capacity and number of workers may be closed with these passes. The board has room, workers and the top of a tree. The
-- passes are the board's own, one for each worker, in order
pub record IsClosable {P : Type 0} (capacity count : ℕ) (IsRoot : JobModel → Type 0) (Owns : P → Type 0)
    (view : P → Pass JobModel Row) (passes : List P) : Type 0 where
  pub room : (1 ≤ capacity) × (capacity ≤ capacity_limit)
  pub workers : 1 ≤ count
  pub top : (root : JobModel) × IsRoot root × (root.path ≡ [])
  pub all : length passes ≡ count
  pub each : (w : ℕ) (p : P) → slice_get passes w ≡ Some p → Owns p × ((view p).worker ≡ w)

-- the worker of each pass has added lawful rows and has found the board over. The tally is that of the files of all Listed rows
pub record HaveWorked (ask : Asked) (MayAnswer : List ℕ → Answers → Type 0)
    (passes : List (Pass JobModel Row)) (tally : TallyModel) : Type 0 where
  pub given : ℕ → List Answers
  pub lawful : (w : ℕ) (p : Pass JobModel Row) → slice_get passes w ≡ Some p → AreLawful ask p.full MayAnswer p.mine (given w)
  pub ended : (w : ℕ) (p : Pass JobModel Row) → slice_get passes w ≡ Some p → (p.worker ≡ w) × FoundOver p
  pub tallied : StandsFor tally (files_of_passes ask given passes)

abbrev pub asked : ReportLists → FiltersModel → Asked
asked lists filters = record { lists = lists; filters = filters }
