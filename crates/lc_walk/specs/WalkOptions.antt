-- What the options of a walk request.
use Rattle.std.specs.Prelude.{◌≡◌, ◌≤◌, ℕ, false}
use Rattle.lc_board.specs.Limits.{capacity_limit, workers_limit}
use Rattle.lc_level.specs.{Filters.FiltersModel, Job.JobModel, TopJob.top_job}
use Rattle.lc_walk.specs.{Lawful.Asked, declared.options.Options.Options}

-- the numbers of threads and of directories are at least 1 and at most their limits
pub record AreWithinLimits (o : Options) : Type 0 where
  pub some_thread : 1 ≤ o.threads
  pub few_threads : o.threads ≤ workers_limit
  pub some_room : 1 ≤ o.max_dirs
  pub few_dirs : o.max_dirs ≤ capacity_limit

-- the lists that the report must have, and the filters of the walk
abbrev pub asked_by : Options → Asked
asked_by o = record { lists = o.lists; filters = o.filters.now }

-- the job of the directory where the walk begins
abbrev pub top_of : Options → JobModel
top_of o = top_job o.filters.now

-- the options of a walk with these numbers and these filters, whose report has no optional lists
pub record HasNoLists (workers room : ℕ) (filters : FiltersModel) (o : Options) : Type 0 where
  pub threads : o.threads ≡ workers
  pub max_dirs : o.max_dirs ≡ room
  pub filtered : o.filters.now ≡ filters
  pub lists : o.lists ≡ record { files = false; left_out = false }
