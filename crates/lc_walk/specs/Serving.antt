-- What a worker does with a directory that it has claimed.
use Rattle.std.specs.{Prelude.{◌≡◌, ℕ, true, List, [], ◌++◌, Option, Some, None, Result, Ok, Err}, declared.alloc.AllocError.AllocError}
use Rattle.lc_board.specs.{Holding.{job_held, posts_held}, Pass.{Pass, holding, posted}}
use Rattle.lc_level.specs.{Answers.Answers, Job.JobModel}
use Rattle.lc_walk.specs.{Lawful.Asked, Tally.{TallyModel, CountedFile, StandsFor}, WorkerResults.{HasWorked, FoundOver}}
use Rattle.lc_walk.specs.declared.{broken_cause.BrokenCause.{BrokenCause, TheVariants.{Memory, TooManyDirs, TooDeep}}, row.Row.Row}
use Rattle.lc_walk.specs.declared.worker.StopReason.{StopReason, TheVariants.{Over, Memory as NoMemory}}

-- the worker holds a claim, got this job with it, and has posted nothing under it
pub record HoldsJob (j : JobModel) (p : Pass JobModel Row) : Type 0 where
  pub number : ℕ
  pub holds : holding p ≡ Some number
  pub job_is : job_held p.mine ≡ Some j
  pub none : posts_held p.mine ≡ []
  pub nothing : posted p ≡ 0

-- the result of stopping work on a directory for a cause: an error exactly for the cause Memory
abbrev pub BreaksOff : BrokenCause → Result (Unit {0}) AllocError → Type 0
BreaksOff Memory (Ok _) = ⊥
BreaksOff Memory (Err _) = Unit {0}
BreaksOff TooManyDirs (Ok _) = Unit {0}
BreaksOff TooManyDirs (Err _) = ⊥
BreaksOff TooDeep (Ok _) = Unit {0}
BreaksOff TooDeep (Err _) = ⊥

-- what each result of adding files to a tally means; after an error, nothing is known of the tally
abbrev pub AddsFiles : List CountedFile → TallyModel → TallyModel → Result (Unit {0}) AllocError → Type 0
AddsFiles more old new (Ok _) = (files : List CountedFile) → StandsFor old files → StandsFor new (files ++ more)
AddsFiles more old new (Err _) = Unit {0}

-- if the worker had worked from any earlier state of its pass up to `old`, it has now worked up to `new`, with the tally `after`
abbrev pub WorksOn : Asked → (List ℕ → Answers → Type 0) →
    Pass JobModel Row → Pass JobModel Row → Option TallyModel → Option TallyModel → Type 0
WorksOn ask MayAnswer old new before after =
    (first : Pass JobModel Row) → HasWorked ask MayAnswer first old before → HasWorked ask MayAnswer first new after

-- what each result of the work on a claimed directory means; after a failed allocation, there is no tally
abbrev pub Serves : Asked → (List ℕ → Answers → Type 0) →
    Pass JobModel Row → Pass JobModel Row → TallyModel → TallyModel → Result (Unit {0}) AllocError → Type 0
Serves ask MayAnswer old new before after (Ok _) = WorksOn ask MayAnswer old new (Some before) (Some after)
Serves ask MayAnswer old new before after (Err _) = WorksOn ask MayAnswer old new (Some before) None

-- what the pass of a worker shows if the worker stopped for this reason
abbrev pub EndsAs : StopReason → Pass JobModel Row → Type 0
EndsAs Over p = FoundOver p
EndsAs NoMemory p = p.refused ≡ true
