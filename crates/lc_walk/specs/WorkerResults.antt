-- What is true of the rows and the tally of a worker.
use Rattle.std.specs.Prelude.{◌⊎◌, ◌≡◌, ℕ, Bool, List, [], ◌∷◌, ◌++◌, Option, Some, None, map, flat_map, length, slice_get}
use Rattle.lc_board.specs.{Holding.{job_held, posts_held}, Pass.Pass}
use Rattle.lc_board.specs.declared.{event.Event.{Event, TheVariants.{Post, Claim, Return, Fault, Over}}, answers.Ended.Ended}
use Rattle.lc_board.specs.Ends.{EachEnd}
use Rattle.lc_walk.specs.{Tally.{TallyModel, CountedFile, StandsFor}, Rows.{row_of, job_of}, Lawful.{Asked, Says, files_at}}
use Rattle.lc_walk.specs.{TreeOfRows.numbers_below, FoundReports.tallied, Assembled.IsBrokenBy}
use Rattle.lc_walk.specs.declared.{broken_cause.BrokenCause.TheVariants.Memory, row.Row.{Row, TheVariants.{Listed, Faulted, Broken}}}
use Rattle.lc_level.specs.{Answers.Answers, Job.JobModel, WellFormed.IsWellFormed}
use Rattle.lc_board.specs.declared.answers.Ended.TheVariants as ended

-- the counted files of a returned row, by its answers
abbrev pub returned_files : Asked → Row → Answers → List CountedFile
returned_files ask (Listed r) a = map tallied (files_at ask.filters r.job a)
returned_files ask (Faulted r) a = []
returned_files ask (Broken r) a = []

-- the row is true of these answers and of the claim that it ends, which got this job and has these posts. The tree may give these answers
-- for the row's directory
pub record IsLawfulEnd (ask : Asked) (full : Bool) (MayAnswer : List ℕ → Answers → Type 0)
    (got : Option JobModel) (posts : List (ℕ × JobModel)) (e : Ended Row) (a : Answers) : Type 0 where
  pub job_is : got ≡ Some (job_of (row_of e))
  pub well_formed : IsWellFormed a
  pub says : Says ask full e a posts
  pub may : MayAnswer (job_of (row_of e)).path a

-- each row in these events is lawful with its answers, which are listed for each row, the newest first. This is about each claim alone:
-- until the board is closed, no clause excludes that a number is claimed twice
abbrev pub AreLawful : Asked → Bool → (List ℕ → Answers → Type 0) → List (Event JobModel Row) → List Answers → Type 0
AreLawful ask full MayAnswer m given = EachEnd (λ got posts e a. IsLawfulEnd ask full MayAnswer got posts e a) m given

-- like `AreLawful`, for the rows in events that came after the events `old`, in which their claims may have begun
module _ (ask : Asked) (full : Bool) (MayAnswer : List ℕ → Answers → Type 0) (old : List (Event JobModel Row)) where
  abbrev pub AreLawfulSince : List (Event JobModel Row) → List Answers → Type 0
  AreLawfulSince [] [] = Unit {0}
  AreLawfulSince [] (a ∷ given) = ⊥
  AreLawfulSince (Post w p i j ∷ m) given = AreLawfulSince m given
  AreLawfulSince (Claim w i j ∷ m) given = AreLawfulSince m given
  AreLawfulSince (Return w i r ∷ m) [] = ⊥
  AreLawfulSince (Return w i r ∷ m) (a ∷ given) =
      IsLawfulEnd ask full MayAnswer (job_held (m ++ old)) (posts_held (m ++ old)) (ended.Returned r) a × AreLawfulSince m given
  AreLawfulSince (Fault w i r ∷ m) [] = ⊥
  AreLawfulSince (Fault w i r ∷ m) (a ∷ given) =
      IsLawfulEnd ask full MayAnswer (job_held (m ++ old)) (posts_held (m ++ old)) (ended.Faulted r) a × AreLawfulSince m given
  AreLawfulSince (Over w ∷ m) given = AreLawfulSince m given

-- the counted files of the Listed rows in these events, by the rows' answers
abbrev pub files_given : Asked → List (Event JobModel Row) → List Answers → List CountedFile
files_given ask [] given = []
files_given ask (Post w p i j ∷ m) given = files_given ask m given
files_given ask (Claim w i j ∷ m) given = files_given ask m given
files_given ask (Return w i r ∷ m) [] = []
files_given ask (Return w i r ∷ m) (a ∷ given) = returned_files ask r a ++ files_given ask m given
files_given ask (Fault w i r ∷ m) [] = []
files_given ask (Fault w i r ∷ m) (a ∷ given) = files_given ask m given
files_given ask (Over w ∷ m) given = files_given ask m given

-- the tally, if there is one, is that of these files
abbrev pub TalliesFor : Option TallyModel → List CountedFile → Type 0
TalliesFor None fs = Unit {0}
TalliesFor (Some t) fs = StandsFor t fs

-- some row in these events is Broken with the cause Memory
abbrev pub RanOutOfMemory : List (Event JobModel Row) → Type 0
RanOutOfMemory [] = ⊥
RanOutOfMemory (Post w p i j ∷ m) = RanOutOfMemory m
RanOutOfMemory (Claim w i j ∷ m) = RanOutOfMemory m
RanOutOfMemory (Return w i r ∷ m) = IsBrokenBy Memory r ⊎ RanOutOfMemory m
RanOutOfMemory (Fault w i r ∷ m) = RanOutOfMemory m
RanOutOfMemory (Over w ∷ m) = RanOutOfMemory m

-- what a worker has done between the old state of its pass and the new one: each row since is lawful with some answers that the tree may
-- give, and the tally, if there is one, is that of the files of these rows
pub record HasWorked (ask : Asked) (MayAnswer : List ℕ → Answers → Type 0)
    (old new : Pass JobModel Row) (tally : Option TallyModel) : Type 0 where
  pub worker : new.worker ≡ old.worker
  pub since : List (Event JobModel Row)
  pub mine : new.mine ≡ since ++ old.mine
  pub answers : List Answers
  pub lawful : AreLawfulSince ask new.full MayAnswer old.mine since answers
  pub tallied : TalliesFor tally (files_given ask since answers)
  pub untallied : tally ≡ None → RanOutOfMemory since

-- the worker of the pass has found the board over, as its last event
abbrev pub FoundOver : Pass JobModel Row → Type 0
FoundOver p = (m : List (Event JobModel Row)) × (p.mine ≡ Over p.worker ∷ m)

-- the counted files of the rows in one pass, and in all passes, by the rows' answers
abbrev pub files_of_pass : Asked → List Answers → Option (Pass JobModel Row) → List CountedFile
files_of_pass ask answers None = []
files_of_pass ask answers (Some p) = files_given ask p.mine answers

abbrev pub files_of_passes : Asked → (ℕ → List Answers) → List (Pass JobModel Row) → List CountedFile
files_of_passes ask answers passes = flat_map (λ w. files_of_pass ask (answers w) (slice_get passes w)) (numbers_below (length passes))
