-- What each result of a walk over any shared board means.
use Rattle.std.specs.Prelude.{◌≡◌, ℕ, ◌<◌, ◌≤◌, ◌++◌, Bool, true, false, List, length, slice_get, Some, Result, Ok, Err}
use Rattle.lc_board.specs.{ClosedBoard.Promises, LegalHistory.posts_under, declared.{event.Event.Event, answers.Ended.Ended}}
use Rattle.lc_walk.specs.{ReportLines.{file_paths, fault_paths, skipped_paths}, declared.{report.Report.Report, row.Row.Row}}
use Rattle.lc_walk.specs.declared.walk_fault.WalkFault.{WalkFault, TheVariants.{Memory, TooManyDirs, TooDeep, Torn, Mismatch}}
use Rattle.lc_walk.specs.{Found.children_at, FoundAt.LeadsTo, RecursiveWalk.walk_of, Rows.{row_of, job_of}, Lawful.Asked}
use Rattle.lc_walk.specs.{TreeOfRows.tree_of_rows, ClosedWalks.{Walked, AreWhole}, FoundReports.IsReportOf}
use Rattle.lc_tree.specs.{ByteOrder.{AreApart, AreInOrder}, Paths.names_of_path}
use Rattle.lc_level.specs.{Answers.{Answers, Tree}, Job.JobModel, Level.level, Filters.FiltersModel, Deep.has_too_deep}

-- for each directory of `t` that a walk reaches, all answers that the tree may give there contribute what `t` contributes. Nothing is
-- required below a directory that is skipped or can't be listed
abbrev pub IsOneAnswer : FiltersModel → (List ℕ → Answers → Type 0) → JobModel → Tree → Type 0
IsOneAnswer filters MayAnswer top t =
    (place : List (List ℕ)) (j : JobModel) → LeadsTo filters top t place j → (a : Answers) → MayAnswer j.path a →
    level filters j a ≡ level filters j (t (names_of_path j.path))

-- for a board with these promises
module _ (MayAnswer : List ℕ → Answers → Type 0) (ask : Asked) (capacity workers : ℕ) (top : JobModel) (promises : Promises) where
  -- rows of a legal history that is over, the top's at number 0. Each row is lawful with answers that the tree may give. If the board
  -- promises it, a post was answered Full only where the rows fill all numbers
  pub record SomeRows : Type 0 where
    pub full : Bool
    pub history : List (Event JobModel Row)
    pub rows : List (Ended Row)
    pub answers : ℕ → Answers
    pub filled : promises.fills ≡ true → full ≡ true → length rows ≡ capacity
    pub walked : Walked ask full capacity workers top history rows answers
    pub may : (i : ℕ) (e : Ended Row) → slice_get rows i ≡ Some e → MayAnswer (job_of (row_of e)).path (answers i)

  -- the report is that of the recursive walk of the tree that such rows make, none of which is Broken. No path is twice in a list, or in
  -- two lists. If the tree has only one answer to each question, the report is that of the recursive walk of this tree
  pub record IsWalkReport (r : Report) : Type 0 where
    pub found : SomeRows
    pub whole : AreWhole found.rows
    pub report : (depth : ℕ) → capacity ≤ depth →
        IsReportOf ask.lists (walk_of ask.filters depth top (tree_of_rows found.rows found.answers)) r
    pub files_once : AreInOrder (file_paths r.files.items)
    pub faults_once : AreInOrder (fault_paths r.faults.items)
    pub skipped_once : AreInOrder (skipped_paths r.skipped.items)
    pub apart : AreApart (file_paths r.files.items ++ fault_paths r.faults.items ++ skipped_paths r.skipped.items)
    pub one_answer : (t : Tree) → IsOneAnswer ask.filters MayAnswer top t →
        (depth : ℕ) → capacity ≤ depth → IsReportOf ask.lists (walk_of ask.filters depth top t) r

  -- rows as in `SomeRows`, of which some may be Broken: in the listing of one row's directory, an entry is too deep
  pub record IsTooDeepSomewhere : Type 0 where
    pub found : SomeRows
    pub number : ℕ
    pub row : Ended Row
    pub is : slice_get found.rows number ≡ Some row
    pub deep : has_too_deep ask.filters (job_of (row_of row)) (found.answers number) ≡ true

  -- rows as in `SomeRows`, of which some may be Broken: the rows fill all numbers, and the directory of one row has more child
  -- directories than were posted
  pub record FillsAll : Type 0 where
    pub found : SomeRows
    pub filled : length found.rows ≡ capacity
    pub number : ℕ
    pub row : Ended Row
    pub is : slice_get found.rows number ≡ Some row
    pub more : length (posts_under number found.history)
        < length (children_at ask.filters (job_of (row_of row)) (found.answers number))

  -- what each result of the walk means
  abbrev pub WalkAnswers : Result Report WalkFault → Type 0
  WalkAnswers (Ok r) = promises.keeps ≡ true → IsWalkReport r
  WalkAnswers (Err Memory) = Unit {0}
  WalkAnswers (Err TooManyDirs) = promises.keeps ≡ true → promises.fills ≡ true → FillsAll
  WalkAnswers (Err TooDeep) = promises.keeps ≡ true → IsTooDeepSomewhere
  WalkAnswers (Err (Torn n)) = promises.keeps ≡ true → promises.compares ≡ false → ⊥
  WalkAnswers (Err (Mismatch w)) = promises.compares ≡ false → ⊥
