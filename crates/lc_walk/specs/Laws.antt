-- The laws of the walk.
use Rattle.std.specs.{Prelude.{◌≡◌, ℕ, ◌≤◌, Bool, List, [], ◌∷◌, length, map, slice_get, Some}, List.Sorted.IsPermutation}
use Rattle.lc_board.specs.{LegalHistory.IsLegal, Part.part, declared.{event.Event.Event, answers.Ended.Ended}}
use Rattle.lc_tree.specs.{Paths.names_of_path, ByteOrder.AreApart}
use Rattle.lc_level.specs.{Answers.{Answers, no_answers, Tree}, Job.JobModel, Level.level, Filters.FiltersModel, WellFormed.IsWellFormed}
use Rattle.lc_walk.specs.{Found.{path_of, children_at}, RecursiveWalk.{walk_by, walk_of}, Rows.{row_of, job_of}, Lawful.{Asked, IsLawful}}
use Rattle.lc_walk.specs.{TreeOfRows.{tree_from, children_by_rows, tree_of_rows, numbers_below}, ClosedWalks.{Walked, AreWhole, rows_found}}
use Rattle.lc_walk.specs.declared.row.Row.{Row}

-- if no row is Broken, the recursive walk of the tree that the rows make finds what the rows found, for every depth that is at least the
-- capacity
abbrev pub CoreLaw : Type 0
CoreLaw =
    (ask : Asked) (full : Bool) (capacity workers : ℕ) (top : JobModel)
    (h : List (Event JobModel Row)) (rows : List (Ended Row)) (answers : ℕ → Answers) →
    Walked ask full capacity workers top h rows answers → AreWhole rows → (depth : ℕ) → capacity ≤ depth →
    IsPermutation (walk_of ask.filters depth top (tree_of_rows rows answers)) (rows_found ask rows answers)

-- what the recursive walk of the tree of rows finds if it notes only each directory's number
abbrev pub walk_numbers : Asked → ℕ → JobModel → List (Ended Row) → (ℕ → Answers) → List ℕ
walk_numbers ask depth top rows answers =
    walk_by (λ j (a : ℕ × Answers). a.0 ∷ []) (λ j (a : ℕ × Answers). children_at ask.filters j a.1) depth top
    (tree_from (0, no_answers) (λ i. (i, answers i)) (children_by_rows rows) 0)

-- if no row is Broken, each number occurs once in the tree of rows
abbrev pub NumbersLaw : Type 0
NumbersLaw =
    (ask : Asked) (full : Bool) (capacity workers : ℕ) (top : JobModel)
    (h : List (Event JobModel Row)) (rows : List (Ended Row)) (answers : ℕ → Answers) →
    Walked ask full capacity workers top h rows answers → AreWhole rows → (depth : ℕ) → capacity ≤ depth →
    IsPermutation (walk_numbers ask depth top rows answers) (numbers_below (length rows))

-- if no row is Broken, and each row's level is what one tree's answers at the row's path make, the recursive walk of this tree finds what
-- the rows found. The answers may differ in what a level does not read, such as a file that is ignored
abbrev pub OneAnswerLaw : Type 0
OneAnswerLaw =
    (t : Tree) (ask : Asked) (full : Bool) (capacity workers : ℕ) (top : JobModel)
    (h : List (Event JobModel Row)) (rows : List (Ended Row)) (answers : ℕ → Answers) →
    Walked ask full capacity workers top h rows answers → AreWhole rows → top.path ≡ [] →
    ((i : ℕ) (e : Ended Row) → slice_get rows i ≡ Some e →
    level ask.filters (job_of (row_of e)) (answers i)
    ≡ level ask.filters (job_of (row_of e)) (t (names_of_path (job_of (row_of e)).path))) →
    (depth : ℕ) → capacity ≤ depth →
    IsPermutation (walk_of ask.filters depth top t) (rows_found ask rows answers)

-- a row that is lawful in the events of one worker is lawful in the history of all workers
abbrev pub PartLaw : Type 0
PartLaw =
    (ask : Asked) (full : Bool) (capacity workers w i : ℕ) (h : List (Event JobModel Row)) (e : Ended Row) (a : Answers) →
    IsLegal capacity workers h → IsLawful ask full (part w h) i e a → IsLawful ask full h i e a

-- no path occurs twice in what a walk finds of a tree with well-formed listings: files, errors, directories and skipped entries
abbrev pub PathsOnceLaw : Type 0
PathsOnceLaw =
    (filters : FiltersModel) (depth : ℕ) (j : JobModel) (t : Tree) → ((place : List (List ℕ)) → IsWellFormed (t place)) →
    AreApart (map path_of (walk_of filters depth j t))
