-- A walk whose board is closed.
use Rattle.std.specs.Prelude.{◌≡◌, ℕ, ◌≤◌, Bool, List, [], length, slice_get, Option, Some, None, flat_map}
use Rattle.lc_board.specs.{LegalHistory.{IsLegal, IsOver}, Numbers.HasNumbers, RowsInPlace.InPlace, declared.event.Event.Event}
use Rattle.lc_board.specs.declared.answers.Ended.{Ended}
use Rattle.lc_level.specs.{Answers.Answers, Job.JobModel}
use Rattle.lc_walk.specs.{Found.{Found, found_at}, Rows.{row_of, job_of, IsWhole}, Lawful.{Asked, IsLawful}, TreeOfRows.numbers_below}
use Rattle.lc_walk.specs.declared.row.Row.{Row}

-- the history is legal and over, and each number has its row, which is lawful with the number's answers
pub record Walked (ask : Asked) (full : Bool) (capacity workers : ℕ) (top : JobModel)
    (h : List (Event JobModel Row)) (rows : List (Ended Row)) (answers : ℕ → Answers) : Type 0 where
  pub room : 1 ≤ capacity
  pub legal : IsLegal capacity workers h
  pub over : IsOver h
  pub numbers : HasNumbers (length rows) h
  pub in_place : InPlace top h rows
  pub lawful : (i : ℕ) (e : Ended Row) → slice_get rows i ≡ Some e → IsLawful ask full h i e (answers i)

-- no row is Broken
abbrev pub AreWhole : List (Ended Row) → Type 0
AreWhole rows = (i : ℕ) (e : Ended Row) → slice_get rows i ≡ Some e → IsWhole (row_of e)

-- what the row of a number found, by the answers with which the row is lawful
abbrev pub row_found : Asked → Option (Ended Row) → Answers → List Found
row_found ask None a = []
row_found ask (Some e) a = found_at ask.filters (job_of (row_of e)) a

-- what all rows found, in the order of their numbers
abbrev pub rows_found : Asked → List (Ended Row) → (ℕ → Answers) → List Found
rows_found ask rows answers = flat_map (λ i. row_found ask (slice_get rows i) (answers i)) (numbers_below (length rows))
