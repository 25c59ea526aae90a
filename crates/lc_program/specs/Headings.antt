-- The heading of a picture or a tree: a title, and which files are shown.
use Rattle.std.specs.Prelude.{◌≡◌, ℕ, Bool, if◌then◌else◌, ◌==◌, List, [], ◌∷◌, ◌++◌, Option, Some, None, codes, decimal, is_some}
use Rattle.std.specs.Prelude.{IfSome, length, map, slice_get}
use Rattle.std.specs.{Bool.MatchBool, Borrow.Bor, List.list_all}
use Rattle.lc_arguments.specs.{Combinations.draws_boxes, Reports.report_model}
use Rattle.lc_arguments.specs.declared.{count.CountRequest.CountRequest, sum.SumRequest.SumRequest}
use Rattle.lc_program.specs.{Chosen.{walk_parts, where_parts, with_part, with_parts}, ReportFiles.Typed}
use Rattle.lc_rows.specs.Directories.{name_of}

-- a text, or another one if it is empty
abbrev pub or_else : List ℕ → List ℕ → List ℕ
or_else [] other = other
or_else (b ∷ bs) other = b ∷ bs

-- the last name of a canonical path, or the directory as it was typed, if there is no such path or it is that of the root
abbrev pub title_in : List ℕ → Option (List ℕ) → List ℕ
title_in typed None = typed
title_in typed (Some path) = or_else (name_of path) typed

module _ (may_stand : List ℕ → Option (List ℕ) → Type 0) where
  -- a title is that of this directory, by a canonical path that the system gives
  abbrev pub IsDirectoryTitle : List ℕ → List ℕ → Type 0
  IsDirectoryTitle directory title = (path : Option (List ℕ)) × may_stand directory path × (title ≡ title_in directory path)

  -- a title is that of a count of these directories: of the only one, or how many they are
  abbrev pub IsCountTitle : List (Bor (List ℕ)) → List ℕ → Type 0
  IsCountTitle directories title =
      MatchBool (length directories == 1) (IfSome (slice_get directories 0) (λ directory. IsDirectoryTitle directory.now title))
      (title ≡ decimal (length directories) ++ codes " directories")

  -- a count is shown with this title: none if no boxes are drawn
  abbrev pub HasTitle : CountRequest → List ℕ → Type 0
  HasTitle c title =
      MatchBool (draws_boxes c.table.format) (IsCountTitle c.directories.items title) (title ≡ [])

-- which files a count shows, in words, where these are the names of columns of attributes
abbrev pub chosen_in : List (List ℕ) → CountRequest → List ℕ
chosen_in columns c =
    if draws_boxes c.table.format then walk_parts (with_parts [] (where_parts columns c.conditions.items)) c.walk else []

abbrev pub are_named : List Typed → Bool
are_named reports = list_all (λ (typed : Typed). is_some typed.0) reports

-- the names of reports after a text, with commas between them
abbrev pub names_in : List ℕ → List Typed → List ℕ
names_in text [] = text
names_in text ((None, report) ∷ others) = names_in text others
names_in text ((Some name, report) ∷ others) = names_in (with_part text name) others

-- the title of a sum: the names of its reports if all have one, or how many they are
abbrev pub sum_title : List Typed → List ℕ
sum_title reports =
    if are_named reports then names_in [] reports
    else if length reports == 1 then codes "1 report" else decimal (length reports) ++ codes " reports"

-- the title of a sum, and which files it shows; none if no boxes are drawn
abbrev pub title_of_sum : SumRequest → List ℕ
title_of_sum c = if draws_boxes c.table.format then sum_title (map report_model c.reports.items) else []

abbrev pub chosen_in_sum : List (List ℕ) → SumRequest → List ℕ
chosen_in_sum columns c =
    if draws_boxes c.table.format then with_parts [] (where_parts columns c.conditions.items) else []
