-- The colours of extensions, and the rows of directories that decide theirs. Here a colour is a number.
use Rattle.std.specs.Prelude.{ℕ, ◌+◌, Bool, true, false, bytes_eq, if◌then◌else◌, min, List, [], ◌∷◌, unwrap_or, Option, Some, None}
use Rattle.lc_rows.specs.RowKeys.{ShownRowModel}

abbrev pub same_extension : Option (List ℕ) → Option (List ℕ) → Bool
same_extension None None = true
same_extension None (Some b) = false
same_extension (Some a) None = false
same_extension (Some a) (Some b) = bytes_eq a b

-- the index of an extension among rows, or the number of rows if no row has it
abbrev pub place_of : Option (List ℕ) → List ShownRowModel → ℕ
place_of e [] = 0
place_of e (r ∷ rs) = if same_extension e r.key.tally.extension then 0 else place_of e rs + 1

-- the colour that all extensions share that are not among the first eight of the chart
abbrev pub shared_colour : ℕ
shared_colour = 8

-- the colour of all rests
abbrev pub rest_colour : ℕ
rest_colour = 9

-- the colour of an extension: its index in the chart, or the shared colour if it is not among the first eight
abbrev pub colour_of : List ShownRowModel → Option (List ℕ) → ℕ
colour_of chart e = min (place_of e chart) shared_colour

abbrev pub path_of : ShownRowModel → List ℕ
path_of r = unwrap_or r.directory []

-- the rows by directory and extension, from the first row of this directory on
abbrev pub rows_from : List ℕ → List ShownRowModel → List ShownRowModel
rows_from directory [] = []
rows_from directory (k ∷ ks) = if bytes_eq directory (path_of k) then k ∷ ks else rows_from directory ks

-- the first of such rows, as many as are of this directory
abbrev pub first_rows_of : List ℕ → List ShownRowModel → List ShownRowModel
first_rows_of directory [] = []
first_rows_of directory (k ∷ ks) = if bytes_eq directory (path_of k) then k ∷ first_rows_of directory ks else []
