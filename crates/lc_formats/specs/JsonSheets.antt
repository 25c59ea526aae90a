-- The JSON value of a sheet, and its text.
use Rattle.std.specs.Prelude.{ℕ, Bool, List, [], ◌∷◌, ◌++◌, map, codes, slice_get, Option, Some, None}
use Rattle.json.specs.{Json.Json, Print.print, Tree.json_tokens}
use Rattle.lc_sheet.specs.{Sheets.{SectionModel, SheetModel}, Values.ValueModel, declared.column.Column.Column}
use Rattle.lc_formats.specs.{JsonLines.object_of, JsonText.{Member, array_with, integer, object_with}}

-- ---- sections

-- the lines of a section, as the objects of an array
abbrev pub list_member : Bool → List ℕ → SectionModel → Member
list_member compares n s = (n, array_with (map (object_of compares s.attributes s.columns) s.lines))

-- the same, if the sheet has the section
abbrev pub some_list : Bool → List ℕ → Option SectionModel → List Member
some_list compares n None = []
some_list compares n (Some s) = list_member compares n s ∷ []

abbrev pub object_members : Bool → List ℕ → List (List ℕ) → List Column → Option (List ValueModel) → List Member
object_members compares n attributes columns None = []
object_members compares n attributes columns (Some values) = (n, object_of compares attributes columns values) ∷ []

-- a member whose value is the line at index i of a section, if the section has this line
abbrev pub line_at : Bool → List ℕ → ℕ → SectionModel → List Member
line_at compares n i s = object_members compares n s.attributes s.columns (slice_get s.lines i)

-- ---- sheets

-- the members of the sums over all files, over text files, and over binary files
abbrev pub totals_members : Bool → SectionModel → List Member
totals_members compares totals =
    line_at compares (codes "total") 0 totals
    ++ (line_at compares (codes "text") 1 totals ++ line_at compares (codes "binary") 2 totals)

abbrev pub number_member : List ℕ → Option ℕ → List Member
number_member n None = []
number_member n (Some k) = (n, integer k) ∷ []

-- the members of numbers: the sums over the rows that are cut off, if there are any; all totals; the numbers of directories and of entries
abbrev pub number_members : SheetModel → List Member
number_members s =
    line_at s.compares (codes "others") 0 s.others ++ (totals_members s.compares s.totals
    ++ (number_member (codes "directories") s.directories ++ number_member (codes "entries") s.entries))

-- the lists below the numbers
abbrev pub list_members : SheetModel → List Member
list_members s =
    some_list s.compares (codes "files") s.files
    ++ (some_list s.compares (codes "left") s.skipped ++ some_list s.compares (codes "faults") s.faults)

-- the JSON value of a sheet
abbrev pub json_of : SheetModel → Json
json_of s = object_with (list_member s.compares (codes "rows") s.rows ∷ (number_members s ++ list_members s))

-- the JSON text of a sheet, on one line
abbrev pub json_text_of : SheetModel → List ℕ
json_text_of s = print (json_tokens (json_of s)) ++ codes "\n"
