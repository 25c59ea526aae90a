-- The JSON values of lines of a sheet.
use Rattle.std.specs.Prelude.{ℕ, Bool, true, false, ◌&&◌, if◌then◌else◌, List, [], ◌∷◌, ◌++◌, codes, Option, Some, None}
use Rattle.json.specs.Json.{Json, null, boolean, string}
use Rattle.lc_sheet.specs.{ColumnWords.{column_word, compared_column}, Values.{ValueModel, missing, summed, blank, word, flag, name, path}}
use Rattle.lc_sheet.specs.{Values.{number, share, bar, difference, growth}, declared.column.Column.Column}
use Rattle.lc_text.specs.Names.{named}
use Rattle.lc_formats.specs.{JsonText.{Member, bytes_member, integer, object_with}, declared.json_sides.Part.Part}
use Rattle.lc_formats.specs.declared.json_sides.Part.TheVariants.{Own, Old, New}
use Rattle.lc_sheet.specs.declared.column.Column.TheVariants as column

-- ---- a line of one report

-- the member of a value, named by its column; there is none if the line is summed over the column, or if the column does not apply to it
abbrev pub value_members : List ℕ → ValueModel → List Member
value_members n missing = (n, null) ∷ []
value_members n summed = []
value_members n blank = []
value_members n (word w) = (n, string w) ∷ []
value_members n (flag is_set) = (n, boolean is_set) ∷ []
value_members n (name value) = bytes_member n (named (λ bytes. bytes) value) ∷ []
value_members n (path p) = bytes_member n p ∷ []
value_members n (number k) = (n, integer k) ∷ []
value_members n (share part whole) = []
value_members n (bar part whole) = []
value_members n (difference old new) = []
value_members n (growth old new) = []

-- the members of the values of a line, one in each column; the columns of attributes have these names, here and below
abbrev pub line_members : List (List ℕ) → List Column → List ValueModel → List Member
line_members attributes [] values = []
line_members attributes (c ∷ cs) [] = []
line_members attributes (c ∷ cs) (v ∷ vs) = value_members (column_word attributes c) v ++ line_members attributes cs vs

abbrev pub line_object : List (List ℕ) → List Column → List ValueModel → Json
line_object attributes columns values = object_with (line_members attributes columns values)

-- ---- the parts of a line of two reports: what it has of neither report, of the old one, and of the new one

-- the column whose name a value gets in a part of a line, if the value belongs to this part; first for the part of neither report
abbrev pub own_column : Column → Option Column
own_column (column.Old c) = None
own_column (column.New c) = None
own_column other = Some other

abbrev pub old_column : Column → Option Column
old_column (column.Old c) = Some (compared_column c)
old_column other = None

abbrev pub new_column : Column → Option Column
new_column (column.New c) = Some (compared_column c)
new_column other = None

abbrev pub column_in : Part → Column → Option Column
column_in Own c = own_column c
column_in Old c = old_column c
column_in New c = new_column c

-- the member of a value in a column, or none if the value belongs to another part
abbrev pub members_in : List (List ℕ) → Option Column → ValueModel → List Member
members_in attributes None v = []
members_in attributes (Some c) v = value_members (column_word attributes c) v

-- the members of a line that belong to a part
abbrev pub part_members : List (List ℕ) → Part → List Column → List ValueModel → List Member
part_members attributes p [] values = []
part_members attributes p (c ∷ cs) [] = []
part_members attributes p (c ∷ cs) (v ∷ vs) = members_in attributes (column_in p c) v ++ part_members attributes p cs vs

abbrev pub is_missing : ValueModel → Bool
is_missing missing = true
is_missing blank = true
is_missing other = false

-- whether a value is missing, or belongs to another part
abbrev pub lacks_in : Option Column → ValueModel → Bool
lacks_in None v = true
lacks_in (Some c) v = is_missing v

-- whether all values of a line that belong to a part are missing
abbrev pub lacks : Part → List Column → List ValueModel → Bool
lacks p [] values = true
lacks p (c ∷ cs) [] = true
lacks p (c ∷ cs) (v ∷ vs) = lacks_in (column_in p c) v && lacks p cs vs

-- the object of a line's values in one report, or null if the report lacks all of them, as those of a file that it does not have
abbrev pub side_value : List (List ℕ) → Part → List Column → List ValueModel → Json
side_value attributes p columns values = if lacks p columns values then null else object_with (part_members attributes p columns values)

abbrev pub change_members : List (List ℕ) → List Column → List ValueModel → List Member
change_members attributes columns values =
    part_members attributes Own columns values ++ (codes "old", side_value attributes Old columns values)
    ∷ (codes "new", side_value attributes New columns values) ∷ []

abbrev pub change_object : List (List ℕ) → List Column → List ValueModel → Json
change_object attributes columns values = object_with (change_members attributes columns values)

-- the object of a line, in a sheet that compares two reports or in another
abbrev pub object_of : Bool → List (List ℕ) → List Column → List ValueModel → Json
object_of compares attributes columns values =
    if compares then change_object attributes columns values else line_object attributes columns values
