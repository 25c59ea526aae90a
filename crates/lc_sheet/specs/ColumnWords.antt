-- The names and headings of columns, and the sides at which their values are aligned.
use Rattle.std.specs.Prelude.{ℕ, List, [], ◌++◌, codes, None}
use Rattle.lc_text.specs.Names.{NameModel}
use Rattle.lc_sheet.specs.AttributeColumns.{heading_of, name_at}
use Rattle.lc_sheet.specs.declared.key.Key.{Key as KeyColumn}
use Rattle.lc_sheet.specs.declared.column.{Number.{Number as NumberColumn, TheVariants.{Files, Lines, Blank, Bytes}}, Compared.Compared}
use Rattle.lc_sheet.specs.declared.column.Side.{Side, TheVariants.{Left, Right, End}}
use Rattle.lc_sheet.specs.declared.column.Column.{Column}
use Rattle.lc_sheet.specs.declared.column.Column.TheVariants.{Key, Number, Share, Bar, Path, Kind, Reason, Place, Entry, File}
use Rattle.lc_sheet.specs.declared.column.Column.TheVariants.{Line, Attribute, Fault, Site, Change, Old, New, Difference, Growth}
use Rattle.lc_sheet.specs.Keys.{key_name}
use Rattle.lc_sheet.specs.declared.column.Compared.TheVariants as compared
use Rattle.lc_sheet.specs.declared.key.Key.TheVariants as key

abbrev pub number_name : NumberColumn → List ℕ
number_name Files = codes "files"
number_name Lines = codes "lines"
number_name Blank = codes "blank"
number_name Bytes = codes "bytes"

-- the column of a compared value in a table of one report
abbrev pub compared_column : Compared → Column
compared_column (compared.Key k) = Key k
compared_column (compared.Number n) = Number n

-- the name of a compared value; the columns of attributes have these names
abbrev pub compared_name : List (List ℕ) → Compared → List ℕ
compared_name attributes (compared.Key k) = key_name attributes k
compared_name attributes (compared.Number n) = number_name n

abbrev pub difference_name : NumberColumn → List ℕ
difference_name n = number_name n ++ codes "_change"

-- what the name of a column begins with, if it has the value of one of two reports; what follows is below
abbrev pub column_front : Column → List ℕ
column_front (Old c) = codes "old_"
column_front (New c) = codes "new_"
column_front other = []

abbrev pub column_word : List (List ℕ) → Column → List ℕ
column_word attributes (Key k) = key_name attributes k
column_word attributes (Number n) = number_name n
column_word attributes Share = codes "share"
column_word attributes Bar = codes "bar"
column_word attributes Path = codes "path"
column_word attributes Kind = codes "kind"
column_word attributes Reason = codes "reason"
column_word attributes Place = codes "place"
column_word attributes Entry = codes "entry"
column_word attributes File = codes "file"
column_word attributes Line = codes "line"
column_word attributes Attribute = codes "attribute"
column_word attributes Fault = codes "word"
column_word attributes Site = codes "path"
column_word attributes Change = codes "change"
column_word attributes (Old c) = compared_name attributes c
column_word attributes (New c) = compared_name attributes c
column_word attributes (Difference n) = difference_name n
column_word attributes (Growth n) = []

-- the name of a column in the formats that programs read
abbrev pub column_name : List (List ℕ) → Column → NameModel
column_name attributes c = record { front = column_front c; bytes = column_word attributes c; end = []; line = None }

abbrev pub plain_name : List ℕ → NameModel
plain_name text = record { front = []; bytes = text; end = []; line = None }

-- the heading of a key: its name, but the name of an attribute alone
abbrev pub key_heading : List (List ℕ) → KeyColumn → List ℕ
key_heading attributes (key.Attribute place) = heading_of (name_at attributes place)
key_heading attributes other = key_name attributes other

abbrev pub compared_heading : List (List ℕ) → Compared → List ℕ
compared_heading attributes (compared.Key k) = key_heading attributes k
compared_heading attributes (compared.Number n) = number_name n

-- the heading of a column in the formats that people read, and below it as a name that is printed
abbrev pub heading : List (List ℕ) → Column → List ℕ
heading attributes (Key k) = key_heading attributes k
heading attributes Bar = []
heading attributes Path = codes "file"
heading attributes Reason = codes "left out"
heading attributes Place = codes "by"
heading attributes Entry = codes "path"
heading attributes Fault = codes "fault"
heading attributes (Old c) = compared_heading attributes c
heading attributes (New c) = compared_heading attributes c
heading attributes (Difference n) = []
heading attributes column = column_word attributes column

abbrev pub heading_name : List (List ℕ) → Column → NameModel
heading_name attributes c = plain_name (heading attributes c)

-- the side at which a column's values are aligned: numbers at the right, words at the left; paths end their lines
abbrev pub side_of : Column → Side
side_of (Number n) = Right
side_of Share = Right
side_of (Old (compared.Number n)) = Right
side_of (New (compared.Number n)) = Right
side_of (Difference n) = Right
side_of (Growth n) = Right
side_of Path = End
side_of Entry = End
side_of Site = End
side_of column = Left
