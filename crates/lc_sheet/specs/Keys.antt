-- The keys by which the rows of a table are grouped.
use Rattle.std.specs.Prelude.{ℕ, ◌+◌, ◌==◌, ◌&&◌, ◌||◌, max, min, nat_lt, not, Bool, true, List, [], ◌∷◌, codes, is_some, Some, None}
use Rattle.lc_sheet.specs.AttributeColumns.{name_at}
use Rattle.lc_sheet.specs.declared.key.Key.{Key, TheVariants.{Dir, Attribute, Ext, Text, Eol}}
use Rattle.lc_sheet.specs.declared.table_options.Columns.{Columns}

-- the keys whose names are fixed, in the order of their columns; those by which the rows of a report are grouped are below
abbrev pub keys : List Key
keys = Dir ∷ Ext ∷ Text ∷ Eol ∷ []

abbrev pub report_keys : List Key
report_keys = Ext ∷ Text ∷ Eol ∷ []

-- the name of a key; the keys of attributes have these names
abbrev pub key_name : List (List ℕ) → Key → List ℕ
key_name attributes Dir = codes "dir"
key_name attributes (Attribute place) = name_at attributes place
key_name attributes Ext = codes "ext"
key_name attributes Text = codes "text"
key_name attributes Eol = codes "eol"

-- a number for each key, another for each
abbrev pub key_place : Key → ℕ
key_place Dir = 0
key_place Ext = 1
key_place Text = 2
key_place Eol = 3
key_place (Attribute place) = 4 + place

abbrev pub are_one_key : Key → Key → Bool
are_one_key a b = key_place a == key_place b

-- whether rows are grouped by a key
abbrev pub has_key : Columns → Key → Bool
has_key by Dir = is_some by.dir
has_key by (Attribute place) = nat_lt place by.attributes
has_key by Ext = by.ext
has_key by Text = by.text
has_key by Eol = by.eol

-- these columns, and that of one more key; directories are cut to `depth` names
abbrev pub with_key : Key → ℕ → Columns → Columns
with_key Dir depth by = record by { dir = Some depth }
with_key (Attribute place) depth by = record by { attributes = max by.attributes (min 255 (place + 1)) }
with_key Ext depth by = record by { ext = true }
with_key Text depth by = record by { text = true }
with_key Eol depth by = record by { eol = true }

-- whether rows are sums over files: no report's own rows are grouped by directories or by attributes
abbrev pub are_of_files : Columns → Bool
are_of_files by = is_some by.dir || nat_lt 0 by.attributes

-- whether rows are grouped by all keys of a report's rows, and by no other
abbrev pub are_all : Columns → Bool
are_all by = not (are_of_files by) && by.ext && by.text && by.eol

-- the columns of the keys of reports' rows that are in a set
abbrev pub columns_of : (Key → Bool) → Columns
columns_of chosen = record { dir = None; attributes = 0; ext = chosen Ext; text = chosen Text; eol = chosen Eol }
