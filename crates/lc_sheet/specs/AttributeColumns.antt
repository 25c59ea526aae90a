-- The columns of Git attributes and of languages, and their names.
use Rattle.std.specs.{Prelude.{ℕ, cond, List, [], codes, drop, length, slice_get, take, unwrap_or}, Str.bytes_eq}

-- what the name of the column of an attribute begins with
abbrev pub attribute_front : List ℕ
attribute_front = codes "attr:"

-- the name of the column of languages
abbrev pub language_name : List ℕ
language_name = codes "lang"

-- the heading of a column: NAME of `attr:NAME`, or else the whole name
abbrev pub heading_of : List ℕ → List ℕ
heading_of name =
    cond (bytes_eq (take (length attribute_front) name) attribute_front) (drop (length attribute_front) name) name

-- the attribute whose states are in a column: `linguist-language` in the column of languages
abbrev pub attribute_of : List ℕ → List ℕ
attribute_of name = cond (bytes_eq name language_name) (codes "linguist-language") (heading_of name)

-- the name of the column at a place among the names of such columns, or no name if there is none
abbrev pub name_at : List (List ℕ) → ℕ → List ℕ
name_at names place = unwrap_or (slice_get names place) []
