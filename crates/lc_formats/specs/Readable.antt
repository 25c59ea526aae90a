-- What laws require of the values of a sheet: words are printable, and bytes are below 256.
use Rattle.std.specs.{Prelude.{◌≡◌, ◌<◌, ℕ, ◌&&◌, nat_lt, Bool, true, false, List, ◌∷◌, ◌++◌, map, ⊤}, List.{All, AllZip, list_all}}
use Rattle.lc_sheet.specs.{AttributeColumns.heading_of, ColumnWords.side_of, Sheets.{SectionModel, SheetModel}}
use Rattle.lc_sheet.specs.Values.{ValueModel, missing, summed, blank, word, flag, name, path, number, share, bar, difference, growth}
use Rattle.lc_sheet.specs.declared.column.{Column.Column, Side.{Side, TheVariants.{Left, Right, End}}}
use Rattle.lc_text.specs.Visible.{visible_bytes}
use Rattle.lc_formats.specs.{Blanks.ends_in_blank, Layouts.{has_no_end, is_open}}

-- a printable character of ASCII
abbrev pub is_printable : ℕ → Bool
is_printable b = nat_lt 31 b && nat_lt b 127

-- a text of printable characters, as words are, and what is printed before and after the bytes of a name
abbrev pub IsPlain : List ℕ → Type 0
IsPlain t = list_all is_printable t ≡ true

-- numbers that are bytes, as those of each path and name are
abbrev pub AreBytes : List ℕ → Type 0
AreBytes bs = All (λ b. b < 256) bs

-- bytes in a column; the width of those at the end of a line counts nowhere
abbrev pub HasBytes : Side → List ℕ → Type 0
HasBytes Left bs = AreBytes bs
HasBytes Right bs = AreBytes bs
HasBytes End bs = ⊤

abbrev pub IsReadable : Side → ValueModel → Type 0
IsReadable side missing = ⊤
IsReadable side summed = ⊤
IsReadable side blank = ⊤
IsReadable side (word w) = IsPlain w
IsReadable side (flag is_set) = ⊤
IsReadable side (name n) = IsPlain n.front × HasBytes side n.bytes × IsPlain n.end
IsReadable side (path p) = HasBytes side p
IsReadable side (number n) = ⊤
IsReadable side (share part whole) = ⊤
IsReadable side (bar part whole) = ⊤
IsReadable side (difference old new) = ⊤
IsReadable side (growth old new) = ⊤

-- the values of a line: one in each column
abbrev pub AreReadable : List Column → List ValueModel → Type 0
AreReadable columns values = AllZip (λ c v. IsReadable (side_of c) v) columns values

-- names of columns of attributes whose headings are bytes
abbrev pub AreNames : List (List ℕ) → Type 0
AreNames names = All (λ n. AreBytes (heading_of n)) names

-- ---- the rows and their sums

-- a number, what is computed from numbers, or nothing because the column is summed over or does not apply; a missing value is none of these
abbrev pub IsNumeral : ValueModel → Type 0
IsNumeral missing = ⊥
IsNumeral summed = ⊤
IsNumeral blank = ⊤
IsNumeral (word w) = ⊥
IsNumeral (flag is_set) = ⊥
IsNumeral (name n) = ⊥
IsNumeral (path p) = ⊥
IsNumeral (number n) = ⊤
IsNumeral (share part whole) = ⊤
IsNumeral (bar part whole) = ⊤
IsNumeral (difference old new) = ⊤
IsNumeral (growth old new) = ⊤

-- after its keys, a line has a number, and then only values of this kind
abbrev pub EndsInNumbers : List ValueModel → Type 0
EndsInNumbers values = (keys more : List ValueModel) × (n : ℕ) × (values ≡ keys ++ number n ∷ more) × All IsNumeral more

-- a section in these columns whose lines end in numbers
pub record AreRows (columns : List Column) (s : SectionModel) : Type 0 where
  pub in_columns : s.columns ≡ columns
  pub readable : All (AreReadable columns) s.lines
  pub numbers : All EndsInNumbers s.lines

-- a sheet whose rows and sums have the same columns, none of which ends its line, and in which no heading of an attribute ends in a blank
pub record IsTabular (s : SheetModel) : Type 0 where
  pub closed : has_no_end (map side_of s.rows.columns) ≡ true
  pub names : AreNames s.rows.attributes
  pub bare : All (λ n. ends_in_blank (visible_bytes (heading_of n)) ≡ false) s.rows.attributes
  pub rows : AreRows s.rows.columns s.rows
  pub others : AreRows s.rows.columns s.others
  pub totals : AreRows s.rows.columns s.totals

-- ---- what is listed

-- a section whose last column ends its line
pub record IsListed (s : SectionModel) : Type 0 where
  pub opened : is_open (map side_of s.columns) ≡ true
  pub names : AreNames s.attributes
  pub readable : All (AreReadable s.columns) s.lines
