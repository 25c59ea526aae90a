-- The table that the words of a command line request.
use Rattle.std.specs.Prelude.{◌≡◌, ◌≤◌, ◌<◌, ◌⊎◌, ◌||◌, ◌+◌, ℕ, Bool, true, false, cond, List, [], length, filter, Option, Some, None}
use Rattle.std.specs.Prelude.{option_map, unwrap_or}
use Rattle.std.specs.{Bool.MatchBool, Prelude.{is_none, is_some, codes, IfSome}, Option.option_map_or, List.{list_all, list_any}}
use Rattle.std.specs.Str.{bytes_eq}
use Rattle.lc_glob.specs.Pieces.{pieces_of}
use Rattle.lc_sheet.specs.{Formats.is_for_reading, Keys.{has_key, key_name, keys}, declared.key.Key.{Key, TheVariants.Attribute}}
use Rattle.lc_sheet.specs.declared.table_options.{Columns.Columns, Format.{Format, TheVariants.{Tsv, Table, Json, Csv, Markdown}}}
use Rattle.lc_sheet.specs.declared.table_options.Output.{Output, TheVariants.{Text, Picture, Tree, Paths}}
use Rattle.lc_sheet.specs.declared.table_options.{Order.{Order, TheVariants.{Name, Largest}}, TableOptions.TableOptions}
use Rattle.lc_sheet.specs.declared.column.Number.{Number, TheVariants.{Files, Lines, Blank, Bytes}}
use Rattle.lc_arguments.specs.AttributeWords.{how_often, languages_in, names_attribute, names_column}
use Rattle.lc_arguments.specs.{Combinations.is_paths, Texts.comma, declared.table.TableRequest.TableRequest}

-- the word of `--format` that names an output
abbrev pub output_word : Output → List ℕ
output_word (Text Tsv) = codes "tsv"
output_word (Text Table) = codes "table"
output_word (Text Json) = codes "json"
output_word (Text Csv) = codes "csv"
output_word (Text Markdown) = codes "markdown"
output_word Picture = codes "html"
output_word Tree = codes "tree"
output_word Paths = codes "paths"

abbrev pub sort_word : Number → List ℕ
sort_word Files = codes "files"
sort_word Lines = codes "lines"
sort_word Blank = codes "blank"
sort_word Bytes = codes "bytes"

-- the word of `--sort` that names an order: by name, or by the number of a column
abbrev pub order_word : Order → List ℕ
order_word Name = codes "name"
order_word (Largest number) = sort_word number

abbrev pub once_if : Bool → ℕ
once_if true = 1
once_if false = 0

-- whether a name is that of a key whose name is fixed
abbrev pub is_key_name : List ℕ → Bool
is_key_name name = list_any (λ k. bytes_eq (key_name [] k) name) keys

abbrev pub is_fixed : Key → Bool
is_fixed (Attribute place) = false
is_fixed other = true

-- the greatest number of attributes that rows may be grouped by
abbrev pub max_attributes : ℕ
max_attributes = 16

-- the greatest number of columns of attributes and of languages that these names may have
abbrev pub max_columns : List (List ℕ) → ℕ
max_columns names = max_attributes + length (languages_in names)

-- the names are those of the keys of these columns and of as many columns of attributes and of languages, each once, and no others;
-- directories are cut to `depth` segments
pub record AreNamesOf (names : List (List ℕ)) (depth : ℕ) (c : Columns) : Type 0 where
  pub each : (k : Key) → is_fixed k ≡ true → how_often (key_name [] k) names ≡ once_if (has_key c k)
  pub cut : IfSome c.dir (λ segments. segments ≡ depth)
  pub attributes : c.attributes ≡ length (filter names_column names)
  pub few : length (filter names_attribute names) ≤ max_attributes
  pub once : (name : List ℕ) → names_column name ≡ true → how_often name names ≤ 1
  pub no_others : list_all (λ name. names_column name || is_key_name name) names ≡ true

-- a name is that of this key, which these columns lack; those of attributes and of languages are at most `most`, and none of the others
-- that are left
abbrev pub IsKeyAfter : ℕ → Columns → List ℕ → List (List ℕ) → Key → Type 0
IsKeyAfter most c name left k = MatchBool (names_column name)
    ((k ≡ Attribute c.attributes) × (c.attributes < most) × (how_often name left ≡ 0))
    ((key_name [] k ≡ name) × (is_fixed k ≡ true) × (has_key c k ≡ false))

-- a name is that of no such key: an attribute's where there are too many, or that is named again; no key's, or that of a key that is there
abbrev pub IsNoKeyAfter : ℕ → Columns → List ℕ → List (List ℕ) → Type 0
IsNoKeyAfter most c name left = MatchBool (names_column name)
    ((most ≤ c.attributes) ⊎ (1 ≤ how_often name left))
    ((is_key_name name ≡ false) ⊎ ((k : Key) × (key_name [] k ≡ name) × (is_fixed k ≡ true) × (has_key c k ≡ true)))

-- a text has the names of these columns, with commas between them
abbrev pub IsColumnsText : List ℕ → ℕ → Columns → Type 0
IsColumnsText text depth c = AreNamesOf (pieces_of comma text) depth c

-- the columns that the text of `--by` names; there is a depth only if directories are among the columns
pub record AreColumnsNamed (text : List ℕ) (depth : Option ℕ) (c : Columns) : Type 0 where
  pub named : IsColumnsText text (unwrap_or depth 1) c
  pub cuts : IfSome depth (λ _. is_some c.dir ≡ true)

-- the columns that `--by` and `--depth` request, if `--by` was typed. Without `--by`, only the levels of a tree have a depth
abbrev pub AreColumnsBy : Bool → Option (List ℕ) → Option ℕ → Option Columns → Type 0
AreColumnsBy is_tree None depth None = is_tree || is_none depth ≡ true
AreColumnsBy is_tree (Some text) depth (Some c) = AreColumnsNamed text depth c
AreColumnsBy is_tree None depth (Some c) = ⊥
AreColumnsBy is_tree (Some text) depth None = ⊥

-- `--format tree` was typed
abbrev pub names_tree : Option (List ℕ) → Bool
names_tree format = option_map_or (λ word. bytes_eq word (codes "tree")) format false

-- the table that the texts of `--format`, `--by` and `--sort` and the number of `--depth` request, each only if it was typed
pub record IsTableBy (format by : Option (List ℕ)) (depth : Option ℕ) (sort : Option (List ℕ)) (s : TableRequest) : Type 0 where
  pub format_is : option_map output_word s.format ≡ format
  pub by_is : AreColumnsBy (names_tree format) by depth s.by
  pub levels_is : s.levels ≡ unwrap_or depth 2
  pub sort_is : option_map order_word s.sort ≡ sort

-- the output: the named one; if none is named, a text in the format `Table` for a table with shares, and otherwise in `other`
abbrev pub output_in : Format → TableRequest → Output
output_in other s = unwrap_or s.format (Text (cond s.share Table other))

-- the order if none is named: by lines with `--top` or in a text for reading, and otherwise by name
abbrev pub default_order : Output → Option ℕ → Order
default_order output top = cond (is_some top || is_for_reading output) (Largest Lines) Name

-- the number by which an order sorts; the order by name sorts by no number
abbrev pub number_of : Order → Option Number
number_of Name = None
number_of (Largest number) = Some number

-- the order of an output: the named order, or its default order
abbrev pub order_in : Output → TableRequest → Order
order_in output s = unwrap_or s.sort (default_order output s.top)

-- files are listed: `--files` was typed, or the format is that of paths
abbrev pub lists_files : TableRequest → Bool
lists_files s = s.files || is_paths s.format

-- the columns of an output: those that are named, or else these; the directories of its levels for a tree
abbrev pub columns_in : Output → Columns → TableRequest → Columns
columns_in Tree columns s = record { dir = Some s.levels; attributes = 0; ext = false; text = false; eol = false }
columns_in _ columns s = unwrap_or s.by columns

-- the options of a table: if no format is named and no shares are shown, the format is `other`; if no columns are named, these columns
abbrev pub options_in : Format → Columns → TableRequest → TableOptions
options_in other columns s = record {
  output = output_in other s;
  by = columns_in (output_in other s) columns s;
  sort = number_of (order_in (output_in other s) s);
  top = s.top;
  files = lists_files s;
  share = s.share;
}
