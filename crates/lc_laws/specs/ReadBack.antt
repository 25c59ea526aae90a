-- The law that a report is the same after it was printed as JSON and read again.
use Rattle.std.specs.Prelude.{◌≡◌, ◌≢◌, ◌<◌, ◌^◌, ◌++◌, ◌⊎◌, ℕ, true, List, [], ◌∷◌, length, map, Option, None, option_map}
use Rattle.std.specs.{Bool.MatchBool}
use Rattle.std.specs.Prelude.{⊤}
use Rattle.std.specs.List.{All, AllByRecursion}
use Rattle.std.specs.Option.{IfSome}
use Rattle.lc_census.specs.declared.line_count.Count.{Count}
use Rattle.lc_formats.specs.{JsonSheets.json_of, JsonText.IsDocument, Readable.AreBytes}
use Rattle.lc_level.specs.{FaultLines.FaultLineModel, Level.{FileLineModel, SkippedLineModel}, ReasonWords.{attribute_of, reason_word}}
use Rattle.lc_level.specs.ReasonWords.{rule_of}
use Rattle.lc_reading.specs.{States.bytes_name, Texts.AreReportsOf}
use Rattle.lc_rows.specs.{Sheets.IsSheetOf, WalkedReports.IsOfWalk, Words.kind_word}
use Rattle.lc_rules.specs.declared.rule_source.RuleSource.{RuleSource}
use Rattle.lc_sheet.specs.{AttributeColumns.{attribute_front, language_name}, Sheets.SheetModel}
use Rattle.lc_sheet.specs.{declared.table_options.Format.TheVariants.Json}
use Rattle.lc_sheet.specs.declared.table_options.{Columns.Columns, Output.TheVariants.Text, TableOptions.TableOptions}
use Rattle.lc_text.specs.RulePlaces.{source_directory, source_name}
use Rattle.lc_tree.specs.Trees.{Listings, Contents}
use Rattle.lc_walk.specs.{Sums.IsInRange, declared.{options.Options.Options, report.Report.Report}}
use Rattle.lc_walk.specs.AllColumns.{all_columns}
use Rattle.lc_laws.specs.SheetReadable.{HasByteValue}

-- ---- numbers and bytes that fit their types

-- the counts of a file fit their types
pub record FitsCount (c : Count) : Type 0 where
  pub lines : c.lines < 2 ^ 64
  pub blank : c.blank < 2 ^ 64
  pub bytes : c.bytes < 2 ^ 64

-- the path of a file consists of bytes, as does each state that is a value, and its counts fit their types
pub record FitsFile (f : FileLineModel) : Type 0 where
  pub path : AreBytes f.path
  pub asked : All HasByteValue f.asked
  pub count : FitsCount f.count

-- the path of a skipped entry and its attribute consist of bytes, and the number of its rule's line fits its type
pub record FitsSkipped (l : SkippedLineModel) : Type 0 where
  pub path : AreBytes l.path
  pub line : IfSome (rule_of l.reason) (λ (rule : RuleSource × ℕ). rule.1 < 2 ^ 32)
  pub attribute : IfSome (attribute_of l.reason) AreBytes

-- each number of a report fits its type, and paths, words and values consist of bytes: it is so in each report that a program has
pub record FitsTypes (r : Report) : Type 0 where
  pub totals : IsInRange r.totals
  pub directories : r.directories < 2 ^ 64
  pub entries : r.entries < 2 ^ 64
  pub files : All FitsFile r.files.items
  pub skipped : All FitsSkipped r.skipped.items
  pub faults : All (λ (f : FaultLineModel). AreBytes f.path) r.faults.items

-- ---- what is read back

-- what JSON has of a skipped entry: its path, the words of its kind and of its reason, the file and the line of the rule that skips it,
-- and the word of the attribute that does. A directory and a mount have one word, so which of them a rule skips is not read back; nor is
-- the depth of the rule's file, but its path is
pub record SkippedTextModel : Type 0 where
  pub path : List ℕ
  pub kind : List ℕ
  pub reason : List ℕ
  pub file : Option (List ℕ)
  pub line : Option ℕ
  pub attribute : Option (List ℕ)

-- the path of the file that has the rule for a path, or the name of the option that has it
abbrev pub file_of_rule : List ℕ → RuleSource × ℕ → List ℕ
file_of_rule path rule = source_directory path rule.0 ++ source_name rule.0

abbrev pub line_of_rule : RuleSource × ℕ → ℕ
line_of_rule rule = rule.1

abbrev pub skipped_text : SkippedLineModel → SkippedTextModel
skipped_text l = record {
  path = l.path;
  kind = kind_word l.kind;
  reason = reason_word l.reason;
  file = option_map (file_of_rule l.path) (rule_of l.reason);
  line = option_map line_of_rule (rule_of l.reason);
  attribute = attribute_of l.reason;
}

-- the skipped entries and the number of entries are the same, if they were printed; else there are none
pub record HasSkippedOf (r read : Report) : Type 0 where
  pub entries : read.entries ≡ r.entries
  pub skipped : map skipped_text read.skipped.items ≡ map skipped_text r.skipped.items

pub record HasNoSkipped (read : Report) : Type 0 where
  pub entries : read.entries ≡ 0
  pub skipped : read.skipped.items ≡ []

-- a report that was read has what this report has: its sums, also over text and over binary files, the number of its directories, its
-- files and its errors in their order, its rows with all columns, and the skipped entries if it lists them
pub record IsReadBack (r : Report) (read : Report) : Type 0 where
  pub totals : read.totals ≡ r.totals
  pub classes : read.classes ≡ r.classes
  pub directories : read.directories ≡ r.directories
  pub lists : read.lists ≡ r.lists
  pub faults : read.faults.items ≡ r.faults.items
  pub files : read.files.items ≡ r.files.items
  pub rows : read.rows.items ≡ r.rows.items
  pub columns : read.columns ≡ all_columns
  pub skipped : MatchBool r.lists.left_out (HasSkippedOf r read) (HasNoSkipped read)

-- ---- attributes

-- no member of the one attribute has the name of a member of the other
pub record AreTwo (m n : List ℕ) : Type 0 where
  pub names : m ≢ n
  pub first : bytes_name m ≢ n
  pub second : bytes_name n ≢ m

-- the name of a column of an attribute, or of languages
abbrev pub IsColumnName : List ℕ → Type 0
IsColumnName n = ((m : List ℕ) × (n ≡ attribute_front ++ m)) ⊎ (n ≡ language_name)

-- these are names of such columns, and no two of these columns have a member of one name
abbrev pub AreApart : List (List ℕ) → Type 0
AreApart [] = ⊤
AreApart (n ∷ ns) = IsColumnName n × AllByRecursion (AreTwo n) ns × AreApart ns

-- each file of the report has a state of each of these attributes, and the table has the columns of them all
pub record AreShownFor (attributes : List (List ℕ)) (by : Columns) (r : Report) : Type 0 where
  pub apart : AreApart attributes
  pub shown : by.attributes ≡ length attributes
  pub states : All (λ (f : FileLineModel). length f.asked ≡ length attributes) r.files.items

-- a table as JSON that lists all files and all rows
pub record IsWholeJson (options : TableOptions) : Type 0 where
  pub json : options.output ≡ Text Json
  pub files : options.files ≡ true
  pub uncut : options.top ≡ None

-- the one report that was read is this report
pub record IsReadFrom (r : Report) (reports : List Report) : Type 0 where
  pub read : Report
  pub one : reports ≡ read ∷ []
  pub is : IsReadBack r read

-- the report of each walk that lists its files, and the part of it that meets conditions, is read back. A text is a document of its sheet
-- and a line feed, as `text` writes it. If these reports are in the text, as `read_reports` reads it with the attributes of the sheet, they
-- are this one report
abbrev pub ReadBackLaw : (List ℕ → Listings) → (List ℕ → Contents) → Type 0
ReadBackLaw lists gives =
    (o : Options) (options : TableOptions) (attributes : List (List ℕ)) (r : Report) (s : SheetModel) (text : List ℕ)
    (reports : List Report) → IsOfWalk lists gives o r → o.lists.files ≡ true → IsWholeJson options → AreShownFor attributes options.by r
    → IsSheetOf options attributes r s → IsDocument (json_of s) text → FitsTypes r → All (λ (q : Report). FitsTypes q) reports
    → AreReportsOf attributes text reports → IsReadFrom r reports
