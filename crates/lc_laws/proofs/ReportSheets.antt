-- The sheet of a report, as a text in columns shows it, is readable.
use Rattle.std.proofs.{lemmas.{Grind.common_steps, List.{map-append, Elements.{All-map, All-nil, All-weaker, recursion_from_All}}}}
use Rattle.std.proofs.{lemmas.Option.unwrap_or-slice_get, Common.{◌≡◌, ℕ, Bool, true, false, if◌then◌else◌, List, [], ◌∷◌, ◌++◌, flat_map}}
use Rattle.std.proofs.Common.{map, Option, Some, None, unwrap_or, codes, refl, sym, ap, ◌∙◌, append_assoc, subst, arith, get_or}
use Rattle.std.specs.{List.{All, AllByRecursion}, Option.IfSome}
use Rattle.lc_level.specs.{FaultLines.FaultLineModel, Level.{FileLineModel, Reason as SkipReason, SkippedLineModel}}
use Rattle.lc_rules.specs.{Attributes.StateModel, declared.rule_source.RuleSource.RuleSource}
use Rattle.lc_text.specs.RulePlaces.{source_directory}
use Rattle.lc_sheet.specs.{ColumnWords.side_of, AttributeColumns.heading_of, Values.{ValueModel, number}, declared.key.Key.Key}
use Rattle.lc_sheet.specs.declared.table_options.{Columns.Columns, Format.TheVariants.Table, Output.{Output, TheVariants.Text}}
use Rattle.lc_sheet.specs.declared.table_options.{TableOptions.TableOptions}
use Rattle.lc_sheet.specs.declared.column.{Column.Column, Number.TheVariants.{Files, Lines, Blank, Bytes}}
use Rattle.lc_sheet.specs.declared.column.{Side.{Side, TheVariants.{Left, Right, End}}}
use Rattle.lc_sheet.specs.declared.form.{Form.Form, Shares.Shares}
use Rattle.lc_walk.specs.declared.{report.Report.Report, tally.sums.Sums.Sums}
use Rattle.lc_rows.specs.Kinds.{NamedSumsModel, directory_in, fault_value, file_value, state_value, place_value}
use Rattle.lc_rows.specs.{Kinds.{row_value, share_value, bar_value, skipped_value, sums_value}, RowKeys.{ShownRowModel}}
use Rattle.lc_rows.specs.SheetColumns.{column_if, fault_columns, key_columns, listed_columns, listed_skipped, number_columns, shows_key}
use Rattle.lc_rows.specs.{Sheets.{form_of, list_of, others_lines, section_of, sheet_of, totals_lines, with_attributes}, Views.ViewModel}
use Rattle.lc_formats.specs.{Layouts.has_no_end, Readable.{AreBytes, AreNames, AreReadable, AreRows, EndsInNumbers, IsListed, IsNumeral}}
use Rattle.lc_formats.specs.Readable.{IsPlain, IsReadable}
use Rattle.lc_laws.specs.SheetReadable.{HasByteName, HasByteNames, HasByteValue, HasSkippedBytes, HaveHeadings, IsReadableSheet}
use Rattle.lc_laws.specs.SheetReadable.{ReadableSheetLaw}
use Rattle.lc_rules.specs.Attributes as state
use Rattle.lc_sheet.specs.declared.column.Column.TheVariants as column
use Rattle.lc_sheet.specs.declared.key.Key.TheVariants as key

-- ---- words

-- ---- values at the left

pub directory_bytes : (p : List ℕ) (source : RuleSource) → AreBytes p → AreBytes (source_directory p source)
directory_bytes p source small = grind (arith, common_steps)

directory_readable : (d : Option (List ℕ)) → AreBytes (unwrap_or d []) → IsReadable Left (directory_in d)
directory_readable None small = tt
directory_readable (Some []) small = (refl, small, refl)
directory_readable (Some (b ∷ bs)) small = (refl, small, refl)

state_readable : (s : StateModel) → HasByteValue s → IsReadable Left (state_value s)
state_readable s small = grind (arith, common_steps)

byte_value : (ss : List StateModel) → AllByRecursion HasByteValue ss → (k : ℕ) → HasByteValue (get_or ss k state.unspecified)
byte_value ss small k = grind (arith, common_steps)

place_readable : (p : List ℕ) (r : SkipReason) → AreBytes p → HasByteName r → IsReadable Left (place_value p r)
place_readable p r small own = grind (arith, common_steps, directory_bytes)

-- ---- lines

-- a value in each column
each_readable : (f : Column → ValueModel) (columns : List Column) → ((c : Column) → IsReadable (side_of c) (f c))
    → AreReadable columns (map f columns)
each_readable f [] own = tt
each_readable f (c ∷ cs) own = (own c, each_readable f cs own)

-- the columns of a share
record AreShown (q : Option Shares) (s : Sums) : Type 0 where
  share : IsReadable Right (share_value q s)
  bar : IsReadable Left (bar_value q s)
  share_numeral : IsNumeral (share_value q s)
  bar_numeral : IsNumeral (bar_value q s)

shares_shown : (q : Option Shares) (s : Sums) → AreShown q s
shares_shown q s = grind (arith, common_steps)

row_readable : (form : Form) (r : ShownRowModel) → HasByteNames r → (c : Column) → IsReadable (side_of c) (row_value form r c)
row_readable form r small c =
    grind (arith, common_steps, directory_readable, state_readable, unwrap_or-slice_get, byte_value, recursion_from_All, shares_shown)

sums_readable : (form : Form) (s : NamedSumsModel) → IsPlain s.name → (c : Column) → IsReadable (side_of c) (sums_value form s c)
sums_readable form s plain c = grind (arith, common_steps, shares_shown)

-- ---- numbers at the end of a line

abbrev pub more_columns : Bool → List Column
more_columns b = if b then column.Share ∷ column.Bar ∷ [] else []

-- a line that has numbers in the columns of numbers
line_numbers : (f : Column → ValueModel) (keys : List Column) (b : Bool) (a l n m : ℕ) → f (column.Number Files) ≡ number a
    → f (column.Number Lines) ≡ number l → f (column.Number Blank) ≡ number n → f (column.Number Bytes) ≡ number m
    → IsNumeral (f column.Share) → IsNumeral (f column.Bar)
    → EndsInNumbers (map f (keys ++ number_columns ++ more_columns b))
line_numbers f keys b a l n m e1 e2 e3 e4 share bar =
    let more = map f (more_columns b) in
    let parts = map-append f (keys ++ number_columns) (more_columns b)
    ∙ ap (λ (vs : List ValueModel). vs ++ more) (map-append f keys number_columns) ∙ append_assoc (map f keys)
    (map f number_columns) more in (
      map f keys,
      number l ∷ number n ∷ number m ∷ more,
      a,
      parts ∙ ap (λ (vs : List ValueModel). map f keys ++ vs) (rw (e1, e2, e3, e4) refl),
      grind (arith, common_steps),
    )

listed_of : {X : Type 0} (value : X → Column → ValueModel) (P : X → Type 0) (columns : List Column)
    → ((x : X) → P x → AreReadable columns (map (value x) columns)) → (xs : List X) → All P xs
    → All (AreReadable columns) (section_of value columns xs).lines
listed_of value P columns own xs small =
    All-map (AreReadable columns) (λ x. map (value x) columns) xs
    (All-weaker P (λ x. AreReadable columns (map (value x) columns)) own xs small)

rows_of : {X : Type 0} (value : X → Column → ValueModel) (P : X → Type 0) (columns : List Column)
    → ((x : X) → P x → (c : Column) → IsReadable (side_of c) (value x c)) → ((x : X) → EndsInNumbers (map (value x) columns))
    → (attributes : List (List ℕ)) (xs : List X) → All P xs → AreRows columns (with_attributes attributes (section_of value columns xs))
rows_of {X} value P columns own ends attributes xs small = record {
  in_columns = refl;
  readable = listed_of value P columns (λ x is. each_readable (value x) columns (own x is)) xs small;
  numbers = All-map EndsInNumbers (λ x. map (value x) columns) xs
      (All-weaker P (λ x. EndsInNumbers (map (value x) columns)) (λ x is. ends x) xs small);
}

-- ---- the columns of rows

closed-append : (xs ys : List Side) → has_no_end xs ≡ true → has_no_end ys ≡ true → has_no_end (xs ++ ys) ≡ true
closed-append [] ys a b = b
closed-append (End ∷ xs) ys a b = absurd (cc)
closed-append (side ∷ xs) ys a b = closed-append xs ys a b

abbrev IsClosed : List Column → Type 0
IsClosed columns = has_no_end (map side_of columns) ≡ true

closed_join : (xs ys : List Column) → IsClosed xs → IsClosed ys → IsClosed (xs ++ ys)
closed_join xs ys a b = ap has_no_end (map-append side_of xs ys) ∙ closed-append (map side_of xs) (map side_of ys) a b

closed_if : (b : Bool) (c : Column) → IsClosed (c ∷ []) → IsClosed (column_if b c)
closed_if b c e = grind (arith, common_steps)

closed_keys : (by : Columns) (ks : List Key) → IsClosed (flat_map (λ k. column_if (shows_key false by k) (column.Key k)) ks)
closed_keys by [] = refl
closed_keys by (k ∷ ks) = grind (arith, common_steps, closed_join, closed_if, closed_keys by ks)

abbrev pub table_columns : TableOptions → List Column
table_columns options = key_columns false options.by ++ number_columns ++ more_columns options.share

closed_places : (ps : List ℕ) → IsClosed (map (λ place. column.Key (key.Attribute place)) ps)
closed_places [] = refl
closed_places (p ∷ ps) = closed_places ps

closed_columns : (options : TableOptions) → IsClosed (table_columns options)
closed_columns options = grind (arith, common_steps, closed_join, closed_if, closed_places, closed_keys)

-- ---- the sections

row_section : (options : TableOptions) (attributes : List (List ℕ)) (form : Form) (rs : List ShownRowModel) → All HasByteNames rs
    → AreRows (table_columns options) (with_attributes attributes (section_of (row_value form) (table_columns options) rs))
row_section options attributes form rs small =
    rows_of (row_value form) HasByteNames (table_columns options) (row_readable form)
    (λ r. line_numbers (row_value form r) (key_columns false options.by) options.share _ _ _ _ refl refl refl refl
    (shares_shown form.shares r.sums).share_numeral (shares_shown form.shares r.sums).bar_numeral) attributes rs small

sums_section : (options : TableOptions) (form : Form) (ss : List NamedSumsModel) → All (λ s. IsPlain s.name) ss
    → AreRows (table_columns options) (section_of (sums_value form) (table_columns options) ss)
sums_section options form ss plain =
    rows_of (sums_value form) (λ s. IsPlain s.name) (table_columns options) (sums_readable form)
    (λ s. line_numbers (sums_value form s) (key_columns false options.by) options.share _ _ _ _ refl refl refl refl
    (shares_shown form.shares s.sums).share_numeral tt) [] ss plain

any_all : {X : Type 0} (xs : List X) → All (λ x. Unit {0}) xs
any_all xs = grind (arith, common_steps)

files_listed : (attributes : List (List ℕ)) → AreNames attributes → (b : Bool) (form : Form) (fs : List FileLineModel)
    → IfSome (if b then Some (list_of (codes "file") (with_attributes attributes (section_of
    (file_value form) listed_columns fs))) else None)
    IsListed
files_listed attributes names true form fs = record {
  opened = refl;
  names = names;
  readable = listed_of (file_value form) (λ f. Unit {0}) listed_columns
      (λ f is. grind (arith, common_steps)) fs (any_all fs);
}
files_listed attributes names false form fs = tt

skipped_listed : (b : Bool) (form : Form) (ls : List SkippedLineModel) → All HasSkippedBytes ls
    → IfSome (if b then Some (list_of (codes "left") (section_of (skipped_value form) listed_skipped ls)) else None) IsListed
skipped_listed false form ls small = tt
skipped_listed true form ls small = record {
  opened = refl;
  names = All-nil (λ n. AreBytes (heading_of n));
  readable = listed_of (skipped_value form) HasSkippedBytes listed_skipped
      (λ l is. grind (arith, common_steps, place_readable)) ls small;
}

faults_listed : (form : Form) (fs : List FaultLineModel)
    → IsListed (list_of (codes "fault") (section_of (fault_value form) fault_columns fs))
faults_listed form fs = record {
  opened = refl;
  names = All-nil (λ n. AreBytes (heading_of n));
  readable = listed_of (fault_value form) (λ f. Unit {0}) fault_columns (λ f is. grind (arith, common_steps)) fs (any_all fs);
}

in_table : (options : TableOptions) (attributes : List (List ℕ)) (r : Report) (v : ViewModel) → HaveHeadings attributes
    → All HasByteNames v.rows → All HasSkippedBytes r.skipped.items
    → IsReadableSheet (sheet_of (record options { output = Text Table }) attributes r v)
in_table options attributes r v headings small skipped =
    let form = form_of (record options { output = Text Table }) r.totals v.rows in
    record {
      tabular = record {
        closed = closed_columns options;
        names = headings.names;
        bare = headings.bare;
        rows = row_section options attributes form v.rows small;
        others = sums_section options form (others_lines v.others) (grind (arith, common_steps));
        totals = sums_section options form (totals_lines r.totals r.classes) (grind (arith, common_steps));
      };
      files_listed = files_listed attributes headings.names options.files form v.files;
      skipped_listed = skipped_listed r.lists.left_out form r.skipped.items skipped;
      faults_listed = faults_listed form r.faults.items;
    }

pub readable_law : ReadableSheetLaw
readable_law options attributes r v table headings small skipped =
    let is : options ≡ record options { output = Text Table } = ap (λ (o : Output). record options { output = o }) table in
    subst (λ (o : TableOptions). IsReadableSheet (sheet_of o attributes r v)) (sym is)
    (in_table options attributes r v headings small skipped)
