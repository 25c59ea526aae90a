-- The lines of files, errors and skipped entries that were printed, as they are read.
use Rattle.std.proofs.{lemmas.{Grind.common_steps, List.Elements.recursion_from_All}, Common.{◌≡◌, ◌∙◌, ◌<◌, ℕ, true, false, List}}
use Rattle.std.proofs.Common.{[], ◌∷◌, ◌++◌, Option, codes, refl, sym, ap, inl, inr, append-nil, append_assoc, arith, is_some, length}
use Rattle.std.specs.List.{AllByRecursion}
use Rattle.json.specs.Json.{Json, string}
use Rattle.lc_census.specs.EolWords.{eol_word}
use Rattle.lc_formats.specs.{JsonLines.{line_members, value_members}, JsonText.{Member, bytes_member}, Readable.AreBytes}
use Rattle.lc_level.specs.{FaultLines.FaultLineModel, FaultWords.fault_word, Level.FileLineModel}
use Rattle.lc_reading.specs.{Lines.{IsFaultOf, IsFileOf, word_json}, Members.values_at, States.bytes_name}
use Rattle.lc_rows.specs.{Kinds.{fault_value, file_value, word_value}, SheetColumns.{column_if, fault_columns, recorded_columns}}
use Rattle.lc_rules.specs.TextWords.{text_word}
use Rattle.lc_sheet.specs.{AttributeColumns.{attribute_front, language_name}, Sheets.line_of, declared.column.Column.Column}
use Rattle.lc_sheet.specs.declared.form.Form.{Form}
use Rattle.lc_laws.proofs.{JsonMembers.{bytes_read, same_integer, values_append}, PrintedMembers.{is_name, is_named, values_of_line}}
use Rattle.lc_laws.proofs.{PrintedMembers.values_of_members, WordsRead.{same_eol, same_fault, same_state}, StatesReadBack.AreUnder}
use Rattle.lc_laws.proofs.StatesReadBack.{all_places, place_columns, state_members, states_apart, states_read}
use Rattle.lc_laws.specs.{ReadBack.{AreApart, FitsCount, FitsFile, IsColumnName}, SheetReadable.HasByteValue}
use Rattle.lc_sheet.specs.declared.column.Column.TheVariants as column
use Rattle.lc_sheet.specs.declared.column.Number.TheVariants as number
use Rattle.lc_sheet.specs.declared.key.Key.TheVariants as key

-- a text is read as what was printed
pub one_word : (v w : List ℕ) → string v ∷ [] ≡ string w ∷ [] → w ≡ v
one_word v w e = cc

-- ---- files

-- a file that fits its types and has a state of each of these attributes
pub record ShowsFile (attributes : List (List ℕ)) (f : FileLineModel) : Type 0 where
  pub fits : FitsFile f
  pub states : length f.asked ≡ length attributes

-- the columns of a file after its attributes
abbrev after_states : List Column
after_states =
    column.Key key.Ext ∷ column.Key key.Text ∷ column.Key key.Eol ∷ column.Number number.Lines ∷ column.Number number.Blank
    ∷ column.Number number.Bytes ∷ []

state_printed : (w : Option (List ℕ)) → values_at (codes "text") (value_members (codes "text") (word_value w)) ++ [] ≡ word_json w ∷ []
state_printed w = grind (arith, common_steps)

abbrev directory : Column
directory = column.Key key.Dir

-- the name of no column of an attribute or of languages
abbrev IsOther : List ℕ → Type 0
IsOther n = ((m : List ℕ) → is_name n (attribute_front ++ m) ≡ false) × (is_name n language_name ≡ false)

other_named : (n m : List ℕ) → IsOther n → IsColumnName m → is_name n m ≡ false
other_named n m other (inl is) = ap (is_name n) is.1 ∙ other.0 is.0
other_named n m other (inr is) = ap (is_name n) is ∙ other.1

others_apart : (n : List ℕ) → IsOther n → (ns : List (List ℕ)) → AreApart ns → AllByRecursion (λ m. is_name n m ≡ false) ns
others_apart n other [] apart = tt
others_apart n other (m ∷ ns) apart = (other_named n m other apart.0, others_apart n other ns apart.2)

module _ (attributes : List (List ℕ)) (form : Form) (apart : AreApart attributes) (shown : form.by.attributes ≡ length attributes)
    (f : FileLineModel) (asked : length f.asked ≡ length attributes) where
  abbrev members_in : List Column → List Member
  members_in columns = line_members attributes columns (line_of (file_value form) columns f)

  abbrev file_members : List Member
  file_members = members_in (recorded_columns form.by)

  abbrev before_states : List Column
  before_states = column.Path ∷ column_if (is_some form.by.dir) directory

  abbrev states : List Member
  states = state_members attributes f.asked

  in_two : (cs ds : List Column) → members_in (cs ++ ds) ≡ members_in cs ++ members_in ds
  in_two [] ds = refl
  in_two (c ∷ cs) ds = grind (arith, common_steps, append_assoc, in_two cs ds)

  in_parts : file_members ≡ members_in before_states ++ (states ++ members_in after_states)
  in_parts = grind (arith, common_steps, in_two, place_columns, all_places)

  values_in : (n : List ℕ)
      → values_at n file_members ≡ values_at n (members_in before_states) ++ (values_at n states ++ values_at n (members_in after_states))
  values_in n =
      ap (values_at n) in_parts ∙ values_append n (members_in before_states) (states ++ members_in after_states)
      ∙ ap (λ (js : List Json). values_at n (members_in before_states) ++ js) (values_append n states (members_in after_states))

  before_other : (n : List ℕ) → is_named attributes n column.Path ≡ false → is_named attributes n directory ≡ false
      → values_at n (members_in before_states) ≡ []
  before_other n path other = grind (arith, common_steps, values_of_line, values_of_members)

  -- what is under a name, by what the columns before the states, the states and the columns after them have of it
  in_three : (n : List ℕ) (before own after : List Json) → values_at n (members_in before_states) ≡ before → values_at n states ≡ own
      → values_of_line attributes n after_states (line_of (file_value form) after_states f) ≡ after
      → values_at n file_members ≡ before ++ (own ++ after)
  in_three n before own after e1 e2 e3 =
      let last = values_of_members attributes n after_states (line_of (file_value form) after_states f) ∙ e3 in
      values_in n ∙ (λ i. e1 i ++ (e2 i ++ last i))

  no_states : (n : List ℕ) → IsOther n → values_at n states ≡ []
  no_states n own = states_apart n attributes f.asked (others_apart n own attributes apart)

  -- what is under the names of paths
  path_at : (n : List ℕ) → is_named attributes n column.Path ≡ true → is_named attributes n directory ≡ false → IsOther n
      → values_of_line attributes n after_states (line_of (file_value form) after_states f) ≡ []
      → values_at n file_members ≡ values_at n (bytes_member (codes "path") f.path ∷ [])
  path_at n path other own none = grind (arith, common_steps, values_of_line, values_of_members, append-nil, in_three, no_states)

  -- what is under another name
  file_at : (n : List ℕ) → is_named attributes n column.Path ≡ false → is_named attributes n directory ≡ false → IsOther n
      → values_at n file_members ≡ values_of_line attributes n after_states (line_of (file_value form) after_states f)
  file_at n path other own = in_three n [] [] _ (before_other n path other) (no_states n own) refl

  abbrev IsUnder : List ℕ → Type 0
  IsUnder n = values_at n file_members ≡ values_at n states

  column_at : (n : List ℕ) → IsColumnName n → IsUnder n × IsUnder (bytes_name n)
  column_at n is = grind (arith, common_steps, in_three, before_other, append-nil)

  same_states : (ns : List (List ℕ)) → AreApart ns → AreUnder file_members states ns
  same_states [] is = tt
  same_states (n ∷ ns) is = (column_at n is.0, same_states ns is.2)

  -- a file is read as it was printed
  pub file_read_back : (g : FileLineModel) → FitsFile f → FitsFile g → IsFileOf attributes file_members g → g ≡ f
  file_read_back g f_fits g_fits is =
      let path : g.path ≡ f.path =
      bytes_read (codes "path") refl refl refl refl file_members f.path g.path
      (path_at (codes "path") refl refl ((λ m. refl), refl) refl) (path_at (codes "path_bytes") refl refl ((λ m. refl), refl) refl)
      (recursion_from_All (λ b. b < 256) f.path f_fits.path) (recursion_from_All (λ b. b < 256) g.path g_fits.path) is.path in
      let state : g.text ≡ f.text =
      sym (same_state f.text g.text (let e : word_json (text_word f.text) ∷ [] ≡ word_json (text_word g.text) ∷ [] =
      sym (state_printed (text_word f.text)) ∙ sym (file_at (codes "text") refl refl ((λ m. refl), refl)) ∙ is.text in cc)) in
      let eol : g.count.eol ≡ f.count.eol =
      sym (same_eol f.count.eol g.count.eol (sym (one_word (eol_word f.count.eol) (eol_word g.count.eol)
      (sym (file_at (codes "eol") refl refl ((λ m. refl), refl)) ∙ is.count.eol)))) in
      let f_count : FitsCount f.count = f_fits.count in
      let g_count : FitsCount g.count = g_fits.count in
      let lines : g.count.lines ≡ f.count.lines =
      same_integer f.count.lines g.count.lines (omega arith) (omega arith)
      (sym (file_at (codes "lines") refl refl ((λ m. refl), refl)) ∙ is.count.lines) in
      let blank : g.count.blank ≡ f.count.blank =
      same_integer f.count.blank g.count.blank (omega arith) (omega arith)
      (sym (file_at (codes "blank") refl refl ((λ m. refl), refl)) ∙ is.count.blank) in
      let bytes : g.count.bytes ≡ f.count.bytes =
      same_integer f.count.bytes g.count.bytes (omega arith) (omega arith)
      (sym (file_at (codes "bytes") refl refl ((λ m. refl), refl)) ∙ is.count.bytes) in
      let read : g.asked ≡ f.asked =
      states_read file_members attributes f.asked g.asked apart (same_states attributes apart) asked
      (recursion_from_All HasByteValue f.asked f_fits.asked) (recursion_from_All HasByteValue g.asked g_fits.asked) is.asked in
      λ i. record {
        path = path i;
        text = state i;
        asked = read i;
        count = record { lines = lines i; blank = blank i; bytes = bytes i; eol = eol i };
      }

-- ---- errors

module _ (form : Form) (f : FaultLineModel) where
  abbrev fault_members : List Member
  fault_members = line_members [] fault_columns (line_of (fault_value form) fault_columns f)

  fault_under : (n : List ℕ)
      → values_at n fault_members ≡ values_of_line [] n fault_columns (line_of (fault_value form) fault_columns f)
  fault_under n = values_of_members [] n fault_columns (line_of (fault_value form) fault_columns f)

  -- an error is read as it was printed
  pub fault_read_back : (g : FaultLineModel) → AreBytes f.path → AreBytes g.path → IsFaultOf fault_members g → g ≡ f
  fault_read_back g f_bytes g_bytes is =
      let path : g.path ≡ f.path =
      bytes_read (codes "path") refl refl refl refl fault_members f.path g.path (fault_under (codes "path") ∙ append-nil _)
      (fault_under (codes "path_bytes") ∙ append-nil _) (recursion_from_All (λ b. b < 256) f.path f_bytes)
      (recursion_from_All (λ b. b < 256) g.path g_bytes) is.path in
      let word : g.word ≡ f.word =
      sym (same_fault f.word g.word (sym (one_word (fault_word f.word) (fault_word g.word)
      (sym (fault_under (codes "word")) ∙ is.word)))) in
      λ i. record { path = path i; word = word i }
