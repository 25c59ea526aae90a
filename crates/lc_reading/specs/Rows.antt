-- The sums and the rows of a report, as the members of JSON objects.
use Rattle.std.specs.{Prelude.{◌≡◌, ◌==◌, ◌||◌, ◌<◌, ℕ, Bool, true, false, not, List, [], ◌∷◌, Option, Some, None}, Bool.MatchBool}
use Rattle.std.specs.List.{list_any}
use Rattle.json.specs.Json.{null, object}
use Rattle.lc_census.specs.{EolWords.eol_word, declared.line_count.Eol.TheVariants.NoEnd}
use Rattle.lc_rules.specs.declared.states.TextState.TheVariants.{Unspecified}
use Rattle.lc_walk.specs.{Key.Key, declared.tally.sums.Sums.Sums}
use Rattle.lc_reading.specs.{Lines.HasTextState, Members.{Member, Has, HasBytes, HasNumber, HasText, Lacks, members_with}}
use Rattle.lc_reading.specs.declared.{member_name.MemberName.MemberName, rows.ReadRow.ReadRow}
use Rattle.lc_reading.specs.declared.member_name.MemberName.TheVariants as member
use Rattle.lc_sheet.specs.declared.table_options.Columns.{Columns}

-- ---- sums

pub record IsSumsOf (ms : List Member) (s : Sums) : Type 0 where
  pub files : HasNumber member.Files ms s.files
  pub lines : HasNumber member.Lines ms s.lines
  pub blank : HasNumber member.Blank ms s.blank
  pub bytes : HasNumber member.Bytes ms s.bytes

-- the one member of this name is an object of these sums
pub record HasSums (name : MemberName) (ms : List Member) (s : Sums) : Type 0 where
  pub members : List Member
  pub has : Has name ms (object (members_with members))
  pub sums : IsSumsOf members s

-- ---- rows

abbrev pub no_name_has : ℕ → Bool
no_name_has b = (b == 0) || (b == 46) || (b == 47)

-- a name can have this extension: it has a byte, no NUL, no dot and no slash
abbrev pub is_extension : List ℕ → Bool
is_extension [] = false
is_extension (b ∷ bs) = not (list_any no_name_has (b ∷ bs))

-- the members have a dot and this extension, or null if there is no extension
abbrev pub HasExtension : List Member → Option (List ℕ) → Type 0
HasExtension ms None = Has member.Ext ms null × Lacks member.ExtBytes ms
HasExtension ms (Some e) = HasBytes member.Ext member.ExtBytes ms (46 ∷ e) × (is_extension e ≡ true)

-- the key of a row: its values in the columns that rows are grouped by; in any other column it has no member, and a fixed value
pub record IsKeyOf (columns : Columns) (ms : List Member) (k : Key) : Type 0 where
  pub extension : MatchBool columns.ext (HasExtension ms k.extension)
      (Lacks member.Ext ms × Lacks member.ExtBytes ms × (k.extension ≡ None))
  pub text : MatchBool columns.text (HasTextState ms k.text) (Lacks member.Text ms × (k.text ≡ Unspecified))
  pub eol : MatchBool columns.eol (HasText member.Eol ms (eol_word k.eol)) (Lacks member.Eol ms × (k.eol ≡ NoEnd))

pub record IsRowOf (ms : List Member) (r : ReadRow) : Type 0 where
  pub key : IsKeyOf r.columns ms r.row.key
  pub sums : IsSumsOf ms r.row.sums
  pub filled : 0 < r.row.sums.files
