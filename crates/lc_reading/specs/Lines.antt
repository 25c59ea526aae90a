-- The lines of a report, as the members of JSON objects.
use Rattle.std.specs.Prelude.{◌≡◌, ◌==◌, ◌&&◌, ◌-◌, ℕ, length, slice_get, Bool, true, false, not, List, ◌++◌, Option, Some, None, ⊤}
use Rattle.std.specs.List.{list_any}
use Rattle.json.specs.Json.{Json, null, string}
use Rattle.lc_census.specs.{EolWords.eol_word, declared.line_count.Count.Count}
use Rattle.lc_level.specs.{FaultLines.FaultLineModel, FaultWords.fault_word, Level.{FileLineModel, SkippedLineModel, Reason, named_git}}
use Rattle.lc_level.specs.{Level.{by_rule, by_attribute, not_included, other_kind}, ReasonWords.{attribute_of, reason_word, rule_of}}
use Rattle.lc_rules.specs.{TextWords.text_word, declared.{rule_source.RuleSource.RuleSource, states.TextState.TextState}}
use Rattle.lc_text.specs.RulePlaces.{source_directory, source_name}
use Rattle.lc_tree.specs.declared.entry.{Kind.{Kind, TheVariants.{File, Other}}, OtherKind.TheVariants.Mounted}
use Rattle.lc_rows.specs.Words.{kind_word}
use Rattle.lc_reading.specs.{Members.{Member, Has, HasBytes, HasNumber, HasText}, States.HasStates}
use Rattle.lc_reading.specs.declared.member_name.MemberName.TheVariants as member

-- ---- values

abbrev pub word_json : Option (List ℕ) → Json
word_json None = null
word_json (Some w) = string w

abbrev pub HasTextState : List Member → TextState → Type 0
HasTextState ms state = Has member.Text ms (word_json (text_word state))

abbrev pub ends_entry : Option ℕ → Bool
ends_entry None = false
ends_entry (Some last) = not (last == 47)

-- an entry of a directory can have this path: it has a byte, no NUL, and no slash at its end
abbrev pub is_entry_path : List ℕ → Bool
is_entry_path path = ends_entry (slice_get path (length path - 1)) && not (list_any (λ b. b == 0) path)

-- ---- files

pub record IsCountOf (ms : List Member) (c : Count) : Type 0 where
  pub eol : HasText member.Eol ms (eol_word c.eol)
  pub lines : HasNumber member.Lines ms c.lines
  pub blank : HasNumber member.Blank ms c.blank
  pub bytes : HasNumber member.Bytes ms c.bytes

-- a file with the states of these attributes
pub record IsFileOf (attributes : List (List ℕ)) (ms : List Member) (f : FileLineModel) : Type 0 where
  pub path : HasBytes member.Path member.PathBytes ms f.path
  pub entry : is_entry_path f.path ≡ true
  pub text : HasTextState ms f.text
  pub asked : HasStates ms attributes f.asked
  pub count : IsCountOf ms f.count

-- ---- faults

pub record IsFaultOf (ms : List Member) (f : FaultLineModel) : Type 0 where
  pub word : HasText member.Word ms (fault_word f.word)
  pub path : HasBytes member.Path member.PathBytes ms f.path

-- ---- skipped entries

-- as reports are read, an entry of this kind has this reason; another skipped mount is read as a directory, since both have one word
abbrev pub HasReason : Kind → Reason → Type 0
HasReason kind named_git = kind ≡ Other Mounted → ⊥
HasReason kind (by_rule source line) = kind ≡ Other Mounted → ⊥
HasReason kind (by_attribute word) = kind ≡ Other Mounted → ⊥
HasReason kind not_included = kind ≡ File
HasReason kind (other_kind what) = kind ≡ Other what

-- the members have the file and the line of the rule that decides a path
abbrev pub HasRule : List Member → List ℕ → Option (RuleSource × ℕ) → Type 0
HasRule ms path None = ⊤
HasRule ms path (Some rule) =
    HasBytes member.File member.FileBytes ms (source_directory path rule.0 ++ source_name rule.0) × HasNumber member.Line ms rule.1

abbrev pub HasAttribute : List Member → Option (List ℕ) → Type 0
HasAttribute ms None = ⊤
HasAttribute ms (Some word) = HasBytes member.Attribute member.AttributeBytes ms word

pub record IsReasonOf (ms : List Member) (path : List ℕ) (reason : Reason) : Type 0 where
  pub word : HasText member.Reason ms (reason_word reason)
  pub rule : HasRule ms path (rule_of reason)
  pub attribute : HasAttribute ms (attribute_of reason)

pub record IsSkippedOf (ms : List Member) (l : SkippedLineModel) : Type 0 where
  pub path : HasBytes member.Path member.PathBytes ms l.path
  pub entry : is_entry_path l.path ≡ true
  pub reason : IsReasonOf ms l.path l.reason
  pub kind : HasText member.Kind ms (kind_word l.kind)
  pub fits : HasReason l.kind l.reason
