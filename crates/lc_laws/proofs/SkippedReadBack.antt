-- The lines of skipped entries that were printed, as they are read.
use Rattle.std.proofs.{lemmas.{Grind.common_steps, Bool.ltb-true, List.Elements.recursion_from_All}, Common.{◌≡◌, ◌∙◌, ◌<◌, ◌^◌, ◌&&◌, ℕ}}
use Rattle.std.proofs.Common.{Bool, true, List, [], ◌∷◌, ◌++◌, nat_lt, Option, Some, None, option_map, codes, is_some, refl, sym, ap}
use Rattle.std.proofs.Common.{append-nil, arith, subst}
use Rattle.std.specs.{List.{AllByRecursion, list_all}, Option.IfSome}
use Rattle.lc_formats.specs.{JsonLines.{line_members, value_members}, JsonText.Member, Readable.AreBytes}
use Rattle.lc_level.specs.{Level.SkippedLineModel, ReasonWords.{attribute_of, reason_word, rule_of}}
use Rattle.lc_reading.specs.{Lines.{HasAttribute, HasRule, IsSkippedOf}, Members.values_at}
use Rattle.lc_rows.specs.Kinds.{file_of_rule as file_value_of, line_of_rule as line_value_of, name_of_attribute, skipped_value}
use Rattle.lc_rows.specs.{SheetColumns.recorded_skipped, Words.kind_word}
use Rattle.lc_rules.specs.declared.rule_source.RuleSource.{RuleSource}
use Rattle.lc_sheet.specs.{Sheets.line_of, declared.form.Form.Form}
use Rattle.lc_text.specs.RulePlaces.{source_name}
use Rattle.lc_laws.proofs.{ReportSheets.directory_bytes, JsonMembers.{EachByte, bytes_read, same_integer}, LinesReadBack.one_word}
use Rattle.lc_laws.proofs.{PrintedMembers.{values_of_line, values_of_members}, WordsRead.{both_by_attribute, both_by_rule}}
use Rattle.lc_laws.specs.ReadBack.{FitsSkipped, file_of_rule, line_of_rule, skipped_text}

-- ---- the file of a rule consists of bytes

both_parts : (b : ℕ) (c d : Bool) (P : Type 0) → nat_lt b 256 ≡ c → (c && d) ≡ true → (d ≡ true → P) → (b < 256) × P
both_parts b c d P is rest more = grind (arith, common_steps, ltb-true)

small_bytes : (bs : List ℕ) → list_all (λ b. nat_lt b 256) bs ≡ true → AllByRecursion (λ b. b < 256) bs
small_bytes [] e = tt
small_bytes (b ∷ bs) e = grind (arith, common_steps, both_parts, small_bytes bs)

name_bytes : (source : RuleSource) → AreBytes (source_name source)
name_bytes source = grind (arith, common_steps, small_bytes)

rule_bytes : (p : List ℕ) (rule : RuleSource × ℕ) → AreBytes p → AllByRecursion (λ b. b < 256) (file_of_rule p rule)
rule_bytes p rule small = grind (arith, common_steps, recursion_from_All, directory_bytes, name_bytes)

-- ---- rules and attributes

-- what is printed of a rule
abbrev RuleAt : List Member → List ℕ → Option (RuleSource × ℕ) → Type 0
RuleAt ms p rule =
    (values_at (codes "file") ms ≡ values_at (codes "file") (value_members (codes "file") (file_value_of p rule)) ++ [])
    × (values_at (codes "file_bytes") ms ≡ values_at (codes "file_bytes") (value_members (codes "file") (file_value_of p rule)) ++ [])
    × (values_at (codes "line") ms ≡ values_at (codes "line") (value_members (codes "line") (line_value_of rule)) ++ [])

rule_read_back : (ms : List Member) (p q : List ℕ) (a b : Option (RuleSource × ℕ)) → AreBytes p → AreBytes q
    → IfSome a (λ rule. rule.1 < 2 ^ 32) → IfSome b (λ rule. rule.1 < 2 ^ 32) → is_some a ≡ is_some b → RuleAt ms p a → HasRule ms q b
    → (option_map (file_of_rule q) b ≡ option_map (file_of_rule p) a) × (option_map line_of_rule b ≡ option_map line_of_rule a)
rule_read_back ms p q None None p_bytes q_bytes fits_a fits_b both printed is = (refl, refl)
rule_read_back ms p q (Some a) (Some b) p_bytes q_bytes fits_a fits_b both printed is =
    let ended : file_of_rule p a ++ [] ≡ file_of_rule p a = append-nil (file_of_rule p a) in
    let file : file_of_rule q b ≡ file_of_rule p a ++ [] =
    bytes_read (codes "file") refl refl refl refl ms (file_of_rule p a ++ []) (file_of_rule q b) (printed.0 ∙ append-nil _)
    (printed.1 ∙ append-nil _) (subst EachByte (sym ended) (rule_bytes p a p_bytes)) (rule_bytes q b q_bytes) is.0 in
    let a_line : a.1 < 2 ^ 32 = fits_a in
    let b_line : b.1 < 2 ^ 32 = fits_b in (
      ap Some (file ∙ ended),
      ap Some (same_integer a.1 b.1 (omega arith) (omega arith) (sym printed.2 ∙ is.1)),
    )
rule_read_back ms p q a b p_bytes q_bytes fits_a fits_b both printed is = absurd (cc)

-- what is printed of an attribute
abbrev AttributeAt : List Member → Option (List ℕ) → Type 0
AttributeAt ms word =
    (values_at (codes "attribute") ms ≡ values_at (codes "attribute") (value_members (codes "attribute") (name_of_attribute word)) ++ [])
    × (values_at (codes "attribute_bytes") ms
    ≡ values_at (codes "attribute_bytes") (value_members (codes "attribute") (name_of_attribute word)) ++ [])

attribute_read_back : (ms : List Member) (a b : Option (List ℕ)) → IfSome a AreBytes → IfSome b AreBytes → is_some a ≡ is_some b
    → AttributeAt ms a → HasAttribute ms b → b ≡ a
attribute_read_back ms None None a_bytes b_bytes both printed is = refl
attribute_read_back ms (Some a) (Some b) a_bytes b_bytes both printed is =
    let ended : a ++ [] ++ [] ≡ a = append-nil (a ++ []) ∙ append-nil a in
    let word : b ≡ a ++ [] ++ [] =
    bytes_read (codes "attribute") refl refl refl refl ms (a ++ [] ++ []) b (printed.0 ∙ append-nil _) (printed.1 ∙ append-nil _)
    (subst EachByte (sym ended) (recursion_from_All (λ b. b < 256) a a_bytes)) (recursion_from_All (λ b. b < 256) b b_bytes) is in
    ap Some (word ∙ ended)
attribute_read_back ms a b a_bytes b_bytes both printed is = absurd (cc)

-- ---- entries

module _ (form : Form) (l : SkippedLineModel) where
  abbrev skipped_members : List Member
  skipped_members = line_members [] recorded_skipped (line_of (skipped_value form) recorded_skipped l)

  under : (n : List ℕ)
      → values_at n skipped_members ≡ values_of_line [] n recorded_skipped (line_of (skipped_value form) recorded_skipped l)
  under n = values_of_members [] n recorded_skipped (line_of (skipped_value form) recorded_skipped l)

  -- a skipped entry is read with the texts with which it was printed
  pub skipped_read_back : (k : SkippedLineModel) → FitsSkipped l → FitsSkipped k → IsSkippedOf skipped_members k
      → skipped_text k ≡ skipped_text l
  skipped_read_back k l_fits k_fits is =
      let path : k.path ≡ l.path =
      bytes_read (codes "path") refl refl refl refl skipped_members l.path k.path (under (codes "path") ∙ append-nil _)
      (under (codes "path_bytes") ∙ append-nil _) (recursion_from_All (λ b. b < 256) l.path l_fits.path)
      (recursion_from_All (λ b. b < 256) k.path k_fits.path) is.path in
      let kind : kind_word k.kind ≡ kind_word l.kind =
      one_word (kind_word l.kind) (kind_word k.kind) (sym (under (codes "kind")) ∙ is.kind) in
      let reason : reason_word k.reason ≡ reason_word l.reason =
      one_word (reason_word l.reason) (reason_word k.reason) (sym (under (codes "reason")) ∙ is.reason.word) in
      let rule = rule_read_back skipped_members l.path k.path (rule_of l.reason) (rule_of k.reason) l_fits.path k_fits.path l_fits.line
      k_fits.line
      (both_by_rule l.reason k.reason (sym reason)) (under (codes "file"), under (codes "file_bytes"), under (codes "line"))
      is.reason.rule in
      let attribute : attribute_of k.reason ≡ attribute_of l.reason =
      attribute_read_back skipped_members (attribute_of l.reason) (attribute_of k.reason) l_fits.attribute k_fits.attribute
      (both_by_attribute l.reason k.reason (sym reason)) (under (codes "attribute"), under (codes "attribute_bytes"))
      is.reason.attribute in
      λ i. record {
        path = path i;
        kind = kind i;
        reason = reason i;
        file = rule.0 i;
        line = rule.1 i;
        attribute = attribute i;
      }
