-- The texts that are read as reports.
use Rattle.std.specs.{Prelude.{◌≡◌, ◌<◌, ℕ, true, List, [], ◌∷◌, ◌++◌, length, ⊤, Some}, List.{flat_map, list_all}}
use Rattle.json.specs.{Json.{Json, document, object}, Word.is_space}
use Rattle.lc_reading.specs.{Members.{Member, members_with}, Reports.IsReportOf}
use Rattle.lc_walk.specs.declared.report.Report.{Report}

-- a text is one JSON value (RFC 8259), with white space
pub record IsJson (text : List ℕ) : Type 0 where
  pub value : Json
  pub is : document text ≡ Some value

-- a text is one JSON object, which is this report, whose files have the states of these attributes
pub record IsReportText (attributes : List (List ℕ)) (text : List ℕ) (r : Report) : Type 0 where
  pub members : List Member
  pub value_is : document text ≡ Some (object (members_with members))
  pub is : IsReportOf attributes members r

-- each of these texts is that of a report, in the same order
abbrev pub AreReportTexts : List (List ℕ) → List (List ℕ) → List Report → Type 0
AreReportTexts attributes [] [] = ⊤
AreReportTexts attributes [] (r ∷ rs) = ⊥
AreReportTexts attributes (t ∷ ts) [] = ⊥
AreReportTexts attributes (t ∷ ts) (r ∷ rs) = IsReportText attributes t r × AreReportTexts attributes ts rs

-- a text is made of the texts of these reports, at least one, one after another, and white space; their files have the states of these
-- attributes
pub record AreReportsOf (attributes : List (List ℕ)) (text : List ℕ) (reports : List Report) : Type 0 where
  pub texts : List (List ℕ)
  pub blank : List ℕ
  pub whole : text ≡ flat_map (λ t. t) texts ++ blank
  pub is_blank : list_all is_space blank ≡ true
  pub each : AreReportTexts attributes texts reports
  pub some : 0 < length reports
