-- Reports whose files have their languages, where a column shows them.
use Rattle.std.specs.{Prelude.{◌≡◌, ℕ, List, Option, Some, None}, List.position, Str.bytes_eq}
use Rattle.lc_languages.specs.{InLanguages.IsInLanguages, declared.list.TheConstants.LANGUAGES}
use Rattle.lc_sheet.specs.AttributeColumns.{language_name}
use Rattle.lc_walk.specs.declared.report.Report.{Report}

-- the place of the column of languages among columns with these names, if it is one of them
abbrev pub language_place : List (List ℕ) → Option ℕ
language_place columns = position (λ name. bytes_eq name language_name) columns

-- a report, with the languages of its files by the program's list at this place of their states, or as it is
abbrev pub HasLanguagesAt : Option ℕ → Report → Report → Type 0
HasLanguagesAt None r s = s ≡ r
HasLanguagesAt (Some place) r s = IsInLanguages LANGUAGES.now place r s

abbrev pub HasLanguages : List (List ℕ) → Report → Report → Type 0
HasLanguages columns r s = HasLanguagesAt (language_place columns) r s
