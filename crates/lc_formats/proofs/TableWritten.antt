-- The text of a sheet in columns, one part after the other.
use Rattle.std.proofs.Common.{◌≡◌, ℕ, Bool, List, [], ◌++◌, Option, ap, ap₂, ◌∙◌}
use Rattle.lc_sheet.specs.Sheets.{SectionModel}
use Rattle.lc_formats.specs.TableText.{counts_below, list_listing, shown_lines, summary_of}

pub table_written : (files skipped faults : Option SectionModel) (rows others totals shown : SectionModel) (all : Bool)
    (directories entries : Option ℕ) (t0 t1 t2 t3 t4 t5 items : List ℕ) → t0 ≡ [] → t1 ≡ t0 ++ list_listing files
    → t2 ≡ t1 ++ list_listing skipped → t3 ≡ t2 ++ list_listing faults → shown ≡ shown_lines all totals
    → t4 ≡ t3 ++ summary_of rows others shown → t5 ≡ t4 ++ counts_below directories entries → items ≡ t5
    → items ≡ list_listing files ++ list_listing skipped ++ list_listing faults ++ summary_of rows others (shown_lines all totals)
    ++ counts_below directories entries
table_written files skipped faults rows others totals shown all directories entries t0 t1 t2 t3 t4 t5 items e0 e1 e2 e3 are e4 e5 e6 =
    e6 ∙ e5 ∙ ap (λ (t : List ℕ). t ++ counts_below directories entries)
    (e4 ∙ ap₂ (λ (t : List ℕ) (s : SectionModel). t ++ summary_of rows others s)
    (e3 ∙ ap (λ (t : List ℕ). t ++ list_listing faults) (e2 ∙ ap (λ (t : List ℕ). t ++ list_listing skipped)
    (e1 ∙ ap (λ (t : List ℕ). t ++ list_listing files) e0))) are)
