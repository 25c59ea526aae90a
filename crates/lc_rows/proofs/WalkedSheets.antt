-- The sheets of reports of walks add up.
use Rattle.std.proofs.Common.{◌≡◌, ◌∙◌, ℕ, Bool, true, false, List, [], ◌∷◌, map, refl, sym, ap}
use Rattle.std.proofs.lemmas.List.{length-map}
use Rattle.lc_level.specs.Level.{FileLineModel}
use Rattle.lc_sheet.specs.Conditions.{ConditionModel, is_on_files}
use Rattle.lc_tree.specs.Trees.{Listings, Contents}
use Rattle.lc_walk.proofs.{ReportTotals.{ones, report_totals_law, sum_by-map, walked_lists}, RowSums.same_sums}
use Rattle.lc_walk.specs.{ReportTotals.{TotalsAddUp, counted_line}, Tally.{CountedFile, sums_of_files}}
use Rattle.lc_walk.specs.declared.{options.{Options.Options, ReportLists.ReportLists}, report.Report.Report}
use Rattle.lc_rows.proofs.{KeptParts.opposites_law, KeptTotals.kept_totals_law, SheetLawProofs.sheet_classes_law}
use Rattle.lc_rows.proofs.{SheetLawProofs.sheet_totals_law, SheetParts.{class_parts_law, sheet_parts_law}}
use Rattle.lc_sheet.specs.Keys.{are_of_files}
use Rattle.lc_rows.specs.{Kept.IsKept, KeptLaws.{WalkedOppositesLaw, tested_sums}, Laws.{sums_of_lines, totals_of}}
use Rattle.lc_rows.specs.{SheetLaws.{HasTotals, WalkedSheetLaw}, WalkedReports.IsOfWalk}

-- files have the sums that a tally counts
lines_sums : (fs : List FileLineModel) → sums_of_files (map counted_line fs) ≡ sums_of_lines fs
lines_sums fs = same_sums _ _ (length-map fs counted_line ∙ sym (ones fs)) (sum_by-map (λ (f : CountedFile). f.count.lines) counted_line fs)
    (sum_by-map (λ (f : CountedFile). f.count.blank) counted_line fs) (sum_by-map (λ (f : CountedFile). f.count.bytes) counted_line fs)

-- the totals of what meets conditions of the report of a walk add up
pub walked_adds_up : (lists : List ℕ → Listings) (gives : List ℕ → Contents) (o : Options) (r : Report) → IsOfWalk lists gives o r
    → TotalsAddUp r
walked_adds_up lists gives o r w = kept_totals_law w.conditions w.whole r (report_totals_law lists gives o w.whole w.walked) w.kept

-- it has the lists that the walk was asked for
kept_lists : (cs : List ConditionModel) (whole r : Report) → IsKept cs whole r → r.lists ≡ whole.lists
kept_lists [] whole r is = ap (λ (x : Report). x.lists) is
kept_lists (c ∷ cs) whole r is = is.lists

lists_files : (lists : List ℕ → Listings) (gives : List ℕ → Contents) (o : Options) (r : Report) → IsOfWalk lists gives o r
    → o.lists.files ≡ true → r.lists.files ≡ true
lists_files lists gives o r w asked =
    ap (λ (l : ReportLists). l.files) (kept_lists w.conditions w.whole r w.kept ∙ walked_lists lists gives o w.whole w.walked) ∙ asked

totals_at : (r : Report) → TotalsAddUp r → (of_files : Bool) → (of_files ≡ true → r.lists.files ≡ true)
    → r.totals ≡ totals_of of_files r.rows.items r.files.items
totals_at r adds false listed = adds.rows
totals_at r adds true listed = adds.files (listed refl) ∙ lines_sums r.files.items

tested_at : (r : Report) → TotalsAddUp r → (by_file : Bool) → (by_file ≡ true → r.lists.files ≡ true) → r.totals ≡ tested_sums by_file r
tested_at r adds true listed = adds.files (listed refl)
tested_at r adds false listed = adds.rows

pub walked_opposites_law : (lists : List ℕ → Listings) (gives : List ℕ → Contents) → WalkedOppositesLaw lists gives
walked_opposites_law lists gives o c r w listed =
    opposites_law c r (tested_at r (walked_adds_up lists gives o r w) (is_on_files c) (λ on. lists_files lists gives o r w (listed on)))

pub walked_sheet_law : (lists : List ℕ → Listings) (gives : List ℕ → Contents) → WalkedSheetLaw lists gives
walked_sheet_law lists gives o options attributes r s w listed sheet =
    let adds = walked_adds_up lists gives o r w in
    let totals : HasTotals options r = totals_at r adds (are_of_files options.by) (λ by. lists_files lists gives o r w (listed by)) in
    let parts = sheet_parts_law options attributes r s totals sheet in record {
      rows = sheet_totals_law options attributes r s totals sheet;
      classes = sheet_classes_law options attributes r s adds.classes sheet;
      shares = record { rows = parts.0; others = parts.1; totals = class_parts_law options attributes r s adds.classes sheet };
    }
