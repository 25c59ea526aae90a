-- Reports of walks that were printed as JSON with all their files, and what meets conditions of them, as they are read.
use Rattle.std.proofs.{Common.{arith, ◌≡◌, ◌∙◌, ℕ, true, List, [], Option, Some, ap, subst, IsPermutation}, lemmas.Grind.common_steps}
use Rattle.std.proofs.lemmas.{Cmp.nat_list_cmp_total, List.Elements.All-head}
use Rattle.std.specs.List.{All}
use Rattle.json.specs.Json.{Json, document}
use Rattle.lc_formats.specs.{JsonSheets.json_of, JsonText.{Member, members_with, object_with}}
use Rattle.lc_level.specs.Level.{FileLineModel}
use Rattle.lc_rows.proofs.WalkedSheets.{walked_adds_up}
use Rattle.lc_rows.specs.{Kept.IsKept, ShownFiles.AreFilesSorted}
use Rattle.lc_sheet.specs.{Conditions.ConditionModel, declared.column.Number.Number}
use Rattle.lc_tree.specs.{ByteOrder.AreInOrder, Trees.{Listings, Contents}}
use Rattle.lc_walk.proofs.ReportTotals.{walked_lists}
use Rattle.lc_walk.specs.{ReportLines.{fault_paths, file_paths, skipped_paths}, ReportTotals.TotalsAddUp}
use Rattle.lc_walk.specs.declared.{options.ReportLists.ReportLists, report.Report.Report}
use Rattle.lc_laws.proofs.{OneOrder.filtered_risen, OneReportRead.{OneReport, one_report}, PrintedReport.{printed_parts, report_members}}
use Rattle.lc_laws.proofs.{PrintedReport.sheet_printed, ReportReadBack.printed_members, WholeReadBack.{IsWholeReport, report_read_back}}
use Rattle.lc_laws.specs.ReadBack.{FitsTypes, ReadBackLaw}

-- the files are all of the report's, in some order
files_moved : (sort : Option Number) (fs sorted : List FileLineModel) → AreFilesSorted sort fs sorted → IsPermutation fs sorted
files_moved sort fs sorted e = grind (arith, common_steps)

-- what meets conditions of a report that is whole is whole
kept_whole : (cs : List ConditionModel) (whole r : Report) → IsKept cs whole r → TotalsAddUp r → whole.lists.files ≡ true
    → AreInOrder (file_paths whole.files.items) → AreInOrder (fault_paths whole.faults.items)
    → AreInOrder (skipped_paths whole.skipped.items) → IsWholeReport r
kept_whole cs whole r is adds_up listed files faults skipped = grind (arith, common_steps, filtered_risen, nat_list_cmp_total)

pub read_back_law : (lists : List ℕ → Listings) (gives : List ℕ → Contents) → ReadBackLaw lists gives
read_back_law lists gives o options attributes r s text reports w listed json shown sheet (line, text_is, line_is) fits read_fits are =
    let whole : IsWholeReport r =
    kept_whole w.conditions w.whole r w.kept (walked_adds_up lists gives o r w)
    (ap (λ (l : ReportLists). l.files) (walked_lists lists gives o w.whole w.walked) ∙ listed) w.walked.files_once w.walked.faults_once
    w.walked.skipped_once in
    let members : List Member =
    report_members (printed_parts options attributes r sheet.has.rows sheet.files) r.lists.left_out r.entries
    r.skipped.items in
    let value : json_of s ≡ object_with members =
    ap json_of sheet.has.is ∙ sheet_printed options attributes r sheet.has.rows sheet.files json in
    let line_members : document line ≡ Some (object_with members) = line_is ∙ ap (λ (j : Json). Some j) value in
    let one : OneReport attributes line reports = one_report attributes line text (members_with members) reports line_members text_is are in
    let read_fit : FitsTypes one.read =
    All-head (λ (q : Report). FitsTypes q) one.read []
    (subst (All (λ (q : Report). FitsTypes q)) one.one read_fits) in record {
      read = one.read;
      one = one.one;
      is = report_read_back options attributes r sheet.has.rows sheet.files one.read whole
          (files_moved options.sort r.files.items sheet.files sheet.are_files) fits read_fit shown
          (printed_members attributes line members one.read line_members one.is);
    }
