-- The parts of a report that was printed, as they are read.
use Rattle.std.proofs.Common.{rules, ◌≡◌, ◌∙◌, ℕ, List, [], ◌∷◌, length, map, Some, sym, subst, arith, IsPermutation}
use Rattle.std.proofs.lemmas.Grind.{common_steps}
use Rattle.std.specs.List.{All}
use Rattle.json.specs.Json.{Json, document, object}
use Rattle.lc_formats.specs.{JsonText.{Member, array_with, object_with}, Readable.AreBytes}
use Rattle.lc_level.specs.{FaultLines.FaultLineModel, Level.{FileLineModel, SkippedLineModel}}
use Rattle.lc_reading.specs.{Lines.{IsFaultOf, IsFileOf, IsSkippedOf}, Members.{members_with as read_members, named}, Reports.HasOrdered}
use Rattle.lc_reading.specs.{Reports.IsReportOf, Rows.{HasSums, IsSumsOf}, Texts.IsReportText, declared.member_name.MemberName.MemberName}
use Rattle.lc_rows.specs.{Kinds.{fault_value, file_value}, SheetColumns.{fault_columns, recorded_columns}}
use Rattle.lc_sheet.specs.declared.form.Form.{Form}
use Rattle.lc_walk.proofs.RowSums.{same_sums}
use Rattle.lc_walk.specs.{Sums.IsInRange, declared.{tally.sums.Sums.Sums, report.Report.Report}}
use Rattle.lc_laws.proofs.{JsonMembers.{same_integer, same_object}, LinesReadBack.{ShowsFile, fault_read_back, file_read_back}}
use Rattle.lc_laws.proofs.{ListsReadBack.all_read, PrintedReport.{fault_objects, file_objects, skipped_objects, sums_members}}
use Rattle.lc_laws.proofs.SkippedReadBack.{skipped_read_back}
use Rattle.lc_laws.specs.ReadBack.{AreApart, FitsFile, FitsSkipped, skipped_text}
use Rattle.lc_reading.specs.declared.member_name.MemberName.TheVariants as member

-- what a text reads as has the members that were printed
pub printed_members : (attributes : List (List ℕ)) (text : List ℕ) (ms : List Member) (read : Report)
    → document text ≡ Some (object_with ms)
    → IsReportText attributes text read → IsReportOf attributes ms read
printed_members attributes text ms read printed is =
    let same : Some (object_with ms) ≡ Some (object (read_members is.members)) =
    sym printed ∙ is.value_is in
    let value : object_with ms ≡ object (read_members is.members) = cc in
    subst (λ ns. IsReportOf attributes ns read) (sym (same_object ms is.members value)) is.is

-- ---- sums

one_object : (ms : List Member) (j : Json) → object_with ms ∷ [] ≡ j ∷ [] → object_with ms ≡ j
one_object ms j e = cc

pub sums_read_back : (form : Form) (n : List ℕ) (s t : Sums) (name : MemberName) (ms : List Member)
    → named name ms ≡ object_with (sums_members form n s) ∷ [] → IsInRange s → IsInRange t → HasSums name ms t → t ≡ s
sums_read_back form n s t name ms printed s_fits t_fits has =
    let own : sums_members form n s ≡ has.members =
    same_object (sums_members form n s) has.members
    (one_object (sums_members form n s) (object (read_members has.members)) (sym printed ∙ has.has)) in
    let sums = subst (λ ns. IsSumsOf ns t) (sym own) has.sums in
    same_sums t s
    (same_integer s.files t.files (omega arith) (omega arith) sums.files)
    (same_integer s.lines t.lines s_fits.lines t_fits.lines sums.lines)
    (same_integer s.blank t.blank s_fits.blank t_fits.blank sums.blank)
    (same_integer s.bytes t.bytes s_fits.bytes t_fits.bytes sums.bytes)

-- ---- lists

same_list : {X : Type 0} (xs ys : List X) → map (λ (x : X). x) xs ≡ map (λ (x : X). x) ys → xs ≡ ys
same_list xs ys e = grind (arith, common_steps)

-- lines that were printed, and those that are read of them, in order of their paths
module _ (ms : List Member) (form : Form) where
  pub files_read_back : (attributes : List (List ℕ)) → AreApart attributes → form.by.attributes ≡ length attributes
      → (fs lines : List FileLineModel) → named member.Files ms ≡ array_with (file_objects form attributes fs) ∷ []
      → All (ShowsFile attributes) fs → All FitsFile lines
      → HasOrdered (IsFileOf attributes) (λ (f : FileLineModel). f.path) member.Files ms lines → IsPermutation fs lines
  files_read_back attributes apart shown fs lines printed f_fits l_fits has =
      subst (λ (xs : List FileLineModel). IsPermutation xs lines) (same_list has.listed fs
      (all_read (IsFileOf attributes) attributes (file_value form) (recorded_columns form.by) (ShowsFile attributes) FitsFile
      (λ (f : FileLineModel). f) (λ f g p q is. file_read_back attributes form apart shown f p.states g p.fits q is)
      (λ (f : FileLineModel). f.path) member.Files ms fs lines printed f_fits l_fits has)) has.same

  pub faults_read_back : (fs lines : List FaultLineModel) → named member.Faults ms ≡ array_with (fault_objects form fs) ∷ []
      → All (λ (f : FaultLineModel). AreBytes f.path) fs → All (λ (f : FaultLineModel). AreBytes f.path) lines
      → HasOrdered IsFaultOf (λ (f : FaultLineModel). f.path) member.Faults ms lines → IsPermutation fs lines
  faults_read_back fs lines printed f_fits l_fits has =
      let P : FaultLineModel → Type 0 = λ f. AreBytes f.path in
      subst (λ (xs : List FaultLineModel). IsPermutation xs lines) (same_list has.listed fs
      (all_read IsFaultOf [] (fault_value form) fault_columns P P (λ (f : FaultLineModel). f) (fault_read_back form)
      (λ (f : FaultLineModel). f.path) member.Faults ms fs lines printed f_fits l_fits has)) has.same

  pub skipped_texts_read_back : (ls lines : List SkippedLineModel) → named member.Left ms ≡ array_with (skipped_objects form ls) ∷ []
      → All FitsSkipped ls → All FitsSkipped lines → (has : HasOrdered IsSkippedOf (λ (l : SkippedLineModel). l.path) member.Left ms lines)
      → map skipped_text has.listed ≡ map skipped_text ls
  skipped_texts_read_back ls lines is so also has = search (rules, arith, all_read, skipped_read_back)
