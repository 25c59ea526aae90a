-- The sides of a comparison: directories that are counted, and reports that are read.
use Rattle.std.specs.Prelude.{◌≡◌, ◌≢◌, ◌⊎◌, ℕ, true, false, List, [], Option, Some, None, Result, Ok, Err, Vec, codes}
use Rattle.std.specs.Global.{Global}
use Rattle.lc_arguments.specs.declared.walk_request.WalkRequest.{WalkRequest}
use Rattle.lc_io.specs.Reads.{Answer}
use Rattle.lc_program.specs.{Faults.has_path, Finds.IsCauseIn, LanguageColumns.HasLanguages, Reasons.unexplained_line}
use Rattle.lc_program.specs.ReportFiles.{ReadsParts, Refuses}
use Rattle.lc_program.specs.{ReportLines.{IsTold, IsUnsummedFor}, Systems.SystemMay, WalkRequests.entered_by}
use Rattle.lc_program.specs.declared.cause.Cause.{Cause, TheVariants.Memory}
use Rattle.lc_program.specs.declared.sides.Side.{Side}
use Rattle.lc_program.specs.declared.unread_reason.UnreadReason.{UnreadReason}
use Rattle.lc_program.specs.declared.unread_reason.UnreadReason.TheVariants.{Missing, Denied, IsDirectory, IsFile, NotDirectory, Other}
use Rattle.lc_reports.specs.{Sums.IsSummed, declared.{needs.Needs.Needs, part.Part.Part, sum_fault.SumFault.SumFault}}
use Rattle.lc_walk.specs.{Walks.Walks, declared.{options.Options.Options, report.Report.Report, walk_fault.WalkFault.WalkFault}}
use Rattle.lc_program.specs.declared.sides.Side.TheVariants as side

-- ---- what sides are

-- what a side is, by the reason why no directory of this name can be listed, if there is one
abbrev pub side_by : Option UnreadReason → Side
side_by None = side.Directory
side_by (Some Missing) = side.Missing
side_by (Some Denied) = side.Directory
side_by (Some IsDirectory) = side.Directory
side_by (Some IsFile) = side.Report
side_by (Some NotDirectory) = side.Report
side_by (Some Other) = side.Directory

-- what the side with this name is, by the reason that the system may give. `-` is standard input
abbrev pub IsSide : (List ℕ → Option UnreadReason → Type 0) → List ℕ → Side → Type 0
IsSide may_unlist name s =
    ((name ≡ codes "-") × (s ≡ side.Report))
    ⊎ ((name ≢ codes "-") × ((why : Option UnreadReason) × may_unlist name why × (s ≡ side_by why)))

-- ---- the report of a side

module _ (may : SystemMay) (w : WalkRequest) (o : Options) where
  -- what a walk of the directory with this name may answer
  abbrev pub MayWalkSide : List ℕ → Result Report WalkFault → Type 0
  MayWalkSide name = Walks (may.list name (entered_by w)) (may.give name (entered_by w)) o

  -- a side is a directory that could not be listed itself, with this cause
  abbrev pub IsUnlisted : List ℕ → Cause → Type 0
  IsUnlisted name cause =
      (r : Report) × MayWalkSide name (Ok r) × (has_path [] r.faults.items ≡ true)
      × (((why : Option UnreadReason) × may.unlist name why × IsTold (unexplained_line name why) cause) ⊎ (cause ≡ Memory))

  -- the report of a side that is a directory and was listed, with languages where one of these columns shows them, or why there is none
  abbrev pub CountsSide : List (List ℕ) → List ℕ → Result Report Cause → Type 0
  CountsSide columns name (Ok s) =
      (r : Report) × MayWalkSide name (Ok r) × (has_path [] r.faults.items ≡ false) × HasLanguages columns r s
  CountsSide columns name (Err cause) =
      ((fault : WalkFault) × MayWalkSide name (Err fault) × IsCauseIn name fault cause) ⊎ IsUnlisted name cause ⊎ (cause ≡ Memory)

module _ (may : SystemMay) {I : Type 0} (may_give : I → ℕ → Answer → I → Type 0) (attributes : List (List ℕ)) (needs : Needs) where
  -- the sum of the reports in the REPORT with this name, whose files have the states of these attributes, or why there is none
  abbrev pub ReadsSide : List ℕ → I → Result Report Cause → I → Type 0
  ReadsSide name input (Ok r) read =
      (parts : Vec Part Global) × ReadsParts may_give may.hold attributes (None, name) input parts.items read
      × IsSummed needs parts.items (Ok r)
  ReadsSide name input (Err cause) read =
      (Refuses may_give may.hold may.unread attributes (None, name) input cause read ⊎ (cause ≡ Memory))
      ⊎ ((parts : Vec Part Global) × ReadsParts may_give may.hold attributes (None, name) input parts.items read
      × ((fault : SumFault) × IsSummed needs parts.items (Err fault) × IsUnsummedFor fault cause))

module _ (may : SystemMay) {I : Type 0} (may_give : I → ℕ → Answer → I → Type 0) (w : WalkRequest) (o : Options)
    (attributes : List (List ℕ)) (needs : Needs) where
  -- the report of a side, or why there is none
  abbrev pub GivesSide : Side → List ℕ → I → Result Report Cause → I → Type 0
  GivesSide side.Directory name input answer read = CountsSide may w o attributes name answer × (read ≡ input)
  GivesSide side.Report name input answer read = ReadsSide may may_give attributes needs name input answer read
  GivesSide side.Missing name input answer read = ReadsSide may may_give attributes needs name input answer read

  -- the reports of both sides, the old side first, or why there is none
  abbrev pub GivesSides : Side × Side → List ℕ → List ℕ → I → Result (Report × Report) Cause → I → Type 0
  GivesSides sides old new input (Ok both) read =
      (between : I) × GivesSide sides.0 old input (Ok both.0) between × GivesSide sides.1 new between (Ok both.1) read
  GivesSides sides old new input (Err cause) read =
      GivesSide sides.0 old input (Err cause) read
      ⊎ ((r : Report) × (between : I) × GivesSide sides.0 old input (Ok r) between × GivesSide sides.1 new between (Err cause) read)
