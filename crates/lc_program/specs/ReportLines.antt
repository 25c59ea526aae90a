-- The lines about reports that can't be read or added up, with which the program stops.
use Rattle.std.specs.Prelude.{◌≡◌, ◌≢◌, ◌⊎◌, ℕ, cond, bytes_eq, List, [], ◌++◌, codes, decimal, Option, None, String, string_bytes}
use Rattle.std.specs.Global.{Global}
use Rattle.lc_io.specs.declared.whole.WholeFault.{WholeFault}
use Rattle.lc_program.specs.Reasons.{unexplained_line}
use Rattle.lc_program.specs.declared.cause.Cause.{Cause, TheVariants.{InReport, Memory, NoSharedColumn, SumsTooLarge}}
use Rattle.lc_program.specs.declared.unread_reason.UnreadReason.{UnreadReason}
use Rattle.lc_reading.specs.{MemberNames.member_name, declared.read_fault.{NoReport.NoReport, Part.Part, ReadFault.ReadFault}}
use Rattle.lc_sheet.specs.{Keys.key_name, declared.key.Key.TheVariants.Attribute}
use Rattle.lc_reports.specs.declared.sum_fault.SumFault.{SumFault}
use Rattle.lc_text.specs.Visible.{visible_bytes}
use Rattle.lc_io.specs.declared.whole.WholeFault.TheVariants as whole
use Rattle.lc_reading.specs.declared.read_fault.NoReport.TheVariants as why
use Rattle.lc_reading.specs.declared.read_fault.Part.TheVariants as part
use Rattle.lc_reading.specs.declared.read_fault.ReadFault.TheVariants as fault
use Rattle.lc_reports.specs.declared.sum_fault.SumFault.TheVariants as sum

-- the name that errors use for a REPORT
abbrev pub origin_of : List ℕ → List ℕ
origin_of report = cond (bytes_eq report (codes "-")) (codes "standard input") report

-- the line that says what is wrong with a REPORT, or with a path that several reports have
abbrev pub report_line : List ℕ → List ℕ → List ℕ
report_line name why = codes "lc: " ++ visible_bytes name ++ codes " " ++ why ++ codes "\n"

-- a cause has this line about a report; or it is that an allocation failed
abbrev pub IsTold : List ℕ → Cause → Type 0
IsTold line cause = ((text : String Global) × (string_bytes text ≡ line) × (cause ≡ InReport text)) ⊎ (cause ≡ Memory)

-- ---- a REPORT that is not read

-- the reason that the system may give why a REPORT could not be read. For the input there is none
abbrev pub MayBeWhy : (List ℕ → Option UnreadReason → Type 0) → List ℕ → Option UnreadReason → Type 0
MayBeWhy may_unread report reason =
    ((report ≡ codes "-") × (reason ≡ None)) ⊎ ((report ≢ codes "-") × may_unread report reason)

abbrev pub IsUnreadFor : (List ℕ → Option UnreadReason → Type 0) → List ℕ → WholeFault → Cause → Type 0
IsUnreadFor may_unread report whole.Read cause =
    (reason : Option UnreadReason) × MayBeWhy may_unread report reason × IsTold (unexplained_line (origin_of report) reason) cause
IsUnreadFor may_unread report whole.TooLong cause = IsTold (report_line (origin_of report) (codes "too long")) cause
IsUnreadFor may_unread report whole.Memory cause = cause ≡ Memory

-- ---- a text that is refused

-- the text about a member that has the state of one of these attributes
abbrev pub attribute_text : List (List ℕ) → ℕ → List ℕ
attribute_text attributes place = key_name attributes (Attribute place)

abbrev pub no_report_text : List (List ℕ) → NoReport → List ℕ
no_report_text attributes why.Empty = codes "it is empty"
no_report_text attributes (why.NoObject at) = codes "no JSON object at byte " ++ decimal at
no_report_text attributes (why.Missing name) = codes "no member " ++ member_name name
no_report_text attributes (why.Twice name) = member_name name ++ codes " twice"
no_report_text attributes (why.Bad name) = codes "bad " ++ member_name name
no_report_text attributes (why.AttributeTwice place) = attribute_text attributes place ++ codes " twice"
no_report_text attributes (why.BadAttribute place) = codes "bad " ++ attribute_text attributes place

abbrev pub sums_text : Part → List ℕ
sums_text part.Rows = codes "is no report: its rows do not add up to its total"
sums_text part.Files = codes "is no report: its files do not add up to its total"
sums_text part.TextAndBinary = codes "is no report: its text and binary do not add up to its total"

-- the text that a REPORT has no state of an attribute
abbrev pub no_attribute_text : List ℕ → List ℕ
no_attribute_text name = codes "has no column " ++ name ++ codes ": count with --files --by " ++ name

-- the text of the REPORT that errors call by this name is refused, for this cause
abbrev pub IsRefusedFor : List (List ℕ) → List ℕ → ReadFault → Cause → Type 0
IsRefusedFor attributes name fault.Memory cause = cause ≡ Memory
IsRefusedFor attributes name (fault.NoReport why) cause =
    IsTold (report_line name (codes "is no report: " ++ no_report_text attributes why)) cause
IsRefusedFor attributes name fault.CutByTop cause = IsTold (report_line name (codes "was cut by --top")) cause
IsRefusedFor attributes name (fault.DoNotAddUp part) cause = IsTold (report_line name (sums_text part)) cause
IsRefusedFor attributes name (fault.NoAttribute place) cause =
    IsTold (report_line name (no_attribute_text (attribute_text attributes place))) cause

-- ---- reports that have no sum

abbrev pub IsUnsummedFor : SumFault → Cause → Type 0
IsUnsummedFor sum.Memory cause = cause ≡ Memory
IsUnsummedFor (sum.NoColumn origin key) cause =
    IsTold (report_line origin.now (codes "has no column " ++ key_name [] key ++ codes ": count with --files")) cause
IsUnsummedFor sum.NoSharedColumn cause = cause ≡ NoSharedColumn
IsUnsummedFor (sum.NoFiles origin) cause = IsTold (report_line origin.now (codes "has no files: count with --files")) cause
IsUnsummedFor (sum.NoSkipped origin) cause =
    IsTold (report_line origin.now (codes "has no skipped entries: count with --left-out")) cause
IsUnsummedFor (sum.SamePath path) cause =
    IsTold (report_line path.items (codes "is in two reports: lc sum NAME=REPORT tells them apart")) cause
IsUnsummedFor sum.TooLarge cause = cause ≡ SumsTooLarge
