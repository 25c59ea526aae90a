-- Reading the reports that the command line names. A REPORT is a file, or the input, that has one or more reports.
use Rattle.std.specs.{Prelude.{◌≡◌, ◌⊎◌, ℕ, true, List, [], ◌∷◌, ◌++◌, Option, Some, None, Result, Ok, Err, Vec}, Global.Global}
use Rattle.std.specs.List.{AllZip, list_all}
use Rattle.json.specs.Word.{is_space}
use Rattle.lc_io.specs.{Reads.Answer, declared.whole.WholeFault.WholeFault}
use Rattle.lc_program.specs.{NamedTexts.ReadsNamed, ReportLines.{IsRefusedFor, IsUnreadFor, origin_of}}
use Rattle.lc_program.specs.declared.{cause.Cause.{Cause, TheVariants.Memory}, unread_reason.UnreadReason.UnreadReason}
use Rattle.lc_reading.specs.{Texts.AreReportsOf, declared.read_fault.ReadFault.ReadFault}
use Rattle.lc_walk.specs.declared.report.Report.{Report}
use Rattle.lc_reports.specs.{Named.IsNamed, declared.part.Part.Part}
use Rattle.lc_tree.specs.Trees.{Contents}
use Rattle.lc_reading.specs.declared.read_fault.NoReport.TheVariants as why
use Rattle.lc_reading.specs.declared.read_fault.ReadFault.TheVariants as fault

-- the greatest number of bytes of a REPORT
abbrev pub max_report : ℕ
max_report = 1073741824

-- a REPORT of the command line: its NAME, if it has one, and its path
abbrev pub Typed : Type 0
Typed = Option (List ℕ) × List ℕ

-- a report with this name in front of its paths, or the report itself without a name
abbrev pub IsBelow : Option (List ℕ) → Report → Report → Type 0
IsBelow None given below = below ≡ given
IsBelow (Some name) given below = IsNamed name given below

-- a part of a sum is made from a report in a REPORT: it has NAME in front of its paths, and the name of the REPORT in errors
pub record IsPartOf (typed : Typed) (given : Report) (part : Part) : Type 0 where
  pub origin : part.origin.now ≡ origin_of typed.1
  pub below : IsBelow typed.0 given part.report

-- why the text of a REPORT may be refused. A text of white space alone is refused because it is empty
abbrev pub MayRefuse : List ℕ → ReadFault → Type 0
MayRefuse text refusal = list_all is_space text ≡ true → refusal ≡ fault.NoReport why.Empty

module _ {I : Type 0} (may_give : I → ℕ → Answer → I → Type 0) (holds : List ℕ → Contents) (attributes : List (List ℕ)) where
  -- the text of a REPORT was read, and these parts were made from the reports in it, whose files have the states of these attributes
  abbrev pub ReadsParts : Typed → I → List Part → I → Type 0
  ReadsParts typed input parts read =
      (text : Vec ℕ Global) × ReadsNamed max_report may_give holds typed.1 input (Ok text) read
      × ((given : List Report) × AreReportsOf attributes text.items given × AllZip (IsPartOf typed) given parts)

  -- all REPORTs were read in their order, and these are their parts, one after another
  abbrev pub ReadsAll : List Typed → I → List Part → I → Type 0
  ReadsAll [] input parts read = (parts ≡ []) × (read ≡ input)
  ReadsAll (typed ∷ others) input parts read =
      (first more : List Part) × (between : I) × ReadsParts typed input first between × ReadsAll others between more read
      × (parts ≡ first ++ more)

module _ {I : Type 0} (may_give : I → ℕ → Answer → I → Type 0) (holds : List ℕ → Contents)
    (may_unread : List ℕ → Option UnreadReason → Type 0) (attributes : List (List ℕ)) where
  -- a REPORT could not be read, or its text is refused, for this cause
  abbrev pub Refuses : Typed → I → Cause → I → Type 0
  Refuses typed input cause read =
      ((whole : WholeFault) × ReadsNamed max_report may_give holds typed.1 input (Err whole) read
      × IsUnreadFor may_unread typed.1 whole cause)
      ⊎ ((text : Vec ℕ Global) × ReadsNamed max_report may_give holds typed.1 input (Ok text) read
      × ((refusal : ReadFault) × MayRefuse text.items refusal × IsRefusedFor attributes (origin_of typed.1) refusal cause))

  -- one of these REPORTs is the first that could not be read or is refused. Those before it were read, and those after it were not
  abbrev pub RefusesFirst : List Typed → I → Cause → I → Type 0
  RefusesFirst [] input cause read = ⊥
  RefusesFirst (typed ∷ others) input cause read =
      Refuses typed input cause read
      ⊎ ((first : List Part) × (between : I) × ReadsParts may_give holds attributes typed input first between
      × RefusesFirst others between cause read)

  -- the parts of all REPORTs; or why there are none, which may also be that an allocation failed
  abbrev pub AnswersParts : List Typed → I → Result (Vec Part Global) Cause → I → Type 0
  AnswersParts all input (Ok parts) read = ReadsAll may_give holds attributes all input parts.items read
  AnswersParts all input (Err cause) read = RefusesFirst all input cause read ⊎ (cause ≡ Memory)
