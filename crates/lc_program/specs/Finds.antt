-- The report of a count of the directories that the command line names.
use Rattle.std.specs.{Prelude.{◌≡◌, ◌⊎◌, ℕ, List, [], ◌∷◌, ◌++◌, String, Result, Ok, Err, codes, string_bytes}, Global.Global, List.AllZip}
use Rattle.std.specs.List.{Contains}
use Rattle.lc_arguments.specs.Directories.{unslashed}
use Rattle.lc_program.specs.{Causes.walk_cause, LanguageColumns.HasLanguages}
use Rattle.lc_program.specs.declared.cause.Cause.{Cause, TheVariants.{InDirectory, Memory, SumsTooLarge}}
use Rattle.lc_reports.specs.{Joined.{Fits, IsJoined}, Named.IsNamed}
use Rattle.lc_text.specs.Visible.{visible_bytes}
use Rattle.lc_walk.specs.declared.{report.Report.Report, walk_fault.WalkFault.WalkFault}
use Rattle.lc_walk.specs.declared.walk_fault.WalkFault.TheVariants as walk

-- the line that names one of several directories, and says why its walk gave no report
abbrev pub line_in : List ℕ → List ℕ → List ℕ
line_in directory why = codes "lc: " ++ visible_bytes directory ++ codes ": " ++ why ++ codes "\n"

-- a cause is that the walk of one of several directories gave no report, with this line
abbrev pub HasLine : List ℕ → Cause → Type 0
HasLine line cause = (text : String Global) × (string_bytes text ≡ line) × (cause ≡ InDirectory text)

-- the cause for which the walk of one of several directories gave no report. If the line names the directory, the cause may also be that
-- an allocation fails
abbrev pub IsCauseIn : List ℕ → WalkFault → Cause → Type 0
IsCauseIn directory walk.TooManyDirs cause = HasLine (line_in directory (codes "too many directories")) cause ⊎ (cause ≡ Memory)
IsCauseIn directory walk.TooDeep cause = HasLine (line_in directory (codes "path too deep")) cause ⊎ (cause ≡ Memory)
IsCauseIn directory fault cause = cause ≡ walk_cause fault

-- by what walks of the directory with each name may answer
module _ (walks : List ℕ → Result Report WalkFault → Type 0) where
  -- a report is that of a walk of this directory, with the directory's name in front of its paths
  pub record IsWalkedBelow (directory : List ℕ) (named : Report) : Type 0 where
    pub report : Report
    pub walked : walks directory (Ok report)
    pub is_named : IsNamed (unslashed directory) report named

  -- why the walk of one of several directories gave no report; the cause may always be that an allocation failed
  abbrev pub EndsIn : List ℕ → Cause → Type 0
  EndsIn directory cause = ((fault : WalkFault) × walks directory (Err fault) × IsCauseIn directory fault cause) ⊎ (cause ≡ Memory)

  abbrev pub EndsAmong : List (List ℕ) → Cause → Type 0
  EndsAmong directories cause = ((directory : List ℕ) × Contains directories directory × EndsIn directory cause) ⊎ (cause ≡ Memory)

  -- each of several directories is walked, and their reports, each with its directory's name in front of its paths, add up to this report
  abbrev pub JoinsWalks : List (List ℕ) → Report → Type 0
  JoinsWalks directories r = (named : List Report) × AllZip IsWalkedBelow directories named × IsJoined named r

  -- the report of a count: that of the walk of a single directory, or the sum of the reports of several
  abbrev pub Finds : List (List ℕ) → Report → Type 0
  Finds [] r = JoinsWalks [] r
  Finds (directory ∷ []) r = walks directory (Ok r)
  Finds (first ∷ second ∷ others) r = JoinsWalks (first ∷ second ∷ others) r

  -- why several directories have no report: a walk gave none, or the sums are too large, or an allocation fails
  abbrev pub JoinsNone : List (List ℕ) → Cause → Type 0
  JoinsNone directories cause =
      EndsAmong directories cause
      ⊎ ((cause ≡ SumsTooLarge) × ((named : List Report) × AllZip IsWalkedBelow directories named × (Fits named → ⊥)))

  -- why a count of these directories has no report
  abbrev pub FindsNone : List (List ℕ) → Cause → Type 0
  FindsNone [] cause = JoinsNone [] cause
  FindsNone (directory ∷ []) cause = (fault : WalkFault) × walks directory (Err fault) × (cause ≡ walk_cause fault)
  FindsNone (first ∷ second ∷ others) cause = JoinsNone (first ∷ second ∷ others) cause

  -- the report of a count of directories, with languages where one of these columns shows them, or why there is none
  abbrev pub FindsFor : (columns directories : List (List ℕ)) → Report → Type 0
  FindsFor columns directories s = (r : Report) × Finds directories r × HasLanguages columns r s

  abbrev pub FindsNoneFor : List (List ℕ) → Cause → Type 0
  FindsNoneFor directories cause = FindsNone directories cause ⊎ (cause ≡ Memory)
