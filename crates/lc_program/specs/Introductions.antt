-- The line that says what the program reads from an input that is a terminal.
use Rattle.std.specs.{Prelude.{◌≡◌, ◌||◌, ℕ, Bool, true, false, List, Result, Option, Some, None, bytes_eq, codes}, Bool.MatchBool}
use Rattle.std.specs.{Borrow.Bor, List.list_any}
use Rattle.lc_arguments.specs.declared.reports.NamedReport.{NamedReport}
use Rattle.lc_arguments.specs.declared.request.Request.{Request, TheVariants.{CheckJoined, Check, Count, Diff, Explain, Languages, Sum}}
use Rattle.lc_io.specs.declared.source.Failed.{Failed}
use Rattle.lc_glob.specs.Lists.{is_empty}
use Rattle.lc_program.specs.Tellings.{Tells, TellsIf}

-- the line that says what the program reads without arguments
abbrev pub introduction : List ℕ
introduction = codes "lc: reads the lines of an ignore file, a line --, and paths from standard input; lc --help says more\n"

-- the line about a request that reads paths from the input
abbrev pub path_introduction : List ℕ
path_introduction = codes "lc: reads paths from standard input; lc --help says more\n"

-- the line about a request that reads reports from the input
abbrev pub report_introduction : List ℕ
report_introduction = codes "lc: reads reports from standard input; lc --help says more\n"

-- whether a name is `-`, which means the input
abbrev pub is_input : Option (Bor (List ℕ)) → Bool
is_input None = false
is_input (Some name) = bytes_eq name.now (codes "-")

-- whether a request reads paths from the input, and nothing else
abbrev pub reads_paths : Request → Bool
reads_paths CheckJoined = false
reads_paths (Check c) = true
reads_paths (Count c) = is_input c.walk.only_from
reads_paths (Explain c) = is_empty c.paths.items
reads_paths (Sum c) = false
reads_paths Languages = false
reads_paths (Diff d) = is_input d.walk.only_from

-- whether one of these reports is read from the input
abbrev pub read_input : List NamedReport → Bool
read_input reports = list_any (λ (r : NamedReport). bytes_eq r.report.now (codes "-")) reports

-- whether a request reads reports from the input
abbrev pub reads_reports : Request → Bool
reads_reports (Sum c) = read_input c.reports.items
reads_reports (Diff d) = bytes_eq d.old.now (codes "-") || bytes_eq d.new.now (codes "-")
reads_reports request = false

module _ {E : Type 0} (may_take : E → List ℕ → Result ℕ Failed → E → Type 0) where
  -- standard error gets the line that says what a request reads from the input, if it reads something
  abbrev pub IntroducesTyped : Request → E → E → Type 0
  IntroducesTyped CheckJoined err told = Tells may_take err introduction told
  IntroducesTyped (Check c) err told = TellsIf may_take (reads_paths (Check c)) path_introduction err told
  IntroducesTyped (Count c) err told = TellsIf may_take (reads_paths (Count c)) path_introduction err told
  IntroducesTyped (Explain c) err told = TellsIf may_take (reads_paths (Explain c)) path_introduction err told
  IntroducesTyped Languages err told = told ≡ err
  IntroducesTyped (Sum c) err told = TellsIf may_take (reads_reports (Sum c)) report_introduction err told
  IntroducesTyped (Diff d) err told =
      MatchBool (reads_paths (Diff d)) (Tells may_take err path_introduction told)
      (TellsIf may_take (reads_reports (Diff d)) report_introduction err told)

  -- standard error gets the line that says what a request reads, if the input is a terminal
  abbrev pub Introduces : Bool → Request → E → E → Type 0
  Introduces true request err told = IntroducesTyped request err told
  Introduces false request err told = told ≡ err
