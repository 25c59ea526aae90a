-- The requests that the words of a command line make.
use Rattle.std.specs.Prelude.{◌≡◌, ◌⊎◌, ◌≤◌, ◌==◌, ◌&&◌, ◌||◌, not, ℕ, Bool, true, false, cond, List, [], ◌∷◌, Some, None, Option}
use Rattle.std.specs.{Prelude.{Result, Ok, Err, unwrap_or, option_map, map, codes, IfSome}, Borrow.Bor, List.list_any, Str.bytes_eq}
use Rattle.clap.specs.{Faults.fault_of, Kinds.{IsAmong, Kinds}, Simple.matches_of, Walk.{Row, all_of, first_of, one_of}}
use Rattle.clap.specs.declared.error.kind.ErrorKind.{ErrorKind, TheVariants.{DisplayHelp, DisplayVersion}}
use Rattle.lc_glob.specs.{Bytes.{hyphen, slash}, Pieces.is_byte}
use Rattle.lc_arguments.specs.{AttributeWords.attributes_asked, Combinations.fits, CommandLine.{app_by, command_app}}
use Rattle.lc_arguments.specs.Options.{max_depth, max_dirs, max_threads, max_top}
use Rattle.lc_arguments.specs.ConditionWords.{all_conditions, are_conditions, changes_of, compares_sides}
use Rattle.lc_arguments.specs.{Directories.{are_distinct, or_default, unslashed}, Repeated.{are_allowed, id_of}}
use Rattle.lc_arguments.specs.declared.repeated.Repeated.{Repeated, TheVariants.{Attributes, Excluded, Included}}
use Rattle.lc_arguments.specs.declared.{reports.NamedReport.NamedReport, diff.DiffRequest.DiffRequest, sum.SumRequest.SumRequest}
use Rattle.lc_arguments.specs.declared.walk_request.WalkRequest.{WalkRequest}
use Rattle.lc_arguments.specs.declared.request.ParseExit.{ParseExit, TheVariants.{Shown, Refused, Memory}}
use Rattle.lc_arguments.specs.declared.option_row.Subcommand.{Subcommand}
use Rattle.lc_arguments.specs.declared.option_row.Subcommand.TheVariants as command
use Rattle.lc_arguments.specs.declared.request.Request.{Request, TheVariants.{CheckJoined, Check, Count, Diff, Explain, Languages, Sum}}
use Rattle.lc_arguments.specs.declared.{table.TableRequest.TableRequest, check.CheckRequest.CheckRequest, count.CountRequest.CountRequest}
use Rattle.lc_arguments.specs.declared.{filter_request.FilterRequest.FilterRequest, explain.ExplainRequest.ExplainRequest}
use Rattle.lc_arguments.specs.{Reports.{name_reports, named_of, report_model}, ReadNumbers.{IsNumber, IsNumberTo}}
use Rattle.lc_arguments.specs.TableWords.{IsTableBy}
use Rattle.lc_sheet.specs.Conditions.{ConditionModel}
use Rattle.lc_text.specs.PathLines.{is_bad_path, is_top, path_of, undotted}

-- the directories in a table's rows, if the rows have any, are cut to at least 1 segment and at most `max_depth` segments
abbrev pub IsTableWithinLimits : TableRequest → Type 0
IsTableWithinLimits t = IfSome t.by (λ by. IfSome by.dir (λ segments. (1 ≤ segments) × (segments ≤ max_depth)))

-- the numbers of threads and of directories of a walk are at least 1 and not over their limits
pub record IsWalkWithinLimits (w : WalkRequest) : Type 0 where
  pub some_threads : 1 ≤ w.threads
  pub threads : w.threads ≤ max_threads
  pub some_dirs : 1 ≤ w.max_dirs
  pub max_dirs : w.max_dirs ≤ max_dirs

-- a count within all limits
pub record IsCountWithinLimits (c : CountRequest) : Type 0 where
  pub walk : IsWalkWithinLimits c.walk
  pub table : IsTableWithinLimits c.table

-- a difference within all limits
pub record IsDiffWithinLimits (d : DiffRequest) : Type 0 where
  pub walk : IsWalkWithinLimits d.walk
  pub table : IsTableWithinLimits d.table

abbrev pub IsWithinLimits : Request → Type 0
IsWithinLimits CheckJoined = Unit {0}
IsWithinLimits (Check _) = Unit {0}
IsWithinLimits (Count c) = IsCountWithinLimits c
IsWithinLimits (Explain _) = Unit {0}
IsWithinLimits (Sum s) = IsTableWithinLimits s.table
IsWithinLimits (Diff d) = IsDiffWithinLimits d
IsWithinLimits Languages = Unit {0}

-- the value of a flag that was read
abbrev pub IsFlag : List ℕ → List Row → Bool → Type 0
IsFlag id rows set =
    (one_of id rows ≡ Some (codes "true") → set ≡ true) × (one_of id rows ≡ Some (codes "false") → set ≡ false)

-- all texts that were read of an argument, in their order
abbrev pub texts_read : List ℕ → List Row → List (List ℕ)
texts_read id rows = unwrap_or (all_of id rows) []

-- all values that were read of an option that may be used several times, in their order
abbrev pub values_read : List Row → Repeated → List (List ℕ)
values_read rows option = texts_read (id_of option) rows

-- these are the values that were read of an option, and the option may have them
abbrev pub AreValuesOf : List Row → Repeated → List (Bor (List ℕ)) → Type 0
AreValuesOf rows option values =
    (map (λ value. value.now) values ≡ values_read rows option) × (are_allowed option (values_read rows option) ≡ true)

-- some option has values that it may not have: no attribute's name, or no line of an ignore file
abbrev pub Misvalue : List Row → Type 0
Misvalue rows = (option : Repeated) × (are_allowed option (values_read rows option) ≡ false)

-- the path that a word names: without any `./` at its beginning and one slash at its end
abbrev pub part_of : List ℕ → List ℕ
part_of word = path_of (undotted word)

-- a path that no entry can have, and that is not `.`, the counted directory
abbrev pub is_bad_part : List ℕ → Bool
is_bad_part path = is_bad_path path && not (is_top path)

-- the paths that the values of `--only` name
abbrev pub paths_read : List Row → List (List ℕ)
paths_read rows = map part_of (texts_read (codes "only") rows)

-- a value of `--only` names a path that no entry can have, and that is not `.`
abbrev pub Misplace : List Row → Type 0
Misplace rows = list_any is_bad_part (paths_read rows) ≡ true

-- these are the paths of `--only`, in their order, and each is the path of an entry or `.`
abbrev pub ArePathsOf : List Row → List (Bor (List ℕ)) → Type 0
ArePathsOf rows paths = (map (λ path. path.now) paths ≡ paths_read rows) × (list_any is_bad_part (paths_read rows) ≡ false)

-- the directories that were typed, or `.` alone if none was typed
abbrev pub directories_read : List Row → List (List ℕ)
directories_read rows = or_default (codes ".") (texts_read (codes "DIR") rows)

-- a directory was typed twice, apart from slashes at its end
abbrev pub NamesOneTwice : List Row → Type 0
NamesOneTwice rows = are_distinct (map unslashed (directories_read rows)) ≡ false

-- these are the directories as they were typed, in their order, and none is there twice
abbrev pub AreDirectoriesOf : List Row → List (Bor (List ℕ)) → Type 0
AreDirectoriesOf rows directories =
    (map (λ directory. directory.now) directories ≡ directories_read rows)
    × (are_distinct (map unslashed (directories_read rows)) ≡ true)

-- these are the filters that the options request
pub record AreFiltersOf (rows : List Row) (e : FilterRequest) : Type 0 where
  pub exclude_from : option_map (λ s. s.now) e.exclude_from ≡ first_of (codes "exclude-from") rows
  pub attributes_from : option_map (λ s. s.now) e.attributes_from ≡ first_of (codes "attributes-from") rows
  pub archive : IsFlag (codes "archive") rows e.archive
  pub without : AreValuesOf rows Attributes e.without.items
  pub exclude : AreValuesOf rows Excluded e.exclude.items
  pub include : AreValuesOf rows Included e.include.items
  pub no_ignore : IsFlag (codes "no-ignore") rows e.no_ignore

-- the values of `--where`, in their order
abbrev pub conditions_read : List Row → List (List ℕ)
conditions_read rows = texts_read (codes "where") rows

-- these are the columns of attributes and of languages that `--by` and `--where` name, and the conditions that `--where` and `--no-binary`
-- request
pub record AreChosenBy (rows : List Row) (attributes : List (Bor (List ℕ))) (conditions : List ConditionModel) : Type 0 where
  pub columns : map (λ attribute. attribute.now) attributes ≡ attributes_asked (first_of (codes "by") rows) (conditions_read rows)
  pub allowed : are_conditions (conditions_read rows) ≡ true
  pub no_binary : Bool
  pub flag : IsFlag (codes "no-binary") rows no_binary
  pub are : conditions ≡ all_conditions (map (λ attribute. attribute.now) attributes) (conditions_read rows) no_binary

-- a condition of `--where` is on `change`, which compares two sides; or none is
abbrev pub ComparesSides : List Row → Type 0
ComparesSides rows = list_any compares_sides (conditions_read rows) ≡ true

abbrev pub IsOneSided : List Row → Type 0
IsOneSided rows = list_any compares_sides (conditions_read rows) ≡ false

-- a value of `--where` is no condition, or they test too many attributes
abbrev pub Misstates : List Row → Type 0
Misstates rows = are_conditions (conditions_read rows) ≡ false

-- these options choose no files of one side
abbrev pub ChoosesNone : List Row → Type 0
ChoosesNone rows = ComparesSides rows ⊎ Misstates rows

-- a table has the requested format, columns and order, and its directories are cut to this depth
abbrev pub IsTableAt : List Row → Option ℕ → TableRequest → Type 0
IsTableAt rows depth s =
    IsTableBy (first_of (codes "format") rows) (first_of (codes "by") rows) depth (first_of (codes "sort") rows) s

-- a table has the requested format, columns, order and number of rows, and its directories are cut to the depth of `--depth`
pub record IsTableIn (rows : List Row) (s : TableRequest) : Type 0 where
  pub depth : Option ℕ
  pub depth_is : IsNumberTo max_depth (first_of (codes "depth") rows) depth
  pub at : IsTableAt rows depth s
  pub top : IsNumberTo max_top (first_of (codes "top") rows) s.top

-- this is the requested table, apart from shares
pub record IsPlainTableIn (rows : List Row) (s : TableRequest) : Type 0 where
  pub within : IsTableWithinLimits s
  pub named : IsTableIn rows s
  pub files : IsFlag (codes "files") rows s.files

-- this is the requested table
pub record IsWholeTableIn (rows : List Row) (s : TableRequest) : Type 0 where
  pub plain : IsPlainTableIn rows s
  pub share : IsFlag (codes "share") rows s.share

-- the options request no table
abbrev pub AsksNoTable : List Row → Type 0
AsksNoTable rows = (s : TableRequest) → ¬ IsTableIn rows s

-- directories are counted as the options request
pub record IsWalkOf (rows : List Row) (w : WalkRequest) : Type 0 where
  pub within : IsWalkWithinLimits w
  pub threads : IsNumber (codes "threads") (codes "4") rows w.threads
  pub max_dirs : IsNumber (codes "max-dirs") (codes "65536") rows w.max_dirs
  pub filters : AreFiltersOf rows w.filters
  pub only : ArePathsOf rows w.only.items
  pub only_from : option_map (λ s. s.now) w.only_from ≡ first_of (codes "only-from") rows
  pub null : IsFlag (codes "null") rows w.null
  pub one_file_system : IsFlag (codes "one-file-system") rows w.one_file_system

-- the options request no walk: an option has values that it may not have, or `--only` names a path that no entry can have
abbrev pub AsksNoWalk : List Row → Type 0
AsksNoWalk rows = Misvalue rows ⊎ Misplace rows

-- this is the count that the arguments request; its options may not fit together
pub record IsCountOf (rows : List Row) (c : CountRequest) : Type 0 where
  pub walk : IsWalkOf rows c.walk
  pub left_out : IsFlag (codes "left-out") rows c.left_out
  pub table : IsWholeTableIn rows c.table
  pub chosen : AreChosenBy rows c.attributes.items c.conditions.items
  pub one_sided : IsOneSided rows
  pub fail_if_any : IsFlag (codes "fail-if-any") rows c.fail_if_any
  pub directories : AreDirectoriesOf rows c.directories.items

-- the words that name reports, or `-`, standard input, alone if there are none
abbrev pub reports_read : List Row → List (List ℕ)
reports_read rows = or_default (codes "-") (texts_read (codes "REPORT") rows)

-- a word names no report, or two words name standard input
abbrev pub MisnamesReports : List Row → Type 0
MisnamesReports rows = name_reports (reports_read rows) ≡ false

-- these are the requested reports, in their order
abbrev pub AreReportsOf : List Row → List NamedReport → Type 0
AreReportsOf rows reports = (map report_model reports ≡ map named_of (reports_read rows)) × (name_reports (reports_read rows) ≡ true)

-- this is the sum that the arguments request; its options may not fit together
pub record IsSumOf (rows : List Row) (s : SumRequest) : Type 0 where
  pub left_out : IsFlag (codes "left-out") rows s.left_out
  pub null : IsFlag (codes "null") rows s.null
  pub table : IsWholeTableIn rows s.table
  pub chosen : AreChosenBy rows s.attributes.items s.conditions.items
  pub one_sided : IsOneSided rows
  pub fail_if_any : IsFlag (codes "fail-if-any") rows s.fail_if_any
  pub reports : AreReportsOf rows s.reports.items

-- this is the difference that the arguments request; its options may not fit together
pub record IsDiffOf (rows : List Row) (d : DiffRequest) : Type 0 where
  pub walk : IsWalkOf rows d.walk
  pub table : IsPlainTableIn rows d.table
  pub no_share : d.table.share ≡ false
  pub chosen : AreChosenBy rows d.attributes.items d.conditions.items
  pub changes : d.changes ≡ changes_of (conditions_read rows)
  pub fail_if_any : IsFlag (codes "fail-if-any") rows d.fail_if_any
  pub all : IsFlag (codes "all") rows d.all
  pub old : d.old.now ≡ unwrap_or (first_of (codes "OLD") rows) []
  pub new : d.new.now ≡ unwrap_or (first_of (codes "NEW") rows) []

-- this is the check that the arguments request
pub record IsCheckOf (rows : List Row) (c : CheckRequest) : Type 0 where
  pub explain : IsFlag (codes "explain") rows c.explain
  pub null : IsFlag (codes "null") rows c.null
  pub file : c.file.now ≡ unwrap_or (first_of (codes "FILE") rows) []

-- this is the explanation that the arguments request
pub record IsExplainOf (rows : List Row) (c : ExplainRequest) : Type 0 where
  pub filters : AreFiltersOf rows c.filters
  pub null : IsFlag (codes "null") rows c.null
  pub directory : c.directory.now ≡ unwrap_or (first_of (codes "DIR") rows) []
  pub paths : map (λ path. path.now) c.paths.items ≡ texts_read (codes "PATH") rows

-- this is the request that the arguments of a command make; its options may not fit together
abbrev pub IsAskedBy : Subcommand → List Row → Request → Type 0
IsAskedBy command.Count rows (Count c) = IsCountOf rows c
IsAskedBy command.Explain rows (Explain e) = IsExplainOf rows e
IsAskedBy command.Check rows (Check c) = IsCheckOf rows c
IsAskedBy command.Sum rows (Sum s) = IsSumOf rows s
IsAskedBy command.Diff rows (Diff d) = IsDiffOf rows d
IsAskedBy command.Languages rows Languages = Unit {0}
IsAskedBy command rows request = ⊥

-- values of the arguments of a command are refused: they request no walk, name a directory twice, request no table, have no conditions
-- of one side, or name no report
abbrev pub HasWrongValues : Subcommand → List Row → Type 0
HasWrongValues command.Count rows = AsksNoWalk rows ⊎ (NamesOneTwice rows ⊎ (AsksNoTable rows ⊎ ChoosesNone rows))
HasWrongValues command.Explain rows = Misvalue rows
HasWrongValues command.Check rows = ⊥
HasWrongValues command.Sum rows = MisnamesReports rows ⊎ (AsksNoTable rows ⊎ ChoosesNone rows)
HasWrongValues command.Diff rows = AsksNoWalk rows ⊎ (AsksNoTable rows ⊎ Misstates rows)
HasWrongValues command.Languages rows = ⊥

-- the arguments of a command make no request, or one whose options do not fit together
abbrev pub AsksNothing : Subcommand → List Row → Type 0
AsksNothing command rows = HasWrongValues command rows ⊎ ((request : Request) × IsAskedBy command rows request × (fits request ≡ false))

-- an error of this kind shows a requested text, help or the version; `MayShow`: one of the kinds does so; `MayRefuse`: one of them does not
abbrev pub IsText : ErrorKind → Type 0
IsText k = (k ≡ DisplayHelp) ⊎ (k ≡ DisplayVersion)

abbrev pub MayShow : Kinds → Type 0
MayShow kinds = (k : ErrorKind) × IsAmong k kinds × IsText k

abbrev pub MayRefuse : Kinds → Type 0
MayRefuse kinds = (k : ErrorKind) × IsAmong k kinds × (IsText k → ⊥)

-- why words that may fail in these ways make no request; memory may run out for any words
abbrev pub IsNoRequestBy : Kinds → ParseExit → Type 0
IsNoRequestBy kinds (Shown _) = MayShow kinds
IsNoRequestBy kinds (Refused _) = MayRefuse kinds
IsNoRequestBy kinds Memory = Unit {0}

-- a word begins with a hyphen, as options do
abbrev pub begins_with_hyphen : List ℕ → Bool
begins_with_hyphen [] = false
begins_with_hyphen (b ∷ bs) = b == hyphen

-- a word is an option for the program's own help or version
abbrev pub is_own_option : List ℕ → Bool
is_own_option word =
    bytes_eq word (codes "-h") || bytes_eq word (codes "--help") || bytes_eq word (codes "-V") || bytes_eq word (codes "--version")

-- a path that can be no command: this directory, the one above it, or one with a slash
abbrev pub is_plain_path : List ℕ → Bool
is_plain_path word = bytes_eq word (codes ".") || bytes_eq word (codes "..") || list_any (is_byte slash) word

-- a first word begins a count that omits the word `count`
abbrev pub begins_count : List ℕ → Bool
begins_count word = (begins_with_hyphen word && not (is_own_option word)) || is_plain_path word

-- the words of a count, if words request one: the words after `count`, or all words if the first begins a count
abbrev pub count_words : List (List ℕ) → Option (List (List ℕ))
count_words [] = None
count_words (word ∷ words) =
    cond (bytes_eq word (codes "count")) (Some words) (cond (begins_count word) (Some (word ∷ words)) None)

-- the command that a first word names, if it begins no count
abbrev pub named_by : List ℕ → Option Subcommand
named_by word =
    cond (bytes_eq word (codes "check")) (Some command.Check)
    (cond (bytes_eq word (codes "explain")) (Some command.Explain)
    (cond (bytes_eq word (codes "sum")) (Some command.Sum)
    (cond (bytes_eq word (codes "diff")) (Some command.Diff)
    (cond (bytes_eq word (codes "languages")) (Some command.Languages) None))))

-- the command that words name, if they name one, and the words that it reads: those of a count, or those after its name. Words that name no
-- command are read without one
abbrev pub asked_with : List ℕ → List (List ℕ) → Option (List (List ℕ)) → Option Subcommand → Option Subcommand × List (List ℕ)
asked_with word words (Some more) named = (Some command.Count, more)
asked_with word words None (Some command) = (Some command, words)
asked_with word words None None = (None, word ∷ words)

abbrev pub asked_by : List (List ℕ) → Option Subcommand × List (List ℕ)
asked_by [] = (None, [])
asked_by (word ∷ words) = asked_with word words (count_words (word ∷ words)) (named_by word)

-- the ways in which words fail
abbrev pub faults_in : List (List ℕ) → Kinds
faults_in words = fault_of (app_by (asked_by words).0) (asked_by words).1

-- words that fail in no way, and that this command reads, or none, make this request
abbrev pub Makes : Option Subcommand → List (List ℕ) → Request → Type 0
Makes (Some command) words request =
    IsAskedBy command (matches_of (command_app command) words) request × (fits request ≡ true)
Makes None words request = request ≡ CheckJoined

-- words that fail in no way make this request
abbrev pub Asks : List (List ℕ) → Request → Type 0
Asks words request = Makes (asked_by words).0 (asked_by words).1 request

-- words that this command reads, or none, fail in no way in clap, but make no request
abbrev pub MakesNothing : Option Subcommand → List (List ℕ) → Type 0
MakesNothing (Some command) words =
    (fault_of (command_app command) words ≡ []) × AsksNothing command (matches_of (command_app command) words)
MakesNothing None words = ⊥

-- words are refused that this command reads, or none
abbrev pub IsRefusedBy : Option Subcommand → List (List ℕ) → Type 0
IsRefusedBy command words = MayRefuse (fault_of (app_by command) words) ⊎ MakesNothing command words

-- words are refused
abbrev pub AreRefused : List (List ℕ) → Type 0
AreRefused words = IsRefusedBy (asked_by words).0 (asked_by words).1

-- why words that this command reads, or none, make no request; memory may run out for any words
abbrev pub AskNothing : Option Subcommand → List (List ℕ) → ParseExit → Type 0
AskNothing command words (Shown _) = MayShow (fault_of (app_by command) words)
AskNothing command words (Refused _) = IsRefusedBy command words
AskNothing command words Memory = Unit {0}

-- the result of reading the words of this command, or of none: their request, or why they make none
abbrev pub AnswersAsked : Option Subcommand → List (List ℕ) → Result Request ParseExit → Type 0
AnswersAsked command words (Ok request) = (fault_of (app_by command) words ≡ []) × Makes command words request
AnswersAsked command words (Err why) = AskNothing command words why

-- the result of reading words
abbrev pub AnswersWords : List (List ℕ) → Result Request ParseExit → Type 0
AnswersWords words = AnswersAsked (asked_by words).0 (asked_by words).1
