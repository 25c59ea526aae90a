-- What an error of clap becomes.
use Rattle.std.specs.{Prelude.{◌≡◌, ◌≢◌, ◌++◌, ◌∷◌, ℕ, Bool, true, false, List, [], map, codes, Result, Ok, Err, Option, option_map}, Global.Vec}
use Rattle.std.specs.{List.{list_all, list_any}, Borrow.Bor}
use Rattle.clap.specs.{Faults.fault_of, Simple.matches_of, Values.kind_of, declared.error.Error.Error}
use Rattle.clap.specs.{declared.{error.kind.ErrorKind.TheVariants.OutOfMemory, parser.matches.Found.Found}, Walk.{Row, rows_of}}
use Rattle.lc_arguments.specs.CommandLine.{command_app, rules_in}
use Rattle.lc_arguments.specs.Words.{AreChosenBy, AreFiltersOf, AsksNoTable, AsksNoWalk, ChoosesNone, IsAskedBy, IsOneSided, IsText, IsWalkOf}
use Rattle.lc_arguments.specs.Words.{HasWrongValues, IsWholeTableIn, Misstates, Misvalue, conditions_read}
use Rattle.lc_arguments.specs.ConditionWords.{all_conditions, changes_of, condition_of, conditions_of, is_condition, kinds_left, test_few}
use Rattle.lc_arguments.specs.{AttributeWords.attributes_asked, declared.conditions.Where.Where}
use Rattle.lc_arguments.specs.Words.{is_bad_part, part_of}
use Rattle.lc_arguments.specs.ReadNumbers.{AreReadBy, AreReadWithin, IsNumberTo}
use Rattle.lc_arguments.specs.{Directories.{are_distinct, unslashed}, Repeated.are_allowed, Reports.{name_reports, named_of, report_model}}
use Rattle.lc_arguments.specs.TableWords.{AreColumnsBy, IsTableBy, order_word, output_word}
use Rattle.lc_arguments.specs.declared.{repeated.Repeated.Repeated, table.TableRequest.TableRequest}
use Rattle.lc_arguments.specs.declared.request.{ParseExit.{ParseExit, TheVariants.{Shown, Refused, Memory}}, Request.Request}
use Rattle.lc_arguments.specs.declared.{filter_request.FilterRequest.FilterRequest, reports.NamedReport.NamedReport}
use Rattle.lc_arguments.specs.{declared.{option_row.Subcommand.Subcommand, walk_request.WalkRequest.WalkRequest}, Options.options}
use Rattle.lc_sheet.specs.{Conditions.ConditionModel, declared.change_kinds.ChangeKinds.ChangeKinds}
use Rattle.lc_sheet.specs.{declared.table_options.{Columns.Columns, Order.Order, Output.Output}}

-- what an error of clap becomes: a text of help or of the version is shown; any other error refuses the words, unless memory runs out
abbrev pub Explains : Error → ParseExit → Type 0
Explains e (Shown _) = IsText (kind_of e)
Explains e (Refused _) = (kind_of e ≢ OutOfMemory) × (IsText (kind_of e) → ⊥)
Explains e Memory = Unit {0}

-- the words are refused for this reason, or there is no memory to say so
abbrev pub IsRefusedFor : Type 0 → ParseExit → Type 0
IsRefusedFor No (Shown _) = ⊥
IsRefusedFor No (Refused _) = No
IsRefusedFor No Memory = Unit {0}

-- words are refused, or there was no memory to say why
abbrev pub IsRefusal : ParseExit → Type 0
IsRefusal = IsRefusedFor (Unit {0})

-- an answer has this property, or the words are refused for this reason
abbrev pub AnswersOr : {A : Type 0} → (A → Type 0) → Type 0 → Result A ParseExit → Type 0
AnswersOr {A} Is No (Ok a) = Is a
AnswersOr {A} Is No (Err why) = IsRefusedFor No why

-- clap finds no fault in the words after the name of a command, and found this in them; what it read of numbers is within their limits
pub record IsParsedAs (command : Subcommand) (words : List (List ℕ)) (found : Found) : Type 0 where
  pub faults : fault_of (command_app command) words ≡ []
  pub rows : rows_of found ≡ matches_of (command_app command) words
  pub numbers : AreReadBy (rules_in command options) found

-- the request of a command that the values make which clap found, if what clap read of numbers is within their limits; or these values make
-- none
abbrev pub AnswersIn : Subcommand → Found → Result Request ParseExit → Type 0
AnswersIn command found =
    AnswersOr (λ (request : Request). AreReadBy (rules_in command options) found → IsAskedBy command (rows_of found) request)
    (HasWrongValues command (rows_of found))

-- the filters that were read, or an option has values that it may not have
abbrev pub AnswersFilters : List Row → Result FilterRequest ParseExit → Type 0
AnswersFilters rows = AnswersOr (AreFiltersOf rows) (Misvalue rows)

-- the columns that are asked for, if conditions test few of them; or they test too many
abbrev pub AnswersAttributes : Option (List ℕ) → List (List ℕ) → Result (Vec (Bor (List ℕ))) ParseExit → Type 0
AnswersAttributes by texts =
    AnswersOr (λ (attributes : Vec (Bor (List ℕ))).
    (map (λ attribute. attribute.now) attributes.items ≡ attributes_asked by texts) × (test_few texts ≡ true))
    (test_few texts ≡ false)

-- the condition that a text writes comes after those before, unless it is on `change`, and of these kinds those are left which it allows; or
-- the text writes no condition
abbrev pub AnswersOneCondition : List (List ℕ) → List ℕ → ChangeKinds → List ConditionModel → List ConditionModel
    → Result ChangeKinds ParseExit → Type 0
AnswersOneCondition attributes text kinds old new =
    AnswersOr (λ (left : ChangeKinds). (new ≡ old ++ conditions_of attributes (text ∷ []))
    × (left ≡ kinds_left kinds (condition_of [] text)) × (is_condition text ≡ true))
    (is_condition text ≡ false)

-- the conditions that texts write and that of `--no-binary`, and the kinds of files that those on `change` allow; or a text writes none
abbrev pub AnswersConditions : List (List ℕ) → List (List ℕ) → Bool → Result (Vec ConditionModel × ChangeKinds) ParseExit → Type 0
AnswersConditions attributes texts no_binary =
    AnswersOr (λ (found : Vec ConditionModel × ChangeKinds). (found.0.items ≡ all_conditions attributes texts no_binary)
    × (found.1 ≡ changes_of texts) × (list_all is_condition texts ≡ true))
    (list_all is_condition texts ≡ false)

-- these are the columns, the conditions and the kinds of files that `--by`, `--where` and `--no-binary` request
pub record IsWhereOf (rows : List Row) (w : Where) : Type 0 where
  pub chosen : AreChosenBy rows w.attributes.items w.conditions.items
  pub changes : w.changes ≡ changes_of (conditions_read rows)

-- which files are shown, as it was read; or `--where` has no conditions
abbrev pub AnswersWhere : List Row → Result Where ParseExit → Type 0
AnswersWhere rows = AnswersOr (IsWhereOf rows) (Misstates rows)

-- which files of one side are shown, as it was read; or `--where` has no conditions of one side
abbrev pub AnswersOneSided : List Row → Result Where ParseExit → Type 0
AnswersOneSided rows = AnswersOr (λ (w : Where). IsWhereOf rows w × IsOneSided rows) (ChoosesNone rows)

-- the values of an option, in their order, or the option may not have them all
abbrev pub AnswersRepeated : Repeated → List (List ℕ) → Result (Vec (Bor (List ℕ))) ParseExit → Type 0
AnswersRepeated option texts =
    AnswersOr (λ (values : Vec (Bor (List ℕ))). (map (λ value. value.now) values.items ≡ texts) × (are_allowed option texts ≡ true))
    (are_allowed option texts ≡ false)

-- the paths of these words, in their order; or a path is neither the path of an entry nor `.`
abbrev pub AnswersPaths : List (List ℕ) → Result (Vec (Bor (List ℕ))) ParseExit → Type 0
AnswersPaths words =
    AnswersOr (λ (paths : Vec (Bor (List ℕ))).
    (map (λ path. path.now) paths.items ≡ map part_of words) × (list_any is_bad_part (map part_of words) ≡ false))
    (list_any is_bad_part (map part_of words) ≡ true)

-- the directories of these words, in their order; or one is named twice
abbrev pub AnswersDirectories : List (List ℕ) → Result (Vec (Bor (List ℕ))) ParseExit → Type 0
AnswersDirectories words =
    AnswersOr (λ (directories : Vec (Bor (List ℕ))).
    (map (λ directory. directory.now) directories.items ≡ words) × (are_distinct (map unslashed words) ≡ true))
    (are_distinct (map unslashed words) ≡ false)

-- the reports of these words, in their order; or a word names no report, or two words name standard input
abbrev pub AnswersReports : List (List ℕ) → Result (Vec NamedReport) ParseExit → Type 0
AnswersReports words =
    AnswersOr (λ (reports : Vec NamedReport).
    (map report_model reports.items ≡ map named_of words) × (name_reports words ≡ true))
    (name_reports words ≡ false)

-- a value with this property; or no value has the property, or there is no memory to say so
abbrev pub AnswersBy : {A : Type 0} → (A → Type 0) → Result A ParseExit → Type 0
AnswersBy {A} Is = AnswersOr Is ((a : A) → ¬ Is a)

-- the format of this name, if there is a name
abbrev pub AnswersFormat : Option (List ℕ) → Result (Option Output) ParseExit → Type 0
AnswersFormat name = AnswersBy (λ (format : Option Output). option_map output_word format ≡ name)

-- the order of this name, if there is a name
abbrev pub AnswersSort : Option (List ℕ) → Result (Option Order) ParseExit → Type 0
AnswersSort name = AnswersBy (λ (sort : Option Order). option_map order_word sort ≡ name)

-- the columns that the text of `--by` names, with the depth of `--depth`, for a tree or for another output
abbrev pub AnswersColumns : Bool → Option (List ℕ) → Option ℕ → Result (Option Columns) ParseExit → Type 0
AnswersColumns is_tree by depth = AnswersBy (λ (columns : Option Columns). AreColumnsBy is_tree by depth columns)

-- the table that the values of `--format`, `--by`, `--depth` and `--sort` request
abbrev pub AnswersTable : Option (List ℕ) → Option (List ℕ) → Option ℕ → Option (List ℕ) → Result TableRequest ParseExit → Type 0
AnswersTable format by depth sort = AnswersBy (IsTableBy format by depth sort)

-- the number from 1 to `most` that the value of an option writes, if the option is used
abbrev pub AnswersNumber : ℕ → Option (List ℕ) → Result (Option ℕ) ParseExit → Type 0
AnswersNumber most value = AnswersBy (IsNumberTo most value)

-- the table that was read; or the options request no table
abbrev pub AnswersTableIn : List Row → Result TableRequest ParseExit → Type 0
AnswersTableIn rows = AnswersOr (IsWholeTableIn rows) (AsksNoTable rows)

-- how directories are counted, as it was read, if what clap read of numbers is within their limits; or the options request no walk
abbrev pub AnswersWalkIn : Found → Result WalkRequest ParseExit → Type 0
AnswersWalkIn found = AnswersOr (λ (w : WalkRequest). AreReadWithin found → IsWalkOf (rows_of found) w) (AsksNoWalk (rows_of found))
