-- What the command line requests of walks.
use Rattle.std.specs.{Prelude.{◌≡◌, ◌⊎◌, ◌++◌, ℕ, if◌then◌else◌, List, map, Option, Some, None, Result, Ok, Err, Vec}, Borrow.Bor}
use Rattle.std.specs.{Global.Global, List.filter_map, Str.bytes_eq}
use Rattle.lc_arguments.specs.declared.walk_request.WalkRequest.{WalkRequest}
use Rattle.lc_io.specs.Reads.{Answer}
use Rattle.lc_level.specs.{Filters.{FiltersModel, attribute_of as attribute_in, narrowed}, NamedAttributes.attributes_of}
use Rattle.lc_program.specs.{Filters.{AnswersFilters, LacksRules}, PathLists.{AnswersWanted, GivesList, paths_wanted}, Styles.end_for}
use Rattle.lc_program.specs.{Systems.SystemMay, declared.cause.Cause.{Cause, TheVariants.Memory}}
use Rattle.lc_sheet.specs.AttributeColumns.{attribute_of, language_name}
use Rattle.lc_tree.specs.declared.file_systems.FileSystems.{FileSystems, TheVariants.{All, One}}
use Rattle.lc_walk.specs.declared.options.{Options.Options, ReportLists.ReportLists}

-- the file systems whose directories the command line lets a walk enter
abbrev pub entered_by : WalkRequest → FileSystems
entered_by w = if w.one_file_system then One else All

-- the options of a walk are those that the command line requests, with these filters and these lists
pub record IsAskedBy (w : WalkRequest) (wanted : ReportLists) (f : FiltersModel) (o : Options) : Type 0 where
  pub threads : o.threads ≡ w.threads
  pub max_dirs : o.max_dirs ≡ w.max_dirs
  pub lists : o.lists ≡ wanted
  pub filters : o.filters.now ≡ f

-- the names of these columns of attributes and of languages
abbrev pub columns_of : List (Bor (List ℕ)) → List (List ℕ)
columns_of columns = map (λ (column : Bor (List ℕ)). column.now) columns

-- the attribute that the name of a column names; `lang` names none
abbrev pub own_attribute : Bor (List ℕ) → Option (List ℕ)
own_attribute column = if bytes_eq column.now language_name then None else Some (attribute_in (attribute_of column.now))

-- the attributes of `--without`, and those that these columns name
abbrev pub named_in : WalkRequest → List (Bor (List ℕ)) → List (List ℕ)
named_in w columns = attributes_of w.filters.without.items ++ filter_map own_attribute columns

module _ (may : SystemMay) {I : Type 0} (may_give : I → ℕ → Answer → I → Type 0) (w : WalkRequest) where
  -- the paths that the command line requests, with those of the list that it names, or why there are none
  abbrev pub AnswersPathsOf : I → Result (Option (Vec (Bor (List ℕ)) Global)) Cause → I → Type 0
  AnswersPathsOf input answer read =
      ((list : Vec ℕ Global) × GivesList may_give may.hold may.unread w.only_from input (Ok list) read
      × AnswersWanted (map (λ path. path.now) w.only.items) w.only_from (end_for w.null) list.items answer)
      ⊎ ((cause : Cause) × GivesList may_give may.hold may.unread w.only_from input (Err cause) read × (answer ≡ Err cause))

  -- a walk has these options: those that the command line requests, by the rules and the paths that were read, with the
  -- attributes of these columns for files, and with these lists
  abbrev pub IsPrepared : List (Bor (List ℕ)) → ReportLists → I → Options → I → Type 0
  IsPrepared columns wanted input o read =
      (f : FiltersModel) × AnswersFilters may.hold may.unread w.filters (map (λ column. attribute_of column.now) columns) (Ok f)
      × ((paths : Option (Vec (Bor (List ℕ)) Global)) × AnswersPathsOf input (Ok paths) read
      × IsAskedBy w wanted (narrowed f (paths_wanted paths)) o)

  -- there are no such options: there were no rules or no memory, and nothing was read; or there were no paths
  abbrev pub IsUnprepared : I → Cause → I → Type 0
  IsUnprepared input cause read =
      ((LacksRules may.hold may.unread w.filters cause ⊎ (cause ≡ Memory)) × (read ≡ input)) ⊎ AnswersPathsOf input (Err cause) read
