-- The arguments of all commands, as clap sees them.
use Rattle.std.specs.Prelude.{ℕ, Bool, true, false, List, [], ◌∷◌, Option, Some, None, option_map, codes}
use Rattle.lc_arguments.specs.declared.option_row.{Commands.Commands, Kind.{Kind, TheVariants.{Flag, Text, Texts, Number, Range, Word, Words}}}
use Rattle.lc_arguments.specs.declared.option_row.OptionRow.{OptionRow}
use Rattle.lc_arguments.specs.declared.option_row.Subcommand.{Subcommand, TheVariants.{Count, Explain, Check, Diff, Languages, Sum}}

-- an argument: its name, its letter, its kind, its default, and the commands that have it
pub record OptionModel : Type 0 where
  pub name : List ℕ
  pub letter : Option ℕ
  pub kind : Kind
  pub default : Option (List ℕ)
  pub of : Commands

-- the part of a row that clap reads
abbrev pub option_model : OptionRow → OptionModel
option_model row = record {
  name = row.name.now;
  letter = row.short;
  kind = row.kind;
  default = option_map (λ text. text.now) row.default;
  of = row.of;
}

-- a command is in the set; `lc languages` has no arguments
abbrev pub is_of : Subcommand → Commands → Bool
is_of Count commands = commands.count
is_of Explain commands = commands.explain
is_of Check commands = commands.check
is_of Sum commands = commands.sum
is_of Diff commands = commands.diff
is_of Languages commands = false

-- no command
abbrev pub none : Commands
none = record { count = false; explain = false; check = false; sum = false; diff = false }

abbrev pub count : Commands
count = record none { count = true }

abbrev pub explain : Commands
explain = record none { explain = true }

abbrev pub check : Commands
check = record none { check = true }

abbrev pub sum : Commands
sum = record none { sum = true }

abbrev pub diff : Commands
diff = record none { diff = true }

-- the commands with options that skip entries
abbrev pub filters : Commands
filters = record none { count = true; explain = true; diff = true }

-- the commands that count directories
abbrev pub walks : Commands
walks = record none { count = true; diff = true }

-- the commands that read the paths to check or explain from standard input
abbrev pub input : Commands
input = record none { explain = true; check = true }

-- the commands that print reports
abbrev pub printed : Commands
printed = record none { count = true; sum = true }

-- the commands that print tables of files
abbrev pub tables : Commands
tables = record none { count = true; sum = true; diff = true }

-- the greatest value of `--top`
abbrev pub max_top : ℕ
max_top = 4294967295

-- the greatest value of `--depth`
abbrev pub max_depth : ℕ
max_depth = 256

-- the greatest values of `--threads` and `--max-dirs`
abbrev pub max_threads : ℕ
max_threads = 16

abbrev pub max_dirs : ℕ
max_dirs = 1048576

-- an argument with this name, letter, kind and default, of these commands
abbrev pub option : List ℕ → Option ℕ → Kind → Option (List ℕ) → Commands → OptionModel
option name letter kind default of = record { name = name; letter = letter; kind = kind; default = default; of = of }

abbrev pub options : List OptionModel
options =
    option (codes "exclude") None Texts None filters
    ∷ option (codes "exclude-from") None Text None filters
    ∷ option (codes "include") None Texts None filters
    ∷ option (codes "no-ignore") None Flag None filters
    ∷ option (codes "archive") None Flag None filters
    ∷ option (codes "without") None Texts None filters
    ∷ option (codes "attributes-from") None Text None filters
    ∷ option (codes "only") None Texts None walks
    ∷ option (codes "only-from") None Text None walks
    ∷ option (codes "null") (Some 48) Flag None count
    ∷ option (codes "null") (Some 48) Flag None diff
    ∷ option (codes "one-file-system") (Some 120) Flag None walks
    ∷ option (codes "files") None Flag None printed
    ∷ option (codes "left-out") None Flag None printed
    ∷ option (codes "where") None Texts None printed
    ∷ option (codes "no-binary") None Flag None tables
    ∷ option (codes "format") None Text None printed
    ∷ option (codes "by") None Text None printed
    ∷ option (codes "depth") None (Number max_depth) None tables
    ∷ option (codes "sort") None Text None printed
    ∷ option (codes "top") None (Number max_top) None tables
    ∷ option (codes "share") None Flag None printed
    ∷ option (codes "null") (Some 48) Flag None sum
    ∷ option (codes "fail-if-any") None Flag None printed
    ∷ option (codes "threads") (Some 106) (Range max_threads) (Some (codes "4")) walks
    ∷ option (codes "max-dirs") None (Range max_dirs) (Some (codes "65536")) walks
    ∷ option (codes "DIR") None Words (Some (codes ".")) count
    ∷ option (codes "REPORT") None Words (Some (codes "-")) sum
    ∷ option (codes "all") None Flag None diff
    ∷ option (codes "files") None Flag None diff
    ∷ option (codes "where") None Texts None diff
    ∷ option (codes "format") None Text None diff
    ∷ option (codes "by") None Text None diff
    ∷ option (codes "sort") None Text None diff
    ∷ option (codes "fail-if-any") None Flag None diff
    ∷ option (codes "OLD") None Word None diff
    ∷ option (codes "NEW") None Word None diff
    ∷ option (codes "explain") None Flag None check
    ∷ option (codes "null") (Some 48) Flag None input
    ∷ option (codes "DIR") None Word None explain
    ∷ option (codes "PATH") None Words None explain
    ∷ option (codes "FILE") None Word None check
    ∷ []
