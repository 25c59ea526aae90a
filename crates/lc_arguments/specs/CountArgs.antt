-- Arguments of a command, as they are made.
use Rattle.std.specs.{Prelude.{◌≡◌, ℕ, Bool, false, not, ◌||◌, List, [], ◌∷◌, codes}, Str.bytes_eq}
use Rattle.clap.specs.{Built.{FitsChain, IsParsedFrom}, Facts.{args_of, groups_of}, Matches.found_of, Simple.{App, app_of}, Walk.Rule}
use Rattle.clap.specs.{Walk.rule_of, declared.builder.{arg.Arg.Arg, command.Command.{Command, TheViews.out-Command}}}
use Rattle.clap.specs.declared.parser.matches.ArgMatches.{ArgMatches}
use Rattle.lc_arguments.specs.{CommandLine.{bare_app, command_app, rules_in}, Options.options, ReadNumbers.AreReadBy}
use Rattle.lc_arguments.specs.declared.option_row.Subcommand.{Subcommand}

-- a name that is not empty, and is not `help` or `version`, which each command has
abbrev pub is_own_name : List ℕ → Bool
is_own_name id = not (bytes_eq id [] || bytes_eq id (codes "help") || bytes_eq id (codes "version"))

-- clap reads the argument by this rule, and a command can have the argument among others (`FitsChain`)
abbrev pub IsArgOf : Rule → Arg → Type 0
IsArgOf rule a = (rule_of a ≡ rule) × FitsChain a

-- clap reads each of the arguments by its rule, in their order
abbrev pub AreArgsOf : List Rule → List Arg → Type 0
AreArgsOf [] [] = Unit {0}
AreArgsOf (rule ∷ rules) (a ∷ args) = IsArgOf rule a × AreArgsOf rules args
AreArgsOf [] (a ∷ args) = ⊥
AreArgsOf (rule ∷ rules) [] = ⊥

-- clap reads the command as this app, and its subcommands inherit none of its arguments
abbrev pub IsCommandOf : App → Command → Type 0
IsCommandOf app c = (app_of c ≡ app) × ((out-Command c).has_globals ≡ false)

-- a command that has no argument yet
abbrev pub IsBare : List ℕ → Command → Type 0
IsBare name c = IsCommandOf (bare_app name) c × (args_of c ≡ []) × (groups_of c ≡ [])

-- clap reads the command with its arguments, and reads numbers that are within their limits
abbrev pub IsSubcommand : Subcommand → Command → Type 0
IsSubcommand command c =
    IsCommandOf (command_app command) c
    × ((m : ArgMatches) → IsParsedFrom c m → AreReadBy (rules_in command options) (found_of m))
