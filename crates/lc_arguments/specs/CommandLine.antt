-- The commands and their arguments, as clap sees them.
use Rattle.std.specs.Prelude.{ℕ, true, List, [], ◌∷◌, map, filter, pos, Option, Some, None, codes}
use Rattle.clap.specs.{Simple.{App, Shape, new_app, new_rule, on_top, with_rule, with_subcommand}, Walk.Rule}
use Rattle.clap.specs.declared.builder.{action.ArgAction.TheVariants.{Append, Set, SetTrue}, value_parser.ValueParser.TheVariants.Signed}
use Rattle.lc_arguments.specs.Options.{OptionModel, is_of, options}
use Rattle.lc_arguments.specs.declared.option_row.Kind.{Kind, TheVariants.{Flag, Text, Texts, Number, Range, Word, Words}}
use Rattle.lc_arguments.specs.declared.option_row.Subcommand.{Subcommand, TheVariants.{Count, Explain, Check, Sum, Diff, Languages}}

-- an argument of this kind with this name: an option without a value, with a text, with a text and repeatable, or with a number from 1 to a
-- limit, which is a text to clap or which clap tests; or, without a hyphen, a required argument, or any number of arguments
abbrev pub kind_rule : Kind → List ℕ → Rule
kind_rule Flag name = record (new_rule name) { long = Some name; action = Some SetTrue }
kind_rule Text name = record (new_rule name) { long = Some name; value_names = 1; action = Some Set }
kind_rule Texts name = record (new_rule name) { long = Some name; value_names = 1; action = Some Append }
kind_rule (Number most) name = record (new_rule name) { long = Some name; value_names = 1; action = Some Set }
kind_rule (Range most) name = record (new_rule name) {
  long = Some name;
  value_names = 1;
  action = Some Set;
  parser = Some (Signed (pos 1) (pos most));
}
kind_rule Word name = record (new_rule name) { required = true; action = Some Set }
kind_rule Words name = record (new_rule name) { action = Some Append }

-- the argument with a short name, if there is one, besides its long name
abbrev pub with_letter : Option ℕ → Rule → Rule
with_letter None rule = rule
with_letter (Some letter) rule = record rule { short = Some letter }

-- the argument with a default value, if there is one
abbrev pub with_default : Option (List ℕ) → Rule → Rule
with_default None rule = rule
with_default (Some text) rule = record rule { defaults = text ∷ [] }

-- clap's rule for an argument
abbrev pub option_rule : OptionModel → Rule
option_rule o = with_default o.default (with_letter o.letter (kind_rule o.kind o.name))

-- clap's rules for the arguments of a command, in the order of the table
abbrev pub rules_in : Subcommand → List OptionModel → List Rule
rules_in command all = map option_rule (filter (λ o. is_of command o.of) all)

-- a command without arguments; the words that it reads begin after its own name
abbrev pub bare_app : List ℕ → App
bare_app name = on_top (λ (s : Shape). record s { no_binary_name = true }) (new_app name)

-- a command with each of these rules added, in their order
abbrev pub with_rules : App → List Rule → App
with_rules a [] = a
with_rules a (r ∷ rs) = with_rules (with_rule a r) rs

-- a command of this name with these arguments
abbrev pub app_with : List ℕ → List Rule → App
app_with name rules = with_rules (bare_app name) rules

-- the name of a command
abbrev pub command_name : Subcommand → List ℕ
command_name Count = codes "count"
command_name Explain = codes "explain"
command_name Check = codes "check"
command_name Sum = codes "sum"
command_name Diff = codes "diff"
command_name Languages = codes "languages"

-- a command with its arguments
abbrev pub command_app : Subcommand → App
command_app command = app_with (command_name command) (rules_in command options)

-- the program without commands and arguments, for words that name no command
abbrev pub bare_lc_app : App
bare_lc_app = on_top (λ (s : Shape). record s { no_binary_name = true; has_version = true; has_long_version = true }) (new_app (codes "lc"))

-- a command with each of these subcommands added, in their order
abbrev pub with_subcommands : App → List App → App
with_subcommands a [] = a
with_subcommands a (s ∷ ss) = with_subcommands (with_subcommand a s.top) ss

abbrev pub lc_app : App
lc_app = with_subcommands bare_lc_app (map command_app (Count ∷ Sum ∷ Diff ∷ Check ∷ Explain ∷ Languages ∷ []))

-- what reads words: a command, or the program for words that name none
abbrev pub app_by : Option Subcommand → App
app_by None = lc_app
app_by (Some command) = command_app command
