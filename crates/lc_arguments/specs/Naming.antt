-- Which arguments a text names: help names the arguments of its command, and a usage error names one argument.
use Rattle.std.specs.Prelude.{◌≡◌, ◌⊎◌, ◌&&◌, not, ℕ, Bool, true, false, is_some, bytes_eq, List, [], ◌∷◌, ◌++◌, codes}
use Rattle.std.specs.{Prelude.{Option, Some, None, ⊤, string_bytes}, Str.Iter.HasSubslice}
use Rattle.lc_text.specs.Visible.{visible_bytes}
use Rattle.lc_arguments.specs.{Options.{OptionModel, is_of, options}, Words.{asked_by, is_own_option}}
use Rattle.lc_arguments.specs.declared.option_row.Kind.{Kind, TheVariants.{Word, Words}}
use Rattle.lc_arguments.specs.declared.option_row.Subcommand.{Subcommand}
use Rattle.lc_arguments.specs.declared.request.ParseExit.{ParseExit, TheVariants.{Shown, Refused, Memory}}

-- what a message of clap has before and after the name of an argument: the hyphens of an option; or, without a hyphen, `<` and `>` around a
-- required argument, and `[` and `]` around one that may be omitted
abbrev pub mark_before : Kind → List ℕ
mark_before Word = codes "<"
mark_before Words = codes "["
mark_before other = codes "--"

abbrev pub mark_after : Kind → List ℕ
mark_after Word = codes ">"
mark_after Words = codes "]"
mark_after other = []

-- a text has the name of an argument, with what clap writes before and after the name
abbrev pub Names : List ℕ → OptionModel → Type 0
Names text o = HasSubslice text (mark_before o.kind ++ (o.name ++ mark_after o.kind))

-- ---- help

-- a text names each argument of a command
abbrev pub NamesAll : Subcommand → List OptionModel → List ℕ → Type 0
NamesAll command [] text = ⊤
NamesAll command (o ∷ os) text = (is_of command o.of ≡ true → Names text o) × NamesAll command os text

-- the command that words name
abbrev pub named_command : List (List ℕ) → Option Subcommand
named_command words = (asked_by words).0

-- the first word may be the name of a directory that begins a count: words name no command by it, and it asks for no help or version
abbrev pub may_be_directory : List (List ℕ) → Bool
may_be_directory [] = false
may_be_directory (word ∷ words) =
    not (is_some (named_command (word ∷ words))) && (not (is_own_option word) && not (bytes_eq word (codes "help")))

-- the help of a command names its arguments in the table. A text about the program, its help or its version, names the program
unfoldable pub IsTextOf : Option Subcommand → List ℕ → Type 0
IsTextOf None text = HasSubslice text (codes "lc")
IsTextOf (Some command) text = NamesAll command options text

-- ---- usage errors

-- the name of an argument of this kind shows what is wrong; `Words` are in each usage line, so their names show nothing
abbrev pub is_telling : Kind → Bool
is_telling Words = false
is_telling other = true

-- a text names one of these arguments, apart from `Words`
abbrev pub NamesSome : List OptionModel → List ℕ → Type 0
NamesSome [] text = ⊥
NamesSome (o ∷ os) text = ((is_telling o.kind ≡ true) × Names text o) ⊎ NamesSome os text

-- a text has one of these words in quotes, as a terminal shows the word
abbrev pub QuotesSome : List (List ℕ) → List ℕ → Type 0
QuotesSome [] text = ⊥
QuotesSome (word ∷ words) text = HasSubslice text (codes "'" ++ (visible_bytes word ++ codes "'")) ⊎ QuotesSome words text

-- a text has a typed word in quotes, or names an argument of the table of options
unfoldable pub NamesOne : List (List ℕ) → List ℕ → Type 0
NamesOne words text = QuotesSome words text ⊎ NamesSome options text

-- the first paragraph of a text: no empty line is in it, and the text ends with it, or an empty line follows
pub record IsFirstParagraph (text problem : List ℕ) : Type 0 where
  pub one : HasSubslice problem (codes "\n\n") → ⊥
  pub first : (text ≡ problem) ⊎ ((rest : List ℕ) × (text ≡ problem ++ (codes "\n\n" ++ rest)))

-- the first paragraph of a usage error names an argument
pub record IsNamingError (words : List (List ℕ)) (text : List ℕ) : Type 0 where
  pub problem : List ℕ
  pub first : IsFirstParagraph text problem
  pub names : NamesOne words problem

-- ---- both

-- what the program writes if words make no request names arguments
abbrev pub NamesArguments : List (List ℕ) → ParseExit → Type 0
NamesArguments words (Shown text) = IsTextOf (named_command words) (string_bytes text)
NamesArguments words (Refused why) = IsNamingError words (string_bytes why)
NamesArguments words Memory = ⊤
