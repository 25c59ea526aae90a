-- The numbers that were read of options.
use Rattle.std.specs.Prelude.{◌≡◌, ◌&&◌, nat_le, ℕ, List, [], ◌∷◌, cond, pos, Some, None, Option, unwrap_or, option_map, codes}
use Rattle.std.specs.Str.{bytes_eq, Parse.{digits_value, without_leading_plus}}
use Rattle.clap.specs.{Built.IsParsedFrom, Lexer.without_minus, Matches.found_of, Values.IsSignedIn, Walk.{Row, Rule, one_of}}
use Rattle.clap.specs.declared.builder.{command.Command.Command, value_parser.ValueParser.{ValueParser, TheVariants.Signed}}
use Rattle.clap.specs.declared.parser.matches.{ArgMatches.ArgMatches, Found.Found}
use Rattle.lc_arguments.specs.{ConditionWords.number_in, Options.{max_dirs, max_threads}, Texts.after_front}
use Rattle.clap.specs.Matches as matches

-- a number, if it is from 1 to `most`
abbrev pub if_within : ℕ → Option ℕ → Option ℕ
if_within most None = None
if_within most (Some n) = cond (nat_le 1 n && nat_le n most) (Some n) None

-- the number from 1 to `most` that a text writes; a plus sign may be before its digits
abbrev pub number_to : ℕ → List ℕ → Option ℕ
number_to most text = if_within most (number_in (unwrap_or (after_front (codes "+") text) text))

-- the number from 1 to `most` that the value of an option writes, if the option is used
abbrev pub IsNumberTo : ℕ → Option (List ℕ) → Option ℕ → Type 0
IsNumberTo most value n = option_map Some n ≡ option_map (number_to most) value

-- the value that was read of this argument, if there is one, is a number from `low` to `high`
abbrev pub IsReadWithin : Found → List ℕ → ℕ → ℕ → Type 0
IsReadWithin found id low high =
    (text : List ℕ) → matches.one_text found id ≡ Some text
    → (digits : List ℕ) × (text ≡ without_minus digits) × IsSignedIn (pos low) (pos high) digits

-- each parse by this command reads of this argument a number from `low` to `high`, if the parse reads a value
abbrev pub ReadsWithin : Command → List ℕ → ℕ → ℕ → Type 0
ReadsWithin command id low high = (m : ArgMatches) → IsParsedFrom command m → IsReadWithin (found_of m) id low high

-- the values of `--threads` and `--max-dirs` that were read are within their limits
pub record AreReadWithin (found : Found) : Type 0 where
  pub threads : IsReadWithin found (codes "threads") 1 max_threads
  pub max_dirs : IsReadWithin found (codes "max-dirs") 1 max_dirs

-- the parser of the first argument with this name
abbrev pub parser_named : List ℕ → List Rule → Option (Option ValueParser)
parser_named id [] = None
parser_named id (r ∷ rs) = cond (bytes_eq r.id id) (Some r.parser) (parser_named id rs)

-- the value that was read of each argument that has a number from 1 to a limit, by these rules, is such a number
abbrev pub AreReadBy : List Rule → Found → Type 0
AreReadBy rules found =
    (id : List ℕ) (most : ℕ) → parser_named id rules ≡ Some (Some (Signed (pos 1) (pos most))) → IsReadWithin found id 1 most

-- the number that the digits of an argument's value write, or the digits of its default if no value was read
abbrev pub IsNumber : List ℕ → List ℕ → List Row → ℕ → Type 0
IsNumber id default rows n = n ≡ digits_value 10 (without_leading_plus (unwrap_or (one_of id rows) default))
