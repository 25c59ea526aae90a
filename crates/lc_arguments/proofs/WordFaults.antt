-- Words that fail, and what is said of them.
use Rattle.std.proofs.{Common.{arith, ◌≡◌, ◌∙◌, ℕ, Bool, true, false, List, [], refl, ap, Result, Err, Option, Some}}
use Rattle.std.proofs.{Common.{codes}, lemmas.Grind.common_steps}
use Rattle.std.specs.{Borrow.Bor, Prelude.{map, option_map, unwrap_or}, Str.Parse.{digits_value, without_leading_plus}}
use Rattle.clap.specs.{Faults.{fault_of, is_simple_and_free}, Kinds.{FailsBy, HasKind, Kinds}, Simple.{App, HasMatchesOf, app_of}}
use Rattle.clap.specs.{Simple.{is_simple, matches_of}, Matches.{found_of, first_value, matched_of, one_text, raw_values}, Values.kind_of}
use Rattle.clap.specs.{Walk.{Row, Text, first_of, rows_of}, declared.{builder.command.Command.Command, error.Error.Error}}
use Rattle.clap.specs.{declared.parser.matches.{ArgMatches.ArgMatches, Found.Found}}
use Rattle.clap.proofs.{WalkLemmas.{first_value-rows, one_text-rows, raw_values-rows}, OnLiterals.clap_on_literals}
use Rattle.lc_arguments.specs.{CommandLine.{command_app, lc_app}, Explained.Explains, Words.{IsFlag, IsText, IsNoRequestBy, texts_read}}
use Rattle.lc_arguments.specs.{declared.option_row.Subcommand.{Subcommand}}
use Rattle.lc_arguments.specs.{declared.request.ParseExit.{ParseExit}, ReadNumbers.IsNumber}
use Rattle.clap.specs.declared.error.kind.ErrorKind.TheVariants as kind

-- each command is of the simple kind, of which clap says all
pub command_is_simple : (command : Subcommand) → is_simple (command_app command) ≡ true
unfolding clap_on_literals
command_is_simple command = grind (arith, common_steps, clap_on_literals)

-- and asks for nothing that clap leaves open
pub command_is_free : (command : Subcommand) → is_simple_and_free (command_app command) ≡ true
unfolding clap_on_literals
command_is_free command = grind (arith, common_steps, clap_on_literals)

-- nor does lc
pub lc_is_free : is_simple_and_free lc_app ≡ true
unfolding clap_on_literals
lc_is_free = refl

-- memory is no text that was asked for
memory_is_no_text : (e : Error) → kind_of e ≡ kind.OutOfMemory → IsText (kind_of e) → ⊥
memory_is_no_text e is text = grind (arith, common_steps)

-- what an error of these kinds becomes
pub no_request_by : (kinds : Kinds) (e : Error) (why : ParseExit) → HasKind kinds e → Explains e why → IsNoRequestBy kinds why
no_request_by kinds e why has is = grind (arith, common_steps, memory_is_no_text)

-- a command that clap sees as this one fails as this one
pub fails_as : {T : Type 0} (c : Command) (a : App) (words : List Text) (answer : Result T Error) → app_of c ≡ a
    → is_simple_and_free a ≡ true
    → (is_simple_and_free (app_of c) ≡ true → FailsBy (fault_of (app_of c) words) answer) → FailsBy (fault_of a words) answer
fails_as c a words answer is free kinds = grind (arith, common_steps)

-- and has its matches
pub matches_as : (c : Command) (a : App) (words : List Text) (m : ArgMatches) → app_of c ≡ a → is_simple a ≡ true
    → HasMatchesOf (app_of c) words m → rows_of (found_of m) ≡ matches_of a words
matches_as c a words m is simple has = grind (arith, common_steps)

-- what an error of such a command becomes
pub no_request_of : (c : Command) (a : App) (words : List Text) (e : Error) (why : ParseExit) → app_of c ≡ a → is_simple_and_free a ≡ true
    → (is_simple_and_free (app_of c) ≡ true → FailsBy {T = ArgMatches} (fault_of (app_of c) words) (Err e)) → Explains e why
    → IsNoRequestBy (fault_of a words) why
no_request_of c a words e why is free kinds explains = grind (arith, common_steps, no_request_by, fails_as)

-- a text that was read, or the default
pub text_or : {default : Text} (rows : List Row) (f : Found) (id : Text) (o : Option (Bor Text)) (other result : Bor Text)
    → rows_of f ≡ rows → option_map (λ s. s.now) o ≡ first_value f id → other.now ≡ default → result ≡ unwrap_or o other
    → result.now ≡ unwrap_or (first_of id rows) default
text_or rows f id o other result is are read empty = grind (arith, common_steps, first_value-rows)

-- a text that was read is the first of its argument
pub text_of : (rows : List Row) (f : Found) (id : Text) (o : Option (Bor Text)) → rows_of f ≡ rows
    → option_map (λ s. s.now) o ≡ first_value f id
    → option_map (λ s. s.now) o ≡ first_of id rows
text_of rows f id o are read = read ∙ (first_value-rows f id ∙ ap (first_of id) are)

-- a flag that was read is that of the words
pub flag_of : (rows : List Row) (f : Found) (id : Text) (b : Bool) → rows_of f ≡ rows
    → (one_text f id ≡ Some (codes "true") → b ≡ true) → (one_text f id ≡ Some (codes "false") → b ≡ false) → IsFlag id rows b
flag_of rows f id b are set unset = grind (arith, common_steps, one_text-rows)

-- a number that was read is that of the words, or the default
pub number_of : (rows : List Row) (f : Found) (id default : Text) (n : ℕ) → rows_of f ≡ rows
    → n ≡ digits_value 10 (without_leading_plus (unwrap_or (one_text f id) default)) → IsNumber id default rows n
number_of rows f id default n are is = grind (arith, common_steps, one_text-rows)

-- texts that were read are those of the words, or none
pub texts_of : (rows : List Row) (f : Found) (id : Text) (o : Option (Bor (List (Bor Text)))) (none result : Bor (List (Bor Text)))
    → rows_of f ≡ rows → option_map (λ s. map (λ v. v.now) s.now) o ≡ option_map raw_values (matched_of f id) → none.now ≡ []
    → result ≡ unwrap_or o none → map (λ v. v.now) result.now ≡ texts_read id rows
texts_of rows f id o none result are read empty is = grind (arith, common_steps, raw_values-rows)
