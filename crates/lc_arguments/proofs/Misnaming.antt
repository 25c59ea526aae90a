-- Words that ask for what there is not: values of options, tables, requests.
use Rattle.std.proofs.{Common.{◌≡◌, ◌∙◌, ◌<◌, ◌&&◌, ℕ, zero, suc, Bool, true, false, not, List, [], ◌∷◌, length, map, ap, sym, Result, Option}}
use Rattle.std.proofs.{Common.arith, Math.Bool.and-false, lemmas.{Grind.common_steps, Result.err_from_is_err_and}}
use Rattle.std.specs.{Borrow.Bor, List.{list_all, slice_index_or}, Result.IsErrAnd}
use Rattle.clap.specs.{Faults.fault_of}
use Rattle.lc_arguments.specs.{CommandLine.app_by, Repeated.is_allowed, Words.{AskNothing, IsNoRequestBy}}
use Rattle.lc_arguments.specs.Explained.{AnswersOr, AnswersTable, IsRefusal, IsRefusedFor}
use Rattle.lc_arguments.specs.declared.{option_row.Subcommand.Subcommand, repeated.Repeated.Repeated, table.TableRequest.TableRequest}
use Rattle.lc_arguments.specs.declared.{request.ParseExit.{ParseExit}}

-- where nothing wrong was found, all is right
pub none_wrong : (right : Bool) → false ≡ not right → right ≡ true
none_wrong right is = grind (arith, common_steps)

-- and where something was, not all is
pub one_wrong : (right : Bool) → true ≡ not right → right ≡ false
one_wrong right is = grind (arith, common_steps)

-- what fits but for the rest is wrong as that is
pub wrong_as : (fits rest wrong : Bool) → fits ≡ true → wrong ≡ not rest → wrong ≡ not (fits && rest)
wrong_as fits rest wrong fit is = is ∙ sym (ap (λ b. not (b && rest)) fit)

-- one value that an option may not have
pub one_not_allowed : (option : Repeated) (values : List (Bor (List ℕ))) (k : ℕ) (d : Bor (List ℕ)) → k < length values
    → is_allowed option (slice_index_or values k d).now ≡ false → list_all (is_allowed option) (map (λ value. value.now) values) ≡ false
one_not_allowed option [] k d low bad = absurd (omega arith)
one_not_allowed option (value ∷ values) zero d low bad =
    ap (λ b. b && list_all (is_allowed option) (map (λ value. value.now) values)) bad
one_not_allowed option (value ∷ values) (suc k) d low bad =
    ap (λ b. is_allowed option value.now && b) (one_not_allowed option values k d (omega arith) bad)
    ∙ and-false (is_allowed option value.now)

-- what is answered to the same texts of a table
pub answers_table_as : (format by sort format' by' sort' : Option (List ℕ)) (depth : Option ℕ) (answer : Result TableRequest ParseExit)
    → format' ≡ format → by' ≡ by → sort' ≡ sort → AnswersTable format' by' depth sort' answer → AnswersTable format by depth sort answer
answers_table_as format by sort format' by' sort' depth answer f b o is = grind (arith, common_steps)

-- what is refused is so for a reason that there is
pub refused_for : (No : Type 0) (why : ParseExit) → IsRefusal why → No → IsRefusedFor No why
refused_for No why refusal bad = grind (arith, common_steps)

-- and for one that follows from it
pub refused_with : (No More : Type 0) (why : ParseExit) → (No → More) → IsRefusedFor No why → IsRefusedFor More why
refused_with No More why follows bad = grind (arith, common_steps)

-- what is passed on is refused for what follows
pub passed_on : {A : Type 0} (Is : A → Type 0) (No More : Type 0) (answer : Result A ParseExit) (why : ParseExit) → (No → More)
    → IsErrAnd answer (λ e. e ≡ why) → IsRefusedFor No why → AnswersOr Is More answer
passed_on Is No More answer why follows passed refused = grind (arith, common_steps, err_from_is_err_and, refused_with)

-- words that clap answers ask for nothing
pub nothing_by : (command : Option Subcommand) (words : List (List ℕ)) (why : ParseExit)
    → IsNoRequestBy (fault_of (app_by command) words) why → AskNothing command words why
nothing_by command words why by = grind (arith, common_steps)
