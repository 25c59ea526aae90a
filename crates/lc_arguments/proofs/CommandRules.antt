-- Arguments that are made of rows, commands that are given them in turn, and what is read of a number among these.
use Rattle.std.proofs.{Common.{rules, ◌≡◌, ◌∙◌, ◌+◌, ◌<◌, ℕ, zero, suc, Bool, true, false, not, ◌||◌, cond, List, [], ◌∷◌, ◌++◌, length}}
use Rattle.std.proofs.{Common.{map, take, get_or, refl, sym, ap, ap₂, subst, arith}, lemmas.{Grind.common_steps, Bool.and_parts}}
use Rattle.std.proofs.lemmas.List.{append-nil, get_or-map, length-map, map-append, take_more, Elements.{All-cons, All-nil, filter-append}}
use Rattle.std.proofs.lemmas.List.Folds.{list_any_at}
use Rattle.std.proofs.lemmas.Slice.Eq.{bytes_eq-Decides}
use Rattle.std.specs.{Prelude.{pos, Option, Some}, List.{All, list_any, slice_index_or}, Str.bytes_eq}
use Rattle.clap.specs.{Built.{AddsArg, AddsInTurn, AddsSubcommand, FitsChain, HasDistinctIds}, Lexer.without_minus, Matches.found_of}
use Rattle.clap.specs.{Matches.one_text, Values.IsSignedIn}
use Rattle.clap.specs.declared.builder.{arg.Arg.Arg, command.Command.{Command, TheViews.out-Command}}
use Rattle.clap.specs.declared.builder.{value_parser.ValueParser.{ValueParser, TheVariants.Signed}}
use Rattle.clap.specs.{Simple.{App, app_of, new_rule, with_rule, with_subcommand}, Walk.Rule}
use Rattle.clap.specs.Walk.{rule_of}
use Rattle.lc_arguments.specs.CommandLine.{app_with, bare_app, lc_app, option_rule, rules_in, with_rules, with_subcommands}
use Rattle.lc_arguments.specs.{CountArgs.{AreArgsOf, IsArgOf, IsBare, IsCommandOf}, Directories.are_distinct}
use Rattle.lc_arguments.specs.{Options.{is_of, option_model, options}}
use Rattle.lc_arguments.specs.{ReadNumbers.{ReadsWithin, parser_named}}
use Rattle.lc_arguments.specs.declared.option_row.OptionRow.{OptionRow}
use Rattle.lc_arguments.specs.{declared.option_row.Subcommand.{Subcommand, TheVariants.{Count, Explain, Check, Sum, Diff, Languages}}}
use Rattle.lc_arguments.proofs.ReadValues.{read_in_chain}

-- the rules of one more row
rules_more : (command : Subcommand) (rows : List OptionRow) (row : OptionRow) (has : Bool) → is_of command row.of ≡ has
    → rules_in command (map option_model (rows ++ row ∷ []))
    ≡ rules_in command (map option_model rows) ++ cond has (option_rule (option_model row) ∷ []) []
rules_more command rows row has is = grind (arith, common_steps, map-append, filter-append)

-- one more argument
args_more : (rules : List Rule) (args : List Arg) (rule : Rule) (a : Arg) → AreArgsOf rules args → IsArgOf rule a
    → AreArgsOf (rules ++ rule ∷ []) (args ++ a ∷ [])
args_more [] [] rule a are is = (is, tt)
args_more (r ∷ rs) (x ∷ xs) rule a are is = (are.0, args_more rs xs rule a are.1 is)
args_more [] (x ∷ xs) rule a are is = absurd are
args_more (r ∷ rs) [] rule a are is = absurd are

-- the argument of a row that the command has comes after those of the rows before it
pub one_more : (command : Subcommand) (rows : List OptionRow) (i : ℕ) (d : OptionRow) (args new : List Arg) (a : Arg) → i < length rows
    → is_of command (get_or rows i d).of ≡ true → AreArgsOf (rules_in command (map option_model (take i rows))) args
    → IsArgOf (option_rule (option_model (get_or rows i d))) a → new ≡ args ++ a ∷ []
    → AreArgsOf (rules_in command (map option_model (take (i + 1) rows))) new
one_more command rows i d args new a low has are is added = grind (arith, common_steps, take_more, rules_more, args_more)

-- and a row that it has not gives none
pub none_more : (command : Subcommand) (rows : List OptionRow) (i : ℕ) (d : OptionRow) (args : List Arg) → i < length rows
    → is_of command (get_or rows i d).of ≡ false → AreArgsOf (rules_in command (map option_model (take i rows))) args
    → AreArgsOf (rules_in command (map option_model (take (i + 1) rows))) args
none_more command rows i d args low not_its are = grind (arith, common_steps, take_more, rules_more, append-nil)

abbrev pub ids_of : List Arg → List (List ℕ)
ids_of xs = map (λ (a : Arg). a.id.now) xs

not_true : (a : Bool) → not a ≡ true → a ≡ true → ⊥
not_true a e t = grind (arith, common_steps)

id_at : (xs : List Arg) (k : ℕ) (d : Arg) → k < length xs → get_or (ids_of xs) k [] ≡ (slice_index_or xs k d).id.now
id_at xs k d low = grind (arith, common_steps)

length_ids : (xs : List Arg) → length (ids_of xs) ≡ length xs
length_ids xs = grind (arith, common_steps)

-- the first name stands nowhere after it
first_apart : (x : Arg) (xs : List Arg) → not (list_any (bytes_eq x.id.now) (ids_of xs)) ≡ true → (k : ℕ) (d : Arg) → k < length xs
    → x.id.now ≡ (slice_index_or xs k d).id.now → ⊥
first_apart x xs none k d low same = grind (arith, common_steps, bytes_eq-Decides, id_at, length_ids, not_true, list_any_at)

-- arguments whose names pass the test have distinct names
pub distinct_ids : (xs : List Arg) → are_distinct (ids_of xs) ≡ true → HasDistinctIds xs
distinct_ids [] apart j k d e low high same = absurd (omega arith)
distinct_ids (x ∷ xs) apart zero zero d e low high same = refl
distinct_ids (x ∷ xs) apart zero (suc k) d e low high same =
    let parts = and_parts _ _ apart in
    absurd (first_apart x xs parts.0 k d (omega arith) ((bytes_eq-Decides x.id.now (slice_index_or xs k d).id.now).0 same))
distinct_ids (x ∷ xs) apart (suc j) zero d e low high same =
    let parts = and_parts _ _ apart in
    absurd (first_apart x xs parts.0 j e (omega arith) (sym ((bytes_eq-Decides (slice_index_or xs j e).id.now x.id.now).0 same)))
distinct_ids (x ∷ xs) apart (suc j) (suc k) d e low high same =
    let parts = and_parts _ _ apart in
    ap suc (distinct_ids xs parts.1 j k d e (omega arith) (omega arith) same)

-- the ids by the rules
ids_by_rules : (xs : List Arg) → ids_of xs ≡ map (λ (r : Rule). r.id) (map rule_of xs)
ids_by_rules [] = refl
ids_by_rules (x ∷ xs) = ap (λ l. x.id.now ∷ l) (ids_by_rules xs)

-- a command that is given arguments in turn has their rules in turn
rules_in_turn : (old new : Command) (xs : List Arg) → AddsInTurn AddsArg old xs new → All FitsChain xs → (a : App) → app_of old ≡ a
    → (app_of new ≡ with_rules a (map rule_of xs)) × ((out-Command old).has_globals ≡ false → (out-Command new).has_globals ≡ false)
rules_in_turn old new [] added fits a is =
    (ap app_of (sym added) ∙ is, λ local. ap (λ (c : Command). (out-Command c).has_globals) (sym added) ∙ local)
rules_in_turn old new (x ∷ xs) added fits a is =
    let fit = fits 0 x (omega arith) in
    let step = added.1 in
    let rest = rules_in_turn added.0 new xs added.2 (λ k d low. fits (suc k) d (omega arith)) (with_rule a (rule_of x))
    (step.shape fit.1 ∙ ap (λ (b : App). with_rule b (rule_of x)) is) in
    (rest.0, λ local. rest.1 (step.globals ∙ (ap (λ b. b || x.global) local ∙ ap (λ b. false || b) fit.1)))

fit_of : (rules : List Rule) (args : List Arg) → AreArgsOf rules args → All FitsChain args
fit_of [] [] are = All-nil FitsChain
fit_of (rule ∷ rules) (a ∷ args) are = All-cons FitsChain a args are.0.1 (fit_of rules args are.1)
fit_of [] (a ∷ args) are = absurd are
fit_of (rule ∷ rules) [] are = absurd are

rules_are : (rules : List Rule) (args : List Arg) → AreArgsOf rules args → map rule_of args ≡ rules
rules_are [] [] are = refl
rules_are (rule ∷ rules) (a ∷ args) are = ap₂ (λ (r : Rule) (rs : List Rule). r ∷ rs) are.0.0 (rules_are rules args are.1)
rules_are [] (a ∷ args) are = absurd are
rules_are (rule ∷ rules) [] are = absurd are

-- a command of this name that was given arguments with these rules in turn
pub record HasRules (name : List ℕ) (rules : List Rule) (c : Command) : Type 0 where
  pub bare : Command
  pub is_bare : IsBare name bare
  pub args : List Arg
  pub added : AddsInTurn AddsArg bare args c
  pub fits : All FitsChain args
  pub are : map rule_of args ≡ rules

-- a bare command that is given such arguments has their rules
pub given : (name : List ℕ) (rules : List Rule) (bare : Command) (args : List Arg) (c : Command) → IsBare name bare → AreArgsOf rules args
    → AddsInTurn AddsArg bare args c → HasRules name rules c
given name rules bare args c is are added = grind (arith, common_steps, fit_of, rules_are)

-- a command that is `lc` once it is given these subcommands in turn
abbrev pub LacksOf : List App → Command → Type 0
LacksOf apps c = (with_subcommands (app_of c) apps ≡ lc_app) × ((out-Command c).has_globals ≡ false)

-- and that is given the first of them
pub lacks_others : (app : App) (apps : List App) (old sub new : Command) → LacksOf (app ∷ apps) old → IsCommandOf app sub
    → AddsSubcommand old sub new → LacksOf apps new
lacks_others app apps old sub new lacks is added = (
  ap (λ (a : App). with_subcommands a apps) (added.shape is.1 ∙ ap (λ (b : App). with_subcommand (app_of old) b.top) is.0) ∙ lacks.0,
  added.globals ∙ ap₂ (λ (x y : Bool). x || y) lacks.1 is.1,
)

-- clap sees it as the command with these rules
pub seen_with : (name : List ℕ) (rules : List Rule) (c : Command) → HasRules name rules c → IsCommandOf (app_with name rules) c
seen_with name rules c has =
    let turned = rules_in_turn has.bare c has.args has.added has.fits (bare_app name) has.is_bare.0.0 in
    (turned.0 ∙ ap (with_rules (bare_app name)) has.are, turned.1 has.is_bare.0.1)

-- an argument with this name and this parser
record Named (id : List ℕ) (parser : Option ValueParser) (rules : List Rule) : Type 0 where
  place : ℕ
  within : place < length rules
  named : (d : Rule) → (slice_index_or rules place d).id ≡ id
  parsed : (d : Rule) → (slice_index_or rules place d).parser ≡ parser

found_named : (id : List ℕ) (parser : Option ValueParser) (rules : List Rule) → parser_named id rules ≡ Some parser → Named id parser rules
found_named id parser [] found = cc
found_named id parser (r ∷ rs) found = go (bytes_eq r.id id) refl (found_named id parser rs) found
  where
    go : (here : Bool) → bytes_eq r.id id ≡ here → (parser_named id rs ≡ Some parser → Named id parser rs)
        → cond here (Some r.parser) (parser_named id rs) ≡ Some parser → Named id parser (r ∷ rs)
    go true same after is =
        let first : r.parser ≡ parser = cc in
        record { place = 0; within = omega arith; named = λ _. (bytes_eq-Decides r.id id).0 same; parsed = λ _. first }
    go false other after is =
        let later = after is in
        let low : later.place < length rs = later.within in
        record { place = suc later.place; within = omega arith; named = later.named; parsed = later.parsed }

-- what a parse reads of a number at this place among its arguments is in its range
reads_at : (name : List ℕ) (rules : List Rule) (c : Command) → HasRules name rules c
    → are_distinct (map (λ (r : Rule). r.id) rules) ≡ true → (k : ℕ) (other : Rule) → k < length rules
    → (id : List ℕ) (most : ℕ) → (slice_index_or rules k other).id ≡ id
    → (slice_index_or rules k other).parser ≡ Some (Signed (pos 1) (pos most)) → ReadsWithin c id 1 most
reads_at name rules c has apart k other within id most is_named is_parsed m parsed text read = go has.args refl
  where
    go : (xs : List Arg) → has.args ≡ xs
        → (digits : List ℕ) × (text ≡ without_minus digits) × IsSignedIn (pos 1) (pos most) digits
    go [] none =
        let empty : rules ≡ [] = sym has.are ∙ ap (map rule_of) none in
        let low : k < 0 = subst (λ (rs : List Rule). k < length rs) empty within in
        absurd (omega (arith, low))
    go (x ∷ xs) some =
        let args = has.args in
        let there : k < length args = rw (← length-map args rule_of, has.are) within in
        let rule : rule_of (slice_index_or args k x) ≡ slice_index_or rules k other =
        sym (get_or-map rule_of args k x other there) ∙ ap (λ (rs : List Rule). slice_index_or rs k other) has.are in
        let ids : are_distinct (ids_of args) ≡ true = ap are_distinct (ids_by_rules args ∙ ap (map (λ (r : Rule). r.id)) has.are) ∙ apart in
        read_in_chain has.bare c args k x m has.added has.is_bare.1 has.is_bare.2 has.is_bare.0.1 has.fits
        (distinct_ids args ids) there parsed
        (Signed (pos 1) (pos most)) (ap (λ (r : Rule). r.parser) rule ∙ is_parsed) text
        (subst (λ (i : List ℕ). one_text (found_of m) i ≡ Some text) (sym (ap (λ (r : Rule). r.id) rule ∙ is_named)) read)

-- what a parse reads of the number with this name is in its range
pub reads_number : (name : List ℕ) (rules : List Rule) (c : Command) → HasRules name rules c
    → are_distinct (map (λ (r : Rule). r.id) rules) ≡ true → (id : List ℕ) (most : ℕ)
    → parser_named id rules ≡ Some (Some (Signed (pos 1) (pos most))) → ReadsWithin c id 1 most
reads_number name rules c has apart id most found =
    let at = found_named id (Some (Signed (pos 1) (pos most))) rules found in
    reads_at name rules c has apart at.place (new_rule id) at.within id most (at.named (new_rule id)) (at.parsed (new_rule id))

-- the arguments of a command have names of their own
pub apart : (command : Subcommand) → are_distinct (map (λ (r : Rule). r.id) (rules_in command options)) ≡ true
apart Count = refl
apart Explain = refl
apart Check = refl
apart Sum = refl
apart Diff = refl
apart Languages = refl
