-- A value that was read of an argument passed the argument's parser.
use Rattle.std.proofs.{lemmas.{Grind.common_steps, Slice.Eq.bytes_eq-Decides}}
use Rattle.std.proofs.{lemmas.List.{append-nil, append_assoc, Elements.{All-get_or, All-nil}}, Common.{◌++◌, ◌||◌, ◌≡◌, ◌∙◌, ◌<◌, ◌≤◌, ap}}
use Rattle.std.proofs.{Common.{ℕ, suc, Bool, true, false, List, [], ◌∷◌, length, Option, Some, None, refl, sym, subst, inl, inr}}
use Rattle.std.proofs.Common.{arith}
use Rattle.std.specs.{List.{All, slice_index_or}, Str.{bytes_eq, Parse.{ParsesUnsigned, digits_value, without_leading_plus}}}
use Rattle.std.specs.{Prelude.{option_map, slice_get, unwrap_or, ◌^◌, Result, Ok, pos}, Borrow.Bor}
use Rattle.clap.specs.{Lexer.without_minus, Values.{IsSignedIn, Accepts, read_as, reading_of}, Matches.{ReadsOne, matched_of, one_text}}
use Rattle.clap.specs.{Matches.{found_of, has_subcommand}, Facts.{args_of, groups_of, IsParsed, Entry, EntryPasses, PassesArg, HasReading}}
use Rattle.clap.specs.{Facts.{parser_of, parser_of_value}, Built.{AddsInTurn, HasDistinctIds, FitsChain, KeepsList, IsPlain, IsPlainArg}}
use Rattle.clap.specs.{Built.{IsParsedFrom, IsAuto, AddsArg, SameRules}}
use Rattle.clap.specs.declared.builder.{value_parser.{Reading.Reading, ValueParser.ValueParser}}
use Rattle.clap.specs.declared.builder.{arg.Arg.Arg, command.Command.{Command, TheViews.out-Command}}
use Rattle.clap.specs.{declared.parser.matches.{ArgMatches.ArgMatches, MatchedArg.MatchedArg}}
use Rattle.clap.proofs.{CallerReads.signed_reads, CallerLemmas.{entry_by_id, same_rules_by_id, added_plain}}

-- the rest of a list of which all pass
all_rest : {X : Type 0} (P : X → Type 0) (x : X) (xs : List X) → All P (x ∷ xs) → All P xs
all_rest P x xs h = λ k d lt. h (suc k) d (omega arith)

chain_places : (x y : Arg) (xs ys : List Arg) → SameRules x y
    → ((k : ℕ) (e g : Arg) → k < length xs → SameRules (slice_index_or xs k e) (slice_index_or ys k g))
    → (k : ℕ) (e g : Arg) → k < length (x ∷ xs) → SameRules (slice_index_or (x ∷ xs) k e) (slice_index_or (y ∷ ys) k g)
chain_places x y xs ys r rest k e g lt = grind (arith, common_steps)

chain_facts : (c d : Command) (xs : List Arg) → AddsInTurn AddsArg c xs d → All FitsChain xs → IsPlain c
    → (out-Command c).has_globals ≡ false
    → (ys : List Arg) × (args_of d ≡ args_of c ++ ys) × KeepsList xs ys × IsPlain d × ((out-Command d).has_globals ≡ false)
chain_facts c d [] h all plain globals =
    ([], rw h (sym (append-nil _)), (refl, (λ k e f lt. absurd (omega arith))), rw (← h) plain, rw (← h) globals)
chain_facts c d (x ∷ xs) h all plain globals =
    let added = h.1 in
    let fit = all 0 x (omega arith) in
    let plain2 = added_plain c h.0 x added plain fit.0 in
    let globals2 = added.globals ∙ (ap (λ b. b || x.global) globals ∙ ap (λ b. false || b) fit.1) in
    let f = chain_facts h.0 d xs h.2 (all_rest FitsChain x xs all) plain2 globals2 in (
      added.arg ∷ f.0,
      f.1 ∙ (ap (λ l. l ++ f.0) added.args ∙ append_assoc (args_of c) (added.arg ∷ []) f.0),
      (ap suc f.2.0, chain_places x added.arg xs f.0 added.rules f.2.1),
      f.3,
      f.4,
    )

head_read : (P : Bor (List ℕ) → Type 0) (how : Reading) (vs : List (Bor (List ℕ))) (t : List ℕ) → All P vs
    → option_map (λ s. read_as how s.now) (slice_get vs 0) ≡ Some t
    → (v : Bor (List ℕ)) × (t ≡ read_as how v.now) × P v
head_read P how [] t h some = cc
head_read P how (v ∷ vs) t h some =
    let same : read_as how v.now ≡ t = cc in
    (v, sym same, All-get_or P (v ∷ vs) 0 v (omega arith) h)

-- an argument with the id of the caller's argument is read as the caller's parser says
only_reading : (old : Command) (m : ArgMatches) (p : IsParsedFrom old m) (k : ℕ) (d : Arg) → k < length (args_of old)
    → ((j : ℕ) (e : Arg) → j < length (args_of old)
    → bytes_eq (slice_index_or (args_of old) j e).id.now (slice_index_or (args_of old) k d).id.now ≡ true → j ≡ k)
    → (IsAuto (slice_index_or (args_of old) k d) → ⊥)
    → (q : ValueParser) → (slice_index_or (args_of old) k d).value_parser ≡ Some q
    → (r : Reading) → HasReading p.built (slice_index_or (args_of old) k d).id.now r → r ≡ reading_of q
only_reading old m p k d lt unique own q parser r any =
    let s = same_rules_by_id old m p k d lt unique own any.0 any.1 any.2 any.3 any.4.0 in
    let is_q : parser_of any.1 ≡ q = ap parser_of_value (s.parser q parser) in
    sym any.4.1 ∙ ap reading_of is_q

accepts_of : (a y : Arg) (q : ValueParser) (t : List ℕ) → SameRules a y → a.value_parser ≡ Some q
    → Accepts y.ignore_case (parser_of y) t → Accepts a.ignore_case q t
accepts_of a y q t s parser read = grind (arith, common_steps)

passes_read : (old : Command) (m : ArgMatches) (p : IsParsedFrom old m) (k : ℕ) (d : Arg) → k < length (args_of old)
    → ((j : ℕ) (e : Arg) → j < length (args_of old)
    → bytes_eq (slice_index_or (args_of old) j e).id.now (slice_index_or (args_of old) k d).id.now ≡ true → j ≡ k)
    → (IsAuto (slice_index_or (args_of old) k d) → ⊥)
    → (q : ValueParser) → (slice_index_or (args_of old) k d).value_parser ≡ Some q
    → (v : Bor (List ℕ)) → PassesArg p.built (slice_index_or (args_of old) k d).id.now v.now
    → Accepts (slice_index_or (args_of old) k d).ignore_case q v.now
passes_read old m p k d lt unique own q parser v pass =
    accepts_of _ pass.1 q v.now (same_rules_by_id old m p k d lt unique own pass.0 pass.1 pass.2 pass.3 pass.4.0) parser pass.4.1

-- what one entry gives
entry_gives : (c : Command) (id : List ℕ) (Q : List ℕ → Type 0) (how : Reading) (x : MatchedArg) (e : Entry) (t : List ℕ)
    → groups_of c ≡ [] → (id ≡ [] → ⊥) → ((r : Reading) → HasReading c id r → r ≡ how)
    → ((v : Bor (List ℕ)) → PassesArg c id v.now → Q v.now)
    → option_map (λ s. read_as x.reading s.now) (slice_get x.vals.items 0) ≡ Some t
    → e.1 ≡ x → e.0.now ≡ id → EntryPasses c e
    → (v : List ℕ) × (t ≡ read_as how v) × Q v
entry_gives c id Q how x e t no_groups named reads read head same_x key pass =
    let no_group : e.1.is_group ≡ true → ⊥ = λ g. elim (pass.3 g) [
      | inl empty ↦ named (sym key ∙ empty)
      | inr lots ↦
          let bad : 0 < 0 = rw no_groups at lots in
          absurd (omega arith)
    ] in
    let all : All (λ v. PassesArg c id v.now) x.vals.items = elim pass.0 [
      | inl g ↦ absurd (no_group g)
      | inr vals ↦ subst (λ (w : List ℕ). All (λ v. PassesArg c w v.now) x.vals.items) key (rw same_x at vals)
    ] in
    let is : e.1.reading ≡ how = elim pass.4 [
      | inl g ↦ absurd (no_group g)
      | inr h ↦ reads e.1.reading (subst (λ (w : List ℕ). HasReading c w e.1.reading) key h)
    ] in
    finish (head_read (λ v. PassesArg c id v.now) x.reading x.vals.items t all head) (ap (λ (y : MatchedArg). y.reading) (sym same_x) ∙ is)
  where
    finish : ((v : Bor (List ℕ)) × (t ≡ read_as x.reading v.now) × PassesArg c id v.now)
        → x.reading ≡ how → (v : List ℕ) × (t ≡ read_as how v) × Q v
    finish hd is = (hd.0.now, hd.1 ∙ ap (λ (r : Reading). read_as r hd.0.now) is, read hd.0 hd.2)

-- what is read of an argument of a command was accepted by its parser
read_of : (old : Command) (m : ArgMatches) (p : IsParsedFrom old m) → IsPlain old → (out-Command old).has_globals ≡ false
    → (k : ℕ) (d : Arg) → k < length (args_of old)
    → ((j : ℕ) (e : Arg) → j < length (args_of old)
    → bytes_eq (slice_index_or (args_of old) j e).id.now (slice_index_or (args_of old) k d).id.now ≡ true → j ≡ k)
    → ((slice_index_or (args_of old) k d).id.now ≡ [] → ⊥) → (IsAuto (slice_index_or (args_of old) k d) → ⊥)
    → (q : ValueParser) → (slice_index_or (args_of old) k d).value_parser ≡ Some q
    → (t : List ℕ) → one_text (found_of m) (slice_index_or (args_of old) k d).id.now ≡ Some t
    → (v : List ℕ) × (t ≡ read_as (reading_of q) v) × Accepts (slice_index_or (args_of old) k d).ignore_case q v
read_of old m p plain globals k d lt unique named own q parser t text =
    go (matched_of (found_of m) (slice_index_or (args_of old) k d).id.now) refl (p.parsed (p.from.globals ∙ globals))
  where
    go : (o : Option MatchedArg) → matched_of (found_of m) (slice_index_or (args_of old) k d).id.now ≡ o
        → IsParsed p.built (found_of m) (has_subcommand m)
        → (v : List ℕ) × (t ≡ read_as (reading_of q) v) × Accepts (slice_index_or (args_of old) k d).ignore_case q v
    go None e parsed =
        let bad : None ≡ Some t = rw e at text in
        cc
    go (Some x) e parsed =
        let got = entry_by_id (EntryPasses p.built) (found_of m).entries.items (slice_index_or (args_of old) k d).id.now x
        parsed.values e in
        entry_gives p.built (slice_index_or (args_of old) k d).id.now
        (λ (v : List ℕ). Accepts (slice_index_or (args_of old) k d).ignore_case q v) (reading_of q) x got.0 t
        (p.from.plain plain).1 named (only_reading old m p k d lt unique own q parser) (passes_read old m p k d lt unique own q parser)
        (rw e at text) got.1 ((bytes_eq-Decides got.0.0.now (slice_index_or (args_of old) k d).id.now).0 got.2) got.3

-- and so of an argument of a chain of `.arg(..)` calls
pub read_in_chain : (start cmd : Command) (xs : List Arg) (k : ℕ) (d : Arg) (m : ArgMatches) → AddsInTurn AddsArg start xs cmd
    → args_of start ≡ [] → groups_of start ≡ [] → (out-Command start).has_globals ≡ false
    → All FitsChain xs → HasDistinctIds xs → k < length xs → IsParsedFrom cmd m
    → (q : ValueParser) → (slice_index_or xs k d).value_parser ≡ Some q
    → (t : List ℕ) → one_text (found_of m) (slice_index_or xs k d).id.now ≡ Some t
    → (v : List ℕ) × (t ≡ read_as (reading_of q) v) × Accepts (slice_index_or xs k d).ignore_case q v
read_in_chain start cmd xs k d m chain args groups globals all distinct lt p q parser t text =
    let start-plain : IsPlain start = (subst (All IsPlainArg) (sym args) (All-nil IsPlainArg), groups) in
    let f = chain_facts start cmd xs chain all start-plain globals in
    let list : args_of cmd ≡ f.0 = f.1 ∙ ap (λ l. l ++ f.0) args in
    let a = slice_index_or xs k d in
    let b = slice_index_or (args_of cmd) k d in
    let elem : b ≡ slice_index_or f.0 k d = ap (λ l. slice_index_or l k d) list in
    let rules = f.2.1 k d d lt in
    let fit = all k d lt in
    let len : length (args_of cmd) ≡ length xs = ap length list ∙ f.2.0 in
    let in-cmd : k < length (args_of cmd) = omega arith in
    let same-id : b.id ≡ a.id = ap (λ x. x.id) elem ∙ rules.id in
    let same-now : b.id.now ≡ a.id.now = ap (λ x. x.now) same-id in
    let only : (j : ℕ) (e : Arg) → j < length (args_of cmd) → bytes_eq (slice_index_or (args_of cmd) j e).id.now b.id.now ≡ true → j ≡ k =
    λ j e low same.
    let in-xs : j < length xs = omega arith in
    let there : (slice_index_or (args_of cmd) j e).id ≡ (slice_index_or xs j e).id =
    ap (λ x. x.id) (ap (λ l. slice_index_or l j e) list) ∙ (f.2.1 j e e in-xs).id in
    distinct j k d e in-xs lt (rw (← ap (λ x. x.now) there, ← same-now) same) in
    let got = read_of cmd m p f.3 f.4 k d in-cmd only (λ empty. fit.2 (sym same-now ∙ empty))
    (λ auto. fit.3 (elim auto [ inl h ↦ inl (sym same-now ∙ h) | inr h ↦ inr (sym same-now ∙ h) ]))
    q (ap (λ x. x.value_parser) elem ∙ rules.parser q parser) t (rw same-now text) in
    (got.0, got.1, subst (λ (c : Bool). Accepts c q got.0) (ap (λ x. x.ignore_case) elem ∙ rules.ignore_case) got.2)

-- a number that was read, or that of the default in its place, lies in the range of its parser and is the one that the text says
pub number_read : (E : Type 0) (G : List ℕ → Result ℕ E → Type 0) (low high other : ℕ) (default : List ℕ) (o : Option (List ℕ))
    (r : Option ℕ) (n : ℕ)
    → (o ≡ None → r ≡ None) → ((t : List ℕ) → o ≡ Some t → ReadsOne G t r)
    → ((u : List ℕ) (x : Result ℕ E) → G u x → ParsesUnsigned 32 10 u x) → high < 2 ^ 32
    → ((t : List ℕ) → o ≡ Some t → (v : List ℕ) × (t ≡ without_minus v) × IsSignedIn (pos low) (pos high) v)
    → low ≤ other → other ≤ high → other ≡ digits_value 10 (without_leading_plus default) → n ≡ unwrap_or r other
    → (low ≤ n) × (n ≤ high) × (n ≡ digits_value 10 (without_leading_plus (unwrap_or o default)))
number_read E G low high other default None r n none value only fits read least most says is =
    let n_is : n ≡ other = is ∙ ap (λ (v : Option ℕ). unwrap_or v other) (none refl) in
    (rw n_is least, rw n_is most, n_is ∙ says)
number_read E G low high other default (Some t) r n none value only fits read least most says is =
    let got = read t refl in
    let one = signed_reads E G 32 low high got.0 r (subst (λ (u : List ℕ). ReadsOne G u r) got.1 (value t refl)) only fits got.2 in
    let given : G t (Ok one.0) = subst (λ (v : Option ℕ). ReadsOne G t v) one.1 (value t refl) in
    let n_is : n ≡ one.0 = is ∙ ap (λ (v : Option ℕ). unwrap_or v other) one.1 in
    (rw n_is one.2, rw n_is one.3, n_is ∙ (only t (Ok one.0) given).1)
