-- What a file of memory gives is as its values say.
use Rattle.std.proofs.Common.{◌≡◌, ℕ, ◌<◌, Bool, true, false, cond, nat_lt, List, length, Some, Result, Ok, Err, refl, sym, ◌∙◌, ap}
use Rattle.std.proofs.{Common.{subst, arith, length-append}, lemmas.Bool.{lt-ltb, le-ltb}}
use Rattle.std.specs.List.{concat}
use Rattle.lc_census.specs.{Census.IsCensus, TheCutting.cut}
use Rattle.lc_census.proofs.OneCutting.{cut_is}
use Rattle.lc_level.specs.{FileAnswers.{census, counted, read_as_rules}, FileReads.{MayCount, MayReadRules}}
use Rattle.lc_level.specs.declared.fault_word.FaultWord.{FaultWord, TheVariants.{Read, Name, Twice, Many, Long, Endless, Absent}}
use Rattle.lc_level.proofs.SomeReads.{one_piece, is_some, joined, filled, held_rules}
use Rattle.lc_tree.specs.Trees.{Content, GivesContent}

-- it may be counted so
pub may_count : (c : Content) → MayCount (GivesContent c) (counted c)
may_count c = at c.fails refl
  where
    at : (fails : Bool) → c.fails ≡ fails → MayCount (GivesContent c) (cond fails (Err Read) (Ok (census c.bytes)))
    at true e = (one_piece c.bytes, (is_some c.bytes, joined c.bytes, e, filled (Some 65536) c.bytes))
    at false e =
        let is : IsCensus c.bytes (census c.bytes) = (cut c.bytes, cut_is c.bytes, refl) in (
          one_piece c.bytes,
          (is_some c.bytes, joined c.bytes, e, filled (Some 65536) c.bytes),
          subst (λ (l : List ℕ). IsCensus l (census c.bytes))
              (sym (joined c.bytes)) is,
        )

by_tests : (c : Content) (long fails : Bool) → nat_lt 1048576 (length c.bytes) ≡ long → c.fails ≡ fails
    → read_as_rules c ≡ cond long (Err Long) (cond fails (Err Read) (Ok c.bytes))
by_tests c long fails e f =
    ap (λ b. cond b (Err Long) (cond c.fails (Err Read) (Ok c.bytes))) e ∙ ap (λ b. cond long (Err Long) (cond b (Err Read) (Ok c.bytes))) f

-- reading it as rules gives this and nothing else
rules_are : (c : Content) (r : Result (List ℕ) FaultWord) → MayReadRules (GivesContent c) r → r ≡ read_as_rules c
rules_are c (Ok bytes) m =
    let same : c.bytes ≡ bytes = sym m.1.1 ∙ m.2 in
    ap Ok (sym same) ∙ sym (by_tests c false false (le-ltb 1048576 (length c.bytes) (omega (arith, ap length same, m.3))) m.1.2)
rules_are c (Err Read) m = sym (by_tests c false true (le-ltb 1048576 (length c.bytes) (omega (arith, ap length m.1.1, m.2))) m.1.2)
rules_are c (Err Long) m =
    let more : 1048576 < length c.bytes = omega (arith, m.2, length-append (concat m.0) m.1.1.0, ap length m.1.1.1) in
    sym (ap (λ b. cond b (Err Long) (cond c.fails (Err Read) (Ok c.bytes))) (lt-ltb 1048576 (length c.bytes) more))
rules_are c (Err Endless) m = absurd m
rules_are c (Err Absent) m = absurd m
rules_are c (Err Name) m = absurd m
rules_are c (Err Twice) m = absurd m
rules_are c (Err Many) m = absurd m

-- it may be read so as rules
pub may_read_rules : (c : Content) → MayReadRules (GivesContent c) (read_as_rules c)
may_read_rules c = subst (MayReadRules (GivesContent c)) (rules_are c (held_rules c).0 (held_rules c).1) (held_rules c).1
