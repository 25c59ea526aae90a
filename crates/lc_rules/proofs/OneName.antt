-- What is decided for one name needs to know of the decided macros alone.
use Rattle.std.proofs.Common.{◌≡◌, ℕ, zero, suc, ◌+◌, length, Bool, true, false, cond, List, [], ◌∷◌, ◌++◌, reverse, Option, Some, None}
use Rattle.std.proofs.Common.{is_some, unwrap_or, refl, sym, ◌∙◌, ap, subst}
use Rattle.std.specs.Str.{bytes_eq}
use Rattle.lc_rules.specs.{Attributes.{StateModel, set, unset, value, unspecified, AssignmentModel, MacroModel}, Decision.{decided, has}}
use Rattle.lc_rules.specs.{Decision.{macro_of, expansion, decide_within, decide, unread}, Resolving.{marked, is_marked, answer}}
use Rattle.lc_rules.proofs.DecisionLaws.{same_bytes, decide_none, decide_skip, decide_take, more_steps, more_steps_after}

-- what is decided stays
keep_first : (a : AssignmentModel) (d : List AssignmentModel) (w : List ℕ) (s : StateModel) (b : Bool) → bytes_eq a.0 w ≡ b
    → has d a.0 ≡ false → decided d w ≡ Some s → cond b (Some a.1) (decided d w) ≡ Some s
keep_first a d w s true e h p = absurd (let q : a.0 ≡ w = same_bytes a.0 w e in let r : has d a.0 ≡ true = ap (has d) q
    ∙ ap is_some p in cc)
keep_first a d w s false e h p = p

keep_step : (ms : List MacroModel) (w : List ℕ) (s : StateModel) (k : ℕ) (a : AssignmentModel) (r d : List AssignmentModel) (b : Bool)
    → has d a.0 ≡ b → decided d w ≡ Some s → ((todo e : List AssignmentModel) → decided e w ≡ Some s
    → decided (decide_within ms k todo e) w ≡ Some s)
    → decided (cond b (decide_within ms k r d) (decide_within ms k (expansion ms a ++ r) (a ∷ d))) w ≡ Some s
keep_step ms w s k a r d true e p f = f r d p
keep_step ms w s k a r d false e p f = f (expansion ms a ++ r) (a ∷ d) (keep_first a d w s (bytes_eq a.0 w) refl e p)

keep_within : (ms : List MacroModel) (w : List ℕ) (s : StateModel) (k : ℕ) (todo d : List AssignmentModel) → decided d w ≡ Some s
    → decided (decide_within ms k todo d) w ≡ Some s
keep_within ms w s zero todo d p = p
keep_within ms w s (suc k) [] d p = p
keep_within ms w s (suc k) (a ∷ r) d p = keep_step ms w s k a r d (has d a.0) refl p (keep_within ms w s k)

keep_all : (ms : List MacroModel) (w : List ℕ) (s : StateModel) (todo d : List AssignmentModel) → decided d w ≡ Some s
    → decided (decide ms todo d) w ≡ Some s
unfolding decide
keep_all ms w s todo d p = keep_within ms w s (length todo + unread ms d) todo d p

-- the name is open in both, and both have the same macros
record Alike (ms : List MacroModel) (w : List ℕ) (d e : List AssignmentModel) : Type 0 where
  left : decided d w ≡ None
  right : decided e w ≡ None
  macros : (n : List ℕ) → is_some (macro_of ms n) ≡ true → has d n ≡ has e n

open_first : (a : AssignmentModel) (d : List AssignmentModel) (w : List ℕ) → bytes_eq a.0 w ≡ false → decided d w ≡ None
    → decided (a ∷ d) w ≡ None
open_first a d w e p = ap (λ b. cond b (Some a.1) (decided d w)) e ∙ p

both_has : (a c : AssignmentModel) (d e : List AssignmentModel) (b : Bool) (n : List ℕ) → has d n ≡ has e n
    → is_some (cond b (Some a.1) (decided d n)) ≡ is_some (cond b (Some c.1) (decided e n))
both_has a c d e true n h = refl
both_has a c d e false n h = h

alike_both : (ms : List MacroModel) (w : List ℕ) (n : List ℕ) (s t : StateModel) (d e : List AssignmentModel) → bytes_eq n w ≡ false
    → Alike ms w d e → Alike ms w ((n, s) ∷ d) ((n, t) ∷ e)
alike_both ms w n s t d e o h = record {
  left = open_first (n, s) d w o h.left;
  right = open_first (n, t) e w o h.right;
  macros = λ m k. both_has (n, s) (n, t) d e (bytes_eq n m) m (h.macros m k);
}

plain_has : (ms : List MacroModel) (a : AssignmentModel) (d : List AssignmentModel) (b : Bool) (m : List ℕ) → bytes_eq a.0 m ≡ b
    → is_some (macro_of ms a.0) ≡ false → is_some (macro_of ms m) ≡ true → is_some (cond b (Some a.1) (decided d m)) ≡ has d m
plain_has ms a d true m e p q = absurd (let n : a.0 ≡ m = same_bytes a.0 m e in let r : is_some (macro_of ms a.0)
    ≡ is_some (macro_of ms m) = ap (λ x. is_some (macro_of ms x)) n in cc)
plain_has ms a d false m e p q = refl

alike_left : (ms : List MacroModel) (w : List ℕ) (a : AssignmentModel) (d e : List AssignmentModel) → bytes_eq a.0 w ≡ false
    → is_some (macro_of ms a.0) ≡ false → Alike ms w d e → Alike ms w (a ∷ d) e
alike_left ms w a d e o p h = record {
  left = open_first a d w o h.left;
  right = h.right;
  macros = λ m k. plain_has ms a d (bytes_eq a.0 m) m refl p k ∙ h.macros m k;
}

alike_swap : (ms : List MacroModel) (w : List ℕ) (d e : List AssignmentModel) → Alike ms w d e → Alike ms w e d
alike_swap ms w d e h = record { left = h.right; right = h.left; macros = λ m k. sym (h.macros m k) }

no_body : (o : Option (List AssignmentModel)) → is_some o ≡ false → reverse (unwrap_or o []) ≡ []
no_body None e = refl
no_body (Some x) e = absurd (cc)

no_expansion : (ms : List MacroModel) (a : AssignmentModel) → is_some (macro_of ms a.0) ≡ false → expansion ms a ≡ []
no_expansion ms (n, set) e = no_body (macro_of ms n) e
no_expansion ms (n, unset) e = refl
no_expansion ms (n, value v) e = refl
no_expansion ms (n, unspecified) e = refl

abbrev Next : List MacroModel → ℕ → AssignmentModel → List AssignmentModel → List AssignmentModel → Bool → List AssignmentModel
Next ms k a r d b = cond b (decide_within ms k r d) (decide_within ms k (expansion ms a ++ r) (a ∷ d))

abbrev Agree : List MacroModel → List ℕ → ℕ → Type 0
Agree ms w k =
    (todo d e : List AssignmentModel) → Alike ms w d e → decided (decide_within ms k todo d) w ≡ decided (decide_within ms k todo e) w

first_is : (a : AssignmentModel) (d : List AssignmentModel) (w : List ℕ) → bytes_eq a.0 w ≡ true → decided (a ∷ d) w ≡ Some a.1
first_is a d w e = ap (λ b. cond b (Some a.1) (decided d w)) e

-- the name itself is decided
next_wanted : (ms : List MacroModel) (w : List ℕ) (k : ℕ) (a : AssignmentModel) (r d : List AssignmentModel) (b : Bool) → has d a.0 ≡ b
    → bytes_eq a.0 w ≡ true → decided d w ≡ None → decided (Next ms k a r d b) w ≡ Some a.1
next_wanted ms w k a r d true h o p = absurd (let q : has d a.0 ≡ false = ap (has d) (same_bytes a.0 w o) ∙ ap is_some p in cc)
next_wanted ms w k a r d false h o p = keep_within ms w a.1 k (expansion ms a ++ r) (a ∷ d) (first_is a d w o)

-- a macro
next_macro : (ms : List MacroModel) (w : List ℕ) (k : ℕ) → Agree ms w k
    → (a : AssignmentModel) (r d e : List AssignmentModel) (b c : Bool) → bytes_eq a.0 w ≡ false → b ≡ c → Alike ms w d e
    → decided (Next ms k a r d b) w ≡ decided (Next ms k a r e c) w
next_macro ms w k f a r d e true true o q h = f r d e h
next_macro ms w k f a r d e true false o q h = absurd (cc)
next_macro ms w k f a r d e false true o q h = absurd (cc)
next_macro ms w k f a r d e false false o q h = f (expansion ms a ++ r) (a ∷ d) (a ∷ e) (alike_both ms w a.0 a.1 a.1 d e o h)

-- another name
next_plain : (ms : List MacroModel) (w : List ℕ) (k : ℕ) → Agree ms w k
    → (a : AssignmentModel) (r d e : List AssignmentModel) (b c : Bool) → bytes_eq a.0 w ≡ false → expansion ms a ≡ []
    → is_some (macro_of ms a.0) ≡ false → Alike ms w d e
    → decided (cond b (decide_within ms k r d) (decide_within ms k r (a ∷ d))) w
    ≡ decided (cond c (decide_within ms k r e) (decide_within ms k r (a ∷ e))) w
next_plain ms w k f a r d e true true o x p h = f r d e h
next_plain ms w k f a r d e true false o x p h =
    f r d (a ∷ e) (alike_swap ms w (a ∷ e) d (alike_left ms w a e d o p (alike_swap ms w d e h)))
next_plain ms w k f a r d e false true o x p h = f r (a ∷ d) e (alike_left ms w a d e o p h)
next_plain ms w k f a r d e false false o x p h = f r (a ∷ d) (a ∷ e) (alike_both ms w a.0 a.1 a.1 d e o h)

next_other : (ms : List MacroModel) (w : List ℕ) (k : ℕ) → Agree ms w k
    → (a : AssignmentModel) (r d e : List AssignmentModel) (m : Bool) → bytes_eq a.0 w ≡ false → is_some (macro_of ms a.0) ≡ m
    → Alike ms w d e → decided (Next ms k a r d (has d a.0)) w ≡ decided (Next ms k a r e (has e a.0)) w
next_other ms w k f a r d e true o p h = next_macro ms w k f a r d e (has d a.0) (has e a.0) o (h.macros a.0 p) h
next_other ms w k f a r d e false o p h =
    let x : expansion ms a ≡ [] = no_expansion ms a p in
    subst (λ (l : List AssignmentModel). decided (cond (has d a.0) (decide_within ms k r d) (decide_within ms k (l ++ r) (a ∷ d))) w
    ≡ decided (cond (has e a.0) (decide_within ms k r e) (decide_within ms k (l ++ r) (a ∷ e))) w)
    (sym x) (next_plain ms w k f a r d e (has d a.0) (has e a.0) o x p h)

next_alike : (ms : List MacroModel) (w : List ℕ) (k : ℕ) → Agree ms w k
    → (a : AssignmentModel) (r d e : List AssignmentModel) (o : Bool) → bytes_eq a.0 w ≡ o → Alike ms w d e
    → decided (Next ms k a r d (has d a.0)) w ≡ decided (Next ms k a r e (has e a.0)) w
next_alike ms w k f a r d e true o h =
    next_wanted ms w k a r d (has d a.0) refl o h.left ∙ sym (next_wanted ms w k a r e (has e a.0) refl o h.right)
next_alike ms w k f a r d e false o h = next_other ms w k f a r d e (is_some (macro_of ms a.0)) o refl h

agree : (ms : List MacroModel) (w : List ℕ) (k : ℕ) → Agree ms w k
agree ms w zero todo d e h = h.left ∙ sym h.right
agree ms w (suc k) [] d e h = h.left ∙ sym h.right
agree ms w (suc k) (a ∷ r) d e h = next_alike ms w k (agree ms w k) a r d e (bytes_eq a.0 w) refl h

-- with as many steps as either needs
agree_all : (ms : List MacroModel) (w : List ℕ) (todo d e : List AssignmentModel) → Alike ms w d e
    → decided (decide ms todo d) w ≡ decided (decide ms todo e) w
agree_all ms w todo d e h =
    ap (λ l. decided l w) (more_steps ms todo d (unread ms e)) ∙ agree ms w (length todo + unread ms d + unread ms e) todo d e h
    ∙ sym (ap (λ l. decided l w) (more_steps_after ms todo e (unread ms d)))

open_is : (d : List AssignmentModel) (w : List ℕ) (o : Option StateModel) → decided d w ≡ o → is_some o ≡ false → decided d w ≡ None
open_is d w None e p = e
open_is d w (Some s) e p = absurd (cc)

open_marked : (ns : List (List ℕ)) (w : List ℕ) → is_marked ns w ≡ false → decided (marked ns) w ≡ None
open_marked ns w p = open_is (marked ns) w (decided (marked ns) w) refl p

same_alike : (ms : List MacroModel) (w : List ℕ) (d : List AssignmentModel) → decided d w ≡ None → Alike ms w d d
same_alike ms w d p = record { left = p; right = p; macros = λ n h. refl }

-- the laws by which one name is looked for
pub answer_wanted : (ms : List MacroModel) (w : List ℕ) (a : AssignmentModel) (r : List AssignmentModel) (ns : List (List ℕ))
    → bytes_eq a.0 w ≡ true → is_marked ns w ≡ false → answer ms w (a ∷ r) ns ≡ Some a.1
answer_wanted ms w a r ns e p =
    ap (λ l. decided l w) (decide_take ms a r (marked ns) (ap (has (marked ns)) (same_bytes a.0 w e) ∙ p))
    ∙ keep_all ms w a.1 (expansion ms a ++ r) (a ∷ marked ns) (first_is a (marked ns) w e)

-- an assignment of a marked name says nothing
pub answer_seen : (ms : List MacroModel) (w : List ℕ) (a : AssignmentModel) (r : List AssignmentModel) (ns : List (List ℕ))
    → is_marked ns a.0 ≡ true → answer ms w (a ∷ r) ns ≡ answer ms w r ns
answer_seen ms w a r ns e = ap (λ l. decided l w) (decide_skip ms a r (marked ns) e)

-- one of a macro is followed by what this stands for
pub answer_macro : (ms : List MacroModel) (w : List ℕ) (a : AssignmentModel) (r : List AssignmentModel) (ns : List (List ℕ))
    → bytes_eq a.0 w ≡ false → is_marked ns w ≡ false → is_marked ns a.0 ≡ false
    → answer ms w (a ∷ r) ns ≡ answer ms w (expansion ms a ++ r) (a.0 ∷ ns)
answer_macro ms w a r ns o p e =
    ap (λ l. decided l w) (decide_take ms a r (marked ns) e)
    ∙ agree_all ms w (expansion ms a ++ r) (a ∷ marked ns) ((a.0, set) ∷ marked ns)
    (alike_both ms w a.0 a.1 set (marked ns) (marked ns) o (same_alike ms w (marked ns) (open_marked ns w p)))

plain_cases : (ms : List MacroModel) (w : List ℕ) (a : AssignmentModel) (r : List AssignmentModel) (ns : List (List ℕ)) (b : Bool)
    → is_marked ns a.0 ≡ b → bytes_eq a.0 w ≡ false → is_marked ns w ≡ false → is_some (macro_of ms a.0) ≡ false
    → answer ms w (a ∷ r) ns ≡ answer ms w r ns
plain_cases ms w a r ns true e o p q = answer_seen ms w a r ns e
plain_cases ms w a r ns false e o p q =
    ap (λ l. decided l w) (decide_take ms a r (marked ns) e)
    ∙ ap (λ x. decided (decide ms (x ++ r) (a ∷ marked ns)) w) (no_expansion ms a q)
    ∙ agree_all ms w r (a ∷ marked ns) (marked ns)
    (alike_left ms w a (marked ns) (marked ns) o q (same_alike ms w (marked ns) (open_marked ns w p)))

-- one of another name that is no macro says nothing
pub answer_plain : (ms : List MacroModel) (w : List ℕ) (a : AssignmentModel) (r : List AssignmentModel) (ns : List (List ℕ))
    → bytes_eq a.0 w ≡ false → is_marked ns w ≡ false → is_some (macro_of ms a.0) ≡ false → answer ms w (a ∷ r) ns ≡ answer ms w r ns
answer_plain ms w a r ns o p q = plain_cases ms w a r ns (is_marked ns a.0) refl o p q

-- no assignment leaves the name unspecified
pub answer_none : (ms : List MacroModel) (w : List ℕ) (ns : List (List ℕ)) → is_marked ns w ≡ false → answer ms w [] ns ≡ None
answer_none ms w ns p = ap (λ l. decided l w) (decide_none ms (marked ns)) ∙ open_marked ns w p

-- a mark of another name leaves the name unmarked
pub mark_other : (n : List ℕ) (ns : List (List ℕ)) (w : List ℕ) → bytes_eq n w ≡ false → is_marked ns w ≡ false
    → is_marked (n ∷ ns) w ≡ false
mark_other n ns w o p = ap (λ b. is_some (cond b (Some set) (decided (marked ns) w))) o ∙ p

-- the same names are marked
abbrev pub SameMarks : List (List ℕ) → List (List ℕ) → Type 0
SameMarks ns os = (n : List ℕ) → is_marked ns n ≡ is_marked os n

-- the answer depends on which names are marked, not on their order
pub answer_same : (ms : List MacroModel) (w : List ℕ) (todo : List AssignmentModel) (ns os : List (List ℕ)) → SameMarks ns os
    → is_marked os w ≡ false → answer ms w todo ns ≡ answer ms w todo os
answer_same ms w todo ns os h p = agree_all ms w todo (marked ns) (marked os)
    (record { left = open_marked ns w (h w ∙ p); right = open_marked os w p; macros = λ n k. h n })

-- so does how many macros are unread
pub unread_same : (ms : List MacroModel) (d e : List AssignmentModel) → ((n : List ℕ) → has d n ≡ has e n) → unread ms d ≡ unread ms e
unread_same [] d e h = refl
unread_same (m ∷ ms) d e h = ap (λ b. cond b 0 (suc (length m.1)) + unread ms d) (h m.0)
    ∙ ap (λ n. cond (has e m.0) 0 (suc (length m.1)) + n) (unread_same ms d e h)
