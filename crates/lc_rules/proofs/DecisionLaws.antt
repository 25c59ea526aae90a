-- The decision keeps its equations, with enough steps.
use Rattle.std.proofs.Common.{◌≡◌, ◌≤◌, ℕ, zero, suc, ◌+◌, Bool, true, false, cond, List, [], ◌∷◌, ◌++◌, length, reverse, Option, Some}
use Rattle.std.proofs.{Common.{None, is_some, unwrap_or, refl, sym, ◌∙◌, ap, arith, length-append}, lemmas.List.length-reverse}
use Rattle.std.proofs.lemmas.Slice.Eq.{bytes_eq-Decides}
use Rattle.std.specs.Str.{bytes_eq}
use Rattle.lc_rules.specs.{Attributes.{StateModel, set, unset, value, unspecified, AssignmentModel, MacroModel}, Decision.{decided, has}}
use Rattle.lc_rules.specs.Decision.{later, macro_of, expansion, decide_within, unread, decide, IsDecision, DecidesByEquations}

-- bytes that compare equal are equal
pub same_bytes : (m n : List ℕ) → bytes_eq m n ≡ true → m ≡ n
same_bytes m n e = (bytes_eq-Decides m n).0 e

-- equal bytes compare equal
pub bytes_self : (m n : List ℕ) → m ≡ n → bytes_eq m n ≡ true
bytes_self m n e = (bytes_eq-Decides m n).1 e

has_first : (a : AssignmentModel) (d : List AssignmentModel) (n : List ℕ) → has d n ≡ true → has (a ∷ d) n ≡ true
has_first a d n h = elim (bytes_eq a.0 n) as (λ b. is_some (cond b (Some a.1) (decided d n)) ≡ true) [ true ↦ refl | false ↦ h ]

has_same : (a : AssignmentModel) (d : List AssignmentModel) (n : List ℕ) → bytes_eq a.0 n ≡ true → has (a ∷ d) n ≡ true
has_same a d n e = ap (λ b. is_some (cond b (Some a.1) (decided d n))) e

cond_less : (b c : Bool) (x : ℕ) → (b ≡ true → c ≡ true) → cond c 0 x ≤ cond b 0 x
cond_less true true x f = omega arith
cond_less false true x f = omega arith
cond_less false false x f = omega arith
cond_less true false x f = absurd (let e : false ≡ true = f refl in cc)

-- to decide one name more leaves no more macros unread
pub unread_less : (ms : List MacroModel) (a : AssignmentModel) (d : List AssignmentModel) → unread ms (a ∷ d) ≤ unread ms d
unread_less [] a d = omega arith
unread_less (m ∷ ms) a d = omega (arith, cond_less (has d m.0) (has (a ∷ d) m.0) (suc (length m.1)) (has_first a d m.0), unread_less ms a d)

-- the macro that is the last of a name is read once
abbrev Found : List MacroModel → AssignmentModel → List AssignmentModel → List AssignmentModel → Type 0
Found ms a d body = suc (length body) + unread ms (a ∷ d) ≤ unread ms d

found_here : (m : MacroModel) (ms : List MacroModel) (a : AssignmentModel) (d body : List AssignmentModel) → bytes_eq m.0 a.0 ≡ true
    → has d a.0 ≡ false → m.1 ≡ body → Found (m ∷ ms) a d body
found_here m ms a d body e h q =
    let n : m.0 ≡ a.0 = same_bytes m.0 a.0 e in
    let before : cond (has d m.0) 0 (suc (length m.1)) ≡ suc (length m.1) = ap (λ b. cond b 0 (suc (length m.1))) (ap (has d) n ∙ h) in
    let after : cond (has (a ∷ d) m.0) 0 (suc (length m.1)) ≡ 0 = ap (λ b. cond b 0 (suc (length m.1)))
    (has_same a d m.0 (bytes_self a.0 m.0 (sym n))) in
    omega (arith, before, after, ap length q, unread_less ms a d)

found_there : (m : MacroModel) (ms : List MacroModel) (a : AssignmentModel) (d body : List AssignmentModel) → Found ms a d body
    → Found (m ∷ ms) a d body
found_there m ms a d body h = omega (arith, h, cond_less (has d m.0) (has (a ∷ d) m.0) (suc (length m.1)) (has_first a d m.0))

found_cases : (m : MacroModel) (ms : List MacroModel) (a : AssignmentModel) (d body : List AssignmentModel)
    (o : Option (List AssignmentModel)) (b : Bool) → macro_of ms a.0 ≡ o → bytes_eq m.0 a.0 ≡ b → has d a.0 ≡ false
    → later o (cond b (Some m.1) None) ≡ Some body → (macro_of ms a.0 ≡ Some body → Found ms a d body) → Found (m ∷ ms) a d body
found_cases m ms a d body (Some x) b p q h e more = found_there m ms a d body (more (p ∙ e))
found_cases m ms a d body None true p q h e more = found_here m ms a d body q h (cc)
found_cases m ms a d body None false p q h e more = absurd (cc)

found_less : (ms : List MacroModel) (a : AssignmentModel) (d body : List AssignmentModel) → has d a.0 ≡ false
    → macro_of ms a.0 ≡ Some body → Found ms a d body
found_less [] a d body h e = absurd (cc)
found_less (m ∷ ms) a d body h e = found_cases m ms a d body (macro_of ms a.0) (bytes_eq m.0 a.0) refl refl h e (found_less ms a d body h)

body_less : (ms : List MacroModel) (n : List ℕ) (s : StateModel) (d : List AssignmentModel) (o : Option (List AssignmentModel))
    → macro_of ms n ≡ o → has d n ≡ false → length (reverse (unwrap_or o [])) + unread ms ((n, s) ∷ d) ≤ unread ms d
body_less ms n s d None e h = omega (arith, unread_less ms (n, s) d)
body_less ms n s d (Some body) e h = omega (arith, length-reverse body, found_less ms (n, s) d body h e)

-- one assignment is read with all of its macro's
pub expansion_less : (ms : List MacroModel) (a : AssignmentModel) (d : List AssignmentModel) → has d a.0 ≡ false
    → length (expansion ms a) + unread ms (a ∷ d) ≤ unread ms d
expansion_less ms (n, set) d h = body_less ms n set d (macro_of ms n) refl h
expansion_less ms (n, unset) d h = omega (arith, unread_less ms (n, unset) d)
expansion_less ms (n, value v) d h = omega (arith, unread_less ms (n, value v) d)
expansion_less ms (n, unspecified) d h = omega (arith, unread_less ms (n, unspecified) d)

within_none : (ms : List MacroModel) (k : ℕ) (d : List AssignmentModel) → decide_within ms k [] d ≡ d
within_none ms zero d = refl
within_none ms (suc k) d = refl

-- with enough steps their number does not matter
abbrev Same : List MacroModel → ℕ → ℕ → Type 0
Same ms k j = (todo d : List AssignmentModel) → length todo + unread ms d ≤ k → length todo + unread ms d ≤ j
    → decide_within ms k todo d ≡ decide_within ms j todo d

same_step : (ms : List MacroModel) (k j : ℕ) → Same ms k j → (a : AssignmentModel) (r d : List AssignmentModel) (b : Bool)
    → has d a.0 ≡ b → length r + unread ms d ≤ k → length r + unread ms d ≤ j
    → cond b (decide_within ms k r d) (decide_within ms k (expansion ms a ++ r) (a ∷ d)) ≡ cond b (decide_within ms j r d)
    (decide_within ms j (expansion ms a ++ r) (a ∷ d))
same_step ms k j f a r d true e p q = f r d p q
same_step ms k j f a r d false e p q =
    let less : length (expansion ms a) + unread ms (a ∷ d) ≤ unread ms d = expansion_less ms a d e in
    f (expansion ms a ++ r) (a ∷ d) (omega (arith, length-append (expansion ms a) r)) (omega (arith, length-append (expansion ms a) r))

enough : (ms : List MacroModel) (k j : ℕ) → Same ms k j
enough ms k j [] d p q = within_none ms k d ∙ sym (within_none ms j d)
enough ms zero j (a ∷ r) d p q = absurd (omega arith)
enough ms (suc k) zero (a ∷ r) d p q = absurd (omega arith)
enough ms (suc k) (suc j) (a ∷ r) d p q = same_step ms k j (enough ms k j) a r d (has d a.0) refl (omega arith) (omega arith)

-- the equations of the decision
pub decide_none : (ms : List MacroModel) (d : List AssignmentModel) → decide ms [] d ≡ d
unfolding decide
decide_none ms d = within_none ms (0 + unread ms d) d

decide_first : (ms : List MacroModel) (a : AssignmentModel) (r d : List AssignmentModel) (k : ℕ) → suc (length r) + unread ms d ≤ suc k
    → decide ms (a ∷ r) d ≡ cond (has d a.0) (decide_within ms k r d) (decide_within ms k (expansion ms a ++ r) (a ∷ d))
unfolding decide
decide_first ms a r d k p = enough ms (length (a ∷ r) + unread ms d) (suc k) (a ∷ r) d (omega arith) p

-- an assignment of a decided name is passed over
pub decide_skip : (ms : List MacroModel) (a : AssignmentModel) (r d : List AssignmentModel) → has d a.0 ≡ true
    → decide ms (a ∷ r) d ≡ decide ms r d
unfolding decide
decide_skip ms a r d e =
    decide_first ms a r d (length r + unread ms d) (omega arith)
    ∙ ap (λ b. cond b (decide_within ms (length r + unread ms d) r d)
    (decide_within ms (length r + unread ms d) (expansion ms a ++ r) (a ∷ d))) e

-- one of another name decides it, and what a macro of that name stands for comes next
pub decide_take : (ms : List MacroModel) (a : AssignmentModel) (r d : List AssignmentModel) → has d a.0 ≡ false
    → decide ms (a ∷ r) d ≡ decide ms (expansion ms a ++ r) (a ∷ d)
unfolding decide
decide_take ms a r d e =
    let k : ℕ = length r + unread ms d in
    let less : length (expansion ms a) + unread ms (a ∷ d) ≤ unread ms d = expansion_less ms a d e in
    let long : length (expansion ms a ++ r) ≡ length (expansion ms a) + length r = length-append (expansion ms a) r in
    decide_first ms a r d (length r + unread ms d) (omega arith)
    ∙ ap (λ b. cond b (decide_within ms (length r + unread ms d) r d)
    (decide_within ms (length r + unread ms d) (expansion ms a ++ r) (a ∷ d))) e
    ∙ enough ms (length r + unread ms d) (length (expansion ms a ++ r) + unread ms (a ∷ d)) (expansion ms a ++ r) (a ∷ d) (omega arith)
    (omega arith)

-- what keeps the equations is the decision
only_step : (ms : List MacroModel) (other : List AssignmentModel → List AssignmentModel → List AssignmentModel) → IsDecision ms other
    → (k : ℕ) → ((todo d : List AssignmentModel) → length todo + unread ms d ≤ k → other todo d ≡ decide ms todo d)
    → (a : AssignmentModel) (r d : List AssignmentModel) (b : Bool) → has d a.0 ≡ b → suc (length r) + unread ms d ≤ suc k
    → other (a ∷ r) d ≡ decide ms (a ∷ r) d
only_step ms other h k more a r d true e p = h.skip a r d e ∙ more r d (omega arith) ∙ sym (decide_skip ms a r d e)
only_step ms other h k more a r d false e p =
    let less : length (expansion ms a) + unread ms (a ∷ d) ≤ unread ms d = expansion_less ms a d e in
    let long : length (expansion ms a ++ r) ≡ length (expansion ms a) + length r = length-append (expansion ms a) r in
    h.take a r d e ∙ more (expansion ms a ++ r) (a ∷ d) (omega arith) ∙ sym (decide_take ms a r d e)

only_decision : (ms : List MacroModel) (other : List AssignmentModel → List AssignmentModel → List AssignmentModel)
    → IsDecision ms other → (k : ℕ) (todo d : List AssignmentModel) → length todo + unread ms d ≤ k → other todo d ≡ decide ms todo d
only_decision ms other h k [] d p = h.none d ∙ sym (decide_none ms d)
only_decision ms other h zero (a ∷ r) d p = absurd (omega arith)
only_decision ms other h (suc k) (a ∷ r) d p = only_step ms other h k (only_decision ms other h k) a r d (has d a.0) refl (omega arith)

-- the decision keeps its equations
pub keeps_equations : DecidesByEquations
keeps_equations ms = (
  record { none = decide_none ms; skip = decide_skip ms; take = decide_take ms },
  λ other h todo d. only_decision ms other h (length todo + unread ms d) todo d (omega arith),
)

-- more steps than are needed
pub more_steps : (ms : List MacroModel) (todo d : List AssignmentModel) (x : ℕ)
    → decide ms todo d ≡ decide_within ms (length todo + unread ms d + x) todo d
unfolding decide
more_steps ms todo d x = enough ms (length todo + unread ms d) (length todo + unread ms d + x) todo d (omega arith) (omega arith)

-- more steps than it needs decide the same
pub more_steps_after : (ms : List MacroModel) (todo d : List AssignmentModel) (x : ℕ)
    → decide ms todo d ≡ decide_within ms (length todo + x + unread ms d) todo d
unfolding decide
more_steps_after ms todo d x = enough ms (length todo + unread ms d) (length todo + x + unread ms d) todo d (omega arith) (omega arith)
