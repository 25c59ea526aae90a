-- What reading assignments does to the search for one name.
use Rattle.std.proofs.Common.{◌≡◌, ◌≤◌, ◌+◌, ℕ, true, false, List, [], ◌∷◌, ◌++◌, length, reverse, Option, Some, None, is_some, unwrap_or}
use Rattle.std.proofs.{Common.{refl, sym, ◌∙◌, ap, arith, length-append, append_assoc}, lemmas.{Bool.or_parts, List.append-nil}}
use Rattle.std.specs.{Str.bytes_eq, List.list_any}
use Rattle.lc_rules.specs.{Attributes.{StateModel, set, unset, value, unspecified, AssignmentModel, MacroModel}, Decision.macro_of}
use Rattle.lc_rules.specs.{Decision.{expansion, unread}, Resolving.{marked, is_marked, answer, Moves, to_read}, KnownMacros.expanded}
use Rattle.lc_rules.specs.KnownMacros.{matters}
use Rattle.lc_rules.proofs.{DecisionLaws.{expansion_less, unread_less}, OneName.{answer_wanted, answer_seen, answer_macro, answer_plain}}
use Rattle.lc_rules.proofs.OneName.{answer_none, mark_other, SameMarks, answer_same, unread_same}

-- an assignment of the name that is sought ends the search
pub moves_found : (ms : List MacroModel) (w : List ℕ) (a : AssignmentModel) (todo : List AssignmentModel) (ns : List (List ℕ))
    (left : List AssignmentModel) (after : List (List ℕ)) → is_marked ns w ≡ false → bytes_eq a.0 w ≡ true
    → Moves ms w (a ∷ todo) ns (Some a.1) left after
moves_found ms w a todo ns left after p e = λ rest. answer_wanted ms w a (todo ++ rest) ns e p

-- one of another name that is no macro is passed over
pub moves_plain : (ms : List MacroModel) (w : List ℕ) (a : AssignmentModel) (todo : List AssignmentModel) (ns : List (List ℕ))
    → is_marked ns w ≡ false → bytes_eq a.0 w ≡ false → macro_of ms a.0 ≡ None → Moves ms w (a ∷ todo) ns None todo ns
moves_plain ms w a todo ns p o q = (p, λ rest. answer_plain ms w a (todo ++ rest) ns o p (ap is_some q))

-- one of a macro that was read already is passed over
pub moves_seen : (ms : List MacroModel) (w : List ℕ) (a : AssignmentModel) (todo : List AssignmentModel) (ns : List (List ℕ))
    → is_marked ns w ≡ false → is_marked ns a.0 ≡ true → Moves ms w (a ∷ todo) ns None todo ns
moves_seen ms w a todo ns p q = (p, λ rest. answer_seen ms w a (todo ++ rest) ns q)

expansion_is : (ms : List MacroModel) (n : List ℕ) (s : StateModel) (body : List AssignmentModel) → macro_of ms n ≡ Some body
    → expansion ms (n, s) ≡ expanded body s
expansion_is ms n set body e = ap (λ o. reverse (unwrap_or o [])) e
expansion_is ms n unset body e = refl
expansion_is ms n (value v) body e = refl
expansion_is ms n unspecified body e = refl

-- one of a macro puts what it stands for before the rest, and marks its name
pub moves_macro : (ms : List MacroModel) (w : List ℕ) (n : List ℕ) (s : StateModel) (todo left : List AssignmentModel)
    (ns after : List (List ℕ)) (body : List AssignmentModel) → is_marked ns w ≡ false → bytes_eq n w ≡ false → is_marked ns n ≡ false
    → macro_of ms n ≡ Some body → left ≡ expanded body s ++ todo → SameMarks after (n ∷ ns)
    → Moves ms w ((n, s) ∷ todo) ns None left after
moves_macro ms w n s todo left ns after body p o q b e f = (
  f w ∙ mark_other n ns w o p,
  λ rest. answer_macro ms w (n, s) (todo ++ rest) ns o p q
      ∙ ap (λ x. answer ms w (x ++ (todo ++ rest)) (n ∷ ns)) (expansion_is ms n s body b)
      ∙ ap (λ x. answer ms w x (n ∷ ns)) (sym (append_assoc (expanded body s) todo rest))
      ∙ ap (λ x. answer ms w (x ++ rest) (n ∷ ns)) (sym e)
      ∙ sym (answer_same ms w (left ++ rest) after (n ∷ ns) f (mark_other n ns w o p)),
)

macro_less : (ms : List MacroModel) (n : List ℕ) (s : StateModel) (ns : List (List ℕ)) (body : List AssignmentModel)
    → is_marked ns n ≡ false → macro_of ms n ≡ Some body
    → length (expanded body s) + unread ms (marked (n ∷ ns)) ≤ unread ms (marked ns)
macro_less ms n set ns body q b = omega (arith, ap length (expansion_is ms n set body b), expansion_less ms (n, set) (marked ns) q)
macro_less ms n unset ns body q b = omega (arith, unread_less ms (n, set) (marked ns))
macro_less ms n (value v) ns body q b = omega (arith, unread_less ms (n, set) (marked ns))
macro_less ms n unspecified ns body q b = omega (arith, unread_less ms (n, set) (marked ns))

-- reading a macro leaves no more to read
pub macro_to_read : (ms : List MacroModel) (n : List ℕ) (s : StateModel) (todo left : List AssignmentModel) (ns after : List (List ℕ))
    (body : List AssignmentModel) → is_marked ns n ≡ false → macro_of ms n ≡ Some body → left ≡ expanded body s ++ todo
    → SameMarks after (n ∷ ns) → to_read ms left after ≤ to_read ms todo ns
macro_to_read ms n s todo left ns after body q b e f =
    omega (
      arith,
      ap length e,
      length-append (expanded body s) todo,
      unread_same ms (marked after) (marked (n ∷ ns)) f,
      macro_less ms n s ns body q b,
    )

-- where nothing is read, all of it is left
pub moves_none : (ms : List MacroModel) (w : List ℕ) (todo : List AssignmentModel) (ns : List (List ℕ)) → is_marked ns w ≡ false
    → Moves ms w todo ns None todo ns
moves_none ms w todo ns p = (p, λ rest. refl)

-- two moves in a row are a move
pub moves_then : (ms : List MacroModel) (w : List ℕ) (a b left : List AssignmentModel) (c d e : List (List ℕ))
    (found : Option StateModel) → Moves ms w a c None b d → Moves ms w b d found left e → Moves ms w a c found left e
moves_then ms w a b left c d e None h k = (k.0, λ rest. h.1 rest ∙ k.1 rest)
moves_then ms w a b left c d e (Some s) h k = λ rest. h.1 rest ∙ k rest

-- a move leaves alone what stands behind
pub moves_more : (ms : List MacroModel) (w : List ℕ) (a left more : List AssignmentModel) (c d : List (List ℕ))
    (found : Option StateModel) → Moves ms w a c found left d → Moves ms w (a ++ more) c found (left ++ more) d
moves_more ms w a left more c d None h = (
  h.0,
  λ rest. ap (λ l. answer ms w l c) (append_assoc a more rest) ∙ h.1 (more ++ rest)
      ∙ ap (λ l. answer ms w l d) (sym (append_assoc left more rest)),
)
moves_more ms w a left more c d (Some s) h = λ rest. ap (λ l. answer ms w l c) (append_assoc a more rest) ∙ h (more ++ rest)

-- the answer once all is read
pub moves_answer : (ms : List MacroModel) (w : List ℕ) (todo : List AssignmentModel) (after : List (List ℕ))
    (found : Option StateModel) → Moves ms w todo [] found [] after → answer ms w todo [] ≡ found
moves_answer ms w todo after None h = ap (λ l. answer ms w l []) (sym (append-nil todo)) ∙ h.1 [] ∙ answer_none ms w after h.0
moves_answer ms w todo after (Some s) h = ap (λ l. answer ms w l []) (sym (append-nil todo)) ∙ h []

none_some : {A : Type 0} (o : Option A) → is_some o ≡ false → o ≡ None
none_some None h = refl
none_some (Some x) h = absurd (let e : true ≡ false = h in cc)

-- assignments of which none can matter are passed over at once
pub moves_past : (ms : List MacroModel) (w : List ℕ) (todo : List AssignmentModel) (ns : List (List ℕ)) → is_marked ns w ≡ false
    → list_any (λ a. matters ms w a.0) todo ≡ false → Moves ms w todo ns None [] ns
moves_past ms w [] ns p h = moves_none ms w [] ns p
moves_past ms w (a ∷ r) ns p h =
    let here : matters ms w a.0 ≡ false = (or_parts (matters ms w a.0) (list_any (λ a. matters ms w a.0) r) h).0 in
    moves_then ms w (a ∷ r) r [] ns ns ns None
    (moves_plain ms w a r ns p ((or_parts (bytes_eq a.0 w) (is_some (macro_of ms a.0)) here).0)
    (none_some (macro_of ms a.0) ((or_parts (bytes_eq a.0 w) (is_some (macro_of ms a.0)) here).1)))
    (moves_past ms w r ns p ((or_parts (matters ms w a.0) (list_any (λ a. matters ms w a.0) r) h).1))
