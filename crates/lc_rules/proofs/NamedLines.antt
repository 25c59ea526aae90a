-- Lines that name neither an attribute nor a macro can't decide it.
use Rattle.std.proofs.Common.{◌≡◌, ℕ, Bool, true, false, cond, ◌||◌, List, [], ◌∷◌, ◌++◌, Option, Some, None, is_some, refl, sym, ◌∙◌, ap}
use Rattle.std.proofs.lemmas.{Bool.or_parts, List.Folds.list_any-append}
use Rattle.std.specs.{BTreeSet.BTreeSet, Global.Global, List.list_any, Prelude.Vec, Str.bytes_eq}
use Rattle.lc_rules.specs.{Attributes.{AssignmentModel, MacroModel}, AttrLines.PatternLineModel, AttrStates.binary, Decision.macro_of}
use Rattle.lc_rules.specs.{Decision.later, KnownMacros.matters, LineNames.{assigns_name, lines_name, has_name, HasNames, NameNone}}
use Rattle.lc_rules.proofs.{DecisionLaws.{bytes_self, same_bytes}, LastMacro.{macro_of-append, macro_of-both}}

-- no name that passes the test is among these
abbrev pub NoneNamed : (List ℕ → Bool) → (List ℕ → Bool) → Type 0
NoneNamed test among = (n : List ℕ) → test n ≡ true → among n ≡ false

assign_step : (test : List ℕ → Bool) (a : AssignmentModel) (r : List AssignmentModel) (b : Bool) → test a.0 ≡ b
    → NoneNamed test (assigns_name (a ∷ r)) → list_any (λ a. test a.0) r ≡ false → (b || list_any (λ a. test a.0) r) ≡ false
assign_step test a r true e h k = absurd (let same : bytes_eq a.0 a.0 ≡ true = bytes_self a.0 a.0 refl in let none : bytes_eq a.0 a.0
    ≡ false = (or_parts (bytes_eq a.0 a.0) (assigns_name r a.0) (h a.0 e)).0 in let q : true ≡ false = sym same ∙ none in cc)
assign_step test a r false e h k = k

assigns_none : (test : List ℕ → Bool) (assigns : List AssignmentModel) → NoneNamed test (assigns_name assigns)
    → list_any (λ a. test a.0) assigns ≡ false
assigns_none test [] h = refl
assigns_none test (a ∷ r) h =
    assign_step test a r (test a.0) refl h (assigns_none test r (λ n e. (or_parts (bytes_eq a.0 n) (assigns_name r n) (h n e)).1))

-- lines that name nothing of a kind have no assignment of that kind
pub named_none : (test : List ℕ → Bool) (ls : List PatternLineModel) → NoneNamed test (lines_name ls)
    → list_any (λ l. list_any (λ a. test a.0) l.assigns) ls ≡ false
named_none test [] h = refl
named_none test (l ∷ ls) h =
    ap (λ b. b || list_any (λ l. list_any (λ a. test a.0) l.assigns) ls)
    (assigns_none test l.assigns (λ n e. (or_parts (assigns_name l.assigns n) (lines_name ls n) (h n e)).0))
    ∙ named_none test ls (λ n e. (or_parts (assigns_name l.assigns n) (lines_name ls n) (h n e)).1)

-- a set of the names of some lines that gains those of one more has the names of all
pub names_more : (lines : List PatternLineModel) (l : PatternLineModel) (old new : BTreeSet (Vec ℕ Global)) → HasNames lines old
    → ((name : List ℕ) → has_name old name ≡ true → has_name new name ≡ true)
    → ((name : List ℕ) → assigns_name l.assigns name ≡ true → has_name new name ≡ true) → HasNames (lines ++ l ∷ []) new
names_more lines l old new had keeps adds name e =
    by_cases (lines_name lines name) (assigns_name l.assigns name) refl refl
    (sym (list_any-append (λ l. assigns_name l.assigns name) lines (l ∷ [])) ∙ e)
  where
    by_cases : (a b : Bool) → lines_name lines name ≡ a → assigns_name l.assigns name ≡ b → (a || (b || false)) ≡ true
        → has_name new name ≡ true
    by_cases true b p q r = keeps name (had name p)
    by_cases false true p q r = adds name q
    by_cases false false p q r = absurd (let s : false ≡ true = r in cc)

-- no macro is named, one macro more
pub no_macro_more : (lines : List PatternLineModel) (ms : List MacroModel) (m : MacroModel) (n : List ℕ)
    → ((o : List ℕ) → is_some (macro_of ms o) ≡ true → lines_name lines o ≡ false) → lines_name lines m.0 ≡ false
    → is_some (macro_of (ms ++ (m ∷ [])) n) ≡ true → lines_name lines n ≡ false
no_macro_more lines ms m n h k e = by_cases (bytes_eq m.0 n) refl (ap is_some (sym (macro_of-append ms m n)) ∙ e)
  where
    by_cases : (b : Bool) → bytes_eq m.0 n ≡ b → is_some (cond b (Some m.1) (macro_of ms n)) ≡ true → lines_name lines n ≡ false
    by_cases true p q = ap (lines_name lines) (sym (same_bytes m.0 n p)) ∙ k
    by_cases false p q = h n q

-- nothing that matters is named
pub none_matters : (lines : List PatternLineModel) (ms : List MacroModel) (wanted : List ℕ) → lines_name lines wanted ≡ false
    → NameNone lines ms → list_any (λ l. list_any (λ a. matters ms wanted a.0) l.assigns) lines ≡ false
none_matters lines ms wanted h k =
    named_none (matters ms wanted) lines (λ n e. by_cases n (bytes_eq n wanted) (is_some (macro_of ms n)) refl refl e)
  where
    by_cases : (n : List ℕ) (b c : Bool) → bytes_eq n wanted ≡ b → is_some (macro_of ms n) ≡ c → (b || c) ≡ true
        → lines_name lines n ≡ false
    by_cases n true c p q r = ap (lines_name lines) (same_bytes n wanted p) ∙ h
    by_cases n false true p q r = k n q
    by_cases n false false p q r = absurd (let s : false ≡ true = r in cc)

-- what names nothing of two lists of macros names nothing of both together
pub none_named-both : (lines : List PatternLineModel) (ms os : List MacroModel) → NameNone lines ms → NameNone lines os
    → NameNone lines (ms ++ os)
none_named-both lines ms os h k n e = by_cases (macro_of os n) refl (ap is_some (sym (macro_of-both ms os n)) ∙ e)
  where
    by_cases : (o : Option (List AssignmentModel)) → macro_of os n ≡ o → is_some (later o (macro_of ms n)) ≡ true
        → lines_name lines n ≡ false
    by_cases (Some body) p q = k n (ap is_some p)
    by_cases None p q = h n q

none_named-binary : (lines : List PatternLineModel) → lines_name lines binary.0 ≡ false → NameNone lines (binary ∷ [])
none_named-binary lines h n e = by_cases (bytes_eq binary.0 n) refl e
  where
    by_cases : (b : Bool) → bytes_eq binary.0 n ≡ b → is_some (cond b (Some binary.1) None) ≡ true → lines_name lines n ≡ false
    by_cases true p q = ap (lines_name lines) (sym (same_bytes binary.0 n p)) ∙ h
    by_cases false p q = absurd (let s : false ≡ true = q in cc)

-- nor does a line name `binary` or a macro of any of the lists
pub none_named : (lines : List PatternLineModel) (ls ms os : List MacroModel) → lines_name lines binary.0 ≡ false → NameNone lines ls
    → NameNone lines ms → NameNone lines os → NameNone lines (binary ∷ ls ++ ms ++ os)
none_named lines ls ms os h j k m =
    none_named-both lines (binary ∷ []) (ls ++ ms ++ os) (none_named-binary lines h)
    (none_named-both lines (ls ++ ms) os (none_named-both lines ls ms j k) m)
