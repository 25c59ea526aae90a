-- The last macro of a name, and its place.
use Rattle.std.proofs.Common.{◌≡◌, ◌<◌, ℕ, zero, suc, Bool, true, false, cond, List, [], ◌∷◌, ◌++◌, map, length, take, get_or, Option}
use Rattle.std.proofs.{Common.{Some, None, refl, sym, ◌∙◌, ap, arith, ◌+◌, add-one}, Math.Seq.take-suc, lemmas.List.map-append}
use Rattle.std.proofs.lemmas.List.{length-map}
use Rattle.std.specs.Str.{bytes_eq}
use Rattle.lc_rules.specs.{Attributes.{AssignmentModel, MacroModel}, Decision.{macro_of, later}, Models.macro_model}
use Rattle.lc_rules.specs.{MacroPlaces.{place_behind, last_place}, WrittenLines.assigned, declared.macro_table.Macro.Macro as CodeMacro}

-- a macro more is the last of its name
pub macro_of-append : (ms : List MacroModel) (m : MacroModel) (n : List ℕ)
    → macro_of (ms ++ (m ∷ [])) n ≡ cond (bytes_eq m.0 n) (Some m.1) (macro_of ms n)
macro_of-append [] m n = refl
macro_of-append (x ∷ xs) m n =
    ap (λ o. later o (cond (bytes_eq x.0 n) (Some x.1) None)) (macro_of-append xs m n)
    ∙ elim (bytes_eq m.0 n) as (λ b. later (cond b (Some m.1) (macro_of xs n)) (cond (bytes_eq x.0 n) (Some x.1) None)
    ≡ cond b (Some m.1) (later (macro_of xs n) (cond (bytes_eq x.0 n) (Some x.1) None))) [ true ↦ refl | false ↦ refl ]

-- and its place is the last
pub last_place-append : (ms : List MacroModel) (m : MacroModel) (n : List ℕ)
    → last_place (ms ++ (m ∷ [])) n ≡ cond (bytes_eq m.0 n) (Some (length ms)) (last_place ms n)
last_place-append [] m n = refl
last_place-append (x ∷ xs) m n =
    ap (λ o. place_behind o (cond (bytes_eq x.0 n) (Some 0) None)) (last_place-append xs m n)
    ∙ elim (bytes_eq m.0 n) as (λ b. place_behind (cond b (Some (length xs)) (last_place xs n)) (cond (bytes_eq x.0 n) (Some 0) None)
    ≡ cond b (Some (suc (length xs))) (place_behind (last_place xs n)
    (cond (bytes_eq x.0 n) (Some 0) None))) [ true ↦ refl | false ↦ refl ]

-- the macros of two lists: the later list has the last of a name
pub macro_of-both : (ms os : List MacroModel) (n : List ℕ) → macro_of (ms ++ os) n ≡ later (macro_of os n) (macro_of ms n)
macro_of-both [] os n = elim (macro_of os n) as (λ o. o ≡ later o None) [ None ↦ refl | Some b ↦ refl ]
macro_of-both (x ∷ xs) os n =
    ap (λ o. later o (cond (bytes_eq x.0 n) (Some x.1) None)) (macro_of-both xs os n)
    ∙ elim (macro_of os n) as (λ o. later (later o (macro_of xs n)) (cond (bytes_eq x.0 n) (Some x.1) None)
    ≡ later o (later (macro_of xs n) (cond (bytes_eq x.0 n) (Some x.1) None))) [ None ↦ refl | Some b ↦ refl ]

-- a macro of later files hides one of earlier files
pub macro_later : (first ms os : List MacroModel) (n : List ℕ) (body : List AssignmentModel) → macro_of os n ≡ Some body
    → macro_of (first ++ (ms ++ os)) n ≡ Some body
macro_later first ms os n body e = macro_of-both first (ms ++ os) n ∙ ap (λ o. later o (macro_of first n))
    (macro_of-both ms os n ∙ ap (λ o. later o (macro_of ms n)) e)

-- where later files have none, those before them are asked
pub macro_earlier : (first ms os : List MacroModel) (n : List ℕ) (o : Option (List AssignmentModel)) → macro_of os n ≡ None
    → macro_of ms n ≡ o → macro_of (first ++ (ms ++ os)) n ≡ later o (macro_of first n)
macro_earlier first ms os n o e f = macro_of-both first (ms ++ os) n ∙ ap (λ o. later o (macro_of first n))
    (macro_of-both ms os n ∙ ap (λ o. later o (macro_of ms n)) e ∙ f)

none_at : (m : MacroModel) (ms : List MacroModel) (n : List ℕ) (o : Option ℕ) (b : Bool) → last_place ms n ≡ o → bytes_eq m.0 n ≡ b
    → place_behind o (cond b (Some 0) None) ≡ None → (last_place ms n ≡ None → macro_of ms n ≡ None) → macro_of (m ∷ ms) n ≡ None
none_at m ms n (Some i) b p q h more = absurd (let e : Some (suc i) ≡ None = h in cc)
none_at m ms n None true p q h more = absurd (let e : Some 0 ≡ None = h in cc)
none_at m ms n None false p q h more =
    ap (λ o. later o (cond (bytes_eq m.0 n) (Some m.1) None)) (more p) ∙ ap (λ b. cond b (Some m.1) None) q

-- a name without a place has no macro
pub no_place : (ms : List MacroModel) (n : List ℕ) → last_place ms n ≡ None → macro_of ms n ≡ None
no_place [] n h = refl
no_place (m ∷ ms) n h = none_at m ms n (last_place ms n) (bytes_eq m.0 n) refl refl h (no_place ms n)

-- the macro at a place is the last of a name
pub record IsLast (ms : List CodeMacro) (n : List ℕ) (i : ℕ) : Type 0 where
  -- the place lies within the macros
  pub below : i < length ms
  -- what the last macro of a name stands for is what stands at its place
  pub body : (d : CodeMacro) → macro_of (map macro_model ms) n ≡ Some (assigned (get_or ms i d).assignments.items)

last_at : (m : CodeMacro) (ms : List CodeMacro) (n : List ℕ) (i : ℕ) (o : Option ℕ) (b : Bool) → last_place (map macro_model ms) n ≡ o
    → bytes_eq m.name.items n ≡ b → place_behind o (cond b (Some 0) None) ≡ Some i
    → ((j : ℕ) → last_place (map macro_model ms) n ≡ Some j → IsLast ms n j) → IsLast (m ∷ ms) n i
last_at m ms n zero (Some j) b p q h more = absurd (let e : Some (suc j) ≡ Some 0 = h in cc)
last_at m ms n (suc i) (Some j) b p q h more =
    let same : j ≡ i = cc in
    let found : IsLast ms n i = more i (p ∙ ap Some same) in
    record {
      below = omega (arith, found.below);
      body = λ d. ap
          (λ o. later o (cond (bytes_eq m.name.items n) (Some (assigned m.assignments.items)) None)) (found.body d);
    }
last_at m ms n zero None true p q h more = record {
  below = omega arith;
  body = λ d. ap (λ o. later o (cond (bytes_eq m.name.items n) (Some (assigned m.assignments.items)) None))
      (no_place (map macro_model ms) n p) ∙ ap (λ b. cond b (Some (assigned m.assignments.items)) None) q;
}
last_at m ms n (suc i) None true p q h more = absurd (let e : Some 0 ≡ Some (suc i) = h in cc)
last_at m ms n i None false p q h more = absurd (let e : None ≡ Some i = h in cc)

-- the last place has the last macro
pub at_last_place : (ms : List CodeMacro) (n : List ℕ) (i : ℕ) → last_place (map macro_model ms) n ≡ Some i → IsLast ms n i
at_last_place [] n i h = absurd (let e : None ≡ Some i = h in cc)
at_last_place (m ∷ ms) n i h =
    last_at m ms n i (last_place (map macro_model ms) n) (bytes_eq m.name.items n) refl refl h (λ j e. at_last_place ms n j e)

-- the macros of a slice, one more
pub macros-more : (ms : List CodeMacro) (i : ℕ) (m : CodeMacro) → i < length ms → m ≡ get_or ms i m
    → map macro_model (take (i + 1) ms) ≡ map macro_model (take i ms) ++ (macro_model m ∷ [])
macros-more ms i m l is =
    ap (λ k. map macro_model (take k ms)) (add-one i) ∙ ap (map macro_model) (take-suc ms i m l)
    ∙ map-append macro_model (take i ms) (get_or ms i m ∷ []) ∙ ap (λ b. map macro_model (take i ms) ++ (macro_model b ∷ [])) (sym is)

-- a macro that is pushed has the last place of its name
pub has_places-push : (before after : List CodeMacro) (m : CodeMacro) (place : ℕ) (n : List ℕ) → after ≡ before ++ (m ∷ [])
    → place ≡ length before → cond (bytes_eq m.name.items n) (Some place) (last_place (map macro_model before) n)
    ≡ last_place (map macro_model after) n
has_places-push before after m place n e f =
    ap (λ k. cond (bytes_eq m.name.items n) (Some k) (last_place (map macro_model before) n)) (f ∙ sym (length-map before macro_model))
    ∙ sym (last_place-append (map macro_model before) (macro_model m) n)
    ∙ ap (λ l. last_place l n) (sym (map-append macro_model before (m ∷ [])))
    ∙ ap (λ l. last_place (map macro_model l) n) (sym e)
