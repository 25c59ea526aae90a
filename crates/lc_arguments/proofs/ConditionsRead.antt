-- The conditions that texts write.
use Rattle.std.proofs.{Common.{arith, ◌≡◌, ◌∙◌, ◌&&◌, ℕ, true, false, List, [], ◌∷◌, ◌++◌, Option, Some, None, cond, is_some, ap, sym}}
use Rattle.std.proofs.Common.{◌≤◌, ◌-◌, append_assoc, drop, get_or, length, map, refl, subst, take}
use Rattle.std.specs.Borrow.{Bor}
use Rattle.std.proofs.lemmas.{Grind.common_steps, List.append-nil}
use Rattle.std.specs.List.{cons_option, list_all}
use Rattle.lc_sheet.specs.declared.column.Column.{Column, TheVariants.Change}
use Rattle.lc_sheet.specs.declared.change_kinds.ChangeKinds.{ChangeKinds}
use Rattle.lc_sheet.specs.Conditions.{ConditionModel}
use Rattle.lc_arguments.specs.ConditionWords.{are_conditions, condition_of, conditions_of, file_condition_of, is_change, is_condition}
use Rattle.lc_arguments.specs.ConditionWords.{changes_of, kinds_allowed, kinds_left, kinds_without, test_few, unless_change}

-- a column that is not `change`
pub unchanged : (column : Column) → (column ≡ Change → ⊥) → is_change column ≡ false
unchanged column not = grind (arith, common_steps)

-- whether a text writes a condition, and which kinds of files this allows, is the same whichever columns are asked for
pub anyhow : (attributes : List (List ℕ)) (text : List ℕ) (kinds : ChangeKinds)
    → (is_some (condition_of attributes text) ≡ is_condition text)
    × (kinds_left kinds (condition_of attributes text) ≡ kinds_left kinds (condition_of [] text))
anyhow attributes text kinds = grind (arith, common_steps)

module _ (attributes : List (List ℕ)) (text : List ℕ) (kinds : ChangeKinds) (c : ConditionModel) (old : List ConditionModel)
    (is : condition_of attributes text ≡ Some c) where
  -- a condition on `change` is none of files
  pub on_change : is_change c.column ≡ true → (old ≡ old ++ conditions_of attributes (text ∷ []))
      × (kinds_without kinds c ≡ kinds_left kinds (condition_of [] text)) × (is_condition text ≡ true)
  on_change change =
      let any = anyhow attributes text kinds in
      let none : file_condition_of attributes text ≡ None = ap unless_change is ∙ ap (λ b. cond b None (Some c)) change in (
        sym (append-nil old) ∙ ap (λ f. old ++ cons_option f []) (sym none),
        sym (ap (λ b. cond b (kinds_without kinds c) kinds) change) ∙ ap (kinds_left kinds) (sym is) ∙ any.1,
        sym any.0 ∙ ap is_some is,
      )

  -- another one allows all kinds
  pub on_files : is_change c.column ≡ false → (old ++ c ∷ [] ≡ old ++ conditions_of attributes (text ∷ []))
      × (kinds ≡ kinds_left kinds (condition_of [] text)) × (is_condition text ≡ true)
  on_files other = grind (arith, common_steps, anyhow)

module _ (attributes all : List (List ℕ)) where
  -- with what was read, the texts that are left write what all texts write
  abbrev pub StillWrite : List ConditionModel → ChangeKinds → List (List ℕ) → Type 0
  StillWrite conditions kinds left =
      (conditions ++ conditions_of attributes left ≡ conditions_of attributes all) × (kinds_allowed kinds left ≡ changes_of all)
      × (list_all is_condition left ≡ list_all is_condition all)

  joined : (first : Option ConditionModel) (rest : List ConditionModel) → cons_option first [] ++ rest ≡ cons_option first rest
  joined None rest = refl
  joined (Some c) rest = refl

  rest_is : (x : Bor (List ℕ)) (xs : List (Bor (List ℕ))) → take (length (x ∷ xs) - 1) (drop 1 (x ∷ xs)) ≡ xs
  rest_is x xs = grind (arith, common_steps)

  -- and so they do once the first of them is read
  pub one_more : (left : List (Bor (List ℕ))) (d : Bor (List ℕ)) (old new : List ConditionModel) (kinds next : ChangeKinds)
      → 1 ≤ length left → StillWrite old kinds (map (λ text. text.now) left)
      → (new ≡ old ++ conditions_of attributes ((get_or left 0 d).now ∷ []))
      × (next ≡ kinds_left kinds (condition_of [] (get_or left 0 d).now)) × (is_condition (get_or left 0 d).now ≡ true)
      → StillWrite new next (map (λ text. text.now) (take (length left - 1) (drop 1 left)))
  one_more [] d old new kinds next some still step = absurd (omega arith)
  one_more (x ∷ xs) d old new kinds next some still step =
      let others = map (λ text. text.now) xs in
      subst (λ (rest : List (Bor (List ℕ))). StillWrite new next (map (λ text. text.now) rest)) (sym (rest_is x xs)) (
        ap (λ l. l ++ conditions_of attributes others) step.0
            ∙ append_assoc old (conditions_of attributes (x.now ∷ [])) (conditions_of attributes others)
            ∙ ap (λ l. old ++ l) (joined (file_condition_of attributes x.now) (conditions_of attributes others)) ∙ still.0,
        ap (λ k. kinds_allowed k others) step.1 ∙ still.1,
        sym (ap (λ b. b && list_all is_condition others) step.2) ∙ still.2,
      )

module _ (texts read : List (List ℕ)) (is : texts ≡ read) where
  -- texts that test too many attributes
  pub too_many : test_few texts ≡ false → are_conditions read ≡ false
  too_many many = grind (arith, common_steps)

  -- a text that writes no condition
  pub none_written : list_all is_condition texts ≡ false → are_conditions read ≡ false
  none_written none = grind (arith, common_steps)

  pub all_written : list_all is_condition texts ≡ true → test_few texts ≡ true → are_conditions read ≡ true
  all_written all few = grind (arith, common_steps)
