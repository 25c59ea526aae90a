-- The text of explanations, line by line.
use Rattle.std.proofs.Common.{◌≡◌, ℕ, Bool, true, false, ◌||◌, cond, if◌then◌else◌, List, [], ◌∷◌, ◌++◌, refl, sym, ◌∙◌, ap, append_assoc}
use Rattle.std.proofs.{Common.{append-nil, ◌+◌}, lemmas.{Grind.flat_map-append, List.{map-append, Folds.list_any-append}}}
use Rattle.std.specs.List.{AllByRecursion}
use Rattle.lc_paths.specs.declared.{style.PathStyle.PathStyle, outcome.Outcome.{Outcome, TheVariants.{Clean, SomeFaults}}}
use Rattle.lc_paths.specs.Explanations.{Answers.{Explains, ExplainsLine}, Explained.Explanation}
use Rattle.lc_paths.specs.Explanations.ExplainText.{Told, named_path, names_dir, told_line, told_text, explained_line, is_fault, has_fault}

-- what holds of each holds of one more
all_more : {A : Type 0} (P : A → Type 0) (xs : List A) (x : A) → AllByRecursion P xs → P x → AllByRecursion P (xs ++ x ∷ [])
all_more P [] x all here = (here, tt)
all_more P (y ∷ ys) x all here = (all.0, all_more P ys x all.1 here)

fault_more : (before here : Bool) → cond (before || (here || false)) SomeFaults Clean ≡
    (if here then SomeFaults else cond before SomeFaults Clean)
fault_more true true = refl
fault_more true false = refl
fault_more false true = refl
fault_more false false = refl

module _ (style : PathStyle) (Says : List ℕ → Bool → Explanation → Type 0) where
  -- nothing is explained of no lines
  pub explained_none : Explains style Says [] [] Clean
  explained_none = record { told = []; lines_are = refl; said = tt; text_is = refl; outcome_is = refl }

  -- a line more
  pub explained_more : (lines : List (List ℕ)) (made old new : List ℕ) (before after : Outcome) (line : List ℕ)
      → Explains style Says lines made before → (here : ExplainsLine style Says line old new before after)
      → Explains style Says (lines ++ line ∷ []) (made ++ explained_line style line here.x) after
  explained_more lines made old new before after line explained here =
      let x = here.x in
      let told : List Told = explained.told in
      let more : Told = (line, x) in
      let one : told_text style (told ++ more ∷ []) ≡ told_text style told ++ explained_line style line x =
      flat_map-append (told_line style) told (more ∷ [])
      ∙ ap (λ (l : List ℕ). told_text style told ++ l) (append-nil (explained_line style line x)) in
      let any : has_fault (told ++ more ∷ []) ≡ (has_fault told || (is_fault x || false)) =
      list_any-append (λ (t : Told). is_fault t.1) told (more ∷ []) in
      record {
        told = told ++ more ∷ [];
        lines_are = map-append (λ (t : Told). t.0) told (more ∷ [])
            ∙ ap (λ (l : List (List ℕ)). l ++ line ∷ []) explained.lines_are;
        said = all_more (λ (t : Told). Says (named_path t.0) (names_dir t.0) t.1) told more explained.said here.said;
        text_is = ap (λ (l : List ℕ). l ++ explained_line style line x) explained.text_is ∙ sym one;
        outcome_is = here.outcome_is ∙ ap (λ (o : Outcome). if is_fault x then SomeFaults else o) explained.outcome_is
            ∙ sym (fault_more (has_fault told) (is_fault x)) ∙ ap (λ (b : Bool). cond b SomeFaults Clean) (sym any);
      }

-- one line more is done
pub line_done : (done all rest others : List (List ℕ)) (line : List ℕ) → done ++ rest ≡ all → rest ≡ line ∷ others
    → (done ++ line ∷ []) ++ others ≡ all
line_done done all rest others line is split =
    append_assoc done (line ∷ []) others ∙ ap (λ (l : List (List ℕ)). done ++ l) (sym split) ∙ is

-- where nothing is left all lines are done
pub lines_done : (done all rest : List (List ℕ)) → done ++ rest ≡ all → rest ≡ [] → done ≡ all
lines_done done all rest is none = sym (append-nil done) ∙ ap (λ (l : List (List ℕ)). done ++ l) (sym none) ∙ is
