-- Ways by their numbers, and which of them are kept.
use Rattle.std.proofs.Common.{◌≡◌, ◌⊎◌, ℕ, zero, suc, Bool, List, [], ◌∷◌, ◌++◌, Some, Result, length, inl, inr, refl, sym, ◌∙◌, ap}
use Rattle.std.proofs.{Common.{subst, append-nil, map, take, drop}, lemmas.List.{map-append, take-append-drop}}
use Rattle.lc_level.specs.{FaultLines.FaultLineModel, Job.JobModel, Filters.FiltersModel}
use Rattle.lc_paths.specs.Explanations.{Explained.{cited, IsExplained}, Findings.explanation_of}
use Rattle.lc_paths.specs.Explanations.OpenDirs.{OpenDirModel, DirStack, DirStacks, stack_at, stack_to}
use Rattle.lc_paths.specs.Explanations.DirStacks.{IsFirstOf, AreFirstOf, Keeps, IsStack, AreStacks}
use Rattle.lc_paths.specs.declared.explaining.finding.{Finding.Finding, Found.Found}
use Rattle.lc_paths.proofs.Explanations.Reaching.{stack_cut}

-- what stands in a list's first elements, and in the others
pub map_apart : {A B : Type 0} (f : A → B) (n : ℕ) (xs : List A) → map f xs ≡ map f (take n xs) ++ map f (drop n xs)
map_apart f n xs = ap (map f) (sym (take-append-drop n xs)) ∙ map-append f (take n xs) (drop n xs)

-- with one way more, a number names what it named, or that way
pushed_at : (stacks : DirStacks) (stack : DirStack) (at : ℕ)
    → (stack_at (stacks ++ stack ∷ []) at ≡ stack_at stacks at) ⊎ (stack_at (stacks ++ stack ∷ []) at ≡ stack)
pushed_at [] stack zero = inr refl
pushed_at [] stack (suc at) = inl refl
pushed_at (w ∷ ws) stack zero = inl refl
pushed_at (w ∷ ws) stack (suc at) = pushed_at ws stack at

-- which has the next number
pushed_last : (stacks : DirStacks) (stack : DirStack) → stack_at (stacks ++ stack ∷ []) (length stacks) ≡ stack
pushed_last [] stack = refl
pushed_last (w ∷ ws) stack = pushed_last ws stack

-- ---- the beginnings of a way

-- a way is a beginning of itself
whole : (stack : DirStack) → IsFirstOf stack stack
whole stack = ([], sym (append-nil stack))

-- no way is kept
pub none_first : (stacks : DirStacks) (stack : DirStack) → stacks ≡ [] → AreFirstOf stacks stack
none_first stacks stack none = subst (λ (l : DirStacks). AreFirstOf l stack) (sym none) (λ at. (stack, refl))

-- a beginning more
pub first_more : (old new : DirStacks) (first stack : DirStack) → AreFirstOf old stack → IsFirstOf first stack → new ≡ old ++ first ∷ []
    → AreFirstOf new stack
first_more old new first stack are is more at =
    subst (λ (l : DirStacks). IsFirstOf (stack_at l at) stack) (sym more) (by (pushed_at old first at))
  where
    by : (stack_at (old ++ first ∷ []) at ≡ stack_at old at) ⊎ (stack_at (old ++ first ∷ []) at ≡ first)
        → IsFirstOf (stack_at (old ++ first ∷ []) at) stack
    by (inl same) = subst (λ (w : DirStack). IsFirstOf w stack) (sym same) (are at)
    by (inr last) = subst (λ (w : DirStack). IsFirstOf w stack) (sym last) is

-- ---- a way that is kept

-- beside all others
pub keeps_more : (old new : DirStacks) (stack : DirStack) (at : ℕ) → new ≡ old ++ stack ∷ [] → at ≡ length old → Keeps old stack new at
keeps_more old new stack at more last = record {
  is = subst (λ (l : DirStacks). stack_at l at ≡ stack) (sym more)
      (subst (λ (n : ℕ). stack_at (old ++ stack ∷ []) n ≡ stack) (sym last) (pushed_last old stack));
  others = λ i. subst (λ (l : DirStacks). ((j : ℕ) × (stack_at l i ≡ stack_at old j)) ⊎ IsFirstOf (stack_at l i) stack) (sym more)
      (by i (pushed_at old stack i));
}
  where
    by : (i : ℕ) → (stack_at (old ++ stack ∷ []) i ≡ stack_at old i) ⊎ (stack_at (old ++ stack ∷ []) i ≡ stack)
        → ((j : ℕ) × (stack_at (old ++ stack ∷ []) i ≡ stack_at old j)) ⊎ IsFirstOf (stack_at (old ++ stack ∷ []) i) stack
    by i (inl same) = inl (i, same)
    by i (inr last) = inr (subst (λ (w : DirStack). IsFirstOf w stack) (sym last) (whole stack))

-- beside its beginnings alone
pub keeps_alone : (old left mid new : DirStacks) (stack : DirStack) (at : ℕ) → mid ≡ left → AreFirstOf left stack → new ≡ mid ++ stack ∷ []
    → at ≡ length mid → Keeps old stack new at
keeps_alone old left mid new stack at same are more last =
    let before : AreFirstOf mid stack = subst (λ (l : DirStacks). AreFirstOf l stack) (sym same) are in
    record {
      is = (keeps_more mid new stack at more last).is;
      others = λ i. inr (first_more mid new stack stack before (whole stack) more i);
    }

-- ---- what is known of ways

module _ (Enters : JobModel → Result OpenDirModel FaultLineModel → Type 0) (f : FiltersModel) where
  -- no way is kept
  pub no_stacks : (stacks : DirStacks) → stacks ≡ [] → AreStacks Enters f stacks
  no_stacks stacks none = subst (λ (l : DirStacks). AreStacks Enters f l) (sym none) (λ at. tt)

  -- a way more, and with it no other but its beginnings
  pub stacks_kept : (old new : DirStacks) (stack : DirStack) (at : ℕ) → AreStacks Enters f old
      → IsStack Enters f stack
      → Keeps old stack new at → AreStacks Enters f new
  stacks_kept old new stack at are is keeps i = by (keeps.others i)
    where
      by : ((j : ℕ) × (stack_at new i ≡ stack_at old j)) ⊎ IsFirstOf (stack_at new i) stack
          → IsStack Enters f (stack_at new i)
      by (inl before) = subst (λ (w : DirStack). IsStack Enters f w) (sym before.1) (are before.0)
      by (inr first) =
          stack_cut Enters f [] (stack_at new i) first.0
          (subst (λ (w : DirStack). IsStack Enters f w) first.1 is)

  -- what was found on a kept way explains the path by that way
  pub found_on : (stacks : DirStacks) (at : ℕ) (path : List ℕ) (as_dir : Bool) (finding : Finding) (found : Found)
      → found ≡ record { finding = finding; to = Some at }
      → IsExplained Enters f path as_dir (explanation_of (cited f (stack_at stacks at)) finding)
      → IsExplained Enters f path as_dir (explanation_of (cited f (stack_to stacks found.to)) found.finding)
  found_on stacks at path as_dir finding found is explained =
      subst (λ (g : Found). IsExplained Enters f path as_dir
      (explanation_of (cited f (stack_to stacks g.to)) g.finding))
      (sym is) explained
