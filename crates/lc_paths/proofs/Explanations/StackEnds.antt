-- The last directory of a way, and what is left of a path below it.
use Rattle.std.proofs.Common.{◌≡◌, ℕ, ◌-◌, suc, List, [], ◌∷◌, ◌++◌, length, Option, Some, None, Bor, IfSome, slice_get, refl, sym, ◌∙◌}
use Rattle.std.proofs.Common.{ap, arith}
use Rattle.lc_glob.specs.Path.{path_in}
use Rattle.lc_paths.specs.Explanations.{OpenDirs.{OpenDirModel, DirStack}, DirStacks.{IsRestBelow, StandsBelow}}

-- a list ends in its last element
pub record EndsIn {A : Type 0} (xs : List A) (x : A) : Type 0 where
  pub front : List A
  pub is : xs ≡ front ++ x ∷ []

-- a list that has a last element ends in it
pub last_splits : {A : Type 0} (xs : List A) (x : A) → slice_get xs (length xs - 1) ≡ Some x → EndsIn xs x
last_splits [] x e = absurd (cc e)
last_splits (y ∷ []) x e = record { front = []; is = ap (λ z. z ∷ []) (let h : y ≡ x = cc e in h) }
last_splits (y ∷ z ∷ zs) x e =
    let at : length (y ∷ z ∷ zs) - 1 ≡ suc (length (z ∷ zs) - 1) = omega arith in
    let below = last_splits (z ∷ zs) x (sym (ap (slice_get (y ∷ z ∷ zs)) at) ∙ e) in
    record { front = y ∷ below.front; is = ap (λ l. y ∷ l) below.is }

-- the last element of a list that ends in one is that one
pub last_of_end : {A : Type 0} (front : List A) (x : A) → slice_get (front ++ x ∷ []) (length (front ++ x ∷ []) - 1) ≡ Some x
last_of_end [] x = refl
last_of_end (y ∷ []) x = refl
last_of_end (y ∷ z ∷ zs) x =
    let at : length (y ∷ z ∷ zs ++ x ∷ []) - 1 ≡ suc (length (z ∷ zs ++ x ∷ []) - 1) = omega arith in
    ap (slice_get (y ∷ z ∷ zs ++ x ∷ [])) at ∙ last_of_end (z ∷ zs) x

-- the last element is the one at the end
pub last_is : {A : Type 0} (xs front : List A) (x y : A) → xs ≡ front ++ x ∷ [] → slice_get xs (length xs - 1) ≡ Some y → y ≡ x
last_is xs front x y is last =
    let h : Some x ≡ Some y = sym (last_of_end front x) ∙ ap (λ l. slice_get l (length l - 1)) (sym is) ∙ last in sym (cc h)

-- what is left below the directory at the end of a way is left below the way
pub below_stack : (stack : DirStack) (here : OpenDirModel) (path : List ℕ) (r : Option (Bor (List ℕ)))
    → slice_get stack (length stack - 1) ≡ Some here → IfSome r (λ rest. IsRestBelow here path rest.now)
    → IfSome r (λ rest. StandsBelow stack path rest.now)
below_stack stack here path None last left = tt
below_stack stack here path (Some rest) last left =
    let end = last_splits stack here last in record { above = end.front; here = here; is = end.is; left = left }

-- what is left below a way is left below its last directory
pub left_of_last : (stack : DirStack) (here : OpenDirModel) (path rest : List ℕ) → slice_get stack (length stack - 1) ≡ Some here
    → StandsBelow stack path rest → IsRestBelow here path rest
left_of_last stack here path rest last stands =
    stands.left ∙ ap (λ (h : OpenDirModel). path_in h.job.path rest) (sym (last_is stack stands.above stands.here here stands.is last))
