-- The name by which a directory has an entry of a path.
use Rattle.std.proofs.Common.{◌≡◌, ◌≢◌, ℕ, ◌++◌, List, [], ◌∷◌, false, length, nat_eq, Option, Some, None, Bor, MatchOption, sym, ◌∙◌, ap}
use Rattle.std.proofs.{Common.{refl, subst}, lemmas.List.append_cancel_left}
use Rattle.lc_glob.specs.{Bytes.slash, Path.path_in}

-- what stands behind a prefix
abbrev pub Strips : List ℕ → List ℕ → Option (Bor (List ℕ)) → Type 0
Strips s p r = MatchOption r ((rest : List ℕ) → s ≢ p ++ rest) (λ x. s ≡ p ++ x.now)

below_is : (d n : List ℕ) → nat_eq (length d) 0 ≡ false → path_in d n ≡ d ++ slash ∷ n
below_is [] n e = absurd (cc e)
below_is (b ∷ bs) n e = refl

-- a path that doesn't begin with the directory's has no name in it
pub none_below : (d s : List ℕ) (r : Option (Bor (List ℕ))) → nat_eq (length d) 0 ≡ false → r ≡ None → Strips s d r → (n : List ℕ)
    → s ≢ path_in d n
none_below d s r e is strips n at = subst (Strips s d) is strips (slash ∷ n) (at ∙ below_is d n e)

-- one that does, with a slash behind it, has what is left as its name
pub name_below : (d s : List ℕ) (r : Option (Bor (List ℕ))) (x : Bor (List ℕ)) → nat_eq (length d) 0 ≡ false → r ≡ Some x → Strips s d r →
    (q : Option (Bor (List ℕ))) → Strips x.now (slash ∷ []) q → MatchOption q ((n : List ℕ) → s ≢ path_in d n) (λ n. s ≡ path_in d n.now)
name_below d s r x e is strips None none = λ n at.
    none n (append_cancel_left d x.now (slash ∷ n) (sym (subst (Strips s d) is strips) ∙ at ∙ below_is d n e))
name_below d s r x e is strips (Some n) at = subst (Strips s d) is strips ∙ ap (λ l. d ++ l) at ∙ sym (below_is d n.now e)

-- a path has one name in a directory
pub one_name : (d n m : List ℕ) → path_in d n ≡ path_in d m → n ≡ m
one_name [] n m e = e
one_name (b ∷ bs) n m e = cc (append_cancel_left (b ∷ bs) (slash ∷ n) (slash ∷ m) e)
