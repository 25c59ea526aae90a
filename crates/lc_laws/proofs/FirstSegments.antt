-- A path and its first segment.
use Rattle.std.proofs.{lemmas.{Grind.common_steps, List.Splits.{slice_split-cons_yes, slice_split-cons_no}}, Common.{◌≡◌, ℕ, Bool, true}}
use Rattle.std.proofs.Common.{false, nat_eq, List, [], ◌∷◌, ◌++◌, refl, sym, ◌∙◌, ap, arith}
use Rattle.std.specs.List.{onto_first}
use Rattle.lc_glob.specs.{Bytes.slash, Path.segments_of}
use Rattle.lc_glob.proofs.Naming.{has_first, some_segment}

-- bytes are their only segment, or it and a slash and what has the others
abbrev pub IsCut : List ℕ → List ℕ → List (List ℕ) → Type 0
IsCut rest name [] = rest ≡ name
IsCut rest name (next ∷ names) = (others : List ℕ) × (rest ≡ name ++ slash ∷ others) × (segments_of others ≡ next ∷ names)

same_head : (m n : List ℕ) (ms ns : List (List ℕ)) → m ∷ ms ≡ n ∷ ns → m ≡ n
same_head m n ms ns e = cc

same_tail : (m n : List ℕ) (ms ns : List (List ℕ)) → m ∷ ms ≡ n ∷ ns → ms ≡ ns
same_tail m n ms ns e = cc

is_slash : (b : ℕ) → nat_eq b 47 ≡ true → b ≡ 47
is_slash b e = search (arith, e)

at_slash : (b : ℕ) (bs name : List ℕ) (names : List (List ℕ)) → b ≡ slash → [] ∷ segments_of bs ≡ name ∷ names → IsCut (b ∷ bs) name names
at_slash b bs name names is e = grind (arith, common_steps, some_segment, same_tail, same_head)

longer : (b : ℕ) (bs first name : List ℕ) (names : List (List ℕ)) → b ∷ first ≡ name → IsCut bs first names → IsCut (b ∷ bs) name names
longer b bs first name names is cut = grind (arith, common_steps)

-- so they are, by their segments
pub first_cut : (rest name : List ℕ) (names : List (List ℕ)) → segments_of rest ≡ name ∷ names → IsCut rest name names
first_cut [] name [] e = same_head [] name [] [] e
first_cut [] name (next ∷ names) e = let none : [] ≡ next ∷ names = same_tail [] name [] (next ∷ names) e in absurd (cc none)
first_cut (b ∷ bs) name names e = at (first_cut bs) (nat_eq b 47) refl
  where
    at : ((first : List ℕ) (others : List (List ℕ)) → segments_of bs ≡ first ∷ others → IsCut bs first others) → (t : Bool)
        → nat_eq b 47 ≡ t → IsCut (b ∷ bs) name names
    at rest true s = at_slash b bs name names (is_slash b s) (sym (slice_split-cons_yes (λ (c : ℕ). nat_eq c 47) b bs s) ∙ e)
    at rest false s =
        let h = has_first bs in
        let joined : (b ∷ h.first) ∷ h.others ≡ name ∷ names =
        ap (onto_first b) (sym h.are) ∙ sym (slice_split-cons_no (λ (c : ℕ). nat_eq c 47) b bs s) ∙ e in
        longer b bs h.first name names (same_head (b ∷ h.first) name h.others names joined)
        (rest h.first names (h.are ∙ ap (λ l. h.first ∷ l) (same_tail (b ∷ h.first) name h.others names joined)))
