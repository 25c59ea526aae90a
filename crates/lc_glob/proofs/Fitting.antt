-- How tokens fit a segment of a path, from its front and from its end.
use Rattle.std.proofs.Common.{take, ◌-◌, map, length, nat_eq, eq-eqb, ◌∙◌, ◌≡◌, ◌↔◌, ◌⊎◌, IsTrue, IsFalse, ℕ, Bool, true, false, arith}
use Rattle.std.proofs.{Common.{List, [], ◌∷◌, ◌++◌, inl, inr, refl, sym, subst, ap}, lemmas.Bool.{false≢true, eqb-true}}
use Rattle.std.proofs.lemmas.{Bool.Decides.Decides-eqb, Slice.Eq.ends_is}
use Rattle.std.specs.List.{ends_with}
use Rattle.lc_glob.specs.{Tokens.{TokenModel, literal, any_byte, star, class, takes, is_star}, Fits.Fits, Simple.end_tokens}
use Rattle.lc_glob.proofs.After.{after_empty, after_end}

-- a token that is no star fits no empty name
pub fits_one_empty : (u : TokenModel) (us : List TokenModel) → is_star u ≡ false → Fits (u ∷ us) [] → ⊥
fits_one_empty star us e h = cc
fits_one_empty _ us e h = h

-- another token takes one byte, and the rest fits the rest
pub fits_one : (u : TokenModel) (us : List TokenModel) (x : ℕ) (xs : List ℕ) → is_star u ≡ false
    → Fits (u ∷ us) (x ∷ xs) ↔ (IsTrue (takes u x) × Fits us xs)
fits_one star us x xs e = cc
fits_one _ us x xs e = (λ h. h, λ h. h)

-- the same of a list and a name whose first are known
pub when_one : (tokens us : List TokenModel) (u : TokenModel) (name : List ℕ) (x : ℕ) (xs : List ℕ) → tokens ≡ u ∷ us → name ≡ x ∷ xs
    → is_star u ≡ false → Fits tokens name ↔ (IsTrue (takes u x) × Fits us xs)
when_one tokens us u name x xs e n s =
    subst (λ (l : List ℕ). Fits tokens l ↔ (IsTrue (takes u x) × Fits us xs)) (sym n)
    (subst (λ (l : List TokenModel). Fits l (x ∷ xs) ↔ (IsTrue (takes u x) × Fits us xs)) (sym e) (fits_one u us x xs s))

-- a last token that is no star needs a byte
no_end : (us : List TokenModel) (u : TokenModel) → is_star u ≡ false → Fits (us ++ u ∷ []) [] → ⊥
no_end [] u s f = fits_one_empty u [] s f
no_end (star ∷ us) u s f = no_end us u s (after_empty (Fits (us ++ u ∷ [])) f)
no_end (literal c ∷ us) u s f = f
no_end (any_byte ∷ us) u s f = f
no_end (class n rs ∷ us) u s f = f

beyond : (xs : List ℕ) (x : ℕ) → Fits [] (xs ++ x ∷ []) → ⊥
beyond [] x f = f
beyond (y ∷ xs) x f = f

more_end : (P A B C : Type 0) → A ↔ (B × C) → (P × A) ↔ ((P × B) × C)
more_end P A B C same = (λ h. let both = same.0 h.1 in ((h.0, both.0), both.1), λ h. (h.0.0, same.1 (h.0.1, h.1)))

last_or : (xs : List ℕ) → (xs ≡ []) ⊎ ((front : List ℕ) × (x : ℕ) × (xs ≡ front ++ x ∷ []))
last_or [] = inl refl
last_or (y ∷ ys) = inr (put_front y ys (last_or ys))
  where
    put_front : (y : ℕ) (ys : List ℕ) → (ys ≡ []) ⊎ ((front : List ℕ) × (x : ℕ) × (ys ≡ front ++ x ∷ []))
        → (front : List ℕ) × (x : ℕ) × (y ∷ ys ≡ front ++ x ∷ [])
    put_front y ys (inl none) = ([], y, ap (λ (l : List ℕ). y ∷ l) none)
    put_front y ys (inr h) = (y ∷ h.0, h.1, ap (λ (l : List ℕ). y ∷ l) h.2)

-- and it stands for the last of them
pub fits_end : (us : List TokenModel) (u : TokenModel) (xs : List ℕ) (x : ℕ) → is_star u ≡ false
    → Fits (us ++ u ∷ []) (xs ++ x ∷ []) ↔ (Fits us xs × IsTrue (takes u x))
fits_end [] u [] x s = let one = fits_one u [] x [] s in (λ f. (tt, (one.0 f).0), λ h. one.1 (h.1, tt))
fits_end [] u (y ∷ xs) x s = let one = fits_one u [] y (xs ++ x ∷ []) s in (λ f. absurd (beyond xs x (one.0 f).1), λ h. absurd h.0)
fits_end (star ∷ us) u xs x s =
    let end = after_end (Fits (us ++ u ∷ [])) (λ b. Fits us b × IsTrue (takes u x)) x (no_end us u s) (λ b. fits_end us u b x s) xs in (
      λ f. let h = end.0 f in ((h.0, h.1, h.2, h.3.0), h.3.1),
      λ h. end.1 (h.0.0, h.0.1, h.0.2, (h.0.3, h.1)),
    )
fits_end (literal c ∷ us) u [] x s = (λ f. absurd (no_end us u s f.1), λ h. absurd h.0)
fits_end (literal c ∷ us) u (y ∷ xs) x s = more_end (IsTrue (takes (literal c) y)) _ _ _ (fits_end us u xs x s)
fits_end (any_byte ∷ us) u [] x s = (λ f. absurd (no_end us u s f.1), λ h. absurd h.0)
fits_end (any_byte ∷ us) u (y ∷ xs) x s = more_end (IsTrue (takes any_byte y)) _ _ _ (fits_end us u xs x s)
fits_end (class n rs ∷ us) u [] x s = (λ f. absurd (no_end us u s f.1), λ h. absurd h.0)
fits_end (class n rs ∷ us) u (y ∷ xs) x s = more_end (IsTrue (takes (class n rs) y)) _ _ _ (fits_end us u xs x s)

-- the same of lists that are equal to such ones
pub when_end : (tokens us : List TokenModel) (u : TokenModel) (segment xs : List ℕ) (x : ℕ) → tokens ≡ us ++ u ∷ []
    → segment ≡ xs ++ x ∷ [] → is_star u ≡ false → Fits tokens segment ↔ (Fits us xs × IsTrue (takes u x))
when_end tokens us u segment xs x e n s =
    subst (λ (l : List ℕ). Fits tokens l ↔ (Fits us xs × IsTrue (takes u x))) (sym n)
    (subst (λ (l : List TokenModel). Fits l (xs ++ x ∷ []) ↔ (Fits us xs × IsTrue (takes u x))) (sym e) (fits_end us u xs x s))

-- where the last token does not stand for the last byte, whatever that is
pub end_stuck : (tokens us : List TokenModel) (u : TokenModel) (segment : List ℕ) → tokens ≡ us ++ u ∷ [] → is_star u ≡ false
    → ((x : ℕ) (rest : List ℕ) → segment ≡ rest ++ x ∷ [] → IsFalse (takes u x)) → Fits tokens segment → ⊥
end_stuck tokens us u segment e s never f = at_last (last_or segment) f
  where
    at_last : (segment ≡ []) ⊎ ((xs : List ℕ) × (x : ℕ) × (segment ≡ xs ++ x ∷ [])) → Fits tokens segment → ⊥
    at_last (inl none) f = no_end us u s (subst (Fits (us ++ u ∷ [])) none (subst (λ (l : List TokenModel). Fits l segment) e f))
    at_last (inr h) f = false≢true (sym (never h.1 h.0 h.2) ∙ ((when_end tokens us u segment h.0 h.1 e h.2 s).0 f).1)

-- the same at the front
pub front_stuck : (tokens us : List TokenModel) (u : TokenModel) (segment : List ℕ) → tokens ≡ u ∷ us → is_star u ≡ false
    → ((x : ℕ) (rest : List ℕ) → segment ≡ x ∷ rest → IsFalse (takes u x)) → Fits tokens segment → ⊥
front_stuck tokens us u [] e s never f = fits_one_empty u us s (subst (λ (l : List TokenModel). Fits l []) e f)
front_stuck tokens us u (x ∷ xs) e s never f = false≢true (sym (never x xs refl) ∙ ((when_one tokens us u (x ∷ xs) x xs e refl s).0 f).0)

-- literals fit themselves alone
pub fits_literals : (ls bytes : List ℕ) → Fits (map literal ls) bytes ↔ (bytes ≡ ls)
fits_literals [] [] = (λ f. refl, λ e. tt)
fits_literals [] (b ∷ bs) = (λ f. absurd f, λ e. cc)
fits_literals (l ∷ ls) [] = (λ f. absurd f, λ e. cc)
fits_literals (l ∷ ls) (b ∷ bs) =
    let rest = fits_literals ls bs in (
      λ f. let is : l ≡ b = eqb-true l b f.0 in let more : bs ≡ ls = rest.0 f.1 in cc,
      λ e. let is : l ≡ b = cc in let more : bs ≡ ls = cc in (eq-eqb l b is, rest.1 more),
    )

-- after a star literals fit the bytes that end with them
pub suffix_decides : (ls bytes : List ℕ) → IsTrue (ends_with nat_eq bytes ls) ↔ Fits (star ∷ map literal ls) bytes
suffix_decides ls bytes =
    let ends = ends_is Decides-eqb bytes ls (ends_with nat_eq bytes ls) refl in (
      λ t. (take (length bytes - length ls) bytes, ls, ends.0 t, (fits_literals ls ls).1 refl),
      λ f. ends.1 f.0 (f.2 ∙ ap (λ (l : List ℕ). f.0 ++ l) ((fits_literals ls f.1).0 f.3)),
    )

-- alone they fit as many bytes where these end with them
pub whole_decides : (ls bytes : List ℕ) → length bytes ≡ length ls → IsTrue (ends_with nat_eq bytes ls) ↔ Fits (map literal ls) bytes
whole_decides ls bytes e =
    let ends = ends_is Decides-eqb bytes ls (ends_with nat_eq bytes ls) refl in
    let fits = fits_literals ls bytes in
    let none : length bytes - length ls ≡ 0 = omega (arith, e) in (
      λ t. fits.1 (ends.0 t ∙ ap (λ (n : ℕ). take n bytes ++ ls) none),
      λ f. ends.1 [] (fits.0 f),
    )

-- and no other number of bytes
pub fits_as_many : (ls bytes : List ℕ) → Fits (map literal ls) bytes → length bytes ≡ length ls
fits_as_many ls bytes f = ap length ((fits_literals ls bytes).0 f)

pub ends_decide : (is_whole : Bool) (ls bytes : List ℕ) → (is_whole ≡ true → length bytes ≡ length ls)
    → IsTrue (ends_with nat_eq bytes ls) ↔ Fits (end_tokens is_whole ls) bytes
ends_decide true ls bytes e = whole_decides ls bytes (e refl)
ends_decide false ls bytes e = suffix_decides ls bytes
