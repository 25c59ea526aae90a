-- That bytes have one cutting, which is that of `TheCutting`.
use Rattle.std.proofs.Common.{◌≡◌, ℕ, true, false, ◌||◌, ◌⊎◌, inl, inr, List, [], ◌∷◌, ◌++◌, refl, sym, ap, subst, ◌∙◌, eqb-true}
use Rattle.std.proofs.lemmas.Bool.{cases_Bool, or_from, or_parts}
use Rattle.std.specs.List.{list_any}
use Rattle.lc_census.specs.{Bytes.{is_lf, is_cr, is_end}, Cutting.{End, lf, cr_lf, cr, Line, Cutting, HasNoEnd, bytes_of, joined}}
use Rattle.lc_census.specs.{Cutting.{starts_with_lf, AreLines, IsCutting, HasOneCutting}, TheCutting.{line, cutting, with_cr, with_text}}
use Rattle.lc_census.specs.TheCutting.{by_byte, before, cut}

-- a byte is LF, CR or neither
pub by_kind : (P : ℕ → Type 0) → P 10 → P 13 → ((x : ℕ) → is_lf x ≡ false → is_cr x ≡ false → P x) → (x : ℕ) → P x
by_kind P p q r x = at_lf (cases_Bool (is_lf x)) (cases_Bool (is_cr x))
  where
    at_lf : (is_lf x ≡ true) ⊎ (is_lf x ≡ false) → (is_cr x ≡ true) ⊎ (is_cr x ≡ false) → P x
    at_lf (inl e) c = subst P (sym (eqb-true x 10 e)) p
    at_lf (inr e) (inl f) = subst P (sym (eqb-true x 13 f)) q
    at_lf (inr e) (inr f) = r x e f

-- a byte of text before a cutting lengthens its first line
pub before-text : (x : ℕ) (d : Cutting) → is_lf x ≡ false → is_cr x ≡ false → before x d ≡ with_text x d.lines d.rest
before-text x d e f = ap (λ b. by_byte b (is_cr x) x d) e ∙ ap (λ b. by_byte false b x d) f

end_false : (x : ℕ) → is_lf x ≡ false → is_cr x ≡ false → is_end x ≡ false
end_false x e f = ap (λ b. b || is_cr x) e ∙ f

-- a cutting stays one with a byte before it
text_is : (x : ℕ) (xs : List ℕ) → is_end x ≡ false → (ls : List Line) (r : List ℕ) → IsCutting xs (cutting ls r)
    → IsCutting (x ∷ xs) (with_text x ls r)
text_is x xs n [] r h = record { lines = tt; rest = or_from (is_end x) (list_any is_end r) n h.rest; whole = ap (λ t. x ∷ t) h.whole }
text_is x xs n (l ∷ ls) r h = record {
  lines = (or_from (is_end x) (list_any is_end l.text) n h.lines.0, h.lines.1, h.lines.2);
  rest = h.rest;
  whole = ap (λ t. x ∷ t) h.whole;
}

cr_is : (xs : List ℕ) (ls : List Line) (r : List ℕ) → IsCutting xs (cutting ls r)
    → IsCutting (13 ∷ xs) (cutting (with_cr (starts_with_lf ls) ls) r)
cr_is xs [] r h = record { lines = (refl, refl, tt); rest = h.rest; whole = ap (λ t. 13 ∷ t) h.whole }
cr_is xs (l ∷ ls) r h = go l.text l.end h
  where
    go : (t : List ℕ) (e : End) → IsCutting xs (cutting (line t e ∷ ls) r)
        → IsCutting (13 ∷ xs) (cutting (with_cr (starts_with_lf (line t e ∷ ls)) (line t e ∷ ls)) r)
    go [] lf k = record { lines = (refl, refl, k.lines.2); rest = k.rest; whole = ap (λ t. 13 ∷ t) k.whole }
    go [] cr_lf k = record { lines = (refl, refl, k.lines); rest = k.rest; whole = ap (λ t. 13 ∷ t) k.whole }
    go [] cr k = record { lines = (refl, refl, k.lines); rest = k.rest; whole = ap (λ t. 13 ∷ t) k.whole }
    go (y ∷ t) e k = record { lines = (refl, refl, k.lines); rest = k.rest; whole = ap (λ t. 13 ∷ t) k.whole }

before_is : (xs : List ℕ) (d : Cutting) → IsCutting xs d → (x : ℕ) → IsCutting (x ∷ xs) (before x d)
before_is xs d h = by_kind (λ x. IsCutting (x ∷ xs) (before x d))
    (record { lines = (refl, refl, h.lines); rest = h.rest; whole = ap (λ t. 10 ∷ t) h.whole })
    (cr_is xs d.lines d.rest h)
    (λ x e f. subst (IsCutting (x ∷ xs)) (sym (before-text x d e f)) (text_is x xs (end_false x e f) d.lines d.rest h))

-- the cutting is one
pub cut_is : (bytes : List ℕ) → IsCutting bytes (cut bytes)
cut_is [] = record { lines = tt; rest = refl; whole = refl }
cut_is (x ∷ xs) = before_is xs (cut xs) (cut_is xs) x

-- each cutting is that one
head_is : (x y : ℕ) (xs ys : List ℕ) → (x ∷ xs) ≡ (y ∷ ys) → x ≡ y
head_is x y xs ys e = cc

tail_is : (x y : ℕ) (xs ys : List ℕ) → (x ∷ xs) ≡ (y ∷ ys) → xs ≡ ys
tail_is x y xs ys e = cc

not_empty : (t : List ℕ) (e : End) (r : List ℕ) → (t ++ (bytes_of e ++ r)) ≡ [] → ⊥
not_empty [] lf r h = cc
not_empty [] cr_lf r h = cc
not_empty [] cr r h = cc
not_empty (y ∷ t) e r h = cc

cr_alone : (ls : List Line) (r : List ℕ) → starts_with_lf ls ≡ false → cutting (line [] cr ∷ ls) r ≡ before 13 (cutting ls r)
cr_alone ls r h = ap (λ b. cutting (with_cr b ls) r) (sym h)

text_before : (x y : ℕ) (d : Cutting) → y ≡ x → is_end y ≡ false → with_text y d.lines d.rest ≡ before x d
text_before x y d e n =
    sym (before-text y d (or_parts (is_lf y) (is_cr y) n).0 (or_parts (is_lf y) (is_cr y) n).1) ∙ ap (λ z. before z d) e

-- each cutting of these bytes is the one that `cut` gives
abbrev pub OnlyCut : List ℕ → Type 0
OnlyCut xs = (ls : List Line) (r : List ℕ) → AreLines ls → HasNoEnd r → joined ls r ≡ xs → cutting ls r ≡ cut xs

only_line : (x : ℕ) (xs : List ℕ) → OnlyCut xs → (t : List ℕ) (end : End) (ls : List Line) (r : List ℕ)
    → AreLines (line t end ∷ ls) → HasNoEnd r → joined (line t end ∷ ls) r ≡ (x ∷ xs)
    → cutting (line t end ∷ ls) r ≡ before x (cut xs)
only_line x xs here [] lf ls r a n e =
    ap (before 10) (here ls r a.2 n (tail_is 10 x _ xs e)) ∙ ap (λ z. before z (cut xs)) (head_is 10 x _ xs e)
only_line x xs here [] cr ls r a n e =
    cr_alone ls r a.1 ∙ ap (before 13) (here ls r a.2 n (tail_is 13 x _ xs e)) ∙ ap (λ z. before z (cut xs)) (head_is 13 x _ xs e)
only_line x xs here [] cr_lf ls r a n e =
    ap (before 13) (here (line [] lf ∷ ls) r (refl, refl, a.2) n (tail_is 13 x _ xs e))
    ∙ ap (λ z. before z (cut xs)) (head_is 13 x _ xs e)
only_line x xs here (y ∷ t) end ls r a n e =
    text_before x y (cutting (line t end ∷ ls) r) (head_is y x _ xs e) (or_parts (is_end y) (list_any is_end t) a.0).0
    ∙ ap (before x) (here (line t end ∷ ls) r ((or_parts (is_end y) (list_any is_end t) a.0).1, a.1, a.2) n (tail_is y x _ xs e))

only : (bytes : List ℕ) → OnlyCut bytes
only [] [] [] a n e = refl
only [] [] (y ∷ r) a n e = absurd (cc)
only [] (l ∷ ls) r a n e = absurd (not_empty l.text l.end (joined ls r) e)
only (x ∷ xs) [] [] a n e = absurd (cc)
only (x ∷ xs) [] (y ∷ r) a n e =
    text_before x y (cutting [] r) (head_is y x r xs e) (or_parts (is_end y) (list_any is_end r) n).0
    ∙ ap (before x) (only xs [] r tt (or_parts (is_end y) (list_any is_end r) n).1 (tail_is y x r xs e))
only (x ∷ xs) (l ∷ ls) r a n e = only_line x xs (only xs) l.text l.end ls r a n e

-- there is no other
pub one_cutting : (bytes : List ℕ) → HasOneCutting bytes
one_cutting bytes = (cut bytes, cut_is bytes, λ d h. only bytes d.lines d.rest h.lines h.rest h.whole)
