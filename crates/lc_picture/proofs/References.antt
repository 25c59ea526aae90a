-- Names with character references.
use Rattle.std.proofs.Common.{◌≡◌, ℕ, nat_eq, Bool, true, false, ◌||◌, if◌then◌else◌, List, [], ◌∷◌, ◌++◌, refl, subst, ap, ◌∙◌}
use Rattle.std.proofs.lemmas.Bool.{eqb-true, or_parts}
use Rattle.std.specs.List.{list_any}
use Rattle.lc_picture.specs.{Escaping.{html, is_markup, reference}, Laws.{TagLaw, UnescapedLaw, is_tag_byte, unescaped}}

either : {Q : Type 0} (x y : Bool) → (x || y) ≡ true → (x ≡ true → Q) → (y ≡ true → Q) → Q
either true y e l r = l refl
either false y e l r = r e

-- what holds of the five bytes holds of each byte that could be markup
of_markup : (P : ℕ → Type 0) → P 38 → P 60 → P 62 → P 34 → P 39 → (b : ℕ) → is_markup b ≡ true → P b
of_markup P p38 p60 p62 p34 p39 b e =
    let found : (m : ℕ) → P m → nat_eq m b ≡ true → P b = λ m p same. subst P (eqb-true m b same) p in
    either _ _ e (found 38 p38) (λ e. either _ _ e (found 60 p60) (λ e. either _ _ e (found 62 p62)
    (λ e. either _ _ e (found 34 p34) (λ e. either _ _ e (found 39 p39) (λ e. absurd (cc))))))

-- ---- tags

tag_byte : (b : ℕ) (m : Bool) → is_markup b ≡ m → (rest : List ℕ) → list_any is_tag_byte rest ≡ false
    → list_any is_tag_byte ((if m then reference b else b ∷ []) ++ rest) ≡ false
tag_byte b true e rest none = of_markup (λ b. list_any is_tag_byte (reference b ++ rest) ≡ false) none none none none none b e
tag_byte b false e rest none = rw ((or_parts (nat_eq 38 b) (is_tag_byte b) e).1, none) refl

pub tag_law : TagLaw
tag_law [] = refl
tag_law (b ∷ bs) = tag_byte b (is_markup b) refl (html bs) (tag_law bs)

-- ---- reading back

unescaped_plain : (b : ℕ) (rest : List ℕ) → nat_eq 38 b ≡ false → unescaped (b ∷ rest) ≡ b ∷ unescaped rest
unescaped_plain b [] e = refl
unescaped_plain b (c ∷ []) e = refl
unescaped_plain b (c ∷ d ∷ []) e = refl
unescaped_plain b (c ∷ d ∷ f ∷ []) e = refl
unescaped_plain b (c ∷ d ∷ f ∷ g ∷ gs) e = rw e refl

unescaped_byte : (b : ℕ) (m : Bool) → is_markup b ≡ m → (rest : List ℕ)
    → unescaped ((if m then reference b else b ∷ []) ++ rest) ≡ b ∷ unescaped rest
unescaped_byte b true e rest = of_markup (λ b. unescaped (reference b ++ rest) ≡ b ∷ unescaped rest) refl refl refl refl refl b e
unescaped_byte b false e rest = unescaped_plain b rest (or_parts (nat_eq 38 b) (is_tag_byte b) e).0

pub unescaped_law : UnescapedLaw
unescaped_law [] = refl
unescaped_law (b ∷ bs) = unescaped_byte b (is_markup b) refl (html bs) ∙ ap (λ (l : List ℕ). b ∷ l) (unescaped_law bs)
