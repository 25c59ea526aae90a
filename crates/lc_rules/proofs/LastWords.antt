-- The last word of bytes, and the assignments before the last.
use Rattle.std.proofs.Common.{◌≡◌, ◌<◌, ◌⊎◌, ℕ, Bool, true, false, cond, List, [], ◌∷◌, ◌++◌, length, filter, take, drop, length-drop}
use Rattle.std.proofs.Common.{Option, Some, None, is_some, inl, inr, refl, sym, ◌∙◌, ap, arith, append_assoc, lt-ltb}
use Rattle.std.proofs.lemmas.Bool.{or_parts}
use Rattle.std.proofs.lemmas.List.{append-nil, length-take, Elements.{filter-append, filter_map-append}, Splits.slice_split-cons_no}
use Rattle.std.specs.List.{cons_option, filter_map, list_any, slice_split, onto_first}
use Rattle.lc_glob.proofs.Naming.{split_apart}
use Rattle.lc_rules.specs.{Attributes.AssignmentModel, AttrWords.{is_white, is_some_word, words, assign, assigns, both}, LastWord.EndsBlack}
use Rattle.lc_rules.specs.WrittenLines.{assigned}

-- white space parts the words before it from those after it
pub words_white : (xs : List ℕ) (b : ℕ) (ys : List ℕ) → is_white b ≡ true → words (xs ++ (b ∷ ys)) ≡ words xs ++ words ys
words_white xs b ys e = ap (filter is_some_word) (split_apart is_white xs b ys e)
    ∙ filter-append is_some_word (slice_split is_white xs) (slice_split is_white ys)

-- white space at the end belongs to no word
pub words_before : (xs before : List ℕ) (b : ℕ) → xs ≡ before ++ (b ∷ []) → is_white b ≡ true → words before ≡ words xs
words_before xs before b e h = sym (ap words e ∙ words_white before b [] h ∙ append-nil (words before))

split_black : (w : List ℕ) → list_any is_white w ≡ false → slice_split is_white w ≡ w ∷ []
split_black [] h = refl
split_black (x ∷ xs) h =
    let parts = or_parts (is_white x) (list_any is_white xs) h in
    slice_split-cons_no is_white x xs parts.0 ∙ ap (onto_first x) (split_black xs parts.1)

words_black : (w : List ℕ) → list_any is_white w ≡ false → 0 < length w → words w ≡ w ∷ []
words_black w h l =
    ap (filter is_some_word) (split_black w h) ∙ ap (λ t. cond t (w ∷ []) []) (lt-ltb 0 (length w) l)

last_or_none : (xs : List ℕ) → (xs ≡ []) ⊎ ((front : List ℕ) × (b : ℕ) × (xs ≡ front ++ (b ∷ [])))
last_or_none [] = inl refl
last_or_none (x ∷ xs) = elim (last_or_none xs) [
  | inl e ↦ inr ([], x, ap (λ l. x ∷ l) e)
  | inr h ↦ inr (x ∷ h.0, h.1, ap (λ l. x ∷ l) h.2)
]

-- bytes that end with a word that white space or nothing stands before
pub words_last : (whole xs w : List ℕ) → whole ≡ xs ++ w → ((front : List ℕ) (b : ℕ) → xs ≡ front ++ (b ∷ []) → is_white b ≡ true)
    → list_any is_white w ≡ false → 0 < length w → words whole ≡ words xs ++ (w ∷ [])
words_last whole xs w e white black l = elim (last_or_none xs) [
  | inl n ↦ ap words (e ∙ ap (λ v. v ++ w) n) ∙ words_black w black l ∙ ap (λ v. words v ++ (w ∷ [])) (sym n)
  | inr h ↦ ap words (e ∙ ap (λ v. v ++ w) h.2 ∙ append_assoc h.0 (h.1 ∷ []) w)
      ∙ words_white h.0 h.1 w (white h.0 h.1 h.2)
      ∙ ap (λ v. words h.0 ++ v) (words_black w black l)
      ∙ ap (λ v. v ++ (w ∷ [])) (words_before xs h.0 h.1 h.2 (white h.0 h.1 h.2))
]

-- bytes that end with no white space end with a byte of their last word
pub last_word_some : (bytes xs w : List ℕ) → bytes ≡ xs ++ w → (length bytes ≡ 0 → ⊥) → EndsBlack bytes
    → ((front : List ℕ) (b : ℕ) → xs ≡ front ++ (b ∷ []) → is_white b ≡ true) → 0 < length w
last_word_some bytes xs [] e l black white = absurd (elim (last_or_none xs) [
  | inl n ↦ l (ap length (e ∙ ap (λ v. v ++ []) n))
  | inr h ↦ let q : is_white h.1 ≡ false = black h.0 h.1 (e ∙ append-nil xs ∙ h.2) in
      let r : true ≡ false = sym (white h.0 h.1 h.2) ∙ q in cc
])
last_word_some bytes xs (b ∷ bs) e l black white = omega arith

-- what stands before a word is shorter than both
pub front_less : (start : ℕ) (bytes : List ℕ) → 0 < length (drop start bytes) → length (take start bytes) < length bytes
front_less start bytes h = omega (arith, h, length-drop start bytes, length-take start bytes)

-- an assignment, or none where the word isn't one, stands after those before the last word
pub assigned_last : (whole before word : List ℕ) (a : Option AssignmentModel) → words whole ≡ words before ++ (word ∷ [])
    → a ≡ assign word → assigned whole ≡ assigned before ++ cons_option a []
assigned_last whole before word a e is = ap (filter_map assign) e ∙ filter_map-append assign (words before) (word ∷ [])
    ∙ ap (λ o. assigned before ++ cons_option o []) (sym is)

-- where each word is an assignment, they are all
pub assigns_all : (ws : List (List ℕ)) (all : Bool) → is_some (assigns ws) ≡ all
    → assigns ws ≡ cond all (Some (filter_map assign ws)) None
assigns_all [] true e = refl
assigns_all [] false e = absurd (let h : true ≡ false = e in cc)
assigns_all (w ∷ ws) all e = by_cases (assign w) (assigns ws) all (λ b h. assigns_all ws b h) e
  where
    by_cases : (first : Option AssignmentModel) (o : Option (List AssignmentModel)) (b : Bool)
        → ((c : Bool) → is_some o ≡ c → o ≡ cond c (Some (filter_map assign ws)) None) → is_some (both first o) ≡ b
        → both first o ≡ cond b (Some (cons_option first (filter_map assign ws))) None
    by_cases None o true h q = absurd (let r : false ≡ true = q in cc)
    by_cases None o false h q = refl
    by_cases (Some a) None true h q = absurd (let r : false ≡ true = q in cc)
    by_cases (Some a) None false h q = refl
    by_cases (Some a) (Some others) true h q = ap (both (Some a)) (h true refl)
    by_cases (Some a) (Some others) false h q = absurd (let r : true ≡ false = q in cc)

-- what all words give
pub assigns_are : (ws : List (List ℕ)) (found : List AssignmentModel) → assigns ws ≡ Some found → found ≡ filter_map assign ws
assigns_are ws found e = let h : Some found ≡ Some (filter_map assign ws) = sym e ∙ assigns_all ws true (ap is_some e) in cc
