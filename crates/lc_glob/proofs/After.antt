-- What holds of some rest of a list.
use Rattle.std.proofs.Common.{◌≡◌, ◌↔◌, ◌⊎◌, List, [], ◌∷◌, ◌++◌, inl, inr, refl, sym, ◌∙◌, subst, ap, append_assoc}

abbrev pub After : {X : Type 0} → (List X → Type 0) → List X → Type 0
After {X} P xs = (a b : List X) × (xs ≡ a ++ b) × P b

module _ {X : Type 0} (P : List X → Type 0) where
  -- what holds of a list holds of some rest of it, the list itself
  pub after_none : (xs : List X) → P xs → After P xs
  after_none xs h = ([], xs, refl, h)

  -- what holds of some rest of a list holds of some rest of a longer one
  pub after_more : (x : X) (xs : List X) → After P xs → After P (x ∷ xs)
  after_more x xs h = (x ∷ h.0, h.1, ap (λ (l : List X). x ∷ l) h.2, h.3)

  from_empty : (a b : List X) → [] ≡ a ++ b → P b → P []
  from_empty [] [] e f = f
  from_empty [] (x ∷ b) e f = cc
  from_empty (x ∷ a) b e f = cc

  -- of the empty list the only rest is itself
  pub after_empty : After P [] → P []
  after_empty h = from_empty h.0 h.1 h.2 h.3

  from_cut : (x : X) (xs a b : List X) → x ∷ xs ≡ a ++ b → P b → P (x ∷ xs) ⊎ After P xs
  from_cut x xs [] b e f = inl (subst P (sym e) f)
  from_cut x xs (y ∷ a) b e f = inr (a, b, (cc), f)

  -- some rest is the whole list, or a rest of what follows the first element
  pub after_cut : (x : X) (xs : List X) → After P (x ∷ xs) → P (x ∷ xs) ⊎ After P xs
  after_cut x xs h = from_cut x xs h.0 h.1 h.2 h.3

  -- after one element or more
  abbrev pub Later : List X → Type 0
  Later [] = ⊥
  Later (x ∷ xs) = After P xs

  -- a later rest is a rest
  pub later_after : (xs : List X) → Later xs → After P xs
  later_after [] h = absurd h
  later_after (x ∷ xs) h = after_more x xs h

  -- some rest is the whole list or a later one
  pub after_split : (xs : List X) → After P xs → P xs ⊎ Later xs
  after_split [] h = inl (after_empty h)
  after_split (x ∷ xs) h = after_cut x xs h

  -- the whole list or a later rest is some rest
  pub after_join : (xs : List X) → P xs ⊎ Later xs → After P xs
  after_join xs (inl f) = after_none xs f
  after_join xs (inr g) = later_after xs g

  -- a rest of a rest is a rest
  pub after_after : (xs : List X) → After (After P) xs → After P xs
  after_after xs h = (h.0 ++ h.3.0, h.3.1, h.2 ∙ ap (λ (l : List X). h.0 ++ l) h.3.2 ∙ sym (append_assoc h.0 h.3.0 h.3.1), h.3.3)

-- a list with a last element, cut in two: the cut comes after it, or before it
cut_end : {X : Type 0} (a c b : List X) (n : X) → a ++ n ∷ [] ≡ c ++ b → (b ≡ []) ⊎ ((d : List X) × (b ≡ d ++ n ∷ []) × (a ≡ c ++ d))
cut_end a [] b n e = inr (a, sym e, refl)
cut_end [] (z ∷ []) b n e = inl (cc)
cut_end [] (z ∷ y ∷ c) b n e = cc
cut_end (x ∷ a) (z ∷ c) b n e =
    elim (cut_end a c b n (cc)) [
      | inl none ↦ inl none
      | inr h ↦ inr (h.0, h.1, (cc))
    ]

-- what holds of a rest that keeps the last element, where P needs one and holds before it just where Q does
pub after_end : {X : Type 0} (P Q : List X → Type 0) (n : X) → (P [] → ⊥) → ((b : List X) → P (b ++ n ∷ []) ↔ Q b) → (a : List X)
    → After P (a ++ n ∷ []) ↔ After Q a
after_end {X = X} P Q n never same a = (
  λ h. elim (cut_end a h.0 h.1 n h.2) [
    | inl none ↦ absurd (never (subst P none h.3))
    | inr d ↦
        (h.0, d.0, d.2, (same d.0).0 (subst P d.1 h.3))
  ],
  λ h. (h.0, h.1 ++ n ∷ [], ap (λ (l : List X). l ++ n ∷ []) h.2 ∙ append_assoc h.0 h.1 (n ∷ []), (same h.1).1 h.3),
)

-- where P needs a first element and Q holds of what follows it
module _ {X : Type 0} (P Q : List X → Type 0) (never : P [] → ⊥) (step : (x : X) (xs : List X) → P (x ∷ xs) → Q xs) where
  drop_rest : (a b xs : List X) → xs ≡ a ++ b → P b → After Q xs
  drop_rest a [] xs e f = absurd (never f)
  drop_rest a (y ∷ ys) xs e f = (a ++ (y ∷ []), ys, e ∙ sym (append_assoc a (y ∷ []) ys), step y ys f)

  drop_from : (x : X) (xs a b : List X) → x ∷ xs ≡ a ++ b → P b → After Q xs
  drop_from x xs [] [] e f = cc
  drop_from x xs [] (y ∷ ys) e f =
      let same : xs ≡ ys = cc in
      subst (λ (l : List X). After Q l) (sym same) (after_none Q ys (step y ys f))
  drop_from x xs (z ∷ a) b e f = drop_rest a b xs (cc) f

  -- where what holds of a list gives something of the list without its first element, so does what holds of some rest
  pub after_drop : (x : X) (xs : List X) → After P (x ∷ xs) → After Q xs
  after_drop x xs h = drop_from x xs h.0 h.1 h.2 h.3
