-- Elements cut by separators, by the place of the first or the last of these.
use Rattle.std.proofs.Common.{length-drop, ◌≡◌, ◌↔◌, ◌<◌, ◌+◌, ◌-◌, ℕ, Bool, true, false, IsTrue, nat_eq, List, [], ◌∷◌, ◌++◌, length}
use Rattle.std.proofs.Common.{take, drop, get_or, refl, sym, ◌∙◌, ap, ap₂, subst, length-append, Option, Some, None, arith, append_assoc}
use Rattle.std.proofs.lemmas.List.Splits.{slice_split_none, slice_split-cons_yes, slice_split-cons_no, length-slice_split, slice_split_at}
use Rattle.std.proofs.lemmas.List.{take_rest, take-append-drop, drop_more, get_or-drop, append-nil, nil_from_length}
use Rattle.std.proofs.lemmas.List.Elements.{All-append, All-nil}
use Rattle.std.proofs.{lemmas.Bool.false_from_ne_true, Math.Seq.{take-append_seam, drop-append_seam}}
use Rattle.std.specs.{List.{onto_first, All, slice_split}, Borrow.Bor}
use Rattle.memchr.specs.Find.{IsLastByte, is_byte}
use Rattle.lc_glob.specs.{Bytes.slash, Path.segments_of, Pieces.cuts_left}
use Rattle.lc_glob.proofs.FirstByte.{same_read, split_none}

-- what is left behind a front
pub left_off : {A : Type 0} (all left after : List A) → all ≡ left ++ after
    → take (length all - length left) (drop (length left) all) ≡ after
left_off all left after e = rw take_rest (ap (drop (length left)) e ∙ drop-append_seam left after)

module _ {A : Type 0} (p : A → Bool) where
  -- there is a part, if only an empty one
  pub some_part : (xs : List A) → slice_split p xs ≡ [] → ⊥
  some_part xs e =
      let h = length-slice_split p xs in
      let z : length (slice_split p xs) ≡ 0 = ap length e in omega (arith, h, z)

  -- something is left where a rest is
  pub some_left : (rest : Option (Bor (List A))) (xs : Bor (List A)) → rest ≡ Some xs → IsTrue false ↔ (cuts_left p rest ≡ [])
  some_left rest xs e = (λ h. cc, λ h. absurd (some_part xs.now (sym (ap (cuts_left p) e) ∙ h)))

  onto_more : (x : A) (parts more : List (List A)) → (parts ≡ [] → ⊥) → onto_first x (parts ++ more) ≡ onto_first x parts ++ more
  onto_more x [] more some = absurd (some refl)
  onto_more x (l ∷ parts) more some = refl

  -- what separates cuts the parts before it from those after it
  pub split_apart : (xs : List A) (y : A) (ys : List A) → p y ≡ true → slice_split p (xs ++ y ∷ ys) ≡ slice_split p xs ++ slice_split p ys
  split_apart [] y ys e = slice_split-cons_yes p y ys e
  split_apart (x ∷ xs) y ys e = at (p x) refl (split_apart xs y ys e)
    where
      at : (t : Bool) → p x ≡ t → slice_split p (xs ++ y ∷ ys) ≡ slice_split p xs ++ slice_split p ys
          → slice_split p (x ∷ xs ++ y ∷ ys) ≡ slice_split p (x ∷ xs) ++ slice_split p ys
      at true s before =
          slice_split-cons_yes p x (xs ++ y ∷ ys) s ∙ ap (λ (l : List (List A)). [] ∷ l) before
          ∙ ap (λ (l : List (List A)). l ++ slice_split p ys) (sym (slice_split-cons_yes p x xs s))
      at false s before =
          slice_split-cons_no p x (xs ++ y ∷ ys) s ∙ ap (onto_first x) before
          ∙ onto_more x (slice_split p xs) (slice_split p ys) (some_part xs)
          ∙ ap (λ (l : List (List A)). l ++ slice_split p ys) (sym (slice_split-cons_no p x xs s))

  -- the last part begins after the last separator
  split_end : (xs : List A) (y : A) (ys : List A) → p y ≡ true → All (λ x. p x ≡ false) ys
      → slice_split p (xs ++ y ∷ ys) ≡ slice_split p xs ++ ys ∷ []
  split_end xs y ys e none = split_apart xs y ys e ∙ ap (λ (l : List (List A)). slice_split p xs ++ l) (slice_split_none p ys none)

  -- one that doesn't separate is the last of the last part
  pub last_part : (xs : List A) (y : A) → p y ≡ false
      → (parts : List (List A)) × (last : List A) × (slice_split p (xs ++ y ∷ []) ≡ parts ++ (last ++ y ∷ []) ∷ [])
  last_part [] y e = ([], [], slice_split-cons_no p y [] e)
  last_part (x ∷ xs) y e = at (p x) refl (last_part xs y e)
    where
      onto : p x ≡ false → (parts : List (List A)) (last : List A) → slice_split p (xs ++ y ∷ []) ≡ parts ++ (last ++ y ∷ []) ∷ []
          → (parts : List (List A)) × (last : List A) × (slice_split p (x ∷ xs ++ y ∷ []) ≡ parts ++ (last ++ y ∷ []) ∷ [])
      onto s [] last is = ([], x ∷ last, slice_split-cons_no p x (xs ++ y ∷ []) s ∙ ap (onto_first x) is)
      onto s (q ∷ qs) last is = ((x ∷ q) ∷ qs, last, slice_split-cons_no p x (xs ++ y ∷ []) s ∙ ap (onto_first x) is)

      at : (t : Bool) → p x ≡ t
          → (parts : List (List A)) × (last : List A) × (slice_split p (xs ++ y ∷ []) ≡ parts ++ (last ++ y ∷ []) ∷ [])
          → (parts : List (List A)) × (last : List A) × (slice_split p (x ∷ xs ++ y ∷ []) ≡ parts ++ (last ++ y ∷ []) ∷ [])
      at true s h = ([] ∷ h.0, h.1, slice_split-cons_yes p x (xs ++ y ∷ []) s ∙ ap (λ (l : List (List A)). [] ∷ l) h.2)
      at false s h = onto s h.0 h.1 h.2

  -- and the first of the first
  pub first_part : (y : A) (ys : List A) → p y ≡ false
      → (first : List A) × (parts : List (List A)) × (slice_split p (y ∷ ys) ≡ (y ∷ first) ∷ parts)
  first_part y ys e = at (slice_split p ys) refl
    where
      at : (parts : List (List A)) → slice_split p ys ≡ parts
          → (first : List A) × (parts : List (List A)) × (slice_split p (y ∷ ys) ≡ (y ∷ first) ∷ parts)
      at [] none = absurd (some_part ys none)
      at (q ∷ qs) is = (q, qs, slice_split-cons_no p y ys e ∙ ap (onto_first y) is)

  -- the parts of elements that more may follow, none of which separates: those before the last, and the last
  abbrev pub EndsIn : List A → List (List A) → List A → Type 0
  EndsIn xs parts last = (more : List A) → All (λ x. p x ≡ false) more → slice_split p (xs ++ more) ≡ parts ++ (last ++ more) ∷ []

  pub ends_start : EndsIn [] [] []
  ends_start = λ more none. slice_split_none p more none

  pub ends_more : (xs new last : List A) (parts : List (List A)) → All (λ x. p x ≡ false) new → EndsIn xs parts last
      → EndsIn (xs ++ new) parts (last ++ new)
  ends_more xs new last parts all ends = λ more none.
      ap (slice_split p) (append_assoc xs new more) ∙ ends (new ++ more) (All-append (λ x. p x ≡ false) new more all none)
      ∙ ap (λ (l : List A). parts ++ l ∷ []) (sym (append_assoc last new more))

  pub ends_cut : (xs : List A) (y : A) → p y ≡ true → EndsIn (xs ++ y ∷ []) (slice_split p xs) []
  ends_cut xs y e = λ more none. ap (slice_split p) (append_assoc xs (y ∷ []) more) ∙ split_end xs y more e none

  pub ends_now : (xs last : List A) (parts : List (List A)) → EndsIn xs parts last → slice_split p xs ≡ parts ++ last ∷ []
  ends_now xs last parts ends =
      ap (slice_split p) (sym (append-nil xs)) ∙ ends [] (All-nil (λ x. p x ≡ false))
      ∙ ap (λ (l : List A). parts ++ l ∷ []) (append-nil last)

  -- at the first separator
  pub cut_first : (all before left others : List A) (x : A) → all ≡ before ++ left → left ≡ x ∷ others → p x ≡ true
      → All (λ y. p y ≡ false) before → slice_split p all ≡ take (length all - length left) all ∷ slice_split p others
  cut_first all before left others x e cons is none =
      let whole : all ≡ before ++ x ∷ others = e ∙ ap (λ (l : List A). before ++ l) cons in
      let len : length all - length left ≡ length before = omega (arith, ap length e, length-append before left) in
      ap (slice_split p) whole ∙ slice_split_at p before x others none is
      ∙ ap (λ (l : List A). l ∷ slice_split p others)
      (sym (ap₂ take len whole ∙ take-append_seam before (x ∷ others)))

  -- and at the last
  pub cut_last : (all left others after : List A) (x : A) → all ≡ left ++ after → left ≡ others ++ x ∷ [] → p x ≡ true
      → All (λ y. p y ≡ false) after
      → slice_split p all ≡ slice_split p others ++ take (length all - length left) (drop (length left) all) ∷ []
  cut_last all left others after x e end is none =
      ap (slice_split p) (e ∙ ap (λ (l : List A). l ++ after) end ∙ append_assoc others (x ∷ []) after) ∙ split_end others x after is none
      ∙ ap (λ (l : List A). slice_split p others ++ l ∷ []) (sym (left_off all left after e))

  -- where none is passed on the way to an end
  pub none_first : (all before left : List A) → all ≡ before ++ left → length left ≡ 0 → All (λ y. p y ≡ false) before
      → slice_split p all ≡ all ∷ []
  none_first all before left e over none =
      let whole : all ≡ before = e ∙ ap (λ (l : List A). before ++ l) (nil_from_length left over) ∙ append-nil before in
      slice_split_none p all (subst (All (λ y. p y ≡ false)) (sym whole) none)

  pub none_last : (all left after : List A) → all ≡ left ++ after → length left ≡ 0 → All (λ y. p y ≡ false) after
      → slice_split p all ≡ all ∷ []
  none_last all left after e over none =
      let whole : all ≡ after = e ∙ ap (λ (l : List A). l ++ after) (nil_from_length left over) in
      slice_split_none p all (subst (All (λ y. p y ≡ false)) (sym whole) none)

-- each path has a segment, if only an empty one
pub some_segment : (bytes : List ℕ) → segments_of bytes ≡ [] → ⊥
some_segment bytes e = some_part (λ (b : ℕ). nat_eq b 47) bytes e

-- so it has a first
pub record HasFirst (parts : List (List ℕ)) : Type 0 where
  pub first : List ℕ
  pub others : List (List ℕ)
  pub are : parts ≡ first ∷ others

has_first_of : (parts : List (List ℕ)) → (parts ≡ [] → ⊥) → HasFirst parts
has_first_of [] some = absurd (some refl)
has_first_of (p ∷ ps) some = record { first = p; others = ps; are = refl }

pub has_first : (bytes : List ℕ) → HasFirst (segments_of bytes)
has_first bytes = has_first_of (segments_of bytes) (some_segment bytes)

-- a slash cuts the segments before it from those after it
pub segments_apart : (before after : List ℕ) → segments_of (before ++ slash ∷ after) ≡ segments_of before ++ segments_of after
segments_apart before after = split_apart (λ (b : ℕ). nat_eq b 47) before slash after refl

-- bytes without a slash are one part
pub no_last_slash : (bytes : List ℕ) → IsLastByte (is_byte 47) bytes None → segments_of bytes ≡ bytes ∷ []
no_last_slash bytes h = split_none 47 bytes h

-- the last slash cuts off the last segment
pub at_last_slash : (bytes : List ℕ) (i : ℕ) → IsLastByte (is_byte 47) bytes (Some i)
    → segments_of bytes ≡ segments_of (take i bytes) ++ take (length bytes - (i + 1)) (drop (i + 1) bytes) ∷ []
at_last_slash bytes i h =
    let below : i < length bytes = h.0.high in
    let cut : take i bytes ++ get_or bytes i 0 ∷ drop (i + 1) bytes ≡ bytes = ap (λ (l : List ℕ). take i bytes ++ l)
    (sym (drop_more bytes i 0 below)) ∙ take-append-drop i bytes in
    let none : All (λ (b : ℕ). nat_eq b 47 ≡ false) (drop (i + 1) bytes) =
    λ k d l.
    let inside : i + 1 + k < length bytes = omega (arith, length-drop (i + 1) bytes) in
    false_from_ne_true _ (λ t. h.0.after (i + 1 + k) (omega arith) inside
    (subst (λ (x : ℕ). nat_eq x 47 ≡ true) (get_or-drop (i + 1) bytes k d ∙ same_read bytes (i + 1 + k) d inside) t)) in
    rw take_rest (sym (ap segments_of cut)
    ∙ split_end (λ (b : ℕ). nat_eq b 47) (take i bytes) (get_or bytes i 0) (drop (i + 1) bytes) h.1 none)
