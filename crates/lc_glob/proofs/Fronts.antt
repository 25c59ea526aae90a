-- The first and the last of the parts that separators cut.
use Rattle.std.proofs.Common.{◌≡◌, Bool, true, false, not, ◌&&◌, ◌||◌, cond, nat_lt, List, [], ◌∷◌, ◌++◌, length, map, Some, refl, sym, ◌∙◌}
use Rattle.std.proofs.{Common.{ap, arith}, lemmas.{Bool.{false≢true, lt-ltb, or_parts}, List.map-append, Simd.map-map}}
use Rattle.std.specs.List.{onto_first, slice_split}
use Rattle.lc_glob.specs.{Elements.{parts_in, trimmed_model}, Lists.is_empty, Patterns.{SegmentModel, dead}}
use Rattle.lc_glob.specs.Reading.{begins_empty, cut_at_front, ends_empty, live, pattern_from, segment_from, some_empty, without_first}
use Rattle.lc_glob.specs.{Reading.without_last, Tokens.TokenModel, Views.live_model}
use Rattle.lc_glob.proofs.Naming.{some_part}

-- a pattern ends with an empty part where the last part is empty and not the only one
pub ends_last : (ps : List (List TokenModel)) (q : List TokenModel) → ends_empty (ps ++ q ∷ []) ≡ (not (is_empty ps) && is_empty q)
ends_last [] q = refl
ends_last (p ∷ []) q = refl
ends_last (p ∷ r ∷ []) q = refl
ends_last (p ∷ r ∷ s ∷ ps) q = ends_last (r ∷ s ∷ ps) q

off : (ps : List (List TokenModel)) (q : List TokenModel) → without_last (ps ++ q ∷ []) ≡ ps
off [] q = refl
off (p ∷ []) q = refl
off (p ∷ r ∷ ps) q = ap (λ (l : List (List TokenModel)). p ∷ l) (off (r ∷ ps) q)

filled : {A : Type 0} (xs : List A) → (xs ≡ [] → ⊥) → is_empty xs ≡ false
filled [] some = absurd (some refl)
filled (x ∷ xs) some = refl

begins_first : (p : List TokenModel) (ps : List (List TokenModel)) → is_empty ps ≡ false → begins_empty (p ∷ ps) ≡ is_empty p
begins_first p [] some = cc
begins_first p (q ∷ ps) some = refl

-- what is none once it is mapped was none
pub none_mapped : {A B : Type 0} (f : A → B) (xs : List A) → map f xs ≡ [] → xs ≡ []
none_mapped f [] e = refl
none_mapped f (x ∷ xs) e = cc

longer_than_one : {A : Type 0} (x : A) (xs : List A) → is_empty xs ≡ false → nat_lt 1 (length (x ∷ xs)) ≡ true
longer_than_one x [] some = cc
longer_than_one x (y ∷ xs) some = lt-ltb 1 (length (x ∷ y ∷ xs)) (omega arith)

pub false_left : (a b c : Bool) → a ≡ false → b ≡ c → b ≡ (a || c)
false_left true b c a is = cc
false_left false b c a is = is

module _ {A : Type 0} (tokens : List A → List TokenModel) (p : A → Bool) where
  filled_parts : (xs : List A) → is_empty (parts_in tokens p xs) ≡ false
  filled_parts xs = filled (parts_in tokens p xs) (λ e. some_part p xs (none_mapped tokens (slice_split p xs) e))

  at_end : (xs front last : List A) → slice_split p xs ≡ slice_split p front ++ last ∷ []
      → parts_in tokens p xs ≡ parts_in tokens p front ++ tokens last ∷ []
  at_end xs front last e = ap (map tokens) e ∙ map-append tokens (slice_split p front) (last ∷ [])

  -- whether the last is a separator, by what is after the last one
  pub ends_after : (xs front last : List A) → slice_split p xs ≡ slice_split p front ++ last ∷ []
      → ends_empty (parts_in tokens p xs) ≡ is_empty (tokens last)
  ends_after xs front last e =
      ap ends_empty (at_end xs front last e) ∙ ends_last (parts_in tokens p front) (tokens last)
      ∙ ap (λ (b : Bool). not b && is_empty (tokens last)) (filled_parts front)

  pub front_parts : (xs front last : List A) → slice_split p xs ≡ slice_split p front ++ last ∷ []
      → parts_in tokens p front ≡ without_last (parts_in tokens p xs)
  front_parts xs front last e = sym (ap without_last (at_end xs front last e) ∙ off (parts_in tokens p front) (tokens last))

  -- and whether the first is one, by what is before it
  pub begins_before : (xs first rest : List A) → slice_split p xs ≡ first ∷ slice_split p rest
      → begins_empty (parts_in tokens p xs) ≡ is_empty (tokens first)
  begins_before xs first rest e =
      ap (λ (l : List (List A)). begins_empty (map tokens l)) e
      ∙ begins_first (tokens first) (parts_in tokens p rest) (filled_parts rest)

  pub rest_parts : (xs first rest : List A) → slice_split p xs ≡ first ∷ slice_split p rest
      → parts_in tokens p rest ≡ without_first (parts_in tokens p xs)
  rest_parts xs first rest e = sym (ap (λ (l : List (List A)). without_first (map tokens l)) e)

  -- whether there are two parts
  pub two_parts : (xs first rest : List A) → slice_split p xs ≡ first ∷ slice_split p rest
      → nat_lt 1 (length (parts_in tokens p xs)) ≡ true
  two_parts xs first rest e =
      ap (λ (l : List (List A)). nat_lt 1 (length (map tokens l))) e
      ∙ longer_than_one (tokens first) (parts_in tokens p rest) (filled_parts rest)

  onto_length : (x : A) (ps : List (List A)) → is_empty ps ≡ false → length (map tokens (onto_first x ps)) ≡ length (map tokens ps)
  onto_length x [] some = cc
  onto_length x (l ∷ ps) some = refl

  -- elements of one part are that part
  pub single : (xs : List A) → nat_lt 1 (length (parts_in tokens p xs)) ≡ false → slice_split p xs ≡ xs ∷ []
  single [] e = refl
  single (x ∷ xs) e = at (p x) e (single xs)
    where
      at : (t : Bool) → nat_lt 1 (length (map tokens (cond t ([] ∷ slice_split p xs) (onto_first x (slice_split p xs))))) ≡ false
          → (nat_lt 1 (length (parts_in tokens p xs)) ≡ false → slice_split p xs ≡ xs ∷ [])
          → cond t ([] ∷ slice_split p xs) (onto_first x (slice_split p xs)) ≡ (x ∷ xs) ∷ []
      at true e h = absurd (false≢true (sym e ∙ longer_than_one (tokens []) (parts_in tokens p xs) (filled_parts xs)))
      at false e h =
          ap (onto_first x) (h (sym (ap (nat_lt 1) (onto_length x (slice_split p xs) (filled (slice_split p xs) (some_part p xs)))) ∙ e))

  -- a pattern without the separators at its ends
  live_is : (xs front rest : List A)
      → parts_in tokens p front ≡ cond (ends_empty (parts_in tokens p xs)) (without_last (parts_in tokens p xs)) (parts_in tokens p xs)
      → parts_in tokens p rest
      ≡ cond (begins_empty (parts_in tokens p front)) (without_first (parts_in tokens p front)) (parts_in tokens p front)
      → pattern_from (Some (parts_in tokens p xs)) ≡ live (ends_empty (parts_in tokens p xs))
      (begins_empty (parts_in tokens p front) || nat_lt 1 (length (parts_in tokens p front))) (parts_in tokens p rest)
  live_is xs front rest f r =
      let dir = ends_empty (parts_in tokens p xs) in
      sym (ap (cut_at_front dir) f)
      ∙ sym (ap (live dir (begins_empty (parts_in tokens p front) || nat_lt 1 (length (parts_in tokens p front)))) r)

  -- whether it is anchored: a separator leads, or stands between two parts of the rest
  same_scope : (front rest : List A)
      → parts_in tokens p rest
      ≡ cond (begins_empty (parts_in tokens p front)) (without_first (parts_in tokens p front)) (parts_in tokens p front)
      → (begins_empty (parts_in tokens p front) || nat_lt 1 (length (parts_in tokens p front)))
      ≡ (begins_empty (parts_in tokens p front) || nat_lt 1 (length (parts_in tokens p rest)))
  same_scope front rest r = at (begins_empty (parts_in tokens p front)) r
    where
      at : (t : Bool) → parts_in tokens p rest ≡ cond t (without_first (parts_in tokens p front)) (parts_in tokens p front)
          → (t || nat_lt 1 (length (parts_in tokens p front))) ≡ (t || nat_lt 1 (length (parts_in tokens p rest)))
      at true r = refl
      at false r = sym (ap (λ (l : List (List TokenModel)). nat_lt 1 (length l)) r)

  anchored_segments : (dir t : Bool) (rest : List A) → (t ≡ false → nat_lt 1 (length (parts_in tokens p rest)) ≡ false)
      → live_model dir t (map (segment_from t) (parts_in tokens p rest)) ≡ trimmed_model tokens p dir t rest
  anchored_segments dir true rest short =
      ap (λ (l : List SegmentModel). live_model dir true l) (map-map (segment_from true) tokens (slice_split p rest))
  anchored_segments dir false rest short =
      ap (λ (l : List (List A)). live_model dir false (map (segment_from false) (map tokens l))) (single rest (short refl))

  -- else it is what is left, by its scope
  pub trimmed_is : (xs front rest : List A) (dir t : Bool) → dir ≡ ends_empty (parts_in tokens p xs)
      → t ≡ (begins_empty (parts_in tokens p front) || nat_lt 1 (length (parts_in tokens p rest)))
      → parts_in tokens p front ≡ cond (ends_empty (parts_in tokens p xs)) (without_last (parts_in tokens p xs)) (parts_in tokens p xs)
      → parts_in tokens p rest
      ≡ cond (begins_empty (parts_in tokens p front)) (without_first (parts_in tokens p front)) (parts_in tokens p front)
      → some_empty (parts_in tokens p rest) ≡ false → pattern_from (Some (parts_in tokens p xs)) ≡ trimmed_model tokens p dir t rest
  trimmed_is xs front rest dir t d is f r e =
      live_is xs front rest f r
      ∙ ap (λ (b : Bool). live b (begins_empty (parts_in tokens p front) || nat_lt 1 (length (parts_in tokens p front)))
      (parts_in tokens p rest))
      (sym d)
      ∙ ap (λ (b : Bool). live dir b (parts_in tokens p rest)) (same_scope front rest r ∙ sym is)
      ∙ ap (λ (b : Bool). cond b dead (live_model dir t (map (segment_from t) (parts_in tokens p rest)))) e
      ∙ anchored_segments dir t rest (λ none. (or_parts _ _ (sym is ∙ none)).1)
