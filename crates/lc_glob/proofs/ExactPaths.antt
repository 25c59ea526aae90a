-- A pattern of literals alone matches the path that has the same bytes.
use Rattle.std.proofs.Common.{◌≡◌, ◌↔◌, ◌≤◌, ◌<◌, ◌+◌, ◌-◌, ◌^◌, ◌*◌, ℕ, suc, Bool, true, false, ◌&&◌, cond, nat_eq, bytes_eq, List, []}
use Rattle.std.proofs.{Common.{◌∷◌, length, map, IsTrue, refl, sym, ◌∙◌, ap, ap₂, subst, arith}, Math.Nat.min-le_left}
use Rattle.std.proofs.lemmas.{Bool.and_parts, List.{length-map, Splits.join_with_byte-slice_split}, Slice.Eq.bytes_eq-Decides}
use Rattle.std.specs.List.{join_with_byte, list_all, onto_first}
use Rattle.lc_glob.specs.{Tokens.{TokenModel, literal}, Patterns.{SegmentModel, plain, double_star}, Matches.MatchesPath, Path.segments_of}
use Rattle.lc_glob.specs.{Reading.is_double_star, Simple.{is_literal, bytes_segment, exact_segment}, ByteTests.tests_if}
use Rattle.lc_glob.specs.Costs.{tokens_with_ends, bytes_with_ends, full_cost}
use Rattle.lc_glob.proofs.{Fitting.fits_literals, Naming.{HasFirst, has_first}, SimpleBytes.literal_bytes}

exact_self : (ss : List (List ℕ)) → MatchesPath (map exact_segment ss) ss
exact_self [] = tt
exact_self (s ∷ ss) = ((fits_literals s s).1 refl, exact_self ss)

exact_same : (ss ns : List (List ℕ)) → MatchesPath (map exact_segment ss) ns → ns ≡ ss
exact_same [] [] m = refl
exact_same [] (n ∷ ns) m = absurd m
exact_same (s ∷ ss) [] m = absurd m
exact_same (s ∷ ss) (n ∷ ns) m = ap₂ (λ (x : List ℕ) (xs : List (List ℕ)). x ∷ xs) ((fits_literals s n).0 m.0) (exact_same ss ns m.1)

-- so the comparison of the bytes decides
pub exact_decides : (bytes path : List ℕ) → IsTrue (bytes_eq path bytes)
    ↔ MatchesPath (map exact_segment (segments_of bytes)) (segments_of path)
exact_decides bytes path =
    let same = bytes_eq-Decides path bytes in (
      λ t. subst (λ (p : List ℕ). MatchesPath (map exact_segment (segments_of bytes)) (segments_of p)) (sym (same.0 t))
          (exact_self (segments_of bytes)),
      λ m. same.1 (sym (join_with_byte-slice_split 47 path)
          ∙ ap (join_with_byte 47) (exact_same (segments_of bytes) (segments_of path) m) ∙ join_with_byte-slice_split 47 bytes),
    )

-- it costs a test for each byte
exact_weight : (ss : List (List ℕ)) → tokens_with_ends (map exact_segment ss) ≡ bytes_with_ends ss
exact_weight [] = refl
exact_weight (s ∷ ss) = ap₂ (λ (a b : ℕ). (a + 1) + b) (length-map s literal) (exact_weight ss)

onto_grows : (b : ℕ) (ps : List (List ℕ)) (p : List ℕ) (qs : List (List ℕ)) → ps ≡ p ∷ qs
    → bytes_with_ends (onto_first b ps) ≡ suc (bytes_with_ends ps)
onto_grows b ps p qs e =
    ap (λ (l : List (List ℕ)). bytes_with_ends (onto_first b l)) e ∙ grows p qs
    ∙ sym (ap (λ (l : List (List ℕ)). suc (bytes_with_ends l)) e)
  where
    grows : (p : List ℕ) (qs : List (List ℕ)) → bytes_with_ends ((b ∷ p) ∷ qs) ≡ suc (bytes_with_ends (p ∷ qs))
    grows p qs = omega arith

whole_weight : (bs : List ℕ) → length bs + 1 ≤ bytes_with_ends (segments_of bs)
whole_weight [] = omega arith
whole_weight (b ∷ bs) = at (nat_eq b 47) (whole_weight bs) (has_first bs)
  where
    at : (t : Bool) → length bs + 1 ≤ bytes_with_ends (segments_of bs)
        → HasFirst (segments_of bs)
        → length (b ∷ bs) + 1 ≤ bytes_with_ends (cond t ([] ∷ segments_of bs) (onto_first b (segments_of bs)))
    at true h some = omega (arith, h)
    at false h some = omega (arith, h, onto_grows b (segments_of bs) some.first some.others some.are)

pub exact_cost : (bytes path : List ℕ) (t n : ℕ) → n ≤ t + length bytes
    → n < t + full_cost (map exact_segment (segments_of bytes)) (segments_of path)
exact_cost bytes path t n paid =
    product (length bytes) (tokens_with_ends (map exact_segment (segments_of bytes))) (bytes_with_ends (segments_of path)) t n
    (omega (arith, whole_weight bytes, exact_weight (segments_of bytes))) (omega (arith, whole_weight path)) paid
  where
    product : (l a b t n : ℕ) → l + 1 ≤ a → 1 ≤ b → n ≤ t + l → n < t + a * b
    product l a b t n la b1 paid = grind arith

pub tests_most : (b : Bool) (t n m : ℕ) → m ≡ tests_if b t n → m ≤ t + n
tests_most true t n m e = omega (arith, e, min-le_left (t + n) (2 ^ 64 - 1))
tests_most false t n m e = omega (arith, e)

-- bytes of literals are segments of literals
literal_parts : (bs : List ℕ) → list_all is_literal bs ≡ true → list_all (list_all is_literal) (segments_of bs) ≡ true
literal_parts [] e = refl
literal_parts (b ∷ bs) e = at (nat_eq b 47) (literal_parts bs (and_parts (is_literal b) _ e).1) (has_first bs)
  where
    onto : (ps : List (List ℕ)) (p : List ℕ) (qs : List (List ℕ)) → ps ≡ p ∷ qs → list_all (list_all is_literal) ps ≡ true
        → list_all (list_all is_literal) (onto_first b ps) ≡ true
    onto ps p qs q h =
        ap (λ (l : List (List ℕ)). list_all (list_all is_literal) (onto_first b l)) q
        ∙ ap (λ (t : Bool). (t && list_all is_literal p) && list_all (list_all is_literal) qs) (and_parts (is_literal b) _ e).0
        ∙ sym (ap (list_all (list_all is_literal)) q) ∙ h

    at : (t : Bool) → list_all (list_all is_literal) (segments_of bs) ≡ true
        → HasFirst (segments_of bs)
        → list_all (list_all is_literal) (cond t ([] ∷ segments_of bs) (onto_first b (segments_of bs))) ≡ true
    at true h some = h
    at false h some = onto (segments_of bs) some.first some.others some.are h

no_double : (bs : List ℕ) → is_double_star (map literal bs) ≡ false
no_double [] = refl
no_double (b ∷ []) = refl
no_double (b ∷ c ∷ []) = refl
no_double (b ∷ c ∷ d ∷ bs) = refl

exact_one : (bs : List ℕ) → list_all is_literal bs ≡ true → exact_segment bs ≡ bytes_segment bs
exact_one bs e =
    sym (ap (λ (us : List TokenModel). cond (is_double_star us) double_star (plain us)) (literal_bytes bs e)
    ∙ ap (λ (t : Bool). cond t double_star (plain (map literal bs))) (no_double bs))

exact_all : (ps : List (List ℕ)) → list_all (list_all is_literal) ps ≡ true → map exact_segment ps ≡ map bytes_segment ps
exact_all [] e = refl
exact_all (p ∷ ps) e =
    ap₂ (λ (x : SegmentModel) (xs : List SegmentModel). x ∷ xs) (exact_one p (and_parts (list_all is_literal p) _ e).0)
    (exact_all ps (and_parts (list_all is_literal p) _ e).1)

pub exact_segments : (bytes : List ℕ) → list_all is_literal bytes ≡ true
    → map exact_segment (segments_of bytes) ≡ map bytes_segment (segments_of bytes)
exact_segments bytes e = exact_all (segments_of bytes) (literal_parts bytes e)
