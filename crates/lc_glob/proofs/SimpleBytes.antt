-- Simple patterns, byte by byte.
use Rattle.std.proofs.Common.{◌≡◌, ℕ, Bool, true, false, not, ◌&&◌, ◌||◌, cond, nat_eq, List, [], ◌∷◌, map, Option, Some, refl, sym, ◌∙◌}
use Rattle.std.proofs.{Common.ap, lemmas.Bool.{false≢true, eqb-true, and_parts}}
use Rattle.std.specs.List.{list_all, onto_first}
use Rattle.lc_glob.specs.{Tokens.{TokenModel, literal, any_byte, star}, Patterns.{SegmentModel, plain, double_star}, Path.segments_of}
use Rattle.lc_glob.specs.{Reading.{LexemeModel, separator, one, lexeme, put, parts, is_double_star}, Simple.{is_simple, is_literal}}
use Rattle.lc_glob.specs.Simple.{byte_token, byte_parts, bytes_segment, is_end, tokens_of_end, is_ends_segment, ends_segment}
use Rattle.lc_glob.proofs.{Naming.{HasFirst, has_first}, Parts.at_lexeme}

-- bytes that are literals
chosen_literal : (a q : Bool) (t u v : TokenModel) → (not a && not q) ≡ true → cond a t (cond q u v) ≡ v
chosen_literal false false t u v e = refl
chosen_literal false true t u v e = cc
chosen_literal true q t u v e = cc

pub literal_byte : (b : ℕ) → is_literal b ≡ true → byte_token b ≡ literal b
literal_byte b e = chosen_literal (nat_eq b 42) (nat_eq b 63) star any_byte (literal b) e

pub literal_bytes : (bs : List ℕ) → list_all is_literal bs ≡ true → map byte_token bs ≡ map literal bs
literal_bytes [] e = refl
literal_bytes (b ∷ bs) e =
    ap (λ (u : TokenModel). u ∷ map byte_token bs) (literal_byte b (and_parts (is_literal b) _ e).0)
    ∙ ap (λ (l : List TokenModel). literal b ∷ l) (literal_bytes bs (and_parts (is_literal b) _ e).1)

-- a star, and then literals
pub suffix_bytes : (bytes bs : List ℕ) (b : ℕ) → bytes ≡ b ∷ bs → b ≡ 42 → list_all is_literal bs ≡ true
    → map byte_token bytes ≡ star ∷ map literal bs
suffix_bytes bytes bs b e is all =
    ap (map byte_token) (e ∙ ap (λ (c : ℕ). c ∷ bs) is) ∙ ap (λ (l : List TokenModel). star ∷ l) (literal_bytes bs all)

-- bytes that are literals, alone or after a star
end_bytes : (bs : List ℕ) → is_end bs ≡ true → map byte_token bs ≡ tokens_of_end bs
end_bytes [] e = refl
end_bytes (b ∷ bs) e = at (nat_eq b 42) refl e
  where
    at : (t : Bool) → nat_eq b 42 ≡ t → cond t (list_all is_literal bs) (list_all is_literal (b ∷ bs)) ≡ true
        → map byte_token (b ∷ bs) ≡ cond t (star ∷ map literal bs) (map literal (b ∷ bs))
    at true is e = suffix_bytes (b ∷ bs) bs b refl (eqb-true b 42 is) e
    at false is e = literal_bytes (b ∷ bs) e

-- segments that are such, or a double star
end_segment : (bs : List ℕ) → is_ends_segment bs ≡ true → ends_segment bs ≡ bytes_segment bs
end_segment bs e = at (is_double_star (map byte_token bs)) e
  where
    at : (t : Bool) → (t || is_end bs) ≡ true
        → cond t double_star (plain (tokens_of_end bs)) ≡ cond t double_star (plain (map byte_token bs))
    at true e = refl
    at false e = ap plain (sym (end_bytes bs e))

pub ends_segments : (ps : List (List ℕ)) → list_all is_ends_segment ps ≡ true → map ends_segment ps ≡ map bytes_segment ps
ends_segments [] e = refl
ends_segments (p ∷ ps) e =
    ap (λ (s : SegmentModel). s ∷ map ends_segment ps) (end_segment p (and_parts (is_ends_segment p) _ e).0)
    ∙ ap (λ (l : List SegmentModel). bytes_segment p ∷ l) (ends_segments ps (and_parts (is_ends_segment p) _ e).1)

-- the parts after a separator, and after another byte
pub after_separator : (b : ℕ) (bs : List ℕ) → nat_eq b 47 ≡ true → byte_parts (b ∷ bs) ≡ [] ∷ byte_parts bs
after_separator b bs e = ap (λ (t : Bool). map (map byte_token) (cond t ([] ∷ segments_of bs) (onto_first b (segments_of bs)))) e

pub after_other : (b : ℕ) (bs : List ℕ) → nat_eq b 47 ≡ false → byte_parts (b ∷ bs) ≡ map (map byte_token) (onto_first b (segments_of bs))
after_other b bs e = ap (λ (t : Bool). map (map byte_token) (cond t ([] ∷ segments_of bs) (onto_first b (segments_of bs)))) e

-- what a simple byte is read as
chosen : (k o s a q : Bool) (x y : Option (LexemeModel × ℕ)) (b : ℕ) → (not k && not o) ≡ true → s ≡ false
    → cond k x (cond o y (Some (cond a (one star) (cond q (one any_byte) (cond s separator (one (literal b)))), 0)))
    ≡ Some (one (cond a star (cond q any_byte (literal b))), 0)
chosen false false false true q x y b e n = refl
chosen false false false false true x y b e n = refl
chosen false false false false false x y b e n = refl
chosen k o true a q x y b e n = absurd (false≢true (sym n))
chosen true o false a q x y b e n = cc
chosen false true false a q x y b e n = cc

simple_lexeme : (b : ℕ) (bs : List ℕ) → is_simple b ≡ true → nat_eq b 47 ≡ false → lexeme b bs ≡ Some (one (byte_token b), 0)
simple_lexeme b bs e n = chosen (nat_eq b 92) (nat_eq b 91) (nat_eq b 47) (nat_eq b 42) (nat_eq b 63) _ _ b e n

slash_lexeme : (b : ℕ) (bs : List ℕ) → b ≡ 47 → lexeme b bs ≡ Some (separator, 0)
slash_lexeme b bs e = ap (λ (c : ℕ). lexeme c bs) e

put_separator : (ps : List (List TokenModel)) (p : List TokenModel) (qs : List (List TokenModel)) → ps ≡ p ∷ qs
    → put separator (Some ps) ≡ Some ([] ∷ ps)
put_separator ps p qs e =
    ap (λ (l : List (List TokenModel)). put separator (Some l)) e ∙ sym (ap (λ (l : List (List TokenModel)). Some ([] ∷ l)) e)

put_byte : (b : ℕ) (ps : List (List ℕ)) (p : List ℕ) (qs : List (List ℕ)) → ps ≡ p ∷ qs
    → put (one (byte_token b)) (Some (map (map byte_token) ps)) ≡ Some (map (map byte_token) (onto_first b ps))
put_byte b ps p qs e =
    ap (λ (l : List (List ℕ)). put (one (byte_token b)) (Some (map (map byte_token) l))) e
    ∙ sym (ap (λ (l : List (List ℕ)). Some (map (map byte_token) (onto_first b l))) e)

-- so they are the parts that the separators cut
pub simple_parts : (bs : List ℕ) → list_all is_simple bs ≡ true → parts 0 bs ≡ Some (byte_parts bs)
simple_parts [] e = refl
simple_parts (b ∷ bs) e =
    at (nat_eq b 47) refl (and_parts (is_simple b) _ e).0 (simple_parts bs (and_parts (is_simple b) _ e).1) (has_first bs)
  where
    at : (t : Bool) → nat_eq b 47 ≡ t → is_simple b ≡ true → parts 0 bs ≡ Some (byte_parts bs)
        → HasFirst (segments_of bs) → parts 0 (b ∷ bs) ≡ Some (byte_parts (b ∷ bs))
    at true n s h some =
        at_lexeme b bs separator 0 (slash_lexeme b bs (eqb-true b 47 n)) ∙ ap (put separator) h
        ∙ put_separator (byte_parts bs) (map byte_token some.first) (map (map byte_token) some.others) (ap (map (map byte_token)) some.are)
        ∙ sym (ap Some (after_separator b bs n))
    at false n s h some =
        at_lexeme b bs (one (byte_token b)) 0 (simple_lexeme b bs s n) ∙ ap (put (one (byte_token b))) h
        ∙ put_byte b (segments_of bs) some.first some.others some.are ∙ sym (ap Some (after_other b bs n))
