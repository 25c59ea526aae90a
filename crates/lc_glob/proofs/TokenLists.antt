-- Tokens as they are kept, with the ranges of brackets among them.
use Rattle.std.proofs.Common.{◌≡◌, ◌+◌, ℕ, Bool, true, false, List, [], ◌∷◌, ◌++◌, length, map, if◌then◌else◌, refl, sym, ◌∙◌, ap, ap₂}
use Rattle.std.proofs.{Common.{subst, arith, append_assoc, take, drop, ◌-◌}, lemmas.List.Elements.{All-nil, All-cons}}
use Rattle.std.proofs.lemmas.List.Recursion.{is_count_by}
use Rattle.std.specs.List.{All, count_by}
use Rattle.lc_glob.proofs.Naming.{left_off}
use Rattle.lc_glob.specs.{Lengths.least_bytes, Tokens.{TokenModel, literal, any_byte, star, class}}
use Rattle.lc_glob.specs.TokenLists.{ranges_first, tokens_model, is_separator, is_for_byte, literal_tokens, range_tokens}
use Rattle.lc_glob.specs.declared.token.Token.{Token, TheVariants.{Literal, AnyByte, Star, Open, Range, Separator}}

abbrev pub is_range : Token → Bool
is_range (Range f l) = true
is_range _ = false

-- what comes after a token that is no range adds none to the ranges before it
ranges_end : (xs : List Token) (t : Token) (after : List Token) → is_range t ≡ false → ranges_first (xs ++ t ∷ after) ≡ ranges_first xs
ranges_end [] (Literal c) after e = refl
ranges_end [] AnyByte after e = refl
ranges_end [] Star after e = refl
ranges_end [] (Open n) after e = refl
ranges_end [] (Range f l) after e = cc
ranges_end [] Separator after e = refl
ranges_end (Range f l ∷ xs) t after e = ap (λ (rs : List (ℕ × ℕ)). (f, l) ∷ rs) (ranges_end xs t after e)
ranges_end (_ ∷ xs) t after e = refl

-- so it changes nothing of what those before it stand for
pub model_before : (xs : List Token) (t : Token) (after : List Token) → is_range t ≡ false
    → tokens_model (xs ++ t ∷ after) ≡ tokens_model xs ++ tokens_model (t ∷ after)
model_before [] t after e = refl
model_before (Literal c ∷ xs) t after e = ap (λ (l : List TokenModel). literal c ∷ l) (model_before xs t after e)
model_before (AnyByte ∷ xs) t after e = ap (λ (l : List TokenModel). any_byte ∷ l) (model_before xs t after e)
model_before (Star ∷ xs) t after e = ap (λ (l : List TokenModel). star ∷ l) (model_before xs t after e)
model_before (Open n ∷ xs) t after e =
    ap₂ (λ (rs : List (ℕ × ℕ)) (l : List TokenModel). class n rs ∷ l) (ranges_end xs t after e) (model_before xs t after e)
model_before (_ ∷ xs) t after e = model_before xs t after e

longer : (us : List TokenModel) (u : TokenModel) → us ≡ u ∷ us → ⊥
longer us u e = let len = ap length e in omega (arith, len)

no_range : (t : Token) (after : List Token) (u : TokenModel) → tokens_model (t ∷ after) ≡ u ∷ tokens_model after → is_range t ≡ false
no_range (Range f l) after u e = absurd (longer (tokens_model after) u e)
no_range _ after u e = refl

-- the last token that stands for something, where what is after it stands for nothing
pub model_last : (all left before after : List Token) (t : Token) (u : TokenModel) → all ≡ left ++ after → left ≡ before ++ t ∷ []
    → tokens_model (t ∷ take (length all - length left) (drop (length left) all))
    ≡ u ∷ tokens_model (take (length all - length left) (drop (length left) all))
    → tokens_model after ≡ [] → tokens_model all ≡ tokens_model before ++ u ∷ []
model_last all left before after t u e end is none =
    let rest = left_off all left after e in
    let is' : tokens_model (t ∷ after) ≡ u ∷ tokens_model after =
    subst (λ (l : List Token). tokens_model (t ∷ l) ≡ u ∷ tokens_model l) rest is in
    ap tokens_model (e ∙ ap (λ (l : List Token). l ++ after) end ∙ append_assoc before (t ∷ []) after)
    ∙ model_before before t after (no_range t after u is')
    ∙ ap (λ (l : List TokenModel). tokens_model before ++ l) (is' ∙ ap (λ (l : List TokenModel). u ∷ l) none)

-- ranges by themselves stand for nothing, and none of them separates
ranges_none : (ranges : List (ℕ × ℕ)) → tokens_model (range_tokens ranges) ≡ []
ranges_none [] = refl
ranges_none (r ∷ ranges) = ranges_none ranges

ranges_all : (ranges : List (ℕ × ℕ)) → ranges_first (range_tokens ranges) ≡ ranges
ranges_all [] = refl
ranges_all (r ∷ ranges) = ap (λ (rs : List (ℕ × ℕ)). r ∷ rs) (ranges_all ranges)

pub ranges_inside : (ranges : List (ℕ × ℕ)) → All (λ t. is_separator t ≡ false) (range_tokens ranges)
ranges_inside [] = All-nil (λ t. is_separator t ≡ false)
ranges_inside (r ∷ ranges) = All-cons (λ t. is_separator t ≡ false) (Range r.0 r.1) (range_tokens ranges) refl (ranges_inside ranges)

-- a bracket and its ranges
pub bracket_alone : (n : Bool) (ranges : List (ℕ × ℕ)) → tokens_model (Open n ∷ range_tokens ranges) ≡ class n ranges ∷ []
bracket_alone n ranges =
    ap₂ (λ (rs : List (ℕ × ℕ)) (l : List TokenModel). class n rs ∷ l) (ranges_all ranges) (ranges_none ranges)

-- literals
pub model_of_literals : (bytes : List ℕ) → tokens_model (literal_tokens bytes) ≡ map literal bytes
model_of_literals [] = refl
model_of_literals (b ∷ bs) = ap (λ (l : List TokenModel). literal b ∷ l) (model_of_literals bs)

abbrev least_of : List Token → ℕ
least_of [] = 0
least_of (t ∷ ts) = if is_for_byte t then 1 + least_of ts else least_of ts

least_same : (ts : List Token) → least_of ts ≡ least_bytes (tokens_model ts)
least_same [] = refl
least_same (Literal c ∷ ts) = ap (λ (n : ℕ). 1 + n) (least_same ts)
least_same (AnyByte ∷ ts) = ap (λ (n : ℕ). 1 + n) (least_same ts)
least_same (Open n ∷ ts) = ap (λ (n : ℕ). 1 + n) (least_same ts)
least_same (_ ∷ ts) = least_same ts

-- those that stand for one byte are as many as the tokens that are no star
pub model_least : (ts : List Token) → count_by is_for_byte ts ≡ least_bytes (tokens_model ts)
model_least ts = sym (is_count_by least_of _ refl (λ _ _. refl) ts) ∙ least_same ts
