-- The first word of a line.
use Rattle.std.proofs.Common.{◌≡◌, ◌<◌, ◌+◌, ◌-◌, ℕ, suc, Bool, true, false, cond, not, List, [], ◌∷◌, length, take, drop, filter, refl}
use Rattle.std.proofs.{Common.{sym, ◌∙◌, ap, arith, lt-ltb}, lemmas.List.take_rest}
use Rattle.std.specs.List.{slice_split, onto_first, position_or_len}
use Rattle.lc_rules.specs.{AttrLines.trimmed, AttrWords.{is_white, is_some_word, words}}

white_words : (b : ℕ) (bs : List ℕ) → is_white b ≡ true → words (b ∷ bs) ≡ words bs
white_words b bs e = ap (λ t. filter is_some_word (cond t ([] ∷ slice_split is_white bs) (onto_first b (slice_split is_white bs)))) e

trim_step : (b : ℕ) (bs : List ℕ) (t : Bool) → is_white b ≡ t → words bs ≡ words (trimmed bs)
    → words (b ∷ bs) ≡ words (cond t (trimmed bs) (b ∷ bs))
trim_step b bs true e h = white_words b bs e ∙ h
trim_step b bs false e h = refl

-- white space at the front belongs to no word
pub words_trimmed : (xs : List ℕ) → words xs ≡ words (trimmed xs)
words_trimmed [] = refl
words_trimmed (b ∷ bs) = trim_step b bs (is_white b) refl (words_trimmed bs)

starts_step : (b : ℕ) (bs : List ℕ) (t : Bool) (c : ℕ) (cs : List ℕ) → is_white b ≡ t → cond t (trimmed bs) (b ∷ bs) ≡ c ∷ cs
    → (trimmed bs ≡ c ∷ cs → is_white c ≡ false) → is_white c ≡ false
starts_step b bs true c cs e q h = h q
starts_step b bs false c cs e q h = let same : b ≡ c = cc in sym (ap is_white same) ∙ e

-- what is left begins with no white space
pub starts_black : (xs : List ℕ) (c : ℕ) (cs : List ℕ) → trimmed xs ≡ c ∷ cs → is_white c ≡ false
starts_black [] c cs q = absurd (cc)
starts_black (b ∷ bs) c cs q = starts_step b bs (is_white b) c cs refl q (starts_black bs c cs)

one_more : (n : ℕ) → 1 + n ≡ suc n
one_more n = omega arith

black_end : (x : ℕ) (xs : List ℕ) → is_white x ≡ false → position_or_len is_white (x ∷ xs) ≡ suc (position_or_len is_white xs)
black_end x xs e = ap (λ t. cond (not t) (1 + position_or_len is_white xs) 0) e ∙ one_more (position_or_len is_white xs)

white_end : (x : ℕ) (xs : List ℕ) → is_white x ≡ true → position_or_len is_white (x ∷ xs) ≡ 0
white_end x xs e = ap (λ t. cond (not t) (1 + position_or_len is_white xs) 0) e

-- a cut before the first white byte
abbrev Cut : List ℕ → Type 0
Cut xs = (pieces : List (List ℕ)) × (slice_split is_white xs ≡ take (position_or_len is_white xs) xs ∷ pieces)
    × (filter is_some_word pieces ≡ words (drop (position_or_len is_white xs) xs))

cut_step : (x : ℕ) (xs : List ℕ) (t : Bool) → is_white x ≡ t → Cut xs → Cut (x ∷ xs)
cut_step x xs true e h = (
  slice_split is_white xs,
  ap (λ t. cond t ([] ∷ slice_split is_white xs) (onto_first x (slice_split is_white xs))) e
      ∙ ap (λ n. take n (x ∷ xs) ∷ slice_split is_white xs) (sym (white_end x xs e)),
  sym (white_words x xs e) ∙ ap (λ n. words (drop n (x ∷ xs))) (sym (white_end x xs e)),
)
cut_step x xs false e h = (
  h.0,
  ap (λ t. cond t ([] ∷ slice_split is_white xs) (onto_first x (slice_split is_white xs))) e ∙ ap (onto_first x) h.1
      ∙ ap (λ n. take n (x ∷ xs) ∷ h.0) (sym (black_end x xs e)),
  h.2 ∙ ap (λ n. words (drop n (x ∷ xs))) (sym (black_end x xs e)),
)

cut : (xs : List ℕ) → Cut xs
cut [] = ([], refl, refl)
cut (x ∷ xs) = cut_step x xs (is_white x) refl (cut xs)

filter_first : (w : List ℕ) (ws : List (List ℕ)) → is_some_word w ≡ true → filter is_some_word (w ∷ ws) ≡ w ∷ filter is_some_word ws
filter_first w ws e = ap (λ t. cond t (w ∷ filter is_some_word ws) (filter is_some_word ws)) e

-- so its first word has a byte
pub end_above : (rest : List ℕ) (x : ℕ) (xs : List ℕ) → rest ≡ x ∷ xs → is_white x ≡ false → 0 < position_or_len is_white rest
end_above rest x xs q e = omega (arith, ap (position_or_len is_white) q, black_end x xs e)

some_step : (x : ℕ) (xs : List ℕ) → is_white x ≡ false → is_some_word (take (position_or_len is_white (x ∷ xs)) (x ∷ xs)) ≡ true
some_step x xs e = ap (λ n. is_some_word (take n (x ∷ xs))) (black_end x xs e)
    ∙ lt-ltb 0 (suc (length (take (position_or_len is_white xs) xs))) (omega arith)

-- the first word ends before the first white space
pub first_word : (rest : List ℕ) (x : ℕ) (xs : List ℕ) → rest ≡ x ∷ xs → is_white x ≡ false
    → words rest ≡ take (position_or_len is_white rest) rest ∷ words (drop (position_or_len is_white rest) rest)
first_word rest x xs q e =
    let h : Cut rest = cut rest in
    ap (filter is_some_word) h.1
    ∙ filter_first (take (position_or_len is_white rest) rest) h.0
    (ap (λ l. is_some_word (take (position_or_len is_white l) l)) q ∙ some_step x xs e)
    ∙ ap (λ l. take (position_or_len is_white rest) rest ∷ l) h.2

-- where nothing is left there are no words
pub none_trimmed : (bytes rest : List ℕ) → rest ≡ trimmed bytes → length rest ≡ 0 → words bytes ≡ []
none_trimmed bytes [] e h = words_trimmed bytes ∙ ap words (sym e)
none_trimmed bytes (x ∷ xs) e h = absurd (omega arith)

-- the first word of bytes whose white space at the front was passed over
pub first_word_of : (bytes rest : List ℕ) (end : ℕ) → rest ≡ trimmed bytes → (length rest ≡ 0 → ⊥)
    → end ≡ position_or_len is_white rest → words bytes ≡ take end rest ∷ words (take (length rest - end) (drop end rest))
first_word_of bytes [] end e h q = absurd (h refl)
first_word_of bytes (x ∷ xs) end e h q =
    words_trimmed bytes ∙ ap words (sym e) ∙ first_word (x ∷ xs) x xs refl (starts_black bytes x xs (sym e))
    ∙ ap (λ n. take n (x ∷ xs) ∷ words (drop n (x ∷ xs))) (sym q)
    ∙ ap (λ l. take end (x ∷ xs) ∷ words l) (sym (take_rest (x ∷ xs) end))

-- what is left after it is shorter
pub rest_less : (bytes rest : List ℕ) (end : ℕ) → rest ≡ trimmed bytes → (length rest ≡ 0 → ⊥) → end ≡ position_or_len is_white rest
    → 0 < end
rest_less bytes [] end e h q = absurd (h refl)
rest_less bytes (x ∷ xs) end e h q = omega (arith, end_above (x ∷ xs) x xs refl (starts_black bytes x xs (sym e)))
