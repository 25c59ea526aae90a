-- The first place of a byte, as a search finds it, and what it cuts.
use Rattle.std.proofs.Common.{◌≡◌, ◌<◌, ◌+◌, ◌-◌, ℕ, zero, suc, true, nat_eq, List, [], ◌∷◌, length, take, drop, get_or, Some, None, refl}
use Rattle.std.proofs.{Common.{sym, subst, ap, arith}, lemmas.{Bool.false_from_ne_true, List.{take_rest, take_all, drop_all}}}
use Rattle.std.proofs.lemmas.List.{Splits.{slice_split_none, slice_split_first}, Sums.position_or_len_is}
use Rattle.std.specs.List.{slice_split, position_or_len, before_first, after_first}
use Rattle.memchr.specs.Find.{IsFirstByte, is_byte}

-- below a list's length the default of a read does not matter
pub same_read : (xs : List ℕ) (k d : ℕ) → k < length xs → get_or xs k d ≡ get_or xs k 0
same_read [] k d h = absurd (omega arith)
same_read (x ∷ xs) zero d h = refl
same_read (x ∷ xs) (suc k) d h = same_read xs k d (omega arith)

-- where a search finds no such byte its place is the end
pub place_none : (c : ℕ) (bytes : List ℕ) → IsFirstByte (is_byte c) bytes None → position_or_len (λ b. nat_eq b c) bytes ≡ length bytes
place_none c bytes h = position_or_len_is (λ b. nat_eq b c) bytes (length bytes) 0 (omega arith)
    (λ k l. false_from_ne_true _ (h k (omega arith) l)) (λ l. absurd (omega arith))

-- where a search finds one, that is its place
pub place_some : (c : ℕ) (bytes : List ℕ) (i : ℕ) → IsFirstByte (is_byte c) bytes (Some i) → position_or_len (λ b. nat_eq b c) bytes ≡ i
place_some c bytes i h =
    let below : i < length bytes = h.0.high in
    position_or_len_is (λ b. nat_eq b c) bytes i 0 (omega arith) (λ k l. false_from_ne_true _ (h.0.before k (omega arith) l)) (λ _. h.1)

-- the place that is found lies within the bytes
pub place_below : (c : ℕ) (bytes : List ℕ) (i : ℕ) → IsFirstByte (is_byte c) bytes (Some i) → i < length bytes
place_below c bytes i h = h.0.high

-- where the byte is nowhere, the bytes are one token
pub split_none : (c : ℕ) (bytes : List ℕ) → IsFirstByte (is_byte c) bytes None → slice_split (λ b. nat_eq b c) bytes ≡ bytes ∷ []
split_none c bytes h = slice_split_none (λ b. nat_eq b c) bytes
    (λ k d l. false_from_ne_true _ (λ t. h k (omega arith) l (subst (λ (x : ℕ). nat_eq x c ≡ true) (same_read bytes k d l) t)))

-- the first token stands before the first place, and the others after it
pub split_some : (c : ℕ) (bytes : List ℕ) (i : ℕ) → IsFirstByte (is_byte c) bytes (Some i)
    → slice_split (λ b. nat_eq b c) bytes ≡ take i bytes ∷ slice_split (λ b. nat_eq b c)
    (take (length bytes - (i + 1)) (drop (i + 1) bytes))
split_some c bytes i h =
    let p = λ (b : ℕ). nat_eq b c in
    let at = place_some c bytes i h in
    rw take_rest (subst (λ (n : ℕ). slice_split p bytes ≡ take n bytes ∷ slice_split p (drop (n + 1) bytes)) at
    (slice_split_first p bytes 0 (subst (λ (n : ℕ). n < length bytes) (sym at) h.0.high)))

-- without such a byte all stands before it
pub before_none : (c : ℕ) (bytes : List ℕ) → IsFirstByte (is_byte c) bytes None → bytes ≡ before_first (λ b. nat_eq b c) bytes
before_none c bytes h = sym (take_all _ bytes (omega (arith, place_none c bytes h)))

-- what is taken up to the place stands before the byte
pub before_some : (c : ℕ) (bytes : List ℕ) (i : ℕ) → IsFirstByte (is_byte c) bytes (Some i)
    → take i bytes ≡ before_first (λ b. nat_eq b c) bytes
before_some c bytes i h = ap (λ (n : ℕ). take n bytes) (sym (place_some c bytes i h))

-- without such a byte nothing stands after it
pub after_none : (c : ℕ) (bytes : List ℕ) → IsFirstByte (is_byte c) bytes None → after_first (λ b. nat_eq b c) bytes ≡ []
after_none c bytes h = drop_all _ bytes (omega (arith, place_none c bytes h))

-- what is left behind the place stands after the byte
pub after_some : (c : ℕ) (bytes : List ℕ) (i : ℕ) → IsFirstByte (is_byte c) bytes (Some i)
    → take (length bytes - (i + 1)) (drop (i + 1) bytes) ≡ after_first (λ b. nat_eq b c) bytes
after_some c bytes i h = rw take_rest (ap (λ (n : ℕ). drop (n + 1) bytes) (sym (place_some c bytes i h)))
