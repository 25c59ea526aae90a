-- A line read from the left, without the spaces and the carriage return at its end.
use Rattle.std.proofs.Common.{◌≡◌, ◌≤◌, ◌<◌, ◌+◌, ℕ, true, false, cond, nat_eq, List, [], ◌∷◌, ◌++◌, length, take, drop, get_or, refl}
use Rattle.std.proofs.Common.{sym, ◌∙◌, ap, append_assoc, arith, add-one, drop-cons, length-drop}
use Rattle.std.proofs.{lemmas.{Bool.{Decides.Decides-eqb, false_from_ne_true}, List.append-nil}, Math.Seq.take-suc}
use Rattle.lc_rules.specs.IgnoreRules.{byte_before, without_spaces, without_return}

-- what was kept, or all that was read where more is kept after it
abbrev pub after : List ℕ → List ℕ → List ℕ → List ℕ
after kept read [] = kept
after kept read (x ∷ xs) = read ++ (x ∷ xs)

-- at first nothing is read of a line, and nothing kept
pub after_start : (left : List ℕ) → left ≡ after [] [] left
after_start [] = refl
after_start (x ∷ xs) = refl

all_kept : (read left : List ℕ) → after read read left ≡ read ++ left
all_kept read [] = sym (append-nil read)
all_kept read (x ∷ xs) = refl

after_two : (kept read : List ℕ) (b c : ℕ) (left : List ℕ)
    → after kept read (b ∷ c ∷ left) ≡ after (read ++ (b ∷ c ∷ [])) (read ++ (b ∷ c ∷ [])) left
after_two kept read b c left = sym (all_kept (read ++ (b ∷ c ∷ [])) left ∙ append_assoc read (b ∷ c ∷ []) left)

after_space : (kept read : List ℕ) (b : ℕ) (left : List ℕ) → nat_eq b 32 ≡ true
    → after kept read (byte_before b left) ≡ after kept (read ++ (b ∷ [])) left
after_space kept read b [] e = ap (λ t. after kept read (cond t [] (b ∷ []))) e
after_space kept read b (x ∷ xs) e = sym (append_assoc read (b ∷ []) (x ∷ xs))

after_other : (kept read : List ℕ) (b : ℕ) (left : List ℕ) → nat_eq b 32 ≡ false
    → after kept read (byte_before b left) ≡ after (read ++ (b ∷ [])) (read ++ (b ∷ [])) left
after_other kept read b [] e = ap (λ t. after kept read (cond t [] (b ∷ []))) e
after_other kept read b (x ∷ xs) e = sym (append_assoc read (b ∷ []) (x ∷ xs))

one_unit : (b : ℕ) (left : List ℕ) → nat_eq b 92 ≡ false → without_spaces (b ∷ left) ≡ byte_before b (without_spaces left)
one_unit b [] e = refl
one_unit b (c ∷ cs) e = ap (λ t. cond t (b ∷ c ∷ without_spaces cs) (byte_before b (without_spaces (c ∷ cs)))) e

last_unit : (b : ℕ) (left : List ℕ) → length left ≡ 0 → without_spaces (b ∷ left) ≡ byte_before b (without_spaces left)
last_unit b [] e = refl
last_unit b (c ∷ cs) e = absurd (omega arith)

two_units : (b c : ℕ) (left : List ℕ) → nat_eq b 92 ≡ true → without_spaces (b ∷ c ∷ left) ≡ b ∷ c ∷ without_spaces left
two_units b c left e = ap (λ t. cond t (b ∷ c ∷ without_spaces left) (byte_before b (without_spaces (c ∷ left)))) e

take_more : (s : List ℕ) (i : ℕ) → i < length s → take (i + 1) s ≡ take i s ++ (get_or s i 0 ∷ [])
take_more s i h = rw add-one (take-suc s i 0 h)

drop_more : (s : List ℕ) (i : ℕ) → i < length s → drop i s ≡ get_or s i 0 ∷ drop (i + 1) s
drop_more s i h = rw add-one (drop-cons s i 0 h)

take_two : (s : List ℕ) (i : ℕ) → i + 1 < length s → take (i + 2) s ≡ take i s ++ (get_or s i 0 ∷ get_or s (i + 1) 0 ∷ [])
take_two s i h =
    let e : i + 2 ≡ i + 1 + 1 = omega arith in
    ap (λ n. take n s) e ∙ take_more s (i + 1) h ∙ ap (λ l. l ++ (get_or s (i + 1) 0 ∷ [])) (take_more s i (omega arith))
    ∙ append_assoc (take i s) (get_or s i 0 ∷ []) (get_or s (i + 1) 0 ∷ [])

drop_two : (s : List ℕ) (i : ℕ) → i + 1 < length s → drop i s ≡ get_or s i 0 ∷ get_or s (i + 1) 0 ∷ drop (i + 2) s
drop_two s i h =
    let e : i + 1 + 1 ≡ i + 2 = omega arith in
    drop_more s i (omega arith) ∙ ap (λ l. get_or s i 0 ∷ l) (drop_more s (i + 1) h ∙ ap (λ n. get_or s (i + 1) 0 ∷ drop n s) e)

abbrev pub Kept : List ℕ → ℕ → ℕ → Type 0
Kept line kept read = without_spaces line ≡ after (take kept line) (take read line) (without_spaces (drop read line))

-- a backslash keeps itself and the byte after it
pub kept_quoted : (line : List ℕ) (kept read : ℕ) → read + 1 < length line → nat_eq (get_or line read 0) 92 ≡ true
    → Kept line kept read → Kept line (read + 2) (read + 2)
kept_quoted line kept read h e k =
    k ∙ ap (λ l. after (take kept line) (take read line) (without_spaces l)) (drop_two line read h)
    ∙ ap (after (take kept line) (take read line)) (two_units (get_or line read 0) (get_or line (read + 1) 0) (drop (read + 2) line) e)
    ∙ after_two (take kept line) (take read line) (get_or line read 0) (get_or line (read + 1) 0) (without_spaces (drop (read + 2) line))
    ∙ ap (λ l. after l l (without_spaces (drop (read + 2) line))) (sym (take_two line read h))

-- a unit of one byte
abbrev pub IsOne : List ℕ → ℕ → Type 0
IsOne line read = without_spaces (drop read line) ≡ byte_before (get_or line read 0) (without_spaces (drop (read + 1) line))

-- another byte is a unit by itself
pub no_quote : (line : List ℕ) (read : ℕ) → read < length line → nat_eq (get_or line read 0) 92 ≡ false → IsOne line read
no_quote line read h e = ap without_spaces (drop_more line read h) ∙ one_unit (get_or line read 0) (drop (read + 1) line) e

-- a space is read, and kept only if something after it is
pub kept_space : (line : List ℕ) (kept read : ℕ) → read < length line → IsOne line read → nat_eq (get_or line read 0) 32 ≡ true
    → Kept line kept read → Kept line kept (read + 1)
kept_space line kept read h o e k =
    k ∙ ap (after (take kept line) (take read line)) o
    ∙ after_space (take kept line) (take read line) (get_or line read 0) (without_spaces (drop (read + 1) line)) e
    ∙ ap (λ l. after (take kept line) l (without_spaces (drop (read + 1) line))) (sym (take_more line read h))

-- another byte keeps all before it
pub kept_other : (line : List ℕ) (kept read : ℕ) → read < length line → IsOne line read → nat_eq (get_or line read 0) 32 ≡ false
    → Kept line kept read → Kept line (read + 1) (read + 1)
kept_other line kept read h o e k =
    k ∙ ap (after (take kept line) (take read line)) o
    ∙ after_other (take kept line) (take read line) (get_or line read 0) (without_spaces (drop (read + 1) line)) e
    ∙ ap (λ l. after l l (without_spaces (drop (read + 1) line))) (sym (take_more line read h))

-- one carriage return
pub return_last : (rest : List ℕ) (b : ℕ) → without_return (rest ++ (b ∷ [])) ≡ cond (nat_eq b 13) rest (rest ++ (b ∷ []))
return_last [] b = refl
return_last (x ∷ []) b = elim (nat_eq b 13) as (λ t. x ∷ cond t [] (b ∷ []) ≡ cond t (x ∷ []) (x ∷ b ∷ [])) [ true ↦ refl | false ↦ refl ]
return_last (x ∷ y ∷ ys) b =
    ap (λ l. x ∷ l) (return_last (y ∷ ys) b)
    ∙ elim (nat_eq b 13) as (λ t. x ∷ cond t (y ∷ ys) (y ∷ ys ++ (b ∷ [])) ≡ cond t (x ∷ y ∷ ys)
    (x ∷ y ∷ ys ++ (b ∷ []))) [ true ↦ refl | false ↦ refl ]

-- equal numbers compare equal
pub eq_true : (a b : ℕ) → a ≡ b → nat_eq a b ≡ true
eq_true a b e = (Decides-eqb a b).1 e

-- others don't
pub ne_false : (a b : ℕ) → (a ≡ b → ⊥) → nat_eq a b ≡ false
ne_false a b h = false_from_ne_true (nat_eq a b) (λ t. h ((Decides-eqb a b).0 t))

drop_end : (s : List ℕ) (i : ℕ) → length s ≤ i → length (drop i s) ≡ 0
drop_end s i h = omega (arith, length-drop i s)

-- a backslash at the end of a line is a unit by itself
pub lone_quote : (line : List ℕ) (read : ℕ) → read < length line → length line ≤ read + 1 → IsOne line read
lone_quote line read h e =
    ap without_spaces (drop_more line read h) ∙ last_unit (get_or line read 0) (drop (read + 1) line) (drop_end line (read + 1) e)
