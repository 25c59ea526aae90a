-- The directories that words ask for, and their paths without the slashes at their end.
use Rattle.std.proofs.Common.{◌≡◌, ◌∙◌, ◌-◌, ◌&&◌, ℕ, Bool, true, false, List, [], ◌∷◌, length, map, take, drop, refl, ap, ap₂, sym, cond}
use Rattle.std.proofs.{Common.{eqb, arith}, Math.Bool.{and-false, and-true}, lemmas.Simd.map-map}
use Rattle.std.specs.{Borrow.Bor, Cmp.Lexicographic.pointwise, List.list_all}
use Rattle.lc_glob.specs.{Bytes.slash, Pieces.is_byte}
use Rattle.lc_arguments.specs.Directories.{are_distinct, unslashed}

-- a byte that is a slash comes last
abbrev pub ends_so : List ℕ → Bool
ends_so [] = false
ends_so (x ∷ []) = is_byte slash x
ends_so (x ∷ y ∷ ys) = ends_so (y ∷ ys)

one_shorter : (x : ℕ) (xs : List ℕ) → length (x ∷ xs) - 1 ≡ length xs
one_shorter x xs = omega arith

ends_at : (x : ℕ) (xs : List ℕ) → pointwise eqb (drop (length xs) (x ∷ xs)) (slash ∷ []) ≡ ends_so (x ∷ xs)
ends_at x [] = and-true (is_byte slash x)
ends_at x (y ∷ ys) = ends_at y ys

-- as the code tests it
pub tests_end : (xs : List ℕ) → pointwise eqb (drop (length xs - 1) xs) (slash ∷ []) ≡ ends_so xs
tests_end [] = refl
tests_end (x ∷ xs) = ap (λ n. pointwise eqb (drop n (x ∷ xs)) (slash ∷ [])) (one_shorter x xs) ∙ ends_at x xs

all_but_one : (x : ℕ) (xs : List ℕ) → ends_so (x ∷ xs) ≡ true
    → list_all (is_byte slash) (take (length xs) (x ∷ xs)) ≡ list_all (is_byte slash) (x ∷ xs)
all_but_one x [] ends = sym (ap (λ b. b && true) ends)
all_but_one x (y ∷ ys) ends = ap (λ b. is_byte slash x && b) (all_but_one y ys ends)

less_at : (x : ℕ) (xs : List ℕ) → ends_so (x ∷ xs) ≡ true → unslashed (take (length xs) (x ∷ xs)) ≡ unslashed (x ∷ xs)
less_at x [] ends = sym (ap (λ b. cond (b && true) [] (x ∷ [])) ends)
less_at x (y ∷ ys) ends =
    ap₂ (λ b bs. cond (is_byte slash x && b) [] (x ∷ bs)) (all_but_one y ys ends) (less_at y ys ends)

-- one slash less at the end
pub one_less : (xs : List ℕ) → ends_so xs ≡ true → unslashed (take (length xs - 1) xs) ≡ unslashed xs
one_less [] ends = refl
one_less (x ∷ xs) ends = ap (λ n. unslashed (take n (x ∷ xs))) (one_shorter x xs) ∙ less_at x xs ends

not_all : (x : ℕ) (xs : List ℕ) → ends_so (x ∷ xs) ≡ false → list_all (is_byte slash) (x ∷ xs) ≡ false
not_all x [] ends = ap (λ b. b && true) ends
not_all x (y ∷ ys) ends = ap (λ b. is_byte slash x && b) (not_all y ys ends) ∙ and-false (is_byte slash x)

-- and none that could be dropped
pub none_less : (xs : List ℕ) → ends_so xs ≡ false → xs ≡ unslashed xs
none_less [] ends = refl
none_less (x ∷ []) ends = sym (ap (λ b. cond (b && true) [] (x ∷ [])) ends)
none_less (x ∷ y ∷ ys) ends =
    sym (ap (λ b. cond (is_byte slash x && b) [] (x ∷ unslashed (y ∷ ys))) (not_all y ys ends)
    ∙ ap (λ b. cond b [] (x ∷ unslashed (y ∷ ys))) (and-false (is_byte slash x))
    ∙ ap (λ bs. x ∷ bs) (sym (none_less (y ∷ ys) ends)))

-- the names of lent words are those of the words
pub names_lent : (words : List (List ℕ)) (directories : List (Bor (List ℕ))) → map (λ directory. directory.now) directories ≡ words
    → are_distinct (map (λ directory. unslashed directory.now) directories) ≡ are_distinct (map unslashed words)
names_lent words directories are =
    ap are_distinct (sym (map-map unslashed (λ (directory : Bor (List ℕ)). directory.now) directories) ∙ ap (map unslashed) are)
