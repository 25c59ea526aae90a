-- Lists gone over step by step.
use Rattle.std.proofs.Common.{◌≡◌, ℕ, ◌+◌, ◌<◌, true, false, bytes_eq, List, [], ◌∷◌, ◌++◌, length, drop, get_or, suc, take, refl, sym, ap, ◌∙◌}
use Rattle.std.proofs.{Common.{append_assoc, arith, drop-cons}, lemmas.List.{append-nil, take_more}}
use Rattle.lc_rows.specs.RowKeys.{ShownRowModel}
use Rattle.lc_picture.specs.Colours.{first_rows_of, path_of, rows_from}

-- from a place on come the element there and those behind it
pub one_on : {X : Type 0} (x d : X) (xs : List X) (i : ℕ) → i < length xs → x ≡ get_or xs i d → drop i xs ≡ x ∷ drop (i + 1) xs
one_on x d xs i inside is =
    let next : suc i ≡ i + 1 = omega arith in
    drop-cons xs i d inside ∙ ap (λ (k : ℕ). get_or xs i d ∷ drop k xs) next ∙ ap (λ y. y ∷ drop (i + 1) xs) (sym is)

-- a row of the directory is the first
pub first_row : (directory : List ℕ) (k d : ShownRowModel) (ks all : List ShownRowModel) (i : ℕ) → i < length ks → k ≡ get_or ks i d
    → bytes_eq directory (path_of k) ≡ true → rows_from directory (drop i ks) ≡ all → drop i ks ≡ all
first_row directory k d ks all i inside is own same =
    let next = one_on k d ks i inside is in
    let found : rows_from directory (k ∷ drop (i + 1) ks) ≡ k ∷ drop (i + 1) ks = rw own refl in
    next ∙ sym found ∙ sym (ap (rows_from directory) next) ∙ same

-- a row of another directory is not
pub later_row : (directory : List ℕ) (k d : ShownRowModel) (ks all : List ShownRowModel) (i : ℕ) → i < length ks → k ≡ get_or ks i d
    → bytes_eq directory (path_of k) ≡ false → rows_from directory (drop i ks) ≡ all → rows_from directory (drop (i + 1) ks) ≡ all
later_row directory k d ks all i inside is other same =
    let next = one_on k d ks i inside is in
    let passed : rows_from directory (k ∷ drop (i + 1) ks) ≡ rows_from directory (drop (i + 1) ks) = rw other refl in
    sym passed ∙ sym (ap (rows_from directory) next) ∙ same

-- one more row of the directory is among the first
pub one_row_more : (directory : List ℕ) (k d : ShownRowModel) (ks all : List ShownRowModel) (i : ℕ) → i < length ks → k ≡ get_or ks i d
    → bytes_eq directory (path_of k) ≡ true → take i ks ++ first_rows_of directory (drop i ks) ≡ all
    → take (i + 1) ks ++ first_rows_of directory (drop (i + 1) ks) ≡ all
one_row_more directory k d ks all i inside is own same =
    let rest : List ShownRowModel = drop (i + 1) ks in
    let found : first_rows_of directory (k ∷ rest) ≡ k ∷ first_rows_of directory rest = rw own refl in
    ap (λ (rs : List ShownRowModel). rs ++ first_rows_of directory rest)
    (take_more ks i d inside ∙ ap (λ (r : ShownRowModel). take i ks ++ r ∷ []) (sym is))
    ∙ append_assoc (take i ks) (k ∷ []) (first_rows_of directory rest)
    ∙ ap (λ (rs : List ShownRowModel). take i ks ++ rs) (sym found ∙ sym (ap (first_rows_of directory) (one_on k d ks i inside is))) ∙ same

-- the rows of another directory are not
pub last_row : (directory : List ℕ) (k d : ShownRowModel) (ks all : List ShownRowModel) (i : ℕ) → i < length ks → k ≡ get_or ks i d
    → bytes_eq directory (path_of k) ≡ false → take i ks ++ first_rows_of directory (drop i ks) ≡ all → take i ks ≡ all
last_row directory k d ks all i inside is other same =
    let none : first_rows_of directory (k ∷ drop (i + 1) ks) ≡ [] = rw other refl in
    sym (append-nil (take i ks)) ∙ ap (λ (rs : List ShownRowModel). take i ks ++ rs)
    (sym none ∙ sym (ap (first_rows_of directory) (one_on k d ks i inside is))) ∙ same
