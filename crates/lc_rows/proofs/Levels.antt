-- How many directories are above a directory of a tree.
use Rattle.std.proofs.{lemmas.{Grind.common_steps, Bool.Decides.nat_tests, List.Splits.join_with_byte-slice_split}, Common.{◌≡◌, ℕ, ◌+◌}}
use Rattle.std.proofs.Common.{◌-◌, ◌<◌, ◌≤◌, ◌==◌, min, suc, zero, Bool, true, false, cond, List, [], ◌∷◌, if◌then◌else◌, ◌++◌, nat_le}
use Rattle.std.proofs.Common.{refl, sym, ◌∙◌, ap, arith}
use Rattle.std.specs.List.{AllByRecursion, join_with_byte, onto_first}
use Rattle.lc_glob.proofs.Naming.{segments_apart, some_segment}
use Rattle.lc_glob.specs.{Bytes.slash, Path.{is_no_name, segments_of}}
use Rattle.lc_rows.specs.Directories.{above, directory_of, first_names, level_of, levels, names_in, parent_of, to_name}

-- ---- segments

-- a segment has no slash
abbrev pub IsWhole : List ℕ → Type 0
IsWhole s = segments_of s ≡ s ∷ []

whole_cons : (b : ℕ) (t : Bool) → (b == slash) ≡ t → (ps : List (List ℕ)) → AllByRecursion IsWhole ps
    → AllByRecursion IsWhole (cond t ([] ∷ ps) (onto_first b ps))
whole_cons b t e ps all = grind (arith, common_steps)

pub whole_segments : (bs : List ℕ) → AllByRecursion IsWhole (segments_of bs)
whole_segments [] = (refl, tt)
whole_segments (b ∷ bs) = whole_cons b _ refl (segments_of bs) (whole_segments bs)

whole_first : (n : ℕ) (ss : List (List ℕ)) → AllByRecursion IsWhole ss → AllByRecursion IsWhole (to_name n ss)
whole_first zero ss all = tt
whole_first (suc n) [] all = tt
whole_first (suc n) (s ∷ ss) all = (all.0, whole_first (suc n - names_in s) ss all.1)

-- segments that are joined are the segments of the path
joined_segments : (s : List ℕ) (ss : List (List ℕ)) → AllByRecursion IsWhole (s ∷ ss)
    → segments_of (join_with_byte slash (s ∷ ss)) ≡ s ∷ ss
joined_segments s [] all = all.0
joined_segments s (y ∷ ys) all =
    segments_apart s (join_with_byte slash (y ∷ ys)) ∙ ap (λ l. l ++ segments_of (join_with_byte slash (y ∷ ys))) all.0
    ∙ ap (λ l. s ∷ l) (joined_segments y ys all.1)

-- ---- the first segments

first_of_none : (n : ℕ) → to_name n [] ≡ []
first_of_none zero = refl
first_of_none (suc n) = refl

levels_more : (n : ℕ) (s t : List ℕ) (ss : List (List ℕ)) (b : Bool) → is_no_name s ≡ b
    → ((k : ℕ) → levels (to_name k (t ∷ ss)) ≡ min k (levels (t ∷ ss)))
    → levels (s ∷ to_name (suc n - names_in s) (t ∷ ss)) ≡ min (suc n) (names_in s + levels (t ∷ ss))
levels_more n s t ss true e rest =
    let none : names_in s ≡ 0 = ap (λ b. if b then 0 else 1) e in
    let left : suc n - names_in s ≡ suc n = omega arith in
    ap (λ k. levels (s ∷ to_name k (t ∷ ss))) left ∙ omega (arith, none, rest (suc n))
levels_more zero s t ss false e rest =
    let one : names_in s ≡ 1 = ap (λ b. if b then 0 else 1) e in
    let left : suc zero - names_in s ≡ 0 = omega arith in
    ap (λ k. levels (s ∷ to_name k (t ∷ ss))) left ∙ omega arith
levels_more (suc n) s t ss false e rest =
    let one : names_in s ≡ 1 = ap (λ b. if b then 0 else 1) e in
    let left : suc (suc n) - names_in s ≡ suc n = omega arith in
    ap (λ k. levels (s ∷ to_name k (t ∷ ss))) left ∙ omega (arith, one, rest (suc n))

-- cut after n names they have n levels, or as many as there are
levels_of_first : (n : ℕ) (ss : List (List ℕ)) → levels (to_name n ss) ≡ min n (levels ss)
levels_of_first zero ss = omega arith
levels_of_first (suc n) [] = omega arith
levels_of_first (suc n) (s ∷ []) = ap (λ l. levels (s ∷ l)) (first_of_none (suc n - names_in s)) ∙ omega arith
levels_of_first (suc n) (s ∷ t ∷ ss) = levels_more n s t ss _ refl (λ k. levels_of_first k (t ∷ ss))

-- cut twice they are cut once
next_first : (j n k : ℕ) (s : List ℕ) (ss : List (List ℕ)) → suc j - names_in s ≡ k → suc j + n - names_in s ≡ k + n
    → to_name k (to_name (k + n) ss) ≡ to_name k ss → to_name (suc j) (s ∷ to_name (suc j + n - names_in s) ss) ≡ to_name (suc j) (s ∷ ss)
next_first j n k s ss e f rest =
    ap (λ m. s ∷ to_name m (to_name (suc j + n - names_in s) ss)) e ∙ ap (λ m. s ∷ to_name k (to_name m ss)) f ∙ ap (λ l. s ∷ l) rest
    ∙ ap (λ m. s ∷ to_name m ss) (sym e)

first_by : (j n : ℕ) (s : List ℕ) (ss : List (List ℕ)) (b : Bool) → is_no_name s ≡ b
    → ((k : ℕ) → to_name k (to_name (k + n) ss) ≡ to_name k ss)
    → to_name (suc j) (s ∷ to_name (suc j + n - names_in s) ss) ≡ to_name (suc j) (s ∷ ss)
first_by j n s ss b e rest = grind (arith, common_steps, next_first)

first_of_more : (n : ℕ) (ss : List (List ℕ)) (j : ℕ) → to_name j (to_name (j + n) ss) ≡ to_name j ss
first_of_more n ss zero = refl
first_of_more n [] (suc j) = ap (to_name (suc j)) (first_of_none (suc j + n))
first_of_more n (s ∷ ss) (suc j) =
    let next : suc j + n ≡ suc (j + n) = omega arith in
    ap (λ m. to_name (suc j) (to_name m (s ∷ ss))) next ∙ ap (λ m. to_name (suc j) (s ∷ to_name (m - names_in s) ss)) (sym next)
    ∙ first_by j n s ss _ refl (first_of_more n ss)

-- cut after as many names as there are, or more, they are whole
whole_more : (n : ℕ) (s t : List ℕ) (ss : List (List ℕ)) (b : Bool) → is_no_name s ≡ b → names_in s + levels (t ∷ ss) ≤ suc n
    → ((k : ℕ) → levels (t ∷ ss) ≤ k → to_name k (t ∷ ss) ≡ t ∷ ss) → s ∷ to_name (suc n - names_in s) (t ∷ ss) ≡ s ∷ t ∷ ss
whole_more n s t ss true e few rest =
    let none : names_in s ≡ 0 = ap (λ b. if b then 0 else 1) e in
    ap (λ l. s ∷ l) (rest (suc n - names_in s) (omega arith))
whole_more n s t ss false e few rest =
    let one : names_in s ≡ 1 = ap (λ b. if b then 0 else 1) e in
    ap (λ l. s ∷ l) (rest (suc n - names_in s) (omega arith))

some_level : (t : List ℕ) (ss : List (List ℕ)) → 0 < levels (t ∷ ss)
some_level t [] = omega arith
some_level t (u ∷ us) = let more = some_level u us in omega arith

whole_first_names : (n : ℕ) (ss : List (List ℕ)) → levels ss ≤ n → to_name n ss ≡ ss
whole_first_names zero [] few = refl
whole_first_names zero (s ∷ ss) few = let some = some_level s ss in absurd (omega arith)
whole_first_names (suc n) [] few = refl
whole_first_names (suc n) (s ∷ []) few = ap (λ l. s ∷ l) (first_of_none (suc n - names_in s))
whole_first_names (suc n) (s ∷ t ∷ ss) few = whole_more n s t ss _ refl few (λ k. whole_first_names k (t ∷ ss))

-- ---- paths

-- the empty path alone has one empty segment
level_joined : (ss : List (List ℕ)) → AllByRecursion IsWhole ss → (ss ≡ [] ∷ [] → ⊥) → level_of (join_with_byte slash ss) ≡ levels ss
level_joined [] all some = refl
level_joined ([] ∷ []) all some = absurd (some refl)
level_joined ([] ∷ y ∷ ys) all some = ap levels (joined_segments [] (y ∷ ys) all)
level_joined ((b ∷ bs) ∷ []) all some = ap levels all.0
level_joined ((b ∷ bs) ∷ y ∷ ys) all some = ap levels (joined_segments (b ∷ bs) (y ∷ ys) all)

first_not_empty : (n : ℕ) (ss : List (List ℕ)) → (ss ≡ [] ∷ [] → ⊥) → to_name n ss ≡ [] ∷ [] → ⊥
first_not_empty n ss some e = grind (arith, common_steps)

not_empty : (b : ℕ) (bs : List ℕ) → segments_of (b ∷ bs) ≡ [] ∷ [] → ⊥
not_empty b bs e =
    let none : b ∷ bs ≡ [] = sym (join_with_byte-slice_split slash (b ∷ bs)) ∙ ap (join_with_byte slash) e in
    absurd (cc)

-- the top is in itself alone
pub empty_first : (n : ℕ) → first_names n [] ≡ []
empty_first zero = refl
empty_first (suc n) = ap (λ l. join_with_byte slash ([] ∷ l)) (first_of_none (suc n - 0))

pub level_of_first : (path : List ℕ) (n : ℕ) → level_of (first_names n path) ≡ min n (level_of path)
level_of_first path n =
    grind (arith, common_steps, empty_first, level_joined, whole_first, whole_segments, first_not_empty, not_empty, levels_of_first)

-- the directory that holds a file, cut after n names, is n levels below the top, or as many as there are
pub level_at : (path : List ℕ) (n : ℕ) → level_of (directory_of n path) ≡ min n (level_of (parent_of path))
level_at path n = level_of_first (parent_of path) n

some_first : (j : ℕ) (ss : List (List ℕ)) → (ss ≡ [] → ⊥) → to_name (suc j) ss ≡ [] → ⊥
some_first j [] some e = some refl
some_first j (s ∷ ss) some e = absurd (cc)

segments_joined : (ss : List (List ℕ)) → AllByRecursion IsWhole ss → (ss ≡ [] → ⊥) → segments_of (join_with_byte slash ss) ≡ ss
segments_joined [] all some = absurd (some refl)
segments_joined (s ∷ ss) all some = joined_segments s ss all

above_first : (path : List ℕ) (j : ℕ) → suc j ≤ level_of path → above (first_names (suc j) path) ≡ first_names j path
above_first path j deep =
    let ss : List (List ℕ) = segments_of path in
    let one : level_of (first_names (suc j) path) - 1 ≡ j = omega (arith, level_of_first path (suc j)) in
    let more : j + 1 ≡ suc j = omega arith in
    ap (λ n. first_names n (first_names (suc j) path)) one
    ∙ ap (λ ts. join_with_byte slash (to_name j ts))
    (segments_joined (to_name (suc j) ss) (whole_first (suc j) ss (whole_segments path)) (some_first j ss (some_segment path)))
    ∙ ap (λ n. join_with_byte slash (to_name j (to_name n ss))) (sym more)
    ∙ ap (join_with_byte slash) (first_of_more 1 ss j)

-- a path that is cut after some names, and then after as many or fewer, is cut once
pub first_again : (path : List ℕ) (j n : ℕ) → j ≤ n → first_names j (first_names n path) ≡ first_names j path
first_again path zero n few = refl
first_again path (suc j) zero few = absurd (omega arith)
first_again path (suc j) (suc n) few =
    let ss : List (List ℕ) = segments_of path in
    let more : suc j + (n - j) ≡ suc n = omega arith in
    ap (λ ts. join_with_byte slash (to_name (suc j) ts))
    (segments_joined (to_name (suc n) ss) (whole_first (suc n) ss (whole_segments path)) (some_first n ss (some_segment path)))
    ∙ ap (λ k. join_with_byte slash (to_name (suc j) (to_name k ss))) (sym more)
    ∙ ap (join_with_byte slash) (first_of_more (n - j) ss (suc j))

-- the directory right above one that is above a file
pub above_at : (path : List ℕ) (j : ℕ) → suc j ≤ level_of (parent_of path) → above (directory_of (suc j) path) ≡ directory_of j path
above_at path j deep = above_first (parent_of path) j deep

whole_path : (path : List ℕ) (n : ℕ) → level_of path ≤ n → first_names n path ≡ path
whole_path [] n few = empty_first n
whole_path (b ∷ bs) n few =
    ap (join_with_byte slash) (whole_first_names n (segments_of (b ∷ bs)) few) ∙ join_with_byte-slice_split slash (b ∷ bs)

capped_at : (path : List ℕ) (n m : ℕ) → m ≡ level_of path → (b : Bool) → nat_le m n ≡ b → first_names n path ≡ first_names (min n m) path
capped_at path n m is b e = grind (arith, common_steps, nat_tests, whole_path)

-- a directory of n names or fewer is not cut
pub capped : (path : List ℕ) (n : ℕ) → directory_of n path ≡ directory_of (min n (level_of (parent_of path))) path
capped path n = capped_at (parent_of path) n (level_of (parent_of path)) refl _ refl
