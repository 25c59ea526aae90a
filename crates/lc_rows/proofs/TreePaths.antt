-- The directories of the paths of a tree, whose segments are all names.
use Rattle.std.proofs.lemmas.{Grind.common_steps, Bool.{and_parts, false_from_ne_true}, List.{take_all, take_at, Folds.list_all-append}}
use Rattle.std.proofs.{lemmas.Slice.Eq.bytes_eq-Decides, Common.{◌≡◌, ℕ, ◌+◌, ◌-◌, ◌<◌, ◌≤◌, suc, zero, Bool, true, false, if◌then◌else◌}}
use Rattle.std.proofs.Common.{List, [], ◌∷◌, ◌++◌, length, take, drop, Option, Some, None, refl, sym, ◌∙◌, ap, arith, length-append}
use Rattle.std.specs.{List.{join_with_byte, list_all}, Prelude.slice_index}
use Rattle.memchr.specs.Find.{IsLastByte, is_byte as found}
use Rattle.lc_glob.proofs.Naming.{at_last_slash, no_last_slash}
use Rattle.lc_glob.specs.{Bytes.slash, Path.{is_good_name, is_good_path, is_no_name, segments_of}}
use Rattle.lc_rows.specs.Directories.{directory_before, directory_of, first_names, names_in, to_name}
use Rattle.lc_rows.proofs.{Levels.empty_first, PathCuts.{no_parent, parent_at}}

-- a path has a last slash, or none
abbrev LastSlash : List ℕ → Type 0
LastSlash path = (o : Option ℕ) × IsLastByte (found slash) path o

last_slash_at : (b : ℕ) (bs : List ℕ) (t : Bool) → found slash b ≡ t → LastSlash bs → LastSlash (b ∷ bs)
last_slash_at b bs t e (Some i, h) = (
  Some (suc i),
  (
    record {
      low = omega arith;
      high = let within : i < length bs = h.0.high in omega arith;
      after = later;
    },
    h.1,
  ),
)
  where
    later : (k : ℕ) → suc i + 1 ≤ k → k < length (b ∷ bs) → (found slash (slice_index (b ∷ bs) k) ≡ true) → ⊥
    later zero low high = absurd (omega arith)
    later (suc k) low high = h.0.after k (omega arith) (omega arith)
last_slash_at b bs true e (None, none) = (Some 0, (record { low = omega arith; high = omega arith; after = later }, e))
  where
    later : (k : ℕ) → 0 + 1 ≤ k → k < length (b ∷ bs) → (found slash (slice_index (b ∷ bs) k) ≡ true) → ⊥
    later zero low high = absurd (omega arith)
    later (suc k) low high = none k (omega arith) (omega arith)
last_slash_at b bs false e (None, none) = (None, nowhere)
  where
    nowhere : (k : ℕ) → 0 ≤ k → k < length (b ∷ bs) → (found slash (slice_index (b ∷ bs) k) ≡ true) → ⊥
    nowhere zero low high is = absurd (cc)
    nowhere (suc k) low high is = none k (omega arith) (omega arith) is

last_slash : (path : List ℕ) → LastSlash path
last_slash [] = (None, λ k low high. absurd (omega arith))
last_slash (b ∷ bs) = last_slash_at b bs _ refl (last_slash bs)

-- names alone are cut as segments
first_of_names : (n : ℕ) (ss : List (List ℕ)) → list_all is_good_name ss ≡ true → to_name n ss ≡ take n ss
first_of_names zero ss good = refl
first_of_names (suc n) [] good = refl
first_of_names (suc n) (s ∷ ss) good = next (is_no_name s) refl
    (and_parts (is_good_name s) (list_all is_good_name ss) good).0
    (first_of_names n ss (and_parts (is_good_name s) (list_all is_good_name ss) good).1)
  where
    next : (b : Bool) → is_no_name s ≡ b → is_good_name s ≡ true → to_name n ss ≡ take n ss
        → s ∷ to_name (suc n - names_in s) ss ≡ s ∷ take n ss
    next true e named rest = absurd (cc)
    next false e named rest =
        let one : names_in s ≡ 1 = ap (λ b. if b then 0 else 1) e in
        let left : suc n - names_in s ≡ n = omega arith in
        ap (λ k. s ∷ to_name k ss) left ∙ ap (λ l. s ∷ l) rest

-- the directory of a path of names is not the top
named_before : (front : List ℕ) → list_all is_good_name (segments_of front) ≡ true → directory_before front ≡ front
named_before front good = grind (arith, common_steps, false_from_ne_true, bytes_eq-Decides)

good_front : (ps qs : List (List ℕ)) → list_all is_good_name (ps ++ qs) ≡ true → list_all is_good_name ps ≡ true
good_front ps qs good =
    (and_parts (list_all is_good_name ps) (list_all is_good_name qs) (sym (list_all-append is_good_name ps qs) ∙ good)).0

directory_by : (n : ℕ) (path : List ℕ) → is_good_path path ≡ true → LastSlash path
    → directory_of n path ≡ join_with_byte slash (take n (take (length (segments_of path) - 1) (segments_of path)))
directory_by n path good (None, none) =
    let one : segments_of path ≡ path ∷ [] = no_last_slash path none in
    let empty : take n (take 0 (path ∷ [])) ≡ [] = take_all n [] (omega arith) in
    ap (first_names n) (sym (no_parent path none)) ∙ empty_first n
    ∙ ap (join_with_byte slash) (sym empty)
    ∙ ap (λ ps. join_with_byte slash (take n (take (length ps - 1) ps))) (sym one)
directory_by n path good (Some i, h) =
    let front : List ℕ = take i path in
    let name : List ℕ = take (length path - (i + 1)) (drop (i + 1) path) in
    let parts : segments_of path ≡ segments_of front ++ name ∷ [] = at_last_slash path i h in
    let names = good_front (segments_of front) (name ∷ []) (ap (list_all is_good_name) (sym parts) ∙ good) in
    let many : length (segments_of front) ≡ length (segments_of front ++ name ∷ []) - 1 =
    omega (arith, length-append (segments_of front) (name ∷ [])) in
    ap (first_names n) (sym (parent_at path i h) ∙ named_before front names)
    ∙ ap (join_with_byte slash) (first_of_names n (segments_of front) names)
    ∙ ap (λ ps. join_with_byte slash (take n ps))
    (sym (take_at (segments_of front) (name ∷ []) (length (segments_of front ++ name ∷ []) - 1) many))
    ∙ ap (λ ps. join_with_byte slash (take n (take (length ps - 1) ps))) (sym parts)

-- the directory of a path of a tree is its segments but for the last
pub named_directory : (n : ℕ) (path : List ℕ) → is_good_path path ≡ true
    → directory_of n path ≡ join_with_byte slash (take n (take (length (segments_of path) - 1) (segments_of path)))
named_directory n path good = directory_by n path good (last_slash path)
