-- Names that are not among others, each once.
use Rattle.std.proofs.{Common.{arith, ◌≡◌, ℕ, ◌+◌, ◌<◌, Bool, List, [], ◌∷◌, ◌++◌, append_assoc, append-nil, if◌then◌else◌}}
use Rattle.std.proofs.{Common.{length, map, take, get_or, sym, ap}, lemmas.Grind.common_steps}
use Rattle.std.proofs.{lemmas.List.{map-append, take_more, Elements.filter_map-append}}
use Rattle.std.specs.{Borrow.Bor, List.filter_map}
use Rattle.lc_arguments.specs.{AttributeWords.{column_tested, is_among, new_names}}

-- those of two lists whose first name is there, or is new
name_more : (b : Bool) (before : List (List ℕ)) (x : List ℕ) (xs ys : List (List ℕ))
    → new_names before (xs ++ ys) ≡ new_names before xs ++ new_names (before ++ new_names before xs) ys
    → new_names (before ++ x ∷ []) (xs ++ ys)
    ≡ new_names (before ++ x ∷ []) xs ++ new_names ((before ++ x ∷ []) ++ new_names (before ++ x ∷ []) xs) ys
    → (if b then new_names before (xs ++ ys) else x ∷ new_names (before ++ x ∷ []) (xs ++ ys))
    ≡ (if b then new_names before xs else x ∷ new_names (before ++ x ∷ []) xs)
    ++ new_names (before ++ (if b then new_names before xs else x ∷ new_names (before ++ x ∷ []) xs)) ys
name_more b before x xs ys there new = grind (arith, common_steps, append_assoc)

-- those of two lists are those of the first, and then those of the second that are not among them
new_names_more : (before xs ys : List (List ℕ))
    → new_names before (xs ++ ys) ≡ new_names before xs ++ new_names (before ++ new_names before xs) ys
new_names_more before [] ys = ap (λ b. new_names b ys) (sym (append-nil before))
new_names_more before (x ∷ xs) ys =
    name_more (is_among before x) before x xs ys (new_names_more before xs ys) (new_names_more (before ++ x ∷ []) xs ys)

-- the columns that one text more tests
pub one_tested_more : (by : List (List ℕ)) (texts : List (Bor (List ℕ))) (i : ℕ) (d : Bor (List ℕ)) (old new : List (List ℕ))
    → i < length texts → old ≡ by ++ new_names by (filter_map column_tested (map (λ text. text.now) (take i texts)))
    → new ≡ old ++ new_names old (filter_map column_tested ((get_or texts i d).now ∷ []))
    → new ≡ by ++ new_names by (filter_map column_tested (map (λ text. text.now) (take (i + 1) texts)))
one_tested_more by texts i d old new low is adds =
    grind (arith, common_steps, append_assoc, new_names_more, filter_map-append, take_more, map-append)
