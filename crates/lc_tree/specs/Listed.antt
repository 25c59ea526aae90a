-- The listing of given entries, computed as a value.
use Rattle.std.specs.Prelude.{ℕ, Bool, false, not, ◌||◌, nat_lt, cond, List, [], ◌∷◌, length, map, Result, Ok, Err, bytes_eq}
use Rattle.std.specs.{List.list_any, Ordering.is_lt}
use Rattle.lc_tree.specs.{ByteOrder.bytes_cmp, Listing.{EntryModel, names, have_good_names, max_entries}}
use Rattle.lc_tree.specs.declared.read_fault.ReadFault.{ReadFault, TheVariants.{BadName, Twice, TooMany}}

-- whether some name is in the list twice
abbrev pub has_twice : List (List ℕ) → Bool
has_twice [] = false
has_twice (name ∷ names) = list_any (bytes_eq name) names || has_twice names

-- a list of things with names, sorted by the bytes of the names: `insert` puts a thing before the first one whose name is greater
abbrev pub insert : {X : Type 0} → (X → List ℕ) → X → List X → List X
insert name x [] = x ∷ []
insert name x (y ∷ ys) = cond (is_lt (bytes_cmp (name x) (name y))) (x ∷ y ∷ ys) (y ∷ insert name x ys)

abbrev pub sorted : {X : Type 0} → (X → List ℕ) → List X → List X
sorted name [] = []
sorted name (x ∷ xs) = insert name x (sorted name xs)

-- the listing of these entries, or the error for which they make no listing
abbrev pub listed : {X : Type 0} → (X → EntryModel) → List X → Result (List X) ReadFault
listed entry xs =
    cond (not (have_good_names (map entry xs))) (Err BadName)
    (cond (has_twice (names (map entry xs))) (Err Twice)
    (cond (nat_lt max_entries (length xs)) (Err TooMany)
    (Ok (sorted (λ x. (entry x).name) xs))))
