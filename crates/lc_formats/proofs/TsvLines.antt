-- Lines with tabs, as the code writes them.
use Rattle.std.proofs.{Common.{arith, ◌≡◌, ℕ, ◌≤◌, List, [], ◌∷◌, ◌++◌, length, map, take, codes, sym, ap, ◌∙◌, append_assoc, append-nil}}
use Rattle.std.proofs.{lemmas.{Grind.common_steps, List.Folds.flat_map-map}}
use Rattle.std.specs.List.{flat_map}
use Rattle.lc_sheet.specs.{Values.ValueModel, declared.column.Column.Column}
use Rattle.lc_formats.specs.{Tsv.{field_of, line_with}, TsvParts.{after_tab, after_tabs}}

-- the first field, and the rest with a tab before each
pub by_tabs : (first : List ℕ) (fields : List (List ℕ)) → line_with (first ∷ fields) ≡ first ++ after_tabs fields ++ codes "\n"
by_tabs first [] = ap (λ l. l ++ codes "\n") (sym (append-nil first))
by_tabs first (field ∷ fields) = ap (λ l. first ++ codes "\t" ++ l) (by_tabs field fields) ∙ simp append_assoc

-- the rest are fields of elements
pub mapped_by_tabs : {X : Type 0} (field : X → List ℕ) (first : List ℕ) (xs : List X)
    → line_with (first ∷ map field xs) ≡ first ++ flat_map (λ x. after_tab (field x)) xs ++ codes "\n"
mapped_by_tabs field first xs = grind (arith, common_steps, by_tabs, flat_map-map)

-- after a first field, the fields of the other elements and the end of the line are written
pub line_written : {X : Type 0} (field : X → List ℕ) (first : List ℕ) (xs : List X) (initial front next all : List ℕ)
    → front ≡ initial ++ first → next ≡ front ++ flat_map (λ x. after_tab (field x)) xs → all ≡ next ++ codes "\n"
    → all ≡ initial ++ line_with (first ∷ map field xs)
line_written field first xs initial front next all one others end = grind (arith, common_steps, append_assoc, mapped_by_tabs)

-- the same, where the elements are the values of columns
pub values_written : (value : Column → ValueModel) (first : List ℕ) (columns : List Column) (initial front next all : List ℕ)
    → front ≡ initial ++ first → next ≡ front ++ flat_map (λ column. after_tab (field_of (value column))) columns
    → all ≡ next ++ codes "\n" → all ≡ initial ++ line_with (first ∷ map field_of (map value columns))
values_written value first columns initial front next all one others end = grind (arith, common_steps, line_written, flat_map-map)

-- all lines are written
pub lines_written : {X : Type 0} (line : List ValueModel → List ℕ) (values : X → List ValueModel) (xs : List X) (i : ℕ)
    (initial all : List ℕ) → length xs ≤ i → all ≡ initial ++ flat_map (λ x. line (values x)) (take i xs)
    → all ≡ initial ++ flat_map line (map values xs)
lines_written line values xs i initial all end so_far = grind (arith, common_steps, flat_map-map)
