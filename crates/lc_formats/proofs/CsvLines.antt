-- Records of lines, as the code writes them.
use Rattle.std.proofs.{Common.{arith, ◌≡◌, ℕ, ◌≤◌, List, ◌++◌, length, map, take}, lemmas.{Grind.common_steps, List.Folds.flat_map-map}}
use Rattle.std.specs.List.{flat_map}
use Rattle.lc_sheet.specs.Values.{ValueModel}
use Rattle.lc_formats.specs.{Csv.field_of, CsvText.record_text}

-- a record of each line is written
pub records_written : {X : Type 0} (values : X → List ValueModel) (xs : List X) (i : ℕ) (initial all : List ℕ) → length xs ≤ i
    → all ≡ initial ++ flat_map (λ x. record_text (map field_of (values x))) (take i xs)
    → all ≡ initial ++ flat_map record_text (map (map field_of) (map values xs))
records_written values xs i initial all end so_far = grind (arith, common_steps, flat_map-map)
