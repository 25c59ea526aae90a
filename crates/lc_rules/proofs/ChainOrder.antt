-- The files of a chain, one more below them.
use Rattle.std.proofs.{Common.{◌≡◌, ℕ, List, [], ◌∷◌, ◌++◌, Option, Some, ◌∙◌, ap}, lemmas.List.Elements.filter_map-append}
use Rattle.std.specs.{List.filter_map, declared.sync.Arc.Arc, Arc.arc_value}
use Rattle.lc_rules.specs.Chains.{entry_file}

-- the files of a chain with one more are those of the chain, and it
pub files_with : {R A : Type 0} (entries more : List (ℕ × Option R)) (chain : List (ℕ × R)) (depth : ℕ) (file : Arc R A)
    → filter_map entry_file entries ≡ chain → more ≡ entries ++ ((depth, Some (arc_value file)) ∷ [])
    → filter_map entry_file more ≡ chain ++ ((depth, arc_value file) ∷ [])
files_with entries more chain depth file e f =
    ap (filter_map entry_file) f ∙ filter_map-append entry_file entries ((depth, Some (arc_value file)) ∷ [])
    ∙ ap (λ l. l ++ ((depth, arc_value file) ∷ [])) e
