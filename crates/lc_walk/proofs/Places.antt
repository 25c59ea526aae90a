-- The names from the top down to the path of a name in a directory.
use Rattle.std.proofs.Common.{◌≡◌, ℕ, ◌==◌, ◌||◌, false, List, [], ◌∷◌, ◌++◌, refl, ◌∙◌, ap}
use Rattle.std.specs.List.{AllByRecursion, list_any}
use Rattle.lc_glob.specs.Path.{path_in}
use Rattle.lc_tree.specs.Paths.{names_of_path}
use Rattle.lc_tree.proofs.NodesIn.{names_below}
use Rattle.lc_level.proofs.WellFormed.{IsGoodName}

no_slash : (n : List ℕ) → AllByRecursion (λ b. (b == 47) ≡ false) n → list_any (λ b. b == 47) n ≡ false
no_slash [] a = refl
no_slash (b ∷ bs) a = ap (λ t. t || list_any (λ c. c == 47) bs) a.0 ∙ no_slash bs a.1

-- a good name is one more
pub names_of_path-path_in : (p n : List ℕ) → IsGoodName n → names_of_path (path_in p n) ≡ names_of_path p ++ n ∷ []
names_of_path-path_in p n g = names_below p n g.0 (no_slash n g.1)
