-- Which names a segment's tokens fit: gitignore(5), PATTERN FORMAT.
use Rattle.std.specs.Prelude.{ℕ, ◌≡◌, List, [], ◌∷◌, ◌++◌, IsTrue}
use Rattle.lc_glob.specs.Tokens.{TokenModel, literal, any_byte, star, class, takes}

-- no tokens fit the empty name alone; a star and the tokens after it fit a name that has some cut after which they fit
-- the rest; any other token and those after it fit a name whose first byte it stands for and whose rest they fit
abbrev pub Fits : List TokenModel → List ℕ → Type 0
Fits [] [] = Unit {0}
Fits [] (b ∷ bs) = ⊥
Fits (star ∷ us) name = (a b : List ℕ) × (name ≡ a ++ b) × Fits us b
Fits (literal c ∷ us) [] = ⊥
Fits (literal c ∷ us) (b ∷ bs) = IsTrue (takes (literal c) b) × Fits us bs
Fits (any_byte ∷ us) [] = ⊥
Fits (any_byte ∷ us) (b ∷ bs) = IsTrue (takes any_byte b) × Fits us bs
Fits (class n rs ∷ us) [] = ⊥
Fits (class n rs ∷ us) (b ∷ bs) = IsTrue (takes (class n rs) b) × Fits us bs
