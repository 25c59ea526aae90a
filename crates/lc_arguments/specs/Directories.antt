-- The directories of a count.
use Rattle.std.specs.{Prelude.{◌&&◌, ℕ, Bool, true, not, cond, List, [], ◌∷◌}, List.{list_all, list_any}, Str.bytes_eq}
use Rattle.lc_glob.specs.{Bytes.slash, Pieces.is_byte}

-- the path of a directory without the slashes at its end
abbrev pub unslashed : List ℕ → List ℕ
unslashed [] = []
unslashed (b ∷ bs) = cond (list_all (is_byte slash) (b ∷ bs)) [] (b ∷ unslashed bs)

-- no name is in the list twice
abbrev pub are_distinct : List (List ℕ) → Bool
are_distinct [] = true
are_distinct (name ∷ names) = not (list_any (bytes_eq name) names) && are_distinct names

-- the words that were typed, or `default` alone if there are none
abbrev pub or_default : List ℕ → List (List ℕ) → List (List ℕ)
or_default default [] = default ∷ []
or_default default (word ∷ words) = word ∷ words
