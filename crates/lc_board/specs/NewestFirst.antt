-- A list that grew at its end, read from its newest element.
use Rattle.std.specs.Prelude.{List, [], ◌∷◌}

module _ {A : Type 0} where
  -- the elements of the second list, the last one first, before those of the first list
  abbrev pub onto : List A → List A → List A
  onto acc [] = acc
  onto acc (x ∷ xs) = onto (x ∷ acc) xs

  abbrev pub newest_first : List A → List A
  newest_first xs = onto [] xs
