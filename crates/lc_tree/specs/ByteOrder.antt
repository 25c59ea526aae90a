-- Names and paths in the order of their bytes.
use Rattle.std.specs.{Prelude.{ℕ, List}, List.{IsDistinct, Sorted.IsStrictlySortedBy}, declared.cmp.Ordering.Ordering, Ordering.nat_cmp}
use Rattle.std.specs.{Ordering.eq_by_cmp, Cmp.Lexicographic.slice_cmp}

abbrev pub bytes_cmp : List ℕ → List ℕ → Ordering
bytes_cmp = slice_cmp nat_cmp

-- no name or path is in the list twice
abbrev pub AreApart : List (List ℕ) → Type 0
AreApart = IsDistinct (eq_by_cmp bytes_cmp)

-- each name or path is less than the ones after it, in the order of their bytes
abbrev pub AreInOrder : List (List ℕ) → Type 0
AreInOrder = IsStrictlySortedBy bytes_cmp
