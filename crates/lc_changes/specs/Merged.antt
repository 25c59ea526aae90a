-- Two lists side by side: one line for each key of their elements.
use Rattle.std.specs.Prelude.{◌≡◌, Bool, true, ◌||◌, List, [], ◌∷◌, filter, is_some, Option, Some, None}
use Rattle.std.specs.{List.{All, list_any, Sorted.IsStrictlySortedBy}, Option.{option_or, option_to_list}, Ordering.{eq_by_cmp, on}}
use Rattle.std.specs.declared.cmp.Ordering.{Ordering, TheVariants.{Less, Equal, Greater}}

-- the elements of a list that have a key
abbrev pub of_key : {X K : Type 0} → (X → K) → (K → K → Ordering) → K → List X → List X
of_key key cmp k xs = filter (λ x. eq_by_cmp cmp k (key x)) xs

-- whether some element has a key of a set
abbrev pub has_key : {X K : Type 0} → (X → K) → (K → Bool) → List X → Bool
has_key key keys xs = list_any (λ x. keys (key x)) xs

-- a line is made of the elements of both lists that have its key
abbrev pub IsLineAt : {X L K : Type 0} → (X → K) → (K → K → Ordering) → (L → K) → (List X → List X → L → Type 0) → List X → List X → L
    → Type 0
IsLineAt key cmp line_key IsOf olds news l = IsOf (of_key key cmp (line_key l) olds) (of_key key cmp (line_key l) news) l

-- one such line for each key that an element of either list has, in the order of keys
pub record AreMerged {X L K : Type 0} (key : X → K) (cmp : K → K → Ordering) (line_key : L → K) (IsOf : List X → List X → L → Type 0)
    (olds news : List X) (lines : List L) : Type 0 where
  pub each : All (IsLineAt key cmp line_key IsOf olds news) lines
  pub present : (keys : K → Bool) → has_key line_key keys lines ≡ (has_key key keys olds || has_key key keys news)
  pub order : IsStrictlySortedBy (on line_key cmp) lines

-- ---- lists in the order of keys, which have each key at most once

-- a line is made of an element of the old list, of an element of the new list, or of both, and has their key
pub record IsLineOf {X L K : Type 0} (key : X → K) (line_key : L → K) (IsOf : List X → List X → L → Type 0) (old new : Option X)
    (l : L) : Type 0 where
  pub some : is_some (option_or new old) ≡ true
  pub keyed : (x : X) → option_or new old ≡ Some x → line_key l ≡ key x
  pub is : IsOf (option_to_list old) (option_to_list new) l

abbrev pub next_by : {X : Type 0} → Ordering → X → X → Option X × Option X
next_by Less o n = (Some o, None)
next_by Equal o n = (Some o, Some n)
next_by Greater o n = (None, Some n)

-- the elements of both lists that have the least key
abbrev pub next_of : {X K : Type 0} → (X → K) → (K → K → Ordering) → List X → List X → Option X × Option X
next_of key cmp [] [] = (None, None)
next_of key cmp (o ∷ os) [] = (Some o, None)
next_of key cmp [] (n ∷ ns) = (None, Some n)
next_of key cmp (o ∷ os) (n ∷ ns) = next_by (cmp (key o) (key n)) o n

-- a list without its first element, if this is the next one
abbrev pub left_of : {X : Type 0} → Option X → List X → List X
left_of None xs = xs
left_of (Some y) [] = []
left_of (Some y) (x ∷ xs) = xs
