-- Which attributes of a command line are noted, and which of them are returned.
use Rattle.std.specs.{Prelude.{◌≡◌, ◌⊎◌, ℕ, List, [], ◌∷◌, Vec, map}, Borrow.Bor, Global.Global}
use Rattle.lc_level.specs.{Filters.attribute_of, declared.named_attributes.{NamedAttributes.NamedAttributes, NotedWord.NotedWord}}

-- the attributes of words such as `ATTR` and `ATTR=VALUE`
abbrev pub attributes_of : List (Bor (List ℕ)) → List (List ℕ)
attributes_of words = map (λ (word : Bor (List ℕ)). attribute_of word.now) words

-- the attributes that are noted
abbrev pub noted : NamedAttributes → List (List ℕ)
noted n = map (λ (w : NotedWord). w.attribute.items) n.words.items

-- these texts are some of the others, in their order
abbrev pub AreSomeOf : List (List ℕ) → List (List ℕ) → Type 0
AreSomeOf [] others = Unit {0}
AreSomeOf (t ∷ ts) [] = ⊥
AreSomeOf (t ∷ ts) (o ∷ os) = ((t ≡ o) × AreSomeOf ts os) ⊎ AreSomeOf (t ∷ ts) os

-- some of these attributes, in their order
abbrev pub AreSomeAttributes : List (List ℕ) → List (Vec ℕ Global) → Type 0
AreSomeAttributes attributes told = AreSomeOf (map (λ (a : Vec ℕ Global). a.items) told) attributes
