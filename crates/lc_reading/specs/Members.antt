-- The members of a JSON object, and their values, by their names.
use Rattle.std.specs.{Prelude.{◌≡◌, ◌⊎◌, ℕ, Bool, false, List, [], ◌∷◌, map, cond, decimal, Option, Some, None}, Str.bytes_eq, Borrow.Bor}
use Rattle.json.specs.{Json.{Json, number, string, array, Members, no_members, member}, Value.{items_of, value_view}}
use Rattle.json.specs.declared.value.Value.{Value}
use Rattle.lc_reading.specs.{MemberNames.member_name, declared.member_name.MemberName.MemberName}

-- a name and its value
abbrev pub Member : Type 0
Member = List ℕ × Json

abbrev pub members_with : List Member → Members
members_with [] = no_members
members_with (m ∷ ms) = member m.0 m.1 (members_with ms)

-- the members that a slice of the code has
abbrev pub members_of : {A : Type 0} → List (Bor (List ℕ) × Value A) → List Member
members_of [] = []
members_of (m ∷ ms) = (m.0.now, value_view m.1) ∷ members_of ms

-- the values that a slice of the code has
abbrev pub values_of : {A : Type 0} → List (Value A) → List Json
values_of vs = map value_view vs

-- the values of the members of this name, in order
abbrev pub values_at : List ℕ → List Member → List Json
values_at name [] = []
values_at name (m ∷ ms) = cond (bytes_eq m.0 name) (m.1 ∷ values_at name ms) (values_at name ms)

abbrev pub named : MemberName → List Member → List Json
named name ms = values_at (member_name name) ms

-- there is no member of this name
abbrev pub Lacks : MemberName → List Member → Type 0
Lacks name ms = named name ms ≡ []

-- there is one member of this name, and this is its value
abbrev pub Has : MemberName → List Member → Json → Type 0
Has name ms j = named name ms ≡ j ∷ []

-- the value of the one member of this name is this number, in digits
abbrev pub HasNumber : MemberName → List Member → ℕ → Type 0
HasNumber name ms n = Has name ms (number (decimal n))

-- the value of the one member of this name is this text
abbrev pub HasText : MemberName → List Member → List ℕ → Type 0
HasText name ms s = Has name ms (string s)

-- bytes as a list of numbers
abbrev pub bytes_json : List ℕ → Json
bytes_json bytes = array (items_of (map (λ b. number (decimal b)) bytes))

-- the value of the one member of this name is these bytes, as a list of numbers
abbrev pub HasList : MemberName → List Member → List ℕ → Type 0
HasList name ms bytes = Has name ms (bytes_json bytes)

-- these bytes are a text in the member of the one name, or a list of numbers in the member of the other name
abbrev pub HasBytes : MemberName → MemberName → List Member → List ℕ → Type 0
HasBytes text list ms bytes = (HasText text ms bytes × Lacks list ms) ⊎ (Lacks text ms × HasList list ms bytes)

-- whether there is a word, and it is this one
abbrev pub is_word : List ℕ → Option (List ℕ) → Bool
is_word word None = false
is_word word (Some own) = bytes_eq own word
