-- JSON values by their parts, and a JSON document.
use Rattle.std.specs.{Prelude.{◌≡◌, ℕ, if◌then◌else◌, List, [], ◌∷◌, ◌++◌, map, codes, decimal, Some}, Str.is_utf8}
use Rattle.json.specs.Json.{Json, number, string, array, object, Items, no_items, item, Members, no_members, member, document}

abbrev pub items_with : List Json → Items
items_with [] = no_items
items_with (j ∷ js) = item j (items_with js)

abbrev pub array_with : List Json → Json
array_with js = array (items_with js)

-- a member of an object: a name and its value
abbrev pub Member : Type 0
Member = List ℕ × Json

abbrev pub members_with : List Member → Members
members_with [] = no_members
members_with (m ∷ ms) = member m.0 m.1 (members_with ms)

abbrev pub object_with : List Member → Json
object_with ms = object (members_with ms)

abbrev pub integer : ℕ → Json
integer n = number (decimal n)

-- the name of a member whose value is bytes as a list of numbers
abbrev pub bytes_name : List ℕ → List ℕ
bytes_name name = name ++ codes "_bytes"

-- a member for bytes: a string if the bytes are UTF-8, and otherwise a list of numbers under a name that ends with `_bytes`
abbrev pub bytes_member : List ℕ → List ℕ → Member
bytes_member name bytes =
    if is_utf8 bytes then (name, string bytes) else (bytes_name name, array_with (map integer bytes))

-- a JSON document of a value (RFC 8259), and a line feed
abbrev pub IsDocument : Json → List ℕ → Type 0
IsDocument j text = (line : List ℕ) × (text ≡ line ++ codes "\n") × (document line ≡ Some j)
