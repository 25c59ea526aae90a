-- The states of attributes, as the members of JSON objects.
use Rattle.std.specs.{Prelude.{◌≡◌, ◌⊎◌, ℕ, true, false, List, [], ◌∷◌, ◌++◌, codes}, List.AllZip}
use Rattle.json.specs.Json.{Json, null, boolean, string}
use Rattle.lc_rules.specs.Attributes.{StateModel, set, unset, value, unspecified}
use Rattle.lc_reading.specs.Members.{Member, bytes_json, values_at}

-- the value of the member of an attribute that has this state
abbrev pub state_json : StateModel → Json
state_json unspecified = null
state_json set = boolean true
state_json unset = boolean false
state_json (value bytes) = string bytes

-- the name of the member that has the bytes of a value as numbers, where another member would have this name
abbrev pub bytes_name : List ℕ → List ℕ
bytes_name name = name ++ codes "_bytes"

-- the state is a value, whose bytes these values are as numbers
abbrev pub AreBytesOf : List Json → StateModel → Type 0
AreBytesOf js (value bytes) = js ≡ bytes_json bytes ∷ []
AreBytesOf js other = ⊥

-- the members have this state of the attribute whose column has this name: in the member of that name, or as the bytes of a value
abbrev pub HasState : List Member → List ℕ → StateModel → Type 0
HasState ms name state =
    ((values_at name ms ≡ state_json state ∷ []) × (values_at (bytes_name name) ms ≡ []))
    ⊎ ((values_at name ms ≡ []) × AreBytesOf (values_at (bytes_name name) ms) state)

-- the members have these states of the attributes whose columns have these names, in the same order
abbrev pub HasStates : List Member → List (List ℕ) → List StateModel → Type 0
HasStates ms names states = AllZip (HasState ms) names states
