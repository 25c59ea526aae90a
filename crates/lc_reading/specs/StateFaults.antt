-- Why the state of an attribute is not read from the members of a JSON object.
use Rattle.std.specs.{Prelude.{◌≡◌, ◌⊎◌, ◌<◌, ◌+◌, ◌-◌, ◌^◌, ◌++◌, ℕ, min, List, [], ◌∷◌, length, ⊤}, List.All}
use Rattle.lc_rules.specs.Attributes.{StateModel, value}
use Rattle.lc_reading.specs.{Members.{Member, values_at}, States.{HasState, bytes_name}}
use Rattle.lc_reading.specs.declared.read_fault.{NoReport.NoReport, ReadFault.ReadFault}
use Rattle.lc_reading.specs.declared.read_fault.NoReport.TheVariants as why
use Rattle.lc_reading.specs.declared.read_fault.ReadFault.TheVariants as fault

-- memory ran out; or this is the error, and the reason holds
abbrev pub IsRefusedAs : NoReport → Type 0 → ReadFault → Type 0
IsRefusedAs bad Reason fault.Memory = ⊤
IsRefusedAs bad Reason (fault.NoReport w) = (w ≡ bad) × Reason
IsRefusedAs bad Reason _ = ⊥

abbrev pub AreBytes : List ℕ → Type 0
AreBytes bytes = All (λ b. b < 2 ^ 8) bytes

-- the value of the state, if it has one, is bytes
abbrev pub HasBytesAlone : StateModel → Type 0
HasBytesAlone (value bytes) = AreBytes bytes
HasBytesAlone _ = ⊤

-- why the members have no state of the attribute with this name, where `place` is the attribute's place
abbrev pub LacksState : List Member → ℕ → List ℕ → ReadFault → Type 0
LacksState ms place name fault.Memory = ⊤
LacksState ms place name (fault.NoAttribute at) = (at ≡ place) × (values_at name ms ≡ []) × (values_at (bytes_name name) ms ≡ [])
LacksState ms place name (fault.NoReport (why.AttributeTwice at)) =
    (at ≡ place) × (1 < length (values_at name ms ++ values_at (bytes_name name) ms))
LacksState ms place name (fault.NoReport (why.BadAttribute at)) =
    (at ≡ place) × ((state : StateModel) → HasBytesAlone state → HasState ms name state → ⊥)
LacksState ms place name _ = ⊥

-- why the members lack the state of one of the attributes with these names, where the first is at `place`; places end with 255
abbrev pub LacksSomeState : List Member → ℕ → List (List ℕ) → ReadFault → Type 0
LacksSomeState ms place [] f = ⊥
LacksSomeState ms place (name ∷ names) f = LacksState ms place name f ⊎ LacksSomeState ms (min (place + 1) (2 ^ 8 - 1)) names f
