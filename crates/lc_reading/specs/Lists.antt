-- Lists of a report, as JSON arrays of objects.
use Rattle.std.specs.Prelude.{◌≡◌, List, [], ◌∷◌, ◌++◌, ⊤}
use Rattle.json.specs.{Json.{Json, array, object}, Token.Token, Tree.json_tokens, Value.items_of}
use Rattle.lc_reading.specs.Members.{Member, members_with}

-- a JSON object whose members are those of this line, by `Says`
pub record IsLineOf {L : Type 0} (Says : List Member → L → Type 0) (j : Json) (line : L) : Type 0 where
  pub members : List Member
  pub object_is : j ≡ object (members_with members)
  pub says : Says members line

-- the values are the objects of these lines, in order
abbrev pub AreLinesOf : {L : Type 0} → (List Member → L → Type 0) → List Json → List L → Type 0
AreLinesOf Says [] [] = ⊤
AreLinesOf Says [] (l ∷ ls) = ⊥
AreLinesOf Says (j ∷ js) [] = ⊥
AreLinesOf Says (j ∷ js) (l ∷ ls) = IsLineOf Says j l × AreLinesOf Says js ls

-- a JSON array of the objects of these lines
pub record IsListOf {L : Type 0} (Says : List Member → L → Type 0) (j : Json) (lines : List L) : Type 0 where
  pub values : List Json
  pub array_is : j ≡ array (items_of values)
  pub each : AreLinesOf Says values lines

-- the tokens `old` begin with a value that is `a`, and go on with the tokens `new`
pub record BeginsWith {A : Type 0} (Is : Json → A → Type 0) (old new : List Token) (a : A) : Type 0 where
  pub value : Json
  pub tokens_are : old ≡ json_tokens value ++ new
  pub is : Is value a
