-- What the object of a line has under a name: the values of the columns of that name.
use Rattle.std.proofs.{Common.{arith, ◌≡◌, ◌||◌, ℕ, Bool, false, List, [], ◌∷◌, ◌++◌, cond, refl}, lemmas.Grind.common_steps}
use Rattle.std.specs.Str.{bytes_eq}
use Rattle.json.specs.Json.{Json}
use Rattle.lc_formats.specs.{JsonLines.{line_members, value_members}, JsonText.bytes_name}
use Rattle.lc_reading.specs.Members.{values_at}
use Rattle.lc_sheet.specs.{ColumnWords.column_word, Values.ValueModel, declared.column.Column.Column}
use Rattle.lc_laws.proofs.JsonMembers.{values_append}

-- whether a value of a column of this name can have the other name
abbrev pub is_name : List ℕ → List ℕ → Bool
is_name n w = bytes_eq w n || bytes_eq (bytes_name w) n

abbrev pub is_named : List (List ℕ) → List ℕ → Column → Bool
is_named attributes n c = is_name n (column_word attributes c)

-- the values of a line under a name, of the columns that have it
abbrev pub values_of_line : List (List ℕ) → List ℕ → List Column → List ValueModel → List Json
values_of_line attributes n [] values = []
values_of_line attributes n (c ∷ cs) [] = []
values_of_line attributes n (c ∷ cs) (v ∷ vs) =
    cond (is_named attributes n c) (values_at n (value_members (column_word attributes c) v) ++ values_of_line attributes n cs vs)
    (values_of_line attributes n cs vs)

module _ (n w : List ℕ) (other : is_name n w ≡ false) where
  -- a column of another name has no value under it
  pub value_apart : (v : ValueModel) → values_at n (value_members w v) ≡ []
  value_apart v = grind (arith, common_steps)

first_values : (n w : List ℕ) (v : ValueModel) (rest : List Json) (b : Bool) → is_name n w ≡ b
    → values_at n (value_members w v) ++ rest ≡ cond b (values_at n (value_members w v) ++ rest) rest
first_values n w v rest b e = grind (arith, common_steps, value_apart)

pub values_of_members : (attributes : List (List ℕ)) (n : List ℕ) (cs : List Column) (vs : List ValueModel)
    → values_at n (line_members attributes cs vs) ≡ values_of_line attributes n cs vs
values_of_members attributes n [] vs = refl
values_of_members attributes n (c ∷ cs) [] = refl
values_of_members attributes n (c ∷ cs) (v ∷ vs) =
    grind (arith, common_steps, values_append, first_values, values_of_members attributes n cs vs)
