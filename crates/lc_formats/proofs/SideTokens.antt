-- The tokens of a line of a comparison by its parts.
use Rattle.std.proofs.{Common.{arith, ◌≡◌, ℕ, Bool, false, List, [], ◌∷◌, ◌++◌, map, ap, ◌∙◌, append_assoc, append-nil}}
use Rattle.std.proofs.lemmas.Grind.{common_steps}
use Rattle.json.specs.{Json.Json, Token.{Token, key, begin_object, end_object}, Tree.json_tokens}
use Rattle.lc_sheet.specs.{Values.ValueModel, declared.column.Column.Column}
use Rattle.lc_formats.specs.{JsonLines.{column_in, lacks, members_in, part_members, side_value}, JsonText.{Member, object_with}}
use Rattle.lc_formats.specs.{JsonTokens.members_tokens_of, declared.json_sides.Part.Part}
use Rattle.lc_formats.proofs.{Tokens.{both_members, object_appended}}

-- one column more of a part
pub part_step : (text next all : List Token) (names : List (List ℕ)) (p : Part) (c : Column) (cs rest : List Column)
    (value : Column → ValueModel) → rest ≡ c ∷ cs
    → text ++ members_tokens_of (part_members names p rest (map value rest)) ≡ all
    → next ≡ text ++ members_tokens_of (members_in names (column_in p c) (value c))
    → next ++ members_tokens_of (part_members names p cs (map value cs)) ≡ all
part_step text next all names p c cs rest value is so_far more = grind (arith, common_steps, both_members)

-- a side that its report has
pub side_there : (b : Bool) (names : List (List ℕ)) (p : Part) (columns : List Column) (values : List ValueModel)
    → b ≡ lacks p columns values → b ≡ false
    → object_with (part_members names p columns values) ≡ side_value names p columns values
side_there b names p columns values is none = grind (arith, common_steps)

two_members : (text : List Token) (n m : List ℕ) (a b : Json)
    → (((text ++ key n ∷ []) ++ json_tokens a) ++ key m ∷ []) ++ json_tokens b ≡ text ++ members_tokens_of ((n, a) ∷ (m, b) ∷ [])
two_members text n m a b = simp (append_assoc, append-nil)

-- an object of members and two more, appended in turn
pub change_appended : (text : List Token) (own : List Member) (n m : List ℕ) (a b : Json)
    → ((((((text ++ begin_object ∷ []) ++ members_tokens_of own) ++ key n ∷ []) ++ json_tokens a) ++ key m ∷ []) ++ json_tokens b)
    ++ end_object ∷ []
    ≡ text ++ json_tokens (object_with (own ++ (n, a) ∷ (m, b) ∷ []))
change_appended text own n m a b =
    let begun = text ++ begin_object ∷ [] in
    ap (λ (ts : List Token). ts ++ end_object ∷ [])
    (two_members (begun ++ members_tokens_of own) n m a b ∙ both_members begun own ((n, a) ∷ (m, b) ∷ []))
    ∙ object_appended text (own ++ (n, a) ∷ (m, b) ∷ [])
