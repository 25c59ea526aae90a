-- The tokens of arrays and objects by their parts.
use Rattle.std.proofs.{Common.{arith, ◌≡◌, ℕ, Bool, if◌then◌else◌, List, [], ◌∷◌, ◌++◌, map, refl, ◌∙◌, ap, append_assoc, append-nil, Some}}
use Rattle.std.proofs.{lemmas.{Grind.common_steps, Bool.false_from_ne_true, List.Concat.flat_map-append}}
use Rattle.std.proofs.{lemmas.Str.{IsUtf8-from_is_utf8, is_utf8-from_IsUtf8}}
use Rattle.std.specs.{List.flat_map, Str.{IsUtf8, is_utf8}}
use Rattle.json.specs.{Json.{Json, string}, Token.{Token, key, begin_object, end_object, end_array}, Tree.{json_tokens, items_tokens}}
use Rattle.json.specs.Tree.{members_tokens}
use Rattle.lc_sheet.specs.{ColumnWords.column_word, Values.ValueModel, declared.column.Column.Column}
use Rattle.lc_formats.specs.{JsonLines.{line_members, object_of, value_members}, JsonSheets.object_members, JsonText.{Member, items_with}}
use Rattle.lc_formats.specs.{JsonText.{members_with, array_with, object_with, integer, bytes_member, bytes_name}, JsonTokens.member_tokens}
use Rattle.lc_formats.specs.JsonTokens.{members_tokens_of}

-- an array has the tokens of its values, and a bracket
pub array_tokens : {X : Type 0} (value : X → Json) (xs : List X)
    → items_tokens (items_with (map value xs)) ≡ flat_map (λ x. json_tokens (value x)) xs ++ end_array ∷ []
array_tokens value [] = refl
array_tokens value (x ∷ xs) = grind (arith, common_steps, append_assoc, array_tokens value xs)

-- an object has the tokens of its members, and a bracket
pub object_tokens : (ms : List Member) → members_tokens (members_with ms) ≡ members_tokens_of ms ++ end_object ∷ []
object_tokens [] = refl
object_tokens (m ∷ ms) = ap (λ (ts : List Token). member_tokens m ++ ts) (object_tokens ms) ∙ simp append_assoc

-- two lists of members, appended in turn
pub both_members : (text : List Token) (ms ns : List Member)
    → (text ++ members_tokens_of ms) ++ members_tokens_of ns ≡ text ++ members_tokens_of (ms ++ ns)
both_members text ms ns = grind (arith, common_steps, append_assoc, flat_map-append)

-- four lists of members, appended in turn
pub four_members : (text : List Token) (ks ms ns os : List Member)
    → (((text ++ members_tokens_of ks) ++ members_tokens_of ms) ++ members_tokens_of ns) ++ members_tokens_of os
    ≡ text ++ members_tokens_of (ks ++ (ms ++ (ns ++ os)))
four_members text ks ms ns os = grind (arith, common_steps, both_members)

-- an object, appended in turn
pub object_appended : (text : List Token) (ms : List Member)
    → ((text ++ begin_object ∷ []) ++ members_tokens_of ms) ++ end_object ∷ [] ≡ text ++ json_tokens (object_with ms)
object_appended text ms = grind (arith, common_steps, append_assoc, object_tokens)

-- the values of a line, column by column
pub line_tokens : (names : List (List ℕ)) (value : Column → ValueModel) (columns : List Column)
    → flat_map (λ c. members_tokens_of (value_members (column_word names c) (value c))) columns
    ≡ members_tokens_of (line_members names columns (map value columns))
line_tokens names value [] = refl
line_tokens names value (c ∷ cs) = grind (arith, common_steps, flat_map-append, line_tokens names value cs)

-- bytes that are a text
pub text_tokens : (name bytes : List ℕ) → IsUtf8 bytes → member_tokens (bytes_member name bytes) ≡ member_tokens (name, string bytes)
text_tokens name bytes is = grind (arith, common_steps, is_utf8-from_IsUtf8)

-- bytes that are none
pub listed_tokens : (name bytes : List ℕ) → ¬ (IsUtf8 bytes)
    → member_tokens (bytes_member name bytes) ≡ member_tokens (bytes_name name, array_with (map integer bytes))
listed_tokens name bytes none =
    ap (λ b. member_tokens (if b then (name, string bytes) else (bytes_name name, array_with (map integer bytes))))
    (false_from_ne_true (is_utf8 bytes) (λ e. none (IsUtf8-from_is_utf8 bytes e)))

-- lists that were appended in turn
pub in_turn_3 : {A : Type 0} (a b c d : List A) → ((a ++ b) ++ c) ++ d ≡ a ++ (b ++ (c ++ d))
in_turn_3 a b c d = simp append_assoc

-- a member of an object, appended in turn
pub object_member_appended : (compares : Bool) (text : List Token) (n : List ℕ) (names : List (List ℕ)) (columns : List Column)
    (values : List ValueModel) → (text ++ key n ∷ []) ++ json_tokens (object_of compares names columns values)
    ≡ text ++ members_tokens_of (object_members compares n names columns (Some values))
object_member_appended compares text n names columns values = simp (append_assoc, append-nil)

-- an object of a member and two lists of some, appended in turn
pub sheet_appended : (text : List Token) (m : Member) (ms ns : List Member)
    → ((((text ++ begin_object ∷ []) ++ member_tokens m) ++ members_tokens_of ms) ++ members_tokens_of ns) ++ end_object ∷ []
    ≡ text ++ json_tokens (object_with (m ∷ (ms ++ ns)))
sheet_appended text m ms ns =
    let begun = text ++ begin_object ∷ [] in
    let own : begun ++ member_tokens m ≡ begun ++ members_tokens_of (m ∷ []) = simp (append_assoc, append-nil) in
    ap (λ (ts : List Token). ((ts ++ members_tokens_of ms) ++ members_tokens_of ns) ++ end_object ∷ []) own
    ∙ ap (λ (ts : List Token). (ts ++ members_tokens_of ns) ++ end_object ∷ []) (both_members begun (m ∷ []) ms)
    ∙ ap (λ (ts : List Token). ts ++ end_object ∷ []) (both_members begun (m ∷ ms) ns)
    ∙ object_appended text (m ∷ (ms ++ ns))
