-- The value of a sheet is a document.
use Rattle.std.proofs.{lemmas.Grind.common_steps, Common.{◌≡◌, ℕ, ◌≤◌, Bool, cond, if◌then◌else◌, List, [], ◌∷◌, ◌++◌, map, codes, Option}}
use Rattle.std.proofs.{Common.{Some, None, option_and_then, slice_get, sym, ap, ◌∙◌, arith, append-nil, Result, Ok, Err, IfOk}}
use Rattle.std.specs.{Prelude.Vec, Global.Global, Str.is_utf8}
use Rattle.json.specs.{Json.{Json, null, string, if_last, max_depth, value}, Lex.tokens, Print.print, Token.Token, Tree.json_tokens}
use Rattle.json.specs.{Tree.{depth, items_depth, members_depth}}
use Rattle.json.proofs.Printed.Trees.{value-json_tokens}
use Rattle.lc_sheet.specs.{Sheets.{SectionModel, SheetModel}, Values.ValueModel, declared.column.Column.Column}
use Rattle.lc_formats.specs.{JsonLines.{change_object, line_members, line_object, members_in, object_of, part_members, side_value}}
use Rattle.lc_formats.specs.{JsonLines.value_members, JsonSheets.{json_of, line_at, list_member, list_members, number_member}}
use Rattle.lc_formats.specs.{JsonSheets.{number_members, object_members, some_list, totals_members}, declared.json_sides.Part.Part}
use Rattle.lc_formats.specs.{JsonText.{Member, items_with, members_with, array_with, integer, bytes_member, bytes_name, IsDocument}}
use Rattle.lc_formats.specs.JsonText.{object_with}

-- an array is as deep as its values
items_within : {X : Type 0} (v : X → Json) (n : ℕ) → ((x : X) → depth (v x) ≤ n) → (xs : List X)
    → items_depth (items_with (map v xs)) ≤ n
items_within v n each [] = omega arith
items_within v n each (x ∷ xs) = let first = each x in let rest = items_within v n each xs in omega arith

-- members of both lists
both_within : (n : ℕ) (ms ns : List Member) → members_depth (members_with ms) ≤ n → members_depth (members_with ns) ≤ n
    → members_depth (members_with (ms ++ ns)) ≤ n
both_within n [] ns a b = b
both_within n (m ∷ ms) ns a b = let rest = both_within n ms ns (omega arith) b in omega arith

chosen_within : (b : Bool) (m n : Member) → depth m.1 ≤ 1 → depth n.1 ≤ 1 → depth (cond {A = Member} b m n).1 ≤ 1
chosen_within b m n h k = grind (arith, common_steps)

bytes_within : (n bytes : List ℕ) → depth (bytes_member n bytes).1 ≤ 1
bytes_within n bytes =
    let inner = items_within integer 0 (λ k. omega arith) bytes in
    chosen_within (is_utf8 bytes) (n, string bytes) (bytes_name n, array_with (map integer bytes)) (omega arith) (omega arith)

value_within : (m : List ℕ) (v : ValueModel) → members_depth (members_with (value_members m v)) ≤ 1
value_within m v = grind (arith, common_steps, bytes_within)

null_or_within : (b : Bool) (ms : List Member) → members_depth (members_with ms) ≤ 1 → depth (if b then null else object_with ms) ≤ 2
null_or_within b ms within = grind (arith, common_steps)

sides_within : (a b : Json) → depth a ≤ 2 → depth b ≤ 2 → members_depth (members_with ((codes "old", a) ∷ (codes "new", b) ∷ [])) ≤ 2
sides_within a b x y = omega arith

-- the columns of attributes have these names
module _ (names : List (List ℕ)) where
  line_within : (columns : List Column) (values : List ValueModel) → members_depth (members_with (line_members names columns values)) ≤ 1
  line_within [] vs = omega arith
  line_within (c ∷ cs) [] = omega arith
  line_within (c ∷ cs) (v ∷ vs) = grind (arith, common_steps, both_within, value_within, line_within cs vs)

  line_object_within : (columns : List Column) (values : List ValueModel) → depth (line_object names columns values) ≤ 2
  line_object_within columns values = let members = line_within columns values in omega arith

  -- ---- lines of two reports

  member_within : (c : Option Column) (v : ValueModel) → members_depth (members_with (members_in names c v)) ≤ 1
  member_within c v = grind (arith, common_steps, value_within)

  part_within : (p : Part) (columns : List Column) (values : List ValueModel)
      → members_depth (members_with (part_members names p columns values)) ≤ 1
  part_within p [] vs = omega arith
  part_within p (c ∷ cs) [] = omega arith
  part_within p (c ∷ cs) (v ∷ vs) = grind (arith, common_steps, both_within, member_within, part_within p cs vs)

  side_within : (p : Part) (columns : List Column) (values : List ValueModel) → depth (side_value names p columns values) ≤ 2
  side_within p columns values = grind (arith, common_steps, null_or_within, part_within)

  change_within : (columns : List Column) (values : List ValueModel) → depth (change_object names columns values) ≤ 3
  change_within columns values = grind (arith, common_steps, part_within, sides_within, side_within, both_within)

  object_within : (compares : Bool) (columns : List Column) (values : List ValueModel) → depth (object_of compares names columns values) ≤ 3
  object_within compares columns values = grind (arith, common_steps, change_within, line_object_within)

-- ---- sections

list_within : (compares : Bool) (n : List ℕ) (s : SectionModel) → depth (list_member compares n s).1 ≤ 4
list_within compares n s = grind (arith, common_steps, object_within, items_within)

some_within : (compares : Bool) (n : List ℕ) (s : Option SectionModel) → members_depth (members_with (some_list compares n s)) ≤ 4
some_within compares n None = omega arith
some_within compares n (Some s) = let own = list_within compares n s in omega arith

line_if_within : (compares : Bool) (n : List ℕ) (names : List (List ℕ)) (columns : List Column) (line : Option (List ValueModel))
    → members_depth (members_with (object_members compares n names columns line)) ≤ 4
line_if_within compares n names columns line = grind (arith, common_steps, object_within)

line_at_within : (compares : Bool) (n : List ℕ) (i : ℕ) (s : SectionModel) → members_depth (members_with (line_at compares n i s)) ≤ 4
line_at_within compares n i s = line_if_within compares n s.attributes s.columns (slice_get s.lines i)

totals_within : (compares : Bool) (s : SectionModel) → members_depth (members_with (totals_members compares s)) ≤ 4
totals_within compares s = grind (arith, common_steps, both_within, line_at_within)

number_within : (n : List ℕ) (number : Option ℕ) → members_depth (members_with (number_member n number)) ≤ 4
number_within n None = omega arith
number_within n (Some k) = omega arith

numbers_within : (s : SheetModel) → members_depth (members_with (number_members s)) ≤ 4
numbers_within s = grind (arith, common_steps, both_within, line_at_within, totals_within, number_within)

lists_within : (s : SheetModel) → members_depth (members_with (list_members s)) ≤ 4
lists_within s = grind (arith, common_steps, both_within, some_within)

sheet_within : (s : SheetModel) → depth (json_of s) ≤ 5
sheet_within s =
    let rows = list_within s.compares (codes "rows") s.rows in
    let rest = both_within 4 (number_members s) (list_members s) (numbers_within s) (lists_within s) in
    omega arith

read_back : (j : Json) → depth j ≤ max_depth → (ts : List Token) → ts ≡ json_tokens j
    → option_and_then (λ (p : Json × List Token). if_last p.0 p.1) (value max_depth ts) ≡ Some j
read_back j shallow ts same =
    ap (λ o. option_and_then (λ (p : Json × List Token). if_last p.0 p.1) o)
    (ap (value max_depth) (same ∙ sym (append-nil (json_tokens j))) ∙ value-json_tokens j max_depth [] shallow)

-- a line that reads back as the tokens of a sheet's value is a document of it
pub is_document : {E : Type 0} (s : SheetModel) (answer : Result (Vec ℕ Global) E)
    → IfOk answer (λ line. line.items ≡ print (json_tokens (json_of s)) ++ codes "\n")
    → IfOk answer (λ _. tokens (print (json_tokens (json_of s))) ≡ json_tokens (json_of s))
    → IfOk answer (λ line. IsDocument (json_of s) line.items)
is_document s (Ok line) text back =
    let shallow = sheet_within s in (print (json_tokens (json_of s)), text, read_back (json_of s) (omega arith) _ back)
is_document s (Err e) text back = text
