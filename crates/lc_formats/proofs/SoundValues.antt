-- The texts of values are in one line, and UTF-8.
use Rattle.std.proofs.{Common.{rules, ◌≡◌, ◌==◌, ◌*◌, ℕ, nat_lt, Bool, true, if◌then◌else◌, List, [], ◌∷◌, ◌++◌, map, codes, decimal}}
use Rattle.std.proofs.{Common.{encode_utf8, Option, Some, None, append-nil, refl, ap, ◌∙◌, arith}, lemmas.Grind.common_steps}
use Rattle.std.proofs.{lemmas.{Bool.Decides.nat_tests, List.Elements.All-nil, Option.{slice_get_cases, unwrap_or-slice_get}}}
use Rattle.std.proofs.{lemmas.Str.{IsUtf8-append, IsUtf8-encode}}
use Rattle.std.specs.{Int.abs_diff, List.{All, list_all}, Str.IsUtf8}
use lib.Utf8.{low_scalar}
use Rattle.json.proofs.{Printed.Utf8.{are_ascii, IsUtf8-are_ascii}}
use Rattle.lc_text.specs.{Names.{NameModel, line_end}, Visible.{is_clear, visible_bytes, visible_path}}
use Rattle.lc_text.proofs.{Clear.{visible_bytes-text, visible_char-clear}}
use Rattle.lc_sheet.specs.{ColumnWords.{heading, heading_name, plain_name, side_of}, Values.{ValueModel, missing, summed, blank, word}}
use Rattle.lc_sheet.specs.{Values.{flag, flag_word, name, path, number, share, bar, difference, growth}, declared.column.Column.Column}
use Rattle.lc_sheet.specs.{declared.column.Side.{Side, TheVariants.{Left, Right, End}}, AttributeColumns.{heading_of, name_at}}
use Rattle.lc_formats.specs.{CellWords.{change_word, sign, with_commas}, Cells.{heading_cells, line_cells, shown_in, shown_text}}
use Rattle.lc_formats.specs.{Readable.{AreBytes, AreNames, AreReadable, HasBytes, IsPlain, IsReadable, is_printable}}
use Rattle.lc_formats.specs.{Shares.{bar as bar_text, rounded_parts, share_word}}
use Rattle.lc_formats.proofs.{Bars.of_bar, EvenLines.IsSound, EvenParts.IsLike, OneLine.{is_no_feed, is_one_line, low_text}}
use Rattle.lc_formats.proofs.{OneLine.{one_line-append, one_line-decimal, one_line-encode, one_line-number, one_line-visible, small_bytes}}
use Rattle.lc_formats.proofs.OneLine.{utf8-visible}
use Rattle.lc_sheet.specs.declared.column.Column.TheVariants as column
use Rattle.lc_sheet.specs.declared.column.Compared.TheVariants as compared
use Rattle.lc_sheet.specs.declared.key.Key.TheVariants as key

-- ---- texts at a side

pub sound_text : (side : Side) (t : List ℕ) → is_one_line t ≡ true → IsUtf8 t → IsSound side t
sound_text side t one is = grind (arith, common_steps)

pub sound_ascii : (side : Side) (t : List ℕ) → is_one_line t ≡ true → are_ascii t ≡ true → IsSound side t
sound_ascii side t one low = sound_text side t one (IsUtf8-are_ascii t low)

sound_join : (side : Side) (a b : List ℕ) → IsSound side a → IsSound side b → IsSound side (a ++ b)
sound_join Left a b x y = (one_line-append a b x.0 y.0, IsUtf8-append a b x.1 y.1)
sound_join Right a b x y = (one_line-append a b x.0 y.0, IsUtf8-append a b x.1 y.1)
sound_join End a b x y = one_line-append a b x y

plain_byte : (b : ℕ) → is_printable b ≡ true → (is_no_feed b ≡ true) × (nat_lt b 128 ≡ true)
plain_byte b e = (grind (arith, nat_tests), grind (arith, nat_tests))

sound_plain : (side : Side) (t : List ℕ) → IsPlain t → IsSound side t
sound_plain side t e = let low = low_text is_printable plain_byte t e in sound_ascii side t low.0 low.1

sound_visible : (side : Side) (bs : List ℕ) → HasBytes side bs → IsSound side (visible_bytes bs)
sound_visible side bs small = grind (arith, common_steps, one_line-visible, utf8-visible)

sound_path : (side : Side) (p : List ℕ) → HasBytes side p → IsSound side (visible_path p)
sound_path side p small = search (rules, arith, sound_ascii, sound_visible)

sound_decimal : (side : Side) (n : ℕ) → IsSound side (decimal n)
sound_decimal side n = sound_text side (decimal n) (one_line-decimal n).0 (one_line-decimal n).1

sound_line : (side : Side) (line : Option ℕ) → IsSound side (line_end line)
sound_line side None = sound_ascii side [] refl refl
sound_line side (Some n) =
    sound_join side (codes ":") (decimal n) (sound_ascii side (codes ":") refl refl) (sound_decimal side n)

sound_name : (side : Side) (n : NameModel) → IsReadable side (name n) → IsSound side (shown_text (name n))
sound_name side n own = grind (arith, common_steps, sound_join, sound_plain, sound_visible, sound_line)

sound_number : (side : Side) (n : ℕ) → IsSound side (with_commas (decimal n))
sound_number side n = sound_text side (with_commas (decimal n)) (one_line-number n).0 (one_line-number n).1

sound_share : (side : Side) (tenths : ℕ) → IsSound side (share_word tenths)
sound_share side tenths = grind (arith, common_steps, sound_join, sound_decimal, sound_ascii)

sound_bar : (side : Side) (eighths : ℕ) → IsSound side (bar_text eighths)
sound_bar side eighths =
    of_bar (IsSound side) (sound_ascii side [] refl refl) (sound_join side)
    (λ c low high. sound_text side (encode_utf8 c) (one_line-encode c (λ e. omega (arith, e, low)))
    (IsUtf8-encode c (low_scalar c (omega (arith, high))))) eighths

sound_sign : (side : Side) (more less : Bool) → IsSound side (if more then codes "+" else if less then codes "-" else [])
sound_sign side more less = grind (arith, common_steps, sound_ascii)

sound_change : (side : Side) (old new : ℕ) → IsSound side (change_word old new)
sound_change side old new = grind (arith, common_steps, sound_join, sound_sign, sound_number)

sound_flag : (side : Side) (is_set : Bool) → IsSound side (flag_word is_set)
sound_flag side is_set = grind (arith, common_steps, sound_ascii)

sound_growth : (side : Side) (old new : ℕ) (b c : Bool)
    → IsSound side (if b then if c then [] else codes "new" else sign old new ++ share_word (rounded_parts 1000 (abs_diff old new) old))
sound_growth side old new b c = grind (arith, common_steps, sound_ascii, sound_join, sound_sign, sound_share)

-- the text of a value
pub sound_value : (k : ℕ) (side : Side) (v : ValueModel) → IsReadable side v → IsSound side (shown_in k v)
sound_value k side missing own = sound_ascii side (codes "-") refl refl
sound_value k side summed own = sound_ascii side [] refl refl
sound_value k side blank own = sound_ascii side [] refl refl
sound_value k side (word w) own = sound_plain side w own
sound_value k side (flag is_set) own = sound_flag side is_set
sound_value k side (name n) own = sound_name side n own
sound_value k side (path p) own = sound_path side p own
sound_value k side (number n) own = sound_number side n
sound_value k side (share part whole) own = sound_share side (rounded_parts 1000 part whole)
sound_value k side (bar part whole) own = sound_bar side (rounded_parts (8 * k) part whole)
sound_value k side (difference old new) own = sound_change side old new
sound_value k side (growth old new) own = sound_growth side old new (old == 0) (new == 0)

-- ---- lines

-- the cells of a line
pub like_line : (k : ℕ) (columns : List Column) (values : List ValueModel) → AreReadable columns values
    → IsLike (map side_of columns) (line_cells k columns values)
like_line k [] [] own = (refl, tt)
like_line k [] (v ∷ vs) own = absurd own
like_line k (c ∷ cs) [] own = absurd own
like_line k (c ∷ cs) (v ∷ vs) own = grind (arith, common_steps, sound_value, like_line k cs vs own.1)

-- what holds of nothing and of each of some names holds of the name at a place
pub named_at : (P : List ℕ → Type 0) → P [] → (names : List (List ℕ)) → All P names → (place : ℕ) → P (name_at names place)
named_at P none names all place = grind (arith, common_steps, slice_get_cases, unwrap_or-slice_get)

-- a text of ASCII that is shown as it is, alone and as a heading
pub visible_clear : (t : List ℕ) → list_all is_clear t ≡ true → are_ascii t ≡ true → visible_bytes t ≡ t
visible_clear t clear low = visible_bytes-text t (IsUtf8-are_ascii t low) ∙ visible_char-clear t clear

pub shown_clear : (t : List ℕ) → list_all is_clear t ≡ true → are_ascii t ≡ true → shown_text (name (plain_name t)) ≡ t
shown_clear t clear low = append-nil _ ∙ append-nil _ ∙ visible_clear t clear low

-- headings are bytes
heading_bytes : (names : List (List ℕ)) → AreNames names → (c : Column) → AreBytes (heading names c)
heading_bytes names are (column.Key (key.Attribute place)) = named_at (λ n. AreBytes (heading_of n)) (All-nil _) names are place
heading_bytes names are (column.Old (compared.Key (key.Attribute place))) =
    named_at (λ n. AreBytes (heading_of n)) (All-nil _) names are place
heading_bytes names are (column.New (compared.Key (key.Attribute place))) =
    named_at (λ n. AreBytes (heading_of n)) (All-nil _) names are place
heading_bytes names are other = small_bytes (heading names other) (grind arith)

bytes_at : (side : Side) (bs : List ℕ) → AreBytes bs → HasBytes side bs
bytes_at side bs are = grind (arith, common_steps)

-- the cells of the headings
pub like_headings : (names : List (List ℕ)) (columns : List Column) → AreNames names
    → IsLike (map side_of columns) (heading_cells names columns)
like_headings names [] are = (refl, tt)
like_headings names (c ∷ cs) are =
    let rest = like_headings names cs are in
    let own = bytes_at (side_of c) (heading names c) (heading_bytes names are c) in
    (ap (λ (ss : List Side). side_of c ∷ ss) rest.0, (sound_name (side_of c) (heading_name names c) (refl, own, refl), rest.1))
