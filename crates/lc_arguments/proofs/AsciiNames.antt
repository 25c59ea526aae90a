-- Names of attributes, and of their columns, are texts.
use Rattle.std.proofs.{lemmas.{Grind.common_steps, Bool.Decides.nat_tests, List.{take-append-drop}}}
use Rattle.std.proofs.{lemmas.{Slice.Eq.bytes_eq-Decides, Str.{IsUtf8-append, IsUtf8-from_ascii, Ascii.IsAscii-from_all}}, Common.{◌≡◌, ℕ}}
use Rattle.std.proofs.{Common.{nat_lt, ◌<◌, ◌&&◌, Bool, true, false, cond, List, [], ◌∷◌, drop, take, Some, None, refl, subst, sym, arith}}
use Rattle.std.specs.{List.{All, list_all}, Str.{IsUtf8, bytes_eq}}
use Rattle.lc_sheet.specs.AttributeColumns.{attribute_front}
use Rattle.lc_arguments.specs.Texts.{after_front}
use Rattle.lc_rules.specs.{AttrWords.{is_name, is_name_byte}}

small : (b : ℕ) → is_name_byte b ≡ true → b < 128
small b is = grind (arith, nat_tests)

both : (x y : Bool) → (x && y) ≡ true → (x ≡ true) × (y ≡ true)
both x y is = grind (arith, common_steps)

all_small : (p : ℕ → Bool) → ((b : ℕ) → p b ≡ true → b < 128) → (bs : List ℕ) → list_all p bs ≡ true → All (λ b. b < 128) bs
all_small p low bs are = grind (arith, common_steps, both)

front_small : (b : ℕ) → nat_lt b 128 ≡ true → b < 128
front_small b is = grind (arith, nat_tests)

-- so they are UTF-8
pub name_utf8 : (bs : List ℕ) → is_name bs ≡ true → IsUtf8 bs
name_utf8 [] is = absurd (cc)
name_utf8 (b ∷ bs) is = IsUtf8-from_ascii (b ∷ bs) (IsAscii-from_all (b ∷ bs) (all_small is_name_byte small (b ∷ bs) (both _ _ is).1))

-- and so are the names of their columns
pub front_utf8 : (name attribute : List ℕ) → after_front attribute_front name ≡ Some attribute → is_name attribute ≡ true → IsUtf8 name
front_utf8 name attribute after is = go (bytes_eq (take 5 name) attribute_front) refl after
  where
    go : (b : Bool) → bytes_eq (take 5 name) attribute_front ≡ b → cond b (Some (drop 5 name)) None ≡ Some attribute → IsUtf8 name
    go true e same =
        let rest : drop 5 name ≡ attribute = cc in
        let ascii = IsAscii-from_all attribute_front (all_small (λ b. nat_lt b 128) front_small attribute_front refl) in
        let front = subst IsUtf8 (sym ((bytes_eq-Decides (take 5 name) attribute_front).0 e)) (IsUtf8-from_ascii attribute_front ascii) in
        subst IsUtf8 (take-append-drop 5 name)
        (IsUtf8-append (take 5 name) (drop 5 name) front (subst IsUtf8 (sym rest) (name_utf8 attribute is)))
    go false e same = absurd (cc)
