-- Names of columns among the words.
use Rattle.std.proofs.lemmas.Grind.{common_steps}
use Rattle.std.proofs.Common.{◌≡◌, ◌∙◌, ◌+◌, ◌≤◌, ◌<◌, ◌⊎◌, inl, inr, ℕ, suc, max, min, Bool, true, false, ◌&&◌, ◌||◌}
use Rattle.std.proofs.Common.{List, [], ◌∷◌, length, filter, Option, Some, None, is_some, unwrap_or, IfSome, refl, ap, sym, subst, arith}
use Rattle.std.proofs.Common.{codes}
use Rattle.std.proofs.lemmas.{Bool.Decides.nat_tests, Slice.Eq.bytes_eq-Decides}
use Rattle.std.specs.{Bool.MatchBool, Borrow.Bor, List.list_all, Str.bytes_eq}
use Rattle.lc_sheet.specs.declared.table_options.Columns.{Columns}
use Rattle.lc_sheet.specs.{Keys.{has_key, key_name, with_key}, declared.key.Key.{Key, TheVariants.{Dir, Attribute}}}
use Rattle.lc_sheet.specs.AttributeColumns.{language_name}
use Rattle.lc_arguments.specs.{AttributeWords.{how_often, names_attribute, names_column}, ConditionWords.number_in, Options.max_depth}
use Rattle.lc_arguments.specs.{ReadNumbers.{IsNumberTo, if_within}, Texts.after_front}
use Rattle.lc_arguments.specs.TableWords.{AreColumnsBy, AreNamesOf, IsColumnsText}
use Rattle.lc_arguments.specs.TableWords.{IsKeyAfter, IsNoKeyAfter, is_fixed, is_key_name, max_attributes, max_columns, once_if}

-- the bytes that are left, and one for the name before their end
abbrev pub left_over : Option (Bor (List ℕ)) → ℕ
left_over None = 0
left_over (Some rest) = suc (length rest.now)

abbrev is_column_name : List ℕ → Bool
is_column_name name = names_column name || is_key_name name

-- columns with the names that are left name what all names do
pub record StillNames (depth : ℕ) (c : Columns) (left all : List (List ℕ)) : Type 0 where
  pub each : (k : Key) → is_fixed k ≡ true → once_if (has_key c k) + how_often (key_name [] k) left ≡ how_often (key_name [] k) all
  pub cut : IfSome c.dir (λ segments. segments ≡ depth)
  pub attributes : c.attributes + length (filter names_column left) ≡ length (filter names_column all)
  pub few : c.attributes ≤ max_columns all
  pub once : (name : List ℕ) → names_column name ≡ true
      → (how_often name all ≡ how_often name left) ⊎ ((how_often name all ≡ 1) × (how_often name left ≡ 0))
  pub others : list_all is_column_name left ≡ list_all is_column_name all

-- a name more, of which a test holds or not
next : (p : List ℕ → Bool) (n : List ℕ) (ns : List (List ℕ)) → length (filter p (n ∷ ns)) ≡ once_if (p n) + length (filter p ns)
next p n ns = grind (arith, common_steps)

how_often_next : (name n : List ℕ) (ns : List (List ℕ)) → how_often name (n ∷ ns) ≡ once_if (bytes_eq name n) + how_often name ns
how_often_next name = next (bytes_eq name)

-- a column is that of languages or an attribute's
one_kind : (n : List ℕ) → once_if (names_column n) ≡ once_if (names_attribute n) + once_if (bytes_eq language_name n)
one_kind n = grind (arith, common_steps, bytes_eq-Decides)

columns_in : (names : List (List ℕ))
    → length (filter names_column names) ≡ length (filter names_attribute names) + how_often language_name names
columns_in [] = refl
columns_in (n ∷ ns) =
    let attributes = next names_attribute n ns in
    omega (arith, columns_in ns, next names_column n ns, attributes, how_often_next language_name n ns, one_kind n)

-- of which as many are allowed, and one more if that of languages is among them
most_in : (names : List (List ℕ)) → max_columns names ≡ max_attributes + min 1 (how_often language_name names)
most_in names = grind (arith, common_steps, nat_tests)

apart_too : (name n : List ℕ) → names_column name ≡ false → names_column n ≡ true → once_if (bytes_eq name n) ≡ 0
apart_too name n h1 h2 = grind (arith, common_steps, bytes_eq-Decides)

fixed_apart : (k : Key) → is_fixed k ≡ true → names_column (key_name [] k) ≡ false
fixed_apart k h1 = grind (arith, common_steps)

same_fixed : (j : Key) (place depth : ℕ) (c : Columns) → is_fixed j ≡ true → has_key (with_key (Attribute place) depth c) j ≡ has_key c j
same_fixed j place depth c h1 = grind (arith, common_steps)

-- with a key that they did not have
fixed_joins : (depth : ℕ) (c : Columns) (k : Key) (left all : List (List ℕ)) → is_fixed k ≡ true → has_key c k ≡ false
    → StillNames depth c (key_name [] k ∷ left) all → StillNames depth (with_key k depth c) left all
fixed_joins depth c k left all h1 h2 h3 = grind (arith, common_steps, fixed_apart, how_often_next, next, bytes_eq-Decides)

grown : (a : ℕ) (names : List (List ℕ)) → a < max_columns names → max a (min 255 (a + 1)) ≡ a + 1
grown a names few = omega (arith, few, most_in names)

attribute_joins : (depth : ℕ) (c : Columns) (n : List ℕ) (left all : List (List ℕ)) → names_column n ≡ true
    → c.attributes < max_columns all → how_often n left ≡ 0 → StillNames depth c (n ∷ left) all
    → StillNames depth (with_key (Attribute c.attributes) depth c) left all
attribute_joins depth c n left all is few none g = record {
  each = λ j own. omega (
    arith,
    g.each j own,
    how_often_next (key_name [] j) n left,
    apart_too (key_name [] j) n (fixed_apart j own) is,
    ap once_if (same_fixed j c.attributes depth c own),
  );
  cut = g.cut;
  attributes = omega (arith, g.attributes, next names_column n left, ap once_if is, grown c.attributes all few);
  few = omega (arith, grown c.attributes all few);
  once = λ name own. step name (bytes_eq name n) refl (g.once name own);
  others = sym (ap (λ b. (b || is_key_name n) && list_all is_column_name left) is) ∙ g.others;
}
  where
    step : (name : List ℕ) (b : Bool) → bytes_eq name n ≡ b
        → (how_often name all ≡ how_often name (n ∷ left)) ⊎ ((how_often name all ≡ 1) × (how_often name (n ∷ left) ≡ 0))
        → (how_often name all ≡ how_often name left) ⊎ ((how_often name all ≡ 1) × (how_often name left ≡ 0))
    step name true e (inl same) =
        let last : how_often name left ≡ 0 = ap (λ m. how_often m left) ((bytes_eq-Decides name n).0 e) ∙ none in
        inr (omega (arith, same, how_often_next name n left, ap once_if e, last), last)
    step name true e (inr both) = absurd (omega (arith, both.1, how_often_next name n left, ap once_if e))
    step name false e (inl same) = inl (omega (arith, same, how_often_next name n left, ap once_if e))
    step name false e (inr both) = inr (both.0, omega (arith, both.1, how_often_next name n left, ap once_if e))

pub joins : (depth : ℕ) (c : Columns) (k : Key) (n : List ℕ) (left all : List (List ℕ)) → IsKeyAfter (max_columns all) c n left k
    → StillNames depth c (n ∷ left) all → StillNames depth (with_key k depth c) left all
joins depth c k n left all after g = go (names_column n) refl after
  where
    go : (b : Bool) → names_column n ≡ b
        → MatchBool b ((k ≡ Attribute c.attributes) × (c.attributes < max_columns all) × (how_often n left ≡ 0))
        ((key_name [] k ≡ n) × (is_fixed k ≡ true) × (has_key c k ≡ false))
        → StillNames depth (with_key k depth c) left all
    go true e is =
        subst (λ j. StillNames depth (with_key j depth c) left all) (sym is.0) (attribute_joins depth c n left all e is.1 is.2 g)
    go false e is =
        fixed_joins depth c k left all is.1 is.2 (subst (λ m. StillNames depth c (m ∷ left) all) (sym is.0) g)

refuses_twice : (depth : ℕ) (c d : Columns) (k : Key) (left all : List (List ℕ)) → is_fixed k ≡ true
    → StillNames depth c (key_name [] k ∷ left) all → has_key c k ≡ true → AreNamesOf all depth d → ⊥
refuses_twice depth c d k left all h1 h2 h3 h4 = grind (arith, common_steps, bytes_eq-Decides, how_often_next)

refuses_repeated : (depth : ℕ) (c d : Columns) (n : List ℕ) (left all : List (List ℕ)) → names_column n ≡ true → 1 ≤ how_often n left
    → StillNames depth c (n ∷ left) all → AreNamesOf all depth d → ⊥
refuses_repeated depth c d n left all h1 h2 h3 h4 = grind (arith, common_steps, bytes_eq-Decides, how_often_next)

-- a name that is left and no key's, or that of a key which they have, ends it
pub refuses : (depth : ℕ) (c d : Columns) (n : List ℕ) (left all : List (List ℕ)) → IsNoKeyAfter (max_columns all) c n left
    → StillNames depth c (n ∷ left) all → AreNamesOf all depth d → ⊥
refuses depth c d n left all none g are = go (names_column n) refl none
  where
    go : (b : Bool) → names_column n ≡ b
        → MatchBool b ((max_columns all ≤ c.attributes) ⊎ (1 ≤ how_often n left))
        ((is_key_name n ≡ false) ⊎ ((k : Key) × (key_name [] k ≡ n) × (is_fixed k ≡ true) × (has_key c k ≡ true))) → ⊥
    go true e (inl many) =
        let room : max_columns all < length (filter names_column all) =
        omega (arith, many, g.attributes, next names_column n left, ap once_if e) in
        absurd (omega (arith, room, are.few, are.once language_name refl, columns_in all, most_in all))
    go true e (inr more) = refuses_repeated depth c d n left all e more g are
    go false e (inl other) =
        let bad : false ≡ true = sym (ap (λ b. (b || is_key_name n) && list_all is_column_name left) e
        ∙ ap (λ b. b && list_all is_column_name left) other) ∙ g.others ∙ are.no_others in absurd (cc)
    go false e (inr k) =
        refuses_twice depth c d k.0 left all k.2 (subst (λ m. StillNames depth c (m ∷ left) all) (sym k.1) g) k.3 are

-- where no name is left, they are named
pub all_named : (depth : ℕ) (c : Columns) (all : List (List ℕ)) → StillNames depth c [] all → AreNamesOf all depth c
all_named depth c all h1 = grind (arith, common_steps, columns_in, most_in)

-- a depth asks for directories, which the names of columns without them do not name
pub undirected : (text : List ℕ) (depth : Option ℕ) (c : Columns) → IsColumnsText text (unwrap_or depth 1) c → is_some depth ≡ true
    → is_some c.dir ≡ false → (is_tree : Bool) (by : Option Columns) → AreColumnsBy is_tree (Some text) depth by → ⊥
undirected text depth c are some none is_tree None by = absurd by
undirected text None c are some none is_tree (Some d) by = absurd (cc)
undirected text (Some n) c are some none is_tree (Some d) by =
    let one : once_if (is_some d.dir) ≡ 1 = ap once_if by.cuts in
    let zero : once_if (is_some c.dir) ≡ 0 = ap once_if none in
    absurd (omega (arith, by.named.each Dir refl, are.each Dir refl, one, zero))

-- a number that was read, or one, is within its limit
number_within : (most : ℕ) (value : Option (List ℕ)) (n : Option ℕ) → 1 ≤ most → IsNumberTo most value n
    → (1 ≤ unwrap_or n 1) × (unwrap_or n 1 ≤ most)
number_within most value None least is = (omega arith, least)
number_within most None (Some n) least is = absurd (cc)
number_within most (Some text) (Some n) least is = limits (number_in (unwrap_or (after_front (codes "+") text) text)) is
  where
    limits : (read : Option ℕ) → Some (Some n) ≡ Some (if_within most read) → (1 ≤ n) × (n ≤ most)
    limits read is = grind (arith, common_steps, nat_tests)

-- of one value one number is read
pub one_number : (most : ℕ) (value : Option (List ℕ)) (m n : Option ℕ) → IsNumberTo most value m → IsNumberTo most value n → m ≡ n
one_number most value m n h1 h2 = grind (arith, common_steps)

-- directories are cut to a number of segments that is within the limit of what was given, or one
pub depth_within : (is_tree : Bool) (depth : Option ℕ) (columns : Option Columns) (by value : Option (List ℕ))
    → AreColumnsBy is_tree by depth columns → IsNumberTo max_depth value depth
    → IfSome columns (λ c. IfSome c.dir (λ segments. (1 ≤ segments) × (segments ≤ max_depth)))
depth_within is_tree depth columns by value h1 h2 = grind (arith, common_steps, number_within)
