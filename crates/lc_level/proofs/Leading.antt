-- Which paths have a directory in them, and which entries lead to them.
use Rattle.std.proofs.Common.{◌≡◌, ℕ, suc, ◌==◌, ◌+◌, ◌<◌, Bool, true, false, not, ◌&&◌, ◌||◌, cond, List, [], ◌∷◌, ◌++◌, length, get_or}
use Rattle.std.proofs.Common.{take, drop, refl, sym, ◌∙◌, ap, subst, append_assoc, bytes_eq, Option, Some, None, arith, find}
use Rattle.std.proofs.lemmas.{Bool.{and_parts, eqb-true, or_parts}, Cmp.nat_list_eq_equiv, List.{drop_more, take-append-drop, get_or_at}}
use Rattle.std.proofs.Math.Seq.{take-append_seam}
use Rattle.std.specs.{List.{filter, list_any, before_first, position_or_len, AllByRecursion}, Option.is_some}
use Rattle.lc_glob.specs.{Bytes.slash, Path.is_good_name, Pieces.is_byte}
use Rattle.lc_level.specs.{Narrowing.{after, stands_below, leads_to, has_part, SelectionModel}, PathSteps.{is_cut_among, is_led_to}}
use Rattle.lc_level.proofs.{AskedPaths.{after_is, after_front, filter_all, passes}, Searching.{is_named, named_tells}}
use Rattle.lc_level.proofs.WellFormed.{same_bytes, bytes_same, clash, good_one, IsGoodName}
use Rattle.lc_tree.specs.{Kinds.is_dir, Listing.{EntryModel, IsListing, have_good_names}}

or_true : (a : Bool) → (a || true) ≡ true
or_true true = refl
or_true false = refl

-- what passes one test passes another
pub any_implied : {X : Type 0} (p q : X → Bool) → ((x : X) → p x ≡ true → q x ≡ true) → (xs : List X) → list_any p xs ≡ true
    → list_any q xs ≡ true
any_implied p q to [] e = e
any_implied {X} p q to (x ∷ xs) e = at (p x) refl e (any_implied p q to xs)
  where
    at : (b : Bool) → p x ≡ b → (b || list_any p xs) ≡ true → (list_any p xs ≡ true → list_any q xs ≡ true) → (q x || list_any q xs) ≡ true
    at true is e more = ap (λ b. b || list_any q xs) (to x is)
    at false is e more = ap (λ b. q x || b) (more e) ∙ or_true (q x)

-- one of two tests
any_of_two : {X : Type 0} (p q : X → Bool) (xs : List X) → list_any (λ x. p x || q x) xs ≡ (list_any p xs || list_any q xs)
any_of_two p q [] = refl
any_of_two p q (x ∷ xs) = ap (λ b. (p x || q x) || b) (any_of_two p q xs) ∙ mixed (p x) (q x) (list_any p xs) (list_any q xs)
  where
    mixed : (a b c d : Bool) → ((a || b) || (c || d)) ≡ ((a || c) || (b || d))
    mixed true b c d = refl
    mixed false true true d = refl
    mixed false true false d = refl
    mixed false false c d = refl

-- ---- directories that are asked for as a whole

module _ (d : List ℕ) where
  -- whether a path has the directory in it
  abbrev has_whole : List ℕ → Bool
  has_whole path = bytes_eq path d || stands_below d path

  -- a directory stands below what is before one of its slashes
  below_cut : (i : ℕ) → i < length d → (get_or d i 0 == slash) ≡ true → stands_below d (take i d) ≡ true
  below_cut i low is = ap is_some (ap (after front) whole ∙ after_front front (drop (i + 1) d))
    where
      front : List ℕ
      front = take i d ++ slash ∷ []

      whole : d ≡ front ++ drop (i + 1) d
      whole =
          sym (take-append-drop i d)
          ∙ ap (λ l. take i d ++ l) (drop_more d i 0 low ∙ ap (λ b. b ∷ drop (i + 1) d) (eqb-true (get_or d i 0) slash is))
          ∙ sym (append_assoc (take i d) (slash ∷ []) (drop (i + 1) d))

  -- a directory of which a path is found before a slash is asked for as a whole
  pub whole_by_cut : (paths : List (List ℕ)) (i : ℕ) → i < length d → is_cut_among paths d i ≡ true → list_any has_whole paths ≡ true
  whole_by_cut paths i low cut =
      let t = and_parts (get_or d i 0 == slash) (list_any (bytes_eq (take i d)) paths) cut in
      any_implied (bytes_eq (take i d)) has_whole
      (λ path same. subst (λ p. (bytes_eq p d || stands_below d p) ≡ true) (same_bytes (take i d) path same)
      (ap (λ b. bytes_eq (take i d) d || b) (below_cut i low t.0) ∙ or_true (bytes_eq (take i d) d)))
      paths t.1

  -- where a path is before no slash of a directory, this doesn't stand below the path
  not_below_cut : (path : List ℕ) → ((i : ℕ) → i < length d → (get_or d i 0 == slash) ≡ true → bytes_eq (take i d) path ≡ false)
      → stands_below d path ≡ false
  not_below_cut path other = at (after (path ++ slash ∷ []) d) refl
    where
      at : (o : Option (List ℕ)) → after (path ++ slash ∷ []) d ≡ o → is_some o ≡ false
      at None e = refl
      at (Some rest) e =
          let is : d ≡ path ++ slash ∷ rest = after_is (path ++ slash ∷ []) d rest e ∙ append_assoc path (slash ∷ []) rest in
          let low : length path < length d = subst (λ l. length path < length l) (sym is) (longer path rest) in
          let cut : get_or d (length path) 0 ≡ slash = ap (λ l. get_or l (length path) 0) is
          ∙ get_or_at path slash rest 0 (length path) refl in
          let front : take (length path) d ≡ path = ap (take (length path)) is ∙ take-append_seam path (slash ∷ rest) in
          absurd (clash (bytes_same (take (length path) d) path front)
          (other (length path) low (ap (λ b. b == slash) cut)))
        where
          longer : (p rest : List ℕ) → length p < length (p ++ slash ∷ rest)
          longer [] rest = omega arith
          longer (b ∷ bs) rest = let h = longer bs rest in omega (arith, h)

  -- where none is, it is asked for as a whole where it is one of the paths
  pub whole_else : (paths : List (List ℕ)) → ((i : ℕ) → i < length d → is_cut_among paths d i ≡ false)
      → list_any has_whole paths ≡ list_any (bytes_eq d) paths
  whole_else [] none = refl
  whole_else (path ∷ paths) none =
      ap (λ b. (bytes_eq path d || b) || list_any has_whole paths)
      (not_below_cut path (λ i low is. (or_parts (bytes_eq (take i d) path) (list_any (bytes_eq (take i d)) paths) (uncut i low is)).0))
      ∙ ap (λ b. (bytes_eq path d || false) || b)
      (whole_else paths (λ i low. at (get_or d i 0 == slash) i (λ is. (or_parts (bytes_eq (take i d) path) _ (uncut i low is)).1)))
      ∙ same (bytes_eq path d) (bytes_eq d path) (nat_list_eq_equiv.symm path d)
    where
      uncut : (i : ℕ) → i < length d → (get_or d i 0 == slash) ≡ true
          → (bytes_eq (take i d) path || list_any (bytes_eq (take i d)) paths) ≡ false
      uncut i low is = sym (ap (λ b. b && (bytes_eq (take i d) path || list_any (bytes_eq (take i d)) paths)) is) ∙ none i low

      at : (b : Bool) (i : ℕ) → (b ≡ true → list_any (bytes_eq (take i d)) paths ≡ false)
          → (b && list_any (bytes_eq (take i d)) paths) ≡ false
      at true i h = h refl
      at false i h = refl

      same : (a b : Bool) → a ≡ b → ((a || false) || list_any (bytes_eq d) paths) ≡ (b || list_any (bytes_eq d) paths)
      same true b e = ap (λ x. x || list_any (bytes_eq d) paths) e
      same false b e = ap (λ x. x || list_any (bytes_eq d) paths) e

-- ---- entries that lead to paths

-- an entry leads to one of these paths where one is its own, or it is a directory and one stands below it
leads_by : (e : EntryModel) (rests : List (List ℕ))
    → list_any (leads_to e) rests
    ≡ (list_any (bytes_eq e.name) rests || list_any (λ rest. is_dir e.kind && stands_below rest e.name) rests)
leads_by e rests = any_of_two (bytes_eq e.name) (λ rest. is_dir e.kind && stands_below rest e.name) rests

pub leads_by_name : (e : EntryModel) (rests : List (List ℕ)) → list_any (bytes_eq e.name) rests ≡ true → list_any (leads_to e) rests ≡ true
leads_by_name e rests is = leads_by e rests ∙ ap (λ b. b || list_any (λ rest. is_dir e.kind && stands_below rest e.name) rests) is

pub leads_below : (e : EntryModel) (rests : List (List ℕ)) → list_any (bytes_eq e.name) rests ≡ false → is_dir e.kind ≡ true
    → list_any (leads_to e) rests ≡ list_any (λ rest. stands_below rest e.name) rests
leads_below e rests none dir =
    leads_by e rests ∙ ap (λ b. b || list_any (λ rest. is_dir e.kind && stands_below rest e.name) rests) none
    ∙ ap (λ k. list_any (λ rest. k && stands_below rest e.name) rests) dir

-- of a directory that is asked for as a whole all entries take part
pub whole_part : (w : SelectionModel) (es : List EntryModel) → w.whole ≡ true → es ≡ filter (has_part w) es
whole_part w es whole = sym (filter_all (has_part w) (λ e. ap (λ b. b || list_any (leads_to e) w.rests) whole) es)

-- ---- the entry of a path's first name

-- what stands before the first slash of a path whose first byte is none
past_first : (b : ℕ) (bs name : List ℕ) → (b == 47) ≡ false → before_first (is_byte slash) bs ≡ name
    → before_first (is_byte slash) (b ∷ bs) ≡ b ∷ name
past_first b bs name plain is =
    ap (λ t. take (cond (not t) (1 + position_or_len (is_byte slash) bs) 0) (b ∷ bs)) plain ∙ one_more (position_or_len (is_byte slash) bs)
    ∙ ap (λ l. b ∷ l) is
  where
    one_more : (n : ℕ) → take (1 + n) (b ∷ bs) ≡ b ∷ take n bs
    one_more n = let e : 1 + n ≡ suc n = omega arith in ap (λ k. take k (b ∷ bs)) e

-- the name of an entry that leads to a path is the path's first
first_of : (name r : List ℕ) → AllByRecursion (λ b. (b == 47) ≡ false) name → before_first (is_byte slash) (name ++ 47 ∷ r) ≡ name
first_of [] r plain = refl
first_of (b ∷ bs) r plain = past_first b (bs ++ 47 ∷ r) bs plain.0 (first_of bs r plain.1)

all_of : (name : List ℕ) → AllByRecursion (λ b. (b == 47) ≡ false) name → before_first (is_byte slash) name ≡ name
all_of [] plain = refl
all_of (b ∷ bs) plain = past_first b bs bs plain.0 (all_of bs plain.1)

pub first_name : (e : EntryModel) (rest : List ℕ) → IsGoodName e.name → leads_to e rest ≡ true
    → bytes_eq (before_first (is_byte slash) rest) e.name ≡ true
first_name e rest good leads = bytes_same (before_first (is_byte slash) rest) e.name (at (bytes_eq e.name rest) refl leads)
  where
    below : (o : Option (List ℕ)) → after (e.name ++ slash ∷ []) rest ≡ o → is_some o ≡ true → before_first (is_byte slash) rest ≡ e.name
    below None is some = let h : false ≡ true = some in absurd (cc h)
    below (Some r) is some =
        ap (before_first (is_byte slash)) (after_is (e.name ++ slash ∷ []) rest r is ∙ append_assoc e.name (slash ∷ []) r)
        ∙ first_of e.name r good.1

    at : (b : Bool) → bytes_eq e.name rest ≡ b → (b || (is_dir e.kind && stands_below rest e.name)) ≡ true
        → before_first (is_byte slash) rest ≡ e.name
    at true same leads = ap (before_first (is_byte slash)) (sym (same_bytes e.name rest same)) ∙ all_of e.name good.1
    at false other leads = below (after (e.name ++ slash ∷ []) rest) refl (and_parts (is_dir e.kind) (stands_below rest e.name) leads).1

-- only an entry of a path's first name leads to it
only_first : (e : EntryModel) (rest : List ℕ) → IsGoodName e.name
    → leads_to e rest ≡ (bytes_eq (before_first (is_byte slash) rest) e.name && leads_to e rest)
only_first e rest good = at (leads_to e rest) (first_name e rest good)
  where
    never : (a : Bool) → false ≡ (a && false)
    never true = refl
    never false = refl

    at : (b : Bool) → (b ≡ true → bytes_eq (before_first (is_byte slash) rest) e.name ≡ true)
        → b ≡ (bytes_eq (before_first (is_byte slash) rest) e.name && b)
    at true h = sym (ap (λ x. x && true) (h refl))
    at false h = never (bytes_eq (before_first (is_byte slash) rest) e.name)

led_by_first : (es : List EntryModel) (rest : List ℕ) → have_good_names es ≡ true
    → is_led_to es rest ≡ list_any (λ e. bytes_eq (before_first (is_byte slash) rest) e.name && leads_to e rest) es
led_by_first [] rest good = refl
led_by_first (e ∷ es) rest good =
    let t = and_parts (is_good_name e.name) (have_good_names es) good in
    ap (λ b. b || is_led_to es rest) (only_first e rest (good_one e.name t.0))
    ∙ ap (λ b. (bytes_eq (before_first (is_byte slash) rest) e.name && leads_to e rest) || b) (led_by_first es rest t.1)

-- one leads to it where the entry of that name does
pub led_by_named : (es : List EntryModel) (rest name : List ℕ) → IsListing es → name ≡ before_first (is_byte slash) rest
    → is_led_to es rest ≡ passes (λ (e : EntryModel). leads_to e rest) (find (is_named name) es)
led_by_named es rest name listing is =
    led_by_first es rest listing.good
    ∙ ap (λ n. list_any (λ (e : EntryModel). bytes_eq n e.name && leads_to e rest) es) (sym is)
    ∙ named_tells name (λ (e : EntryModel). leads_to e rest) es listing.order
