-- JSON objects and arrays that were printed, as they are read: their members and values, numbers and bytes.
use Rattle.std.proofs.{lemmas.Grind.common_steps, Common.{◌≡◌, ◌⊎◌, ◌<◌, ◌^◌, ℕ, Bool, true, false, List, [], ◌∷◌, ◌++◌, map, cond}}
use Rattle.std.proofs.Common.{decimal, refl, sym, arith, if◌then◌else◌}
use Rattle.std.specs.{List.AllByRecursion, Str.bytes_eq}
use Rattle.json.specs.{Json.{Json, array, number, object, string}, Value.items_of}
use Rattle.lc_formats.specs.JsonText.{Member, array_with, bytes_member, bytes_name, integer, items_with, members_with, object_with}
use Rattle.lc_reading.proofs.Decimals.{same_number}
use Rattle.lc_reading.specs.Members.{members_with as read_members, values_at}

-- ---- values and members

pub same_items : (js ks : List Json) → items_with js ≡ items_of ks → js ≡ ks
same_items [] [] e = refl
same_items (j ∷ js) (k ∷ ks) e =
    let first : j ≡ k = cc in
    let rest : items_with js ≡ items_of ks = cc in
    let others : js ≡ ks = same_items js ks rest in
    λ i. first i ∷ others i
same_items js ks e = absurd (cc)

pub same_array : (js ks : List Json) → array_with js ≡ array (items_of ks) → js ≡ ks
same_array js ks e = let inside : items_with js ≡ items_of ks = cc in same_items js ks inside

pub same_members : (ms ns : List Member) → members_with ms ≡ read_members ns → ms ≡ ns
same_members [] [] e = refl
same_members (m ∷ ms) (n ∷ ns) e =
    let name : m.0 ≡ n.0 = cc in
    let value : m.1 ≡ n.1 = cc in
    let rest : members_with ms ≡ read_members ns = cc in
    let others : ms ≡ ns = same_members ms ns rest in
    λ i. (name i, value i) ∷ others i
same_members ms ns e = absurd (cc)

pub same_object : (ms ns : List Member) → object_with ms ≡ object (read_members ns) → ms ≡ ns
same_object ms ns e = let inside : members_with ms ≡ read_members ns = cc in same_members ms ns inside

-- ---- members of one name

kept_or_not : (b : Bool) (v : Json) (xs ys zs : List Json) → zs ≡ xs ++ ys → cond b (v ∷ zs) zs ≡ cond b (v ∷ xs) xs ++ ys
kept_or_not b v xs ys zs e = grind (arith, common_steps)

pub values_append : (name : List ℕ) (ms ns : List Member) → values_at name (ms ++ ns) ≡ values_at name ms ++ values_at name ns
values_append name [] ns = refl
values_append name (m ∷ ms) ns = grind (arith, common_steps, kept_or_not, values_append name ms ns)

-- ---- numbers

-- the one number that is read where a number was printed
pub same_integer : (m n : ℕ) → m < 2 ^ 128 → n < 2 ^ 128 → integer m ∷ [] ≡ number (decimal n) ∷ [] → n ≡ m
same_integer m n m_fits n_fits e = let digits : decimal m ≡ decimal n = cc in sym (same_number m n m_fits n_fits digits)

-- ---- bytes

-- each is a byte
abbrev pub EachByte : List ℕ → Type 0
EachByte bs = AllByRecursion (λ b. b < 256) bs

pub same_bytes_listed : (ps bs : List ℕ) → EachByte ps → EachByte bs → map integer ps ≡ map (λ b. number (decimal b)) bs → bs ≡ ps
same_bytes_listed [] [] p_small b_small e = refl
same_bytes_listed (p ∷ ps) (b ∷ bs) p_small b_small e =
    let digits : decimal p ≡ decimal b = cc in
    let p_byte : p < 256 = p_small.0 in
    let b_byte : b < 256 = b_small.0 in
    let first : b ≡ p = sym (same_number p b (omega arith) (omega arith) digits) in
    let rest : map integer ps ≡ map (λ b. number (decimal b)) bs = cc in
    let others : bs ≡ ps = same_bytes_listed ps bs p_small.1 b_small.1 rest in
    λ i. first i ∷ others i
same_bytes_listed ps bs p_small b_small e = absurd (cc)

-- bytes that are a text, or a list of numbers
abbrev pub ReadsAs : List Json → List Json → List ℕ → Type 0
ReadsAs texts lists bytes =
    ((texts ≡ string bytes ∷ []) × (lists ≡ [])) ⊎ ((texts ≡ []) × (lists ≡ array (items_of (map (λ b. number (decimal b)) bytes)) ∷ []))

-- what is printed of bytes under the name of a text, and under that of a list
abbrev pub texts_if : Bool → List ℕ → List Json
texts_if b bytes = cond b (string bytes ∷ []) []

abbrev pub lists_if : Bool → List ℕ → List Json
lists_if b bytes = cond b [] (array_with (map integer bytes) ∷ [])

pub same_bytes : (b : Bool) (printed bytes : List ℕ) → EachByte printed → EachByte bytes
    → ReadsAs (texts_if b printed) (lists_if b printed) bytes → bytes ≡ printed
same_bytes b printed bytes p_small b_small so = grind (arith, common_steps, same_bytes_listed, same_array)

-- the member of bytes is one of the two
module _ (n : List ℕ) (own : bytes_eq n n ≡ true) (apart : bytes_eq (bytes_name n) n ≡ false) where
  pub text_of_bytes : (b : Bool) (bytes : List ℕ)
      → values_at n ((if b then (n, string bytes) else (bytes_name n, array_with (map integer bytes))) ∷ []) ≡ texts_if b bytes
  text_of_bytes b bytes = grind (arith, common_steps)

module _ (n : List ℕ) (own : bytes_eq (bytes_name n) (bytes_name n) ≡ true) (apart : bytes_eq n (bytes_name n) ≡ false) where
  pub list_of_bytes : (b : Bool) (bytes : List ℕ)
      → values_at (bytes_name n) ((if b then (n, string bytes) else (bytes_name n, array_with (map integer bytes))) ∷ []) ≡ lists_if b bytes
  list_of_bytes b bytes = grind (arith, common_steps)

-- what is under the names of one member of bytes is read as these bytes
module _ (n : List ℕ) (own : bytes_eq n n ≡ true) (apart : bytes_eq (bytes_name n) n ≡ false)
    (own_list : bytes_eq (bytes_name n) (bytes_name n) ≡ true) (apart_list : bytes_eq n (bytes_name n) ≡ false) (ms : List Member) where
  pub bytes_read : (printed bytes : List ℕ) → values_at n ms ≡ values_at n (bytes_member n printed ∷ [])
      → values_at (bytes_name n) ms ≡ values_at (bytes_name n) (bytes_member n printed ∷ []) → EachByte printed → EachByte bytes
      → ReadsAs (values_at n ms) (values_at (bytes_name n) ms) bytes → bytes ≡ printed
  bytes_read printed bytes texts lists p_small b_small reads = grind (arith, common_steps, same_bytes, list_of_bytes, text_of_bytes)
