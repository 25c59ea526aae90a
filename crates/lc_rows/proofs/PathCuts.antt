-- Paths cut at their last slash, and after their names.
use Rattle.std.proofs.lemmas.{Grind.{common_steps, flat_map-append}, Bool.false_from_ne_true}
use Rattle.std.proofs.lemmas.List.{append-nil, take_rest, Folds.{list_any_at, list_any_none}, Splits.join_with_byte-slice_split}
use Rattle.std.proofs.lemmas.List.Sums.{suffix_len_is}
use Rattle.std.proofs.Common.{◌≡◌, ℕ, ◌+◌, ◌-◌, ◌<◌, ◌≤◌, Bool, true, false, not, List, [], ◌∷◌, ◌++◌, length, take, drop, get_or, refl}
use Rattle.std.proofs.Common.{sym, ◌∙◌, ap, arith, subst, append_assoc, length-append, Some, None, if◌then◌else◌, suc, zero}
use Rattle.std.proofs.Math.Seq.{take-append_seam}
use Rattle.std.specs.List.{before_last, flat_map, join_with_byte, suffix_len}
use Rattle.lc_glob.proofs.{FirstByte.same_read, Naming.some_segment}
use Rattle.lc_glob.specs.{Bytes.slash, Path.segments_of, Pieces.is_byte}
use Rattle.memchr.specs.Find.{IsLastByte, is_byte as found}
use Rattle.lc_rows.specs.Directories.{after_name, directory_before, first_names, levels, name_of, names_in, parent_of, to_name}

-- how many bytes are after the last slash, at place i
name_length : (path : List ℕ) (i : ℕ) → IsLastByte (found slash) path (Some i)
    → suffix_len (λ b. not (is_byte slash b)) path ≡ length path - (i + 1)
name_length path i h =
    let below : i < length path = h.0.high in
    suffix_len_is (λ b. not (is_byte slash b)) path (i + 1) 0 (omega arith)
    (λ k low high. ap not (false_from_ne_true _ (h.0.after k low high)))
    (λ _. subst (λ n. not (is_byte slash (get_or path n 0)) ≡ false) (omega arith) (ap not h.1))

-- where there is none, all bytes
whole_length : (path : List ℕ) → IsLastByte (found slash) path None → suffix_len (λ b. not (is_byte slash b)) path ≡ length path
whole_length path none =
    suffix_len_is (λ b. not (is_byte slash b)) path 0 0 (omega arith) (λ k low high. ap not (false_from_ne_true _ (none k low high)))
    (λ lt. absurd (omega arith)) ∙ omega arith

-- what is before the last slash
front_at : (path : List ℕ) (i : ℕ) → IsLastByte (found slash) path (Some i) → take i path ≡ before_last (is_byte slash) path
front_at path i h =
    let below : i < length path = h.0.high in
    let long = name_length path i h in
    let same : i ≡ length path - suffix_len (λ b. not (is_byte slash b)) path - 1 = omega arith in
    ap (λ n. take n path) same

pub parent_at : (path : List ℕ) (i : ℕ) → IsLastByte (found slash) path (Some i) → directory_before (take i path) ≡ parent_of path
parent_at path i h = grind (arith, common_steps, list_any_at, front_at)

pub name_at : (path : List ℕ) (i : ℕ) → IsLastByte (found slash) path (Some i)
    → take (length path - (i + 1)) (drop (i + 1) path) ≡ name_of path
name_at path i h = grind (arith, common_steps, name_length, take_rest)

pub no_parent : (path : List ℕ) → IsLastByte (found slash) path None → [] ≡ parent_of path
no_parent path none = grind (arith, common_steps, list_any_none, false_from_ne_true, same_read)

pub whole_name : (path : List ℕ) → IsLastByte (found slash) path None → path ≡ name_of path
whole_name path none = grind (arith, common_steps, whole_length)

-- names, each with a slash behind it
abbrev ended : List (List ℕ) → List ℕ
ended names = flat_map (λ name. name ++ slash ∷ []) names

-- one segment more before the name of a number, of which so many are left
to_more : (left : ℕ) (s : List ℕ) (ss : List (List ℕ)) → 0 < left → to_name left (s ∷ ss) ≡ s ∷ to_name (left - names_in s) ss
to_more zero s ss some = absurd (omega arith)
to_more (suc left) s ss some = refl

after_more : (left : ℕ) (s : List ℕ) (ss : List (List ℕ)) → 0 < left → after_name left (s ∷ ss) ≡ after_name (left - names_in s) ss
after_more zero s ss some = absurd (omega arith)
after_more (suc left) s ss some = refl

-- on the way to the nth name of a path, when so many names are left: these segments are passed, and the others are those of the rest
pub record IsCut (path rest : List ℕ) (n left : ℕ) : Type 0 where
  pub names : List (List ℕ)
  pub segments : segments_of path ≡ names ++ segments_of rest
  pub bytes : path ≡ flat_map (λ name. name ++ slash ∷ []) names ++ rest
  pub first : to_name n (segments_of path) ≡ names ++ to_name left (segments_of rest)
  pub after : after_name n (segments_of path) ≡ after_name left (segments_of rest)

-- one segment more
pub cut_more : (path rest name below : List ℕ) (n left next : ℕ) → IsCut path rest n left → 0 < left
    → segments_of rest ≡ name ∷ segments_of below → rest ≡ name ++ slash ∷ below → next ≡ left - names_in name → IsCut path below n next
cut_more path rest name below n left next cut some first whole less = record {
  names = cut.names ++ name ∷ [];
  segments = cut.segments ∙ ap (λ l. cut.names ++ l) first ∙ sym (append_assoc cut.names (name ∷ []) (segments_of below));
  bytes = cut.bytes ∙ ap (λ l. ended cut.names ++ l) whole ∙ sym (ended_more cut.names);
  first =
      cut.first ∙ ap (λ l. cut.names ++ to_name left l) first ∙ ap (λ l. cut.names ++ l) (to_more left name (segments_of below) some)
      ∙ ap (λ k. cut.names ++ name ∷ to_name k (segments_of below)) (sym less)
      ∙ sym (append_assoc cut.names (name ∷ []) (to_name next (segments_of below)));
  after =
      cut.after ∙ ap (after_name left) first ∙ after_more left name (segments_of below) some
      ∙ ap (λ k. after_name k (segments_of below)) (sym less);
}
  where
    ended_more : (names : List (List ℕ)) → ended (names ++ name ∷ []) ++ below ≡ ended names ++ (name ++ slash ∷ below)
    ended_more names =
        ap (λ l. l ++ below) (flat_map-append (λ (s : List ℕ). s ++ slash ∷ []) names (name ∷ []))
        ∙ simp (append-nil, append_assoc)

ended_is : (x : List ℕ) (xs : List (List ℕ)) → ended (x ∷ xs) ≡ join_with_byte slash (x ∷ xs) ++ slash ∷ []
ended_is x [] = append-nil (x ++ slash ∷ [])
ended_is x (y ∷ ys) = ap (λ l. (x ++ slash ∷ []) ++ l) (ended_is y ys)
    ∙ simp append_assoc

-- the names, joined, are the bytes before the last of their slashes
joined_at : (names : List (List ℕ)) (rest : List ℕ)
    → take (length (ended names ++ rest) - length rest - 1) (ended names ++ rest) ≡ join_with_byte slash names
joined_at [] rest =
    let none : length rest - length rest - 1 ≡ 0 = omega arith in
    ap (λ n. take n rest) none
joined_at (x ∷ xs) rest =
    let joined : List ℕ = join_with_byte slash (x ∷ xs) in
    let whole : ended (x ∷ xs) ++ rest ≡ joined ++ slash ∷ rest =
    ap (λ l. l ++ rest) (ended_is x xs) ∙ append_assoc joined (slash ∷ []) rest in
    let long : length (joined ++ slash ∷ rest) - length rest - 1 ≡ length joined = omega (arith, length-append joined (slash ∷ rest)) in
    ap (λ l. take (length l - length rest - 1) l) whole ∙ ap (λ n. take n (joined ++ slash ∷ rest)) long
    ∙ take-append_seam joined (slash ∷ rest)

-- after the nth name: what is cut off is the path up to it
pub cut_path : (path rest : List ℕ) (n left : ℕ) → IsCut path rest n left → left ≡ 0
    → first_names n path ≡ take (length path - length rest - 1) path
cut_path path rest n left cut none = grind (arith, common_steps, append-nil, joined_at)

pub cut_rest : (path rest : List ℕ) (n left : ℕ) → IsCut path rest n left → left ≡ 0
    → join_with_byte slash (after_name n (segments_of path)) ≡ rest
cut_rest path rest n left cut none =
    ap (join_with_byte slash) (cut.after ∙ ap (λ k. after_name k (segments_of rest)) none) ∙ join_with_byte-slice_split slash rest

one_left : (left : ℕ) (name : List ℕ) → 0 < left → to_name left (name ∷ []) ≡ name ∷ []
one_left left name some = grind (arith, common_steps, to_more)

-- a path that ends before the nth name, or with it, is whole
pub cut_whole : (path rest name : List ℕ) (n left : ℕ) → IsCut path rest n left → 0 < left → segments_of rest ≡ name ∷ []
    → first_names n path ≡ path
cut_whole path rest name n left cut some last =
    let all : to_name n (segments_of path) ≡ segments_of path =
    cut.first ∙ ap (λ l. cut.names ++ to_name left l) last ∙ ap (λ l. cut.names ++ l) (one_left left name some)
    ∙ ap (λ l. cut.names ++ l) (sym last) ∙ sym cut.segments in
    ap (join_with_byte slash) all ∙ join_with_byte-slice_split slash path

pub cut_empty : (path rest name : List ℕ) (n left : ℕ) → IsCut path rest n left → 0 < left → segments_of rest ≡ name ∷ []
    → after_name n (segments_of path) ≡ []
cut_empty path rest name n left cut some last = grind (arith, common_steps, after_more)

-- ---- levels

-- behind some segments of a path, when so many names are passed
pub record IsPassed (path rest : List ℕ) (level : ℕ) : Type 0 where
  pub names : levels (segments_of path) + 1 ≡ level + levels (segments_of rest)
  pub room : level + length rest ≤ length path + 1

level_more : (name : List ℕ) (ss : List (List ℕ)) → (ss ≡ [] → ⊥) → levels (name ∷ ss) ≡ names_in name + levels ss
level_more name [] some = absurd (some refl)
level_more name (s ∷ ss) some = refl

one_name : (b : Bool) → (if b then 0 else 1) ≤ 1
one_name true = omega arith
one_name false = omega arith

pub passed_more : (path rest name below : List ℕ) (level next : ℕ) → IsPassed path rest level
    → segments_of rest ≡ name ∷ segments_of below → rest ≡ name ++ slash ∷ below → next ≡ level + names_in name → IsPassed path below next
passed_more path rest name below level next passed first whole more =
    grind (arith, common_steps, level_more, some_segment, length-append, one_name)
