-- What is at the front and at the end of a path below a name.
use Rattle.std.proofs.Common.{◌≡◌, ℕ, zero, suc, ◌+◌, ◌-◌, ◌≤◌, Bool, true, false, not, cond, List, [], ◌∷◌, ◌++◌, length, drop, take}
use Rattle.std.proofs.Common.{reverse, refl, sym, ◌∙◌, ap, arith, append_assoc, length-append, one-add, suc-add, zero-add}
use Rattle.std.proofs.{Math.Seq.{drop-append-add, take-append-add}, lemmas.List.{reverse-append, Sums.suffix_len-le-length}}
use Rattle.std.specs.List.{after_first, after_last, onto_first, position_or_len, prefix_len, suffix_len}
use Rattle.lc_glob.specs.{Bytes.slash, Path.segments_of, Pieces.is_byte}
use Rattle.lc_reports.specs.{Laws.NamedRulesLaw, Named.named_depth}
use Rattle.lc_rules.specs.Verdicts.{below}
use Rattle.lc_text.specs.RulePlaces.{above}

-- ---- what is after the last slash

module _ {X : Type 0} (q : X → Bool) where
  -- a count from the front ends where an element does not pass
  stops_at : (xs ys : List X) (c : X) → q c ≡ false → prefix_len q (xs ++ c ∷ ys) ≡ prefix_len q xs
  stops_at [] ys c fails = ap (λ b. cond b (1 + prefix_len q ys) 0) fails
  stops_at (x ∷ xs) ys c fails = ap (λ n. cond (q x) (1 + n) 0) (stops_at xs ys c fails)

  -- and from the end
  same_suffix : (front ys : List X) (c : X) → q c ≡ false → suffix_len q (front ++ c ∷ ys) ≡ suffix_len q ys
  same_suffix front ys c fails =
      ap (prefix_len q) (reverse-append front (c ∷ ys) ∙ ap (λ l. l ++ reverse front) (reverse-append (c ∷ []) ys)
      ∙ append_assoc (reverse ys) (c ∷ []) (reverse front))
      ∙ stops_at (reverse ys) (reverse front) c fails

-- what follows an element that passes has all that is after the last
pub last_after : (front : List ℕ) (c : ℕ) (ys : List ℕ) → is_byte slash c ≡ true
    → after_last (is_byte slash) (front ++ c ∷ ys) ≡ after_last (is_byte slash) ys
last_after front c ys is =
    let q : ℕ → Bool = λ x. not (is_byte slash x) in
    let same : suffix_len q (front ++ c ∷ ys) ≡ suffix_len q ys = same_suffix q front ys c (ap not is) in
    let few = suffix_len-le-length q ys in
    let long = length-append front (c ∷ ys) in
    let place : length (front ++ c ∷ ys) - suffix_len q (front ++ c ∷ ys) ≡ length front + (1 + (length ys - suffix_len q ys)) =
    omega arith in
    ap (λ n. drop n (front ++ c ∷ ys)) place ∙ drop-append-add front (c ∷ ys) (1 + (length ys - suffix_len q ys))
    ∙ ap (λ n. drop n (c ∷ ys)) (one-add (length ys - suffix_len q ys))

-- ---- the directory of a rule's file

below_further : (m n : ℕ) (path : List ℕ) → below (m + n) path ≡ below n (below m path)
below_further zero n path = ap (λ k. below k path) (zero-add n)
below_further (suc m) n path = ap (λ k. below k path) (suc-add m n) ∙ below_further m n (after_first (is_byte slash) path)

-- how many pieces there are with one element more
one_more_piece : (x : ℕ) (ps : List (List ℕ)) (m : ℕ) → length ps ≡ suc m → length (onto_first x ps) ≡ suc m
one_more_piece x [] m e = absurd (omega arith)
one_more_piece x (p ∷ ps) m e = e

some_pieces : (name : List ℕ) → (m : ℕ) × (length (segments_of name) ≡ suc m)
some_pieces [] = (0, refl)
some_pieces (b ∷ bs) = at (is_byte slash b) (some_pieces bs)
  where
    at : (c : Bool) → (m : ℕ) × (length (segments_of bs) ≡ suc m)
        → (m : ℕ) × (length (cond c ([] ∷ segments_of bs) (onto_first b (segments_of bs))) ≡ suc m)
    at true (m, e) = (suc m, ap suc e)
    at false (m, e) = (m, one_more_piece b (segments_of bs) m e)

after_slash : (b : ℕ) (bs : List ℕ) → is_byte slash b ≡ true → after_first (is_byte slash) (b ∷ bs) ≡ bs
after_slash b bs is = ap (λ c. drop (cond (not c) (1 + position_or_len (is_byte slash) bs) 0 + 1) (b ∷ bs)) is

after_other : (b : ℕ) (bs : List ℕ) → is_byte slash b ≡ false → after_first (is_byte slash) (b ∷ bs) ≡ after_first (is_byte slash) bs
after_other b bs other = ap (λ c. drop (cond (not c) (1 + position_or_len (is_byte slash) bs) 0 + 1) (b ∷ bs)) other
    ∙ ap (λ n. drop n (b ∷ bs)) (one_further (position_or_len (is_byte slash) bs))
  where
    one_further : (n : ℕ) → 1 + n + 1 ≡ suc (n + 1)
    one_further n = omega arith

-- below the segments of the name there is the path
below_name : (name path : List ℕ) → below (named_depth name) (name ++ slash ∷ path) ≡ path
below_name [] path = after_slash slash path refl
below_name (b ∷ bs) path = at (is_byte slash b) refl (below_name bs path) (some_pieces bs)
  where
    at : (c : Bool) → is_byte slash b ≡ c → below (named_depth bs) (bs ++ slash ∷ path) ≡ path
        → (m : ℕ) × (named_depth bs ≡ suc m)
        → below (length (cond c ([] ∷ segments_of bs) (onto_first b (segments_of bs)))) (b ∷ bs ++ slash ∷ path) ≡ path
    at true is rest some = ap (below (named_depth bs)) (after_slash b (bs ++ slash ∷ path) is) ∙ rest
    at false other rest (m, e) =
        ap (λ n. below n (b ∷ bs ++ slash ∷ path)) (one_more_piece b (segments_of bs) m e)
        ∙ ap (below m) (after_other b (bs ++ slash ∷ path) other) ∙ sym (ap (λ n. below n (bs ++ slash ∷ path)) e) ∙ rest

shorter : (depth : ℕ) (path : List ℕ) → length (below depth path) ≤ length path
shorter zero path = omega arith
shorter (suc depth) path =
    let rest = shorter depth (after_first (is_byte slash) path) in
    let cut : length (after_first (is_byte slash) path) ≤ length path = drop_shorter (position_or_len (is_byte slash) path + 1) path in
    omega arith
  where
    drop_shorter : (n : ℕ) (l : List ℕ) → length (drop n l) ≤ length l
    drop_shorter zero l = omega arith
    drop_shorter (suc n) [] = omega arith
    drop_shorter (suc n) (x ∷ l) = let less = drop_shorter n l in omega arith

-- so what is above such a depth more is the name and what is above the depth
above_name : (name path : List ℕ) (depth : ℕ) → above (named_depth name + depth) (name ++ slash ∷ path) ≡ name ++ slash ∷ above depth path
above_name name path depth =
    let same : below (named_depth name + depth) (name ++ slash ∷ path) ≡ below depth path =
    below_further (named_depth name) depth (name ++ slash ∷ path) ∙ ap (below depth) (below_name name path) in
    let few = shorter depth path in
    let long = length-append name (slash ∷ path) in
    let left = ap length same in
    let place : length (name ++ slash ∷ path) - length (below (named_depth name + depth) (name ++ slash ∷ path))
    ≡ length name + (1 + (length path - length (below depth path))) = omega arith in
    ap (λ n. take n (name ++ slash ∷ path)) place ∙ take-append-add name (slash ∷ path) (1 + (length path - length (below depth path)))
    ∙ ap (λ n. name ++ take n (slash ∷ path)) (one-add (length path - length (below depth path)))

pub named_rules : NamedRulesLaw
named_rules = record { info = λ name b bs depth. above_name name (b ∷ bs) depth; own = λ name b bs depth. above_name name (b ∷ bs) depth }
