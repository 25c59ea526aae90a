-- The depths of boxes whose chains are joined.
use Rattle.std.proofs.Common.{◌≡◌, ℕ, ◌+◌, ◌-◌, ◌<◌, ◌≤◌, ◌⊎◌, inl, inr, Bool, true, false, if◌then◌else◌, List, [], ◌∷◌, ◌++◌, get_or}
use Rattle.std.proofs.{Common.{length, take, Option, Some, None, ap, ◌∙◌, arith, length-append}, lemmas.Bool.cases_lt}
use Rattle.std.proofs.lemmas.List.{get_or-append_right, get_or-take, get_or_append_left, length-take-le}
use Rattle.lc_sheet.specs.declared.column.Number.{Number}
use Rattle.lc_picture.specs.{Boxes.{BoxModel, moved}, Chains.{depths_after, goes_on, joined_depth, joined_from, joined_name, name_start}}
use Rattle.lc_picture.specs.Laws.{ComeInDepth, JoinedDepthsLaw}

-- the depths of boxes of up to n old depths: they never fall, and the last is at most m
record IsLadder (depths : List ℕ) (n m : ℕ) : Type 0 where
  long : n < length depths
  rises : (k l : ℕ) → k ≤ l → l ≤ n → get_or depths k 0 ≤ get_or depths l 0
  low : get_or depths n 0 ≤ m

kept_depth : (depths : List ℕ) (j k v : ℕ) → j < length depths → k ≤ j
    → get_or (take (j + 1) depths ++ v ∷ []) k 0 ≡ get_or depths k 0
kept_depth depths j k v inside le =
    get_or_append_left (take (j + 1) depths) (v ∷ []) 0 k (omega (arith, length-take-le (j + 1) depths (omega arith)))
    ∙ get_or-take (j + 1) depths k 0 (omega arith)

new_depth : (depths : List ℕ) (j v : ℕ) → j < length depths → get_or (take (j + 1) depths ++ v ∷ []) (j + 1) 0 ≡ v
new_depth depths j v inside =
    let none : j + 1 - (j + 1) ≡ 0 = omega arith in
    get_or-append_right (take (j + 1) depths) (v ∷ []) (j + 1) (j + 1) 0 (length-take-le (j + 1) depths (omega arith)) (omega arith)
    ∙ ap (λ (i : ℕ). get_or (v ∷ []) i 0) none

-- one box more
longer : (depths : List ℕ) (n m j v m2 : ℕ) → IsLadder depths n m → j ≤ n → get_or depths j 0 ≤ v → v ≤ m2
    → IsLadder (take (j + 1) depths ++ v ∷ []) (j + 1) m2
longer depths n m j v m2 is le up low =
    let inside : j < length depths = omega (arith, is.long) in
    record {
      long = omega (arith, length-append (take (j + 1) depths) (v ∷ []), length-take-le (j + 1) depths (omega arith));
      rises = λ k l before last. rising k l before last (cases_lt j l) (cases_lt j k);
      low = omega (arith, new_depth depths j v inside);
    }
  where
    inside : j < length depths
    inside = omega (arith, is.long)

    rising : (k l : ℕ) → k ≤ l → l ≤ j + 1 → (j < l) ⊎ (l ≤ j) → (j < k) ⊎ (k ≤ j)
        → get_or (take (j + 1) depths ++ v ∷ []) k 0 ≤ get_or (take (j + 1) depths ++ v ∷ []) l 0
    rising k l before last (inr low_l) either_k =
        omega (arith, kept_depth depths j k v inside (omega arith), kept_depth depths j l v inside low_l, is.rises k l before (omega arith))
    rising k l before last (inl high_l) (inr low_k) =
        let at : l ≡ j + 1 = omega arith in
        let top : get_or (take (j + 1) depths ++ v ∷ []) l 0 ≡ v =
        ap (λ (i : ℕ). get_or (take (j + 1) depths ++ v ∷ []) i 0) at ∙ new_depth depths j v inside in
        omega (arith, top, kept_depth depths j k v inside low_k, is.rises k j low_k le)
    rising k l before last (inl high_l) (inl high_k) =
        let same : k ≡ l = omega arith in
        let equal : get_or (take (j + 1) depths ++ v ∷ []) k 0 ≡ get_or (take (j + 1) depths ++ v ∷ []) l 0 =
        ap (λ (i : ℕ). get_or (take (j + 1) depths ++ v ∷ []) i 0) same in
        omega (arith, equal)

one_in_depth : (by : Number) (least : ℕ) (depths : List ℕ) (start : Option ℕ) (n m : ℕ) (b : BoxModel) (bs : List BoxModel) (is_on : Bool)
    → IsLadder depths n m → b.depth ≤ n
    → (IsLadder (depths_after depths b true) (b.depth + 1) m
    → ComeInDepth m (joined_from by least (depths_after depths b true) (Some (name_start start b)) bs))
    → (IsLadder (depths_after depths b false) (b.depth + 1) (joined_depth depths b + 1)
    → ComeInDepth (joined_depth depths b + 1) (joined_from by least (depths_after depths b false) None bs))
    → ComeInDepth m (if is_on then joined_from by least (depths_after depths b true) (Some (name_start start b)) bs
    else moved (joined_depth depths b) (joined_name start b) b ∷ joined_from by least (depths_after depths b false) None bs)
one_in_depth by least depths start n m b bs true is deep on off =
    let low = is.rises b.depth n deep (omega arith) in
    on (longer depths n m b.depth (joined_depth depths b + 0) m is deep (omega arith) (omega (arith, low, is.low)))
one_in_depth by least depths start n m b bs false is deep on off =
    let low = is.rises b.depth n deep (omega arith) in (
      omega (arith, low, is.low),
      off (longer depths n m b.depth (joined_depth depths b + 1) (joined_depth depths b + 1) is deep (omega arith)
          (omega arith)),
    )

all_in_depth : (by : Number) (least : ℕ) (depths : List ℕ) (start : Option ℕ) (n m : ℕ) (bs : List BoxModel) → IsLadder depths n m
    → ComeInDepth n bs → ComeInDepth m (joined_from by least depths start bs)
all_in_depth by least depths start n m [] is come = tt
all_in_depth by least depths start n m (b ∷ bs) is (deep, come) =
    one_in_depth by least depths start n m b bs (goes_on by least b bs) is deep
    (λ next. all_in_depth by least (depths_after depths b true) (Some (name_start start b)) (b.depth + 1) m bs next come)
    (λ next. all_in_depth by least (depths_after depths b false) None (b.depth + 1) (joined_depth depths b + 1) bs next come)

pub depths_law : JoinedDepthsLaw
depths_law by least bs come =
    all_in_depth by least (0 ∷ []) None 0 0 bs
    (record { long = omega arith; rises = λ k l before last. at k l before last; low = omega arith }) come
  where
    at : (k l : ℕ) → k ≤ l → l ≤ 0 → get_or (0 ∷ []) k 0 ≤ get_or (0 ∷ []) l 0
    at k l before last =
        let same : k ≡ l = omega arith in
        let first : ℕ → ℕ = λ i. get_or (0 ∷ []) i 0 in
        let equal : first k ≡ first l = ap first same in
        omega (arith, equal)
