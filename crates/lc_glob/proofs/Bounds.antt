-- The cost in bytes of the pattern and of the path.
use Rattle.std.proofs.Common.{◌||◌, nat_lt, ◌≡◌, ◌≤◌, ◌+◌, ◌*◌, ℕ, zero, suc, Bool, true, false, cond, nat_eq, List, [], ◌∷◌, length, map}
use Rattle.std.proofs.Common.{Option, Some, None, ap, arith, ◌&&◌}
use Rattle.std.specs.List.{onto_first}
use Rattle.lc_glob.specs.{Tokens.TokenModel, Patterns.{SegmentModel, plain, double_star, PatternModel, dead}}
use Rattle.lc_glob.specs.{Costs.{tokens_with_ends, bytes_with_ends, full_cost}, Path.segments_of}
use Rattle.lc_glob.specs.Reading.{LexemeModel, separator, one, lexeme, put, put_on, parts, pattern_of, pattern_from, segment_from}
use Rattle.lc_glob.specs.Reading.{is_double_star, without_last, without_first, begins_empty, ends_empty, some_empty}

onto_size : (b : ℕ) (s : List (List ℕ)) (k : ℕ) → bytes_with_ends s ≤ suc k → 1 ≤ bytes_with_ends s
    → bytes_with_ends (onto_first b s) ≤ suc (suc k)
onto_size b [] k h l = absurd (omega arith)
onto_size b (n ∷ ns) k h l = omega arith

cond_size : (t : Bool) (a b : List (List ℕ)) (k : ℕ) → bytes_with_ends a ≤ k → bytes_with_ends b ≤ k → bytes_with_ends (cond t a b) ≤ k
cond_size true a b k x y = x
cond_size false a b k x y = y

cond_some : (t : Bool) (a b : List (List ℕ)) → 1 ≤ bytes_with_ends a → 1 ≤ bytes_with_ends b → 1 ≤ bytes_with_ends (cond t a b)
cond_some true a b x y = x
cond_some false a b x y = y

onto_some : (b : ℕ) (s : List (List ℕ)) → 1 ≤ bytes_with_ends (onto_first b s)
onto_some b [] = omega arith
onto_some b (n ∷ ns) = omega arith

-- a path has at least one end
pub path_some : (path : List ℕ) → 1 ≤ bytes_with_ends (segments_of path)
path_some [] = omega arith
path_some (b ∷ bs) = cond_some (nat_eq b 47) _ _ (omega arith) (onto_some b (segments_of bs))

-- the segments of a path, each with its end, have at most one byte more than the path
pub path_size : (path : List ℕ) → bytes_with_ends (segments_of path) ≤ length path + 1
path_size [] = omega arith
path_size (b ∷ bs) =
    let h = path_size bs in let s = path_some bs in
    let to_suc : bytes_with_ends (segments_of bs) ≤ suc (length bs) = omega (arith, h) in
    let r : bytes_with_ends (cond (nat_eq b 47) ([] ∷ segments_of bs) (onto_first b (segments_of bs)))
    ≤ suc (suc (length bs)) = cond_size (nat_eq b 47) _ _ _ (omega (arith, h))
    (onto_size b (segments_of bs) (length bs) to_suc s) in
    omega (arith, r)

-- the tokens of the parts, and one for each part
abbrev pub part_sizes : List (List TokenModel) → ℕ
part_sizes [] = 0
part_sizes (p ∷ ps) = (length p + 1) + part_sizes ps

abbrev pub IsBelow : Option (List (List TokenModel)) → ℕ → Type 0
IsBelow None n = Unit {0}
IsBelow (Some ps) n = part_sizes ps ≤ n

put_size : (t : LexemeModel) (o : Option (List (List TokenModel))) (n : ℕ) → IsBelow o n → IsBelow (put t o) (suc n)
put_size t None n h = tt
put_size t (Some []) n h = tt
put_size separator (Some (p ∷ ps)) n h = omega arith
put_size (one u) (Some (p ∷ ps)) n h = omega arith

put_on_size : (o : Option (LexemeModel × ℕ)) (next : ℕ → Option (List (List TokenModel))) (n : ℕ) → ((k : ℕ) → IsBelow (next k) n)
    → IsBelow (put_on o next) (suc n)
put_on_size None next n h = tt
put_on_size (Some t) next n h = put_size t.0 (next t.1) n (h t.1)

weaker : (o : Option (List (List TokenModel))) (n : ℕ) → IsBelow o n → IsBelow o (suc n)
weaker None n h = tt
weaker (Some ps) n h = omega arith

parts_size : (bs : List ℕ) (k : ℕ) → IsBelow (parts k bs) (suc (length bs))
parts_size [] k = omega arith
parts_size (b ∷ bs) zero = put_on_size (lexeme b bs) (λ j. parts j bs) (suc (length bs)) (λ j. parts_size bs j)
parts_size (b ∷ bs) (suc k) = weaker (parts k bs) (suc (length bs)) (parts_size bs k)

segment_weight : (t : Bool) (us : List TokenModel) (r : List SegmentModel)
    → tokens_with_ends (cond t double_star (plain us) ∷ r) ≤ (length us + 1) + tokens_with_ends r
segment_weight true us r = omega arith
segment_weight false us r = omega arith

segments_weight : (anchored : Bool) (ps : List (List TokenModel)) → tokens_with_ends (map (segment_from anchored) ps) ≤ part_sizes ps
segments_weight anchored [] = omega arith
segments_weight anchored (p ∷ ps) =
    omega (arith, segment_weight (anchored && is_double_star p) p (map (segment_from anchored) ps), segments_weight anchored ps)

without_last_size : (ps : List (List TokenModel)) → part_sizes (without_last ps) ≤ part_sizes ps
without_last_size [] = omega arith
without_last_size (p ∷ []) = omega arith
without_last_size (p ∷ q ∷ ps) = omega (arith, without_last_size (q ∷ ps))

without_first_size : (ps : List (List TokenModel)) → part_sizes (without_first ps) ≤ part_sizes ps
without_first_size [] = omega arith
without_first_size (p ∷ ps) = omega arith

choose : (t : Bool) (a b : List (List TokenModel)) (n : ℕ) → part_sizes a ≤ n → part_sizes b ≤ n → part_sizes (cond t a b) ≤ n
choose true a b n x y = x
choose false a b n x y = y

dead_or : (t : Bool) (p : PatternModel) (n : ℕ) → tokens_with_ends p.segments ≤ n → tokens_with_ends (cond t dead p).segments ≤ n
dead_or true p n h = omega arith
dead_or false p n h = h

from_size : (o : Option (List (List TokenModel))) (n : ℕ) → IsBelow o n → tokens_with_ends (pattern_from o).segments ≤ n
from_size None n h = omega arith
from_size (Some ps) n h =
    let a = cond (ends_empty ps) (without_last ps) ps in
    let x : part_sizes a ≤ n = choose (ends_empty ps) _ _ n (omega (arith, without_last_size ps)) h in
    let b = cond (begins_empty a) (without_first a) a in
    let y : part_sizes b ≤ n = choose (begins_empty a) _ _ n (omega (arith, without_first_size a)) x in
    let t = begins_empty a || nat_lt 1 (length a) in
    let w : tokens_with_ends (map (segment_from t) b) ≤ n = omega (arith, segments_weight t b, y) in
    dead_or (some_empty b) _ n w

-- the tokens of a pattern, each segment with its end, are at most one more than its bytes
pub pattern_size : (bytes : List ℕ) → tokens_with_ends (pattern_of bytes).segments ≤ length bytes + 1
pattern_size bytes = let h = from_size (parts 0 bytes) (suc (length bytes)) (parts_size bytes 0) in omega (arith, h)

-- so a match costs at most the product of both lengths, each with one more
pub whole_bound : (bytes path : List ℕ) (p : PatternModel) (n : ℕ) → n ≤ full_cost p.segments (segments_of path) → p ≡ pattern_of bytes
    → n ≤ (length bytes + 1) * (length path + 1)
whole_bound bytes path p n h e =
    let w : tokens_with_ends p.segments ≡ tokens_with_ends (pattern_of bytes).segments = ap
    (λ (q : PatternModel). tokens_with_ends q.segments) e in
    let a : tokens_with_ends p.segments ≤ length bytes + 1 = omega (arith, w, pattern_size bytes) in
    product _ _ _ _ n h a (path_size path)
  where
    product : (a b c d n : ℕ) → n ≤ a * b → a ≤ c → b ≤ d → n ≤ c * d
    product a b c d n h x y = grind arith
