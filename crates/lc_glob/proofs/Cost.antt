-- What is still to pay: each segment at each name once.
use Rattle.std.proofs.Common.{◌≡◌, ◌≤◌, ◌+◌, ◌*◌, ℕ, List, [], ◌∷◌, length, refl, ap, ◌∙◌, arith}
use Rattle.lc_glob.specs.{Tokens.TokenModel, Patterns.{SegmentModel, plain, double_star}, PathSteps.front_cost}
use Rattle.lc_glob.specs.Costs.{tokens_with_ends, bytes_with_ends, full_cost}

-- the segments up to a double star at the names from here on, one at one
abbrev pub straight : List SegmentModel → List (List ℕ) → ℕ
straight [] path = 0
straight (double_star ∷ r) path = 0
straight (plain us ∷ r) [] = 0
straight (plain us ∷ r) (n ∷ ns) = (length us + 1) * (length n + 1) + straight r ns

-- each segment at each name that it can come to
abbrev pub full : List SegmentModel → List (List ℕ) → ℕ
full [] path = 0
full (double_star ∷ r) path = full r path
full (plain us ∷ r) [] = full r []
full (plain us ∷ r) (n ∷ ns) = (length us + 1) * bytes_with_ends (n ∷ ns) + full r ns

-- what is left of that after the straight try
abbrev pub again : List SegmentModel → List (List ℕ) → ℕ
again [] path = 0
again (double_star ∷ r) path = full r path
again (plain us ∷ r) [] = again r []
again (plain us ∷ r) (n ∷ ns) = (length us + 1) * bytes_with_ends ns + again r ns

straight_none : (s : List SegmentModel) → straight s [] ≡ 0
straight_none [] = refl
straight_none (double_star ∷ r) = refl
straight_none (plain us ∷ r) = refl

-- the whole cost is that of going straight on and that of going back
pub full_parts : (s : List SegmentModel) (path : List (List ℕ)) → full s path ≡ straight s path + again s path
full_parts [] path = refl
full_parts (double_star ∷ r) path = omega arith
full_parts (plain us ∷ r) [] = omega (arith, full_parts r [], straight_none r)
full_parts (plain us ∷ r) (n ∷ ns) = omega (arith, full_parts r ns)

full_more : (s : List SegmentModel) (n : List ℕ) (ns : List (List ℕ)) → full s ns ≤ full s (n ∷ ns)
full_more [] n ns = omega arith
full_more (double_star ∷ r) n ns = full_more r n ns
full_more (plain us ∷ r) n [] = omega arith
full_more (plain us ∷ r) n (m ∷ ns) = omega (arith, full_more r m ns)

-- a later start costs no more than what was left
pub full_again : (s : List SegmentModel) (n : List ℕ) (ns : List (List ℕ)) → full s ns ≤ again s (n ∷ ns)
full_again [] n ns = omega arith
full_again (double_star ∷ r) n ns = full_more r n ns
full_again (plain us ∷ r) n [] = omega (arith, full_parts r [], straight_none r)
full_again (plain us ∷ r) n (m ∷ ns) = omega (arith, full_again r m ns)

-- it is at most that of each segment at each name
pub full_total : (s : List SegmentModel) (path : List (List ℕ)) → full s path ≤ full_cost s path
full_total [] path = omega arith
full_total (double_star ∷ r) path = full_total r path
full_total (plain us ∷ r) [] = omega (arith, full_total r [])
full_total (plain us ∷ r) (n ∷ ns) =
    grow (length us + 1) (length n + 1) (tokens_with_ends r) (bytes_with_ends ns) (full r ns) (full_total r ns)
  where
    grow : (w v ws vs f : ℕ) → f ≤ ws * vs → w * (v + vs) + f ≤ (w + ws) * (v + vs)
    grow w v ws vs f h = omega arith

-- the cost of the first segment at the first name is within that of going straight on
pub front_straight : (s : List SegmentModel) (path : List (List ℕ)) → front_cost s path ≤ straight s path
front_straight [] path = omega arith
front_straight (double_star ∷ r) path = omega arith
front_straight (plain us ∷ r) [] = omega arith
front_straight (plain us ∷ r) (n ∷ ns) = omega arith

-- along the strides: s is the segments here, p the segments left, t what was paid, r the reserve
pub across_cost : (s rest : List SegmentModel) (p : List (List ℕ)) (t t' r all : ℕ) → s ≡ double_star ∷ rest → t' ≤ t + front_cost s p
    → again s p ≤ r → t + (straight s p + r) ≤ all → t' + (straight rest p + again rest p) ≤ all
across_cost s rest p t t' r all e paid within cost =
    let f : front_cost s p ≡ 0 = ap (λ (l : List SegmentModel). front_cost l p) e in
    let a : again s p ≡ full rest p = ap (λ (l : List SegmentModel). again l p) e in
    omega (arith, f, a, full_parts rest p)

name_front : (s rest : List SegmentModel) (us : List TokenModel) (p : List (List ℕ)) (n : List ℕ) (ns : List (List ℕ))
    → s ≡ plain us ∷ rest → p ≡ n ∷ ns → front_cost s p ≡ (length us + 1) * (length n + 1)
name_front s rest us p n ns e q =
    ap (λ (l : List SegmentModel). front_cost l p) e ∙ ap (λ (l : List (List ℕ)). front_cost (plain us ∷ rest) l) q

name_straight : (s rest : List SegmentModel) (us : List TokenModel) (p : List (List ℕ)) (n : List ℕ) (ns : List (List ℕ))
    → s ≡ plain us ∷ rest → p ≡ n ∷ ns → straight s p ≡ (length us + 1) * (length n + 1) + straight rest ns
name_straight s rest us p n ns e q =
    ap (λ (l : List SegmentModel). straight l p) e ∙ ap (λ (l : List (List ℕ)). straight (plain us ∷ rest) l) q

name_again : (s rest : List SegmentModel) (us : List TokenModel) (p : List (List ℕ)) (n : List ℕ) (ns : List (List ℕ))
    → s ≡ plain us ∷ rest → p ≡ n ∷ ns → again s p ≡ (length us + 1) * bytes_with_ends ns + again rest ns
name_again s rest us p n ns e q = ap (λ (l : List SegmentModel). again l p) e ∙ ap (λ (l : List (List ℕ)). again (plain us ∷ rest) l) q

-- a segment that fitted its name leaves what the rest of both costs
pub name_cost : (s rest : List SegmentModel) (us : List TokenModel) (p : List (List ℕ)) (n : List ℕ) (ns : List (List ℕ))
    (t t' r all : ℕ) → s ≡ plain us ∷ rest → p ≡ n ∷ ns → t' ≤ t + front_cost s p → t + (straight s p + r) ≤ all
    → t' + (straight rest ns + r) ≤ all
name_cost s rest us p n ns t t' r all e q paid cost = omega (arith, name_front s rest us p n ns e q, name_straight s rest us p n ns e q)

-- what is kept for going back is enough for the rest too
pub name_reserve : (s rest : List SegmentModel) (us : List TokenModel) (p : List (List ℕ)) (n : List ℕ) (ns : List (List ℕ)) (r : ℕ)
    → s ≡ plain us ∷ rest → p ≡ n ∷ ns → again s p ≤ r → again rest ns ≤ r
name_reserve s rest us p n ns r e q within = omega (arith, name_again s rest us p n ns e q)

-- going back to a place leaves what that place costs
pub block_cost : (s b : List SegmentModel) (p q : List (List ℕ)) (n : List ℕ) (ns : List (List ℕ)) (t t' all : ℕ) → q ≡ n ∷ ns
    → t' ≤ t + front_cost s p → t + (straight s p + again b q) ≤ all → t' + (straight b ns + again b ns) ≤ all
block_cost s b p q n ns t t' all e paid cost =
    let a : again b q ≡ again b (n ∷ ns) = ap (λ (l : List (List ℕ)). again b l) e in
    omega (arith, a, front_straight s p, full_parts b ns, full_again b n ns)

-- the last test is paid by what is left
pub end_cost : (s s0 : List SegmentModel) (p p0 : List (List ℕ)) (t t' t0 r : ℕ) → t' ≤ t + front_cost s p
    → t + (straight s p + r) ≤ t0 + full s0 p0 → t' ≤ t0 + full_cost s0 p0
end_cost s s0 p p0 t t' t0 r paid cost = omega (arith, front_straight s p, full_total s0 p0)
