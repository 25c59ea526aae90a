-- The numbers that a walk of a history's tree reaches: each once.
use Rattle.std.proofs.{lemmas.{Grind.common_steps, Bool.{eqb-true, cases_lt}}, Common.{◌≡◌, ◌≢◌, ℕ, zero, suc, ◌+◌, ◌<◌, ◌≤◌, List, []}}
use Rattle.std.proofs.Common.{◌∷◌, ◌++◌, refl, sym, ◌∙◌, ap, arith, ◌⊎◌}
use Rattle.std.specs.List.{flat_map}
use Rattle.lc_board.specs.{State.{Absent, status}, LegalHistory.{posts_under, IsLegal}, Numbers.HasNumbers, declared.event.Event.Event}
use Rattle.lc_walk.specs.TreeOfRows.{numbers_below}
use Rattle.lc_board.proofs.Weights.{weigh, weigh-append, weigh-sum, weigh-flat_map, weigh-on, each-map, only, only_same, times}
use Rattle.lc_board.proofs.PostedNumbers.{numbers, all_present, within, below, counted_twice, Known, known, start, once, not_among}

-- from i, at most so many levels deep
abbrev pub reach : {J R : Type 0} → List (Event J R) → ℕ → ℕ → List ℕ
reach h zero i = []
reach h (suc depth) i = i ∷ flat_map (λ post. reach h depth post.0) (posts_under i h)

module _ {J R : Type 0} (c n : ℕ) (top : J) (h : List (Event J R)) (room : 1 ≤ c) (legal : IsLegal c n h) (g : ℕ → ℕ) where
  abbrev weight : ℕ → ℕ → ℕ
  weight k i = weigh g (reach h k i)

  weight_is : (k i : ℕ) → weight (suc k) i ≡ g i + below (weight k) h i
  weight_is k i = ap (λ m. g i + m) (weigh-flat_map g (λ post. reach h k post.0) (posts_under i h))

  -- a walk as deep as the numbers go reaches the same at any greater depth
  enough : (k m i : ℕ) → status h i ≢ Absent → c ≤ k + i → c ≤ m + i → weight k i ≡ weight m i
  enough zero m i a x y = let f = within c n h legal room i a in absurd (omega arith)
  enough (suc k) zero i a x y = let f = within c n h legal room i a in absurd (omega arith)
  enough (suc k) (suc m) i a x y =
      let same : below (weight k) h i ≡ below (weight m) h i =
      weigh-on (λ post. weight k post.0) (λ post. weight m post.0) (posts_under i h)
      (each-map (Known c top h i) (λ post. weight k post.0 ≡ weight m post.0)
      (λ post d. let up : i < post.0 = d.above in enough k m post.0 d.there (omega arith) (omega arith)) (posts_under i h)
      (known c n top h legal i)) in
      weight_is k i ∙ ap (λ x. g i + x) same ∙ sym (weight_is m i)

  -- what is summed over the numbers that are reached is what is summed over all
  pub reach_weight : (k : ℕ) → c ≤ k → weight k 0 ≡ weigh g (numbers h)
  reach_weight k deep =
      let twice = counted_twice c n h legal (weight c) in
      let each_is : weigh (weight c) (numbers h) ≡ weigh (λ i. g i + below (weight c) h i) (numbers h) =
      weigh-on (weight c) (λ i. g i + below (weight c) h i) (numbers h)
      (each-map (λ i. status h i ≢ Absent) (λ i. weight c i ≡ g i + below (weight c) h i)
      (λ i a. enough c (suc c) i a (omega arith) (omega arith) ∙ weight_is c i) (numbers h) (all_present h)) in
      let parts : weigh (λ i. g i + below (weight c) h i) (numbers h) ≡ weigh g (numbers h) + weigh (below (weight c) h) (numbers h) =
      weigh-sum (λ i. g i + below (weight c) h i) g (below (weight c) h) (λ i. refl) (numbers h) in
      let first : weight k 0 ≡ weight c 0 = enough k c 0 (start h) (omega arith) (omega arith) in
      omega arith

-- ---- the numbers are those below n

-- a number from the bound on is not below it
pub times_past : (p n : ℕ) → n ≤ p → times p (numbers_below n) ≡ 0
times_past p zero l = refl
times_past p (suc n) l = grind (arith, common_steps, weigh-append, only, eqb-true, times_past p n (omega arith))

below_or_last : (p n : ℕ) → p < suc n → (p < n → times p (numbers_below n) ≡ 1) → (p < n) ⊎ (n ≤ p)
    → times p (numbers_below n ++ n ∷ []) ≡ 1
below_or_last p n l rec either = grind (arith, common_steps, weigh-append, only, eqb-true, times_past, only_same)

-- a number below the bound is so once
pub times_below : (p n : ℕ) → p < n → times p (numbers_below n) ≡ 1
times_below p zero l = absurd (omega arith)
times_below p (suc n) l = below_or_last p n l (times_below p n) (cases_lt p n)

module _ {J R : Type 0} (c n : ℕ) (h : List (Event J R)) (legal : IsLegal c n h) (m : ℕ) (has : HasNumbers m h) where
  -- the numbers of the history are those below the count
  pub all_numbers : (p : ℕ) → times p (numbers h) ≡ times p (numbers_below m)
  all_numbers p = grind (arith, common_steps, cases_lt, times, numbers, once, times_below, not_among, times_past)

-- each number below m is reached once, and no other
pub reach_times : {J R : Type 0} (c n : ℕ) (top : J) (h : List (Event J R)) → 1 ≤ c → IsLegal c n h → (m : ℕ) → HasNumbers m h →
    (depth : ℕ) → c ≤ depth → (p : ℕ) → times p (reach h depth 0) ≡ times p (numbers_below m)
reach_times c n top h room legal m has depth deep p = grind (arith, common_steps, reach_weight, only, all_numbers)
