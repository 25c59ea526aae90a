-- TakesStep on words are counted: over two calls they add up.
use Rattle.std.proofs.Common.{◌≡◌, ◌≢◌, ℕ, ◌+◌, ◌<◌, ◌≤◌, ◌==◌, ⊎_elim, cond, [], ◌∷◌, ◌++◌, refl, ap, sym, ◌∙◌, subst, arith}
use Rattle.std.proofs.{Common.append_assoc, lemmas.{List.Sums.sum_by-append, Bool.Decides.nat_tests}}
use mathlib.Core.Logic.{dite}
use native.Mathlib.Decide.{ℕ_discrete, dec_le}
use Rattle.std.specs.Prelude.{count_by}
use Rattle.lc_board.specs.{State.status, Growth.{IsTaken, rank}, WordSteps.{TakesStep, Extends, larger}, declared.words.view.View.View}
use Rattle.lc_board.specs.WordBounds.{TakesSteps, StepsOn, MeetsOpen, IsVisited, TriesNewest}
use Rattle.lc_board.proofs.Growths.{goes_trans, rank_from}

one_at : (i k : ℕ) → (count_by (λ x. x == k) (i ∷ []) ≤ 1) × (k ≢ i → count_by (λ x. x == k) (i ∷ []) ≡ 0)
one_at i k = (grind (arith, nat_tests), λ ne. grind (arith, nat_tests))

-- a claim goes up
pub goes_up : (i taken : ℕ) (busy : _) → i < cond busy (larger (i + 1) taken) (i + 1)
goes_up i taken busy = grind (arith, nat_tests)

-- the steps of a post before it tries the number i
abbrev pub PostsTo : ℕ → ℕ → ℕ → Type 0
PostsTo i k n = (n ≤ 2) × (i ≤ k → n ≡ 0)

module _ {J R : Type 0} where
  -- the steps of two calls
  takes_both : (P Q S : ℕ → ℕ → Type 0) (v u w : View J R) → TakesSteps P v u → TakesSteps Q u w
      → ((k a b : ℕ) → P k a → Q k b → S k (b + a)) → TakesSteps S v w
  takes_both P Q S v u w x y both = (
    y.0 ++ x.0,
    y.1 ∙ (ap (λ z. y.0 ++ z) x.1 ∙ sym (append_assoc y.0 x.0 v.steps)),
    λ k. subst (λ n. S k n) (sym (sum_by-append (λ i. cond (i == k) 1 0) y.0 x.0))
        (both k (count_by (λ i. i == k) x.0) (count_by (λ i. i == k) y.0) (x.2 k) (y.2 k)),
  )

  -- the same steps, of which less is said
  pub takes_less : (P S : ℕ → ℕ → Type 0) (v w : View J R) → TakesSteps P v w → ((k n : ℕ) → P k n → S k n) → TakesSteps S v w
  takes_less P S v w x less = (x.0, x.1, λ k. less k (count_by (λ i. i == k) x.0) (x.2 k))

  pub takes_none : (P : ℕ → ℕ → Type 0) (v w : View J R) → w.steps ≡ v.steps → ((k : ℕ) → P k 0) → TakesSteps P v w
  takes_none P v w same none = ([], same, none)

  -- one step
  pub takes_one : (i : ℕ) (v w : View J R) → TakesStep i v w → StepsOn 1 i v w
  takes_one i v w is = (i ∷ [], is, one_at i)

  -- of which less is said
  pub step_more : (i : ℕ) (v w : View J R) → TakesStep i v w → StepsOn 2 i v w
  step_more i v w is = takes_less (λ k n. (n ≤ 1) × (k ≢ i → n ≡ 0)) (λ k n. (n ≤ 2) × (k ≢ i → n ≡ 0)) v w (takes_one i v w is)
      (λ k n p. (omega (arith, p.0), p.1))

  -- more steps on the same word
  pub steps_both : (m n i : ℕ) (v u w : View J R) → StepsOn m i v u → StepsOn n i u w → StepsOn (n + m) i v w
  steps_both m n i v u w x y =
      takes_both (λ k c. (c ≤ m) × (k ≢ i → c ≡ 0)) (λ k c. (c ≤ n) × (k ≢ i → c ≡ 0)) (λ k c. (c ≤ n + m) × (k ≢ i → c ≡ 0)) v u w x y
      (λ k a b p q. (omega (arith, p.0, q.0), λ ne. omega (arith, p.1 ne, q.1 ne)))

  -- the steps of a visit of the number i
  abbrev pub Visits : ℕ → ℕ → View J R → ℕ → ℕ → Type 0
  Visits cap i v k n = IsVisited cap v k n × (k ≢ i → n ≡ 0)

  -- the steps of a claim that goes up, before it visits the number i
  abbrev pub ScansTo : ℕ → ℕ → View J R → ℕ → ℕ → Type 0
  ScansTo cap i v k n = IsVisited cap v k n × (i ≤ k → n ≡ 0)

  -- a visit takes one step on a number that is not open
  pub visits_once : (cap i : ℕ) (v w : View J R) → TakesStep i v w → TakesSteps (Visits cap i v) v w
  visits_once cap i v w is = takes_less (λ k n. (n ≤ 1) × (k ≢ i → n ≡ 0)) (Visits cap i v) v w (takes_one i v w is)
      (λ k n p. ((omega (arith, p.0), λ two. absurd (omega (arith, p.0, two))), p.1))

  -- and two on one that it finds open
  pub visits_twice : (cap i : ℕ) (v u w : View J R) → TakesStep i v u → TakesStep i u w → MeetsOpen cap v i
      → TakesSteps (Visits cap i v) v w
  visits_twice cap i v u w a b met = takes_less (λ k n. (n ≤ 2) × (k ≢ i → n ≡ 0)) (Visits cap i v) v w
      (steps_both 1 1 i v u w (takes_one i v u a) (takes_one i u w b))
      (λ k n p. (
        (
          p.0,
          λ two. dite (ℕ_discrete k i) (λ is. subst (λ z. MeetsOpen cap v z) (sym is) met)
              (λ ne. absurd (omega (arith, p.1 ne, two))),
        ),
        p.1,
      ))

  -- a claim visits the number i, and goes up
  pub scans_next : (cap i next : ℕ) (v u w : View J R) → i < next → Extends v u → TakesSteps (ScansTo cap i v) v u
      → TakesSteps (Visits cap i u) u w → TakesSteps (ScansTo cap next v) v w
  scans_next cap i next v u w up s x y = takes_both (ScansTo cap i v) (Visits cap i u) (ScansTo cap next v) v u w x y
      (λ k a b p q. dite (ℕ_discrete k i)
      (λ is. let none = p.1 (omega arith) in let few = q.0.0 in (
        (omega arith, λ two. let m = q.0.1 (omega arith) in (m.0, m.1, m.2, goes_trans m.1 u.seen v.seen m.3 s.0, m.4)),
        λ far. absurd (omega arith),
      ))
      (λ ne. let none = q.1 ne in let few = p.0.0 in (
        (omega arith, λ two. p.0.1 (omega arith)),
        λ far. let z = p.1 (omega arith) in omega arith,
      )))

  -- a claim visits the number i, and ends
  pub scan_ends : (cap i : ℕ) (v u w : View J R) → Extends v u → TakesSteps (ScansTo cap i v) v u → TakesSteps (Visits cap i u) u w
      → TakesSteps (IsVisited cap v) v w
  scan_ends cap i v u w s x y =
      takes_less (ScansTo cap (i + 1) v) (IsVisited cap v) v w (scans_next cap i (i + 1) v u w (omega arith) s x y) (λ k n p. p.0)

  -- a claim tries the newest number, and then goes up: it does not find that number open
  pub claim_steps : (cap : ℕ) (v u w : View J R) → TriesNewest v u → TakesSteps (IsVisited cap u) u w → TakesSteps (λ k n. n ≤ 2) v w
  claim_steps cap v u w first up = ⊎_elim
      (λ (same : u.steps ≡ v.steps). takes_both (λ k n. n ≡ 0) (IsVisited cap u) (λ k n. n ≤ 2) v u w
      (takes_none (λ k n. n ≡ 0) v u same (λ k. refl)) up (λ k a b p q. omega (arith, p, q.0)))
      (λ (x : (i : ℕ) × TakesStep i v u × IsTaken (status u.seen i)).
      takes_both (λ k n. (n ≤ 1) × (k ≢ x.0 → n ≡ 0)) (IsVisited cap u) (λ k n. n ≤ 2) v u w (takes_one x.0 v u x.1) up
      (λ k a b p q. dite (dec_le 2 b)
      (λ two. let m = q.1 two in let g = rank_from cap m.0 m.1 u.seen m.2 m.3 k in let open_there = ap rank m.4 in
      let ne : k ≢ x.0 = (λ is. let taken = subst (λ z. 2 ≤ rank (status u.seen z)) (sym is) x.2 in absurd (omega arith)) in
      omega (arith, p.1 ne, q.0))
      (λ few. omega (arith, p.0, few)))) first

  -- a claim of the newest number
  pub newest_steps : (v w : View J R) → TriesNewest v w → TakesSteps (λ k n. n ≤ 2) v w
  newest_steps v w first = claim_steps 0 v w w first
      (takes_none (IsVisited 0 w) w w refl (λ k. (omega arith, λ two. absurd (omega arith))))

  -- a post that does not draw the number at its front
  pub posts_next : (i next : ℕ) (v u w : View J R) → next ≡ i + 1 → TakesSteps (PostsTo i) v u → StepsOn 2 i u w
      → TakesSteps (PostsTo next) v w
  posts_next i next v u w is x y = takes_both (PostsTo i) (λ k n. (n ≤ 2) × (k ≢ i → n ≡ 0)) (PostsTo next) v u w x y
      (λ k a b p q. dite (ℕ_discrete k i)
      (λ e. let none = p.1 (omega arith) in (omega (arith, q.0), λ far. absurd (omega arith)))
      (λ ne. let none = q.1 ne in (omega (arith, p.0), λ far. omega (arith, p.1 (omega arith)))))

  -- a post that draws it
  pub posts_last : (i n : ℕ) (v u w : View J R) → n ≡ i → TakesSteps (PostsTo i) v u → StepsOn 3 i u w
      → TakesSteps (λ k c. c ≤ cond (k == n) 3 2) v w
  posts_last i n v u w is x y = takes_both (PostsTo i) (λ k c. (c ≤ 3) × (k ≢ i → c ≡ 0)) (λ k c. c ≤ cond (k == n) 3 2) v u w x y
      (λ k a b p q. dite (ℕ_discrete k i)
      (λ e. let none = p.1 (omega arith) in let most = q.0 in grind (arith, nat_tests))
      (λ ne. let none = q.1 ne in let most = p.0 in grind (arith, nat_tests)))
