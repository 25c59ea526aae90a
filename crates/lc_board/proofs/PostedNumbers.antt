-- The numbers of a legal history, and what is posted under them.
use Rattle.std.proofs.lemmas.Grind.{common_steps}
use Rattle.std.proofs.Common.{◌≡◌, ◌≢◌, ℕ, ◌+◌, ◌<◌, ◌≤◌, ◌==◌, Bool, true, false, cond, List, [], ◌∷◌, ◌++◌, Option, Some, refl, sym, ◌∙◌}
use Rattle.std.proofs.{Common.{ap, arith, eq-eqb}, lemmas.Bool.{eqb-true, ne_eqb}}
use Rattle.std.specs.List.{AllByRecursion}
use Rattle.lc_board.specs.{State.{Status, Absent, Open, Claimed, Returned, Faulted, status}, LegalHistory.{posts_under, IsLegal}}
use Rattle.lc_board.specs.{RowsInPlace.job_posted, declared.event.Event.{Event, TheVariants.{Post, Claim, Return, Fault, Over}}}
use Rattle.lc_board.proofs.Weights.{weigh, weigh-append, weigh-sum, each-append, each-map, only, turned}

-- the numbers of the state
abbrev pub numbers : {J R : Type 0} → List (Event J R) → List ℕ
numbers [] = 0 ∷ []
numbers (Post w p i j ∷ h) = i ∷ numbers h
numbers (_ ∷ h) = numbers h

-- a number that is absent after an event is another than the event's, and was absent before
fresh : (b : Bool) (s t : Status) → s ≢ Absent → cond b s t ≡ Absent → (b ≡ false) × (t ≡ Absent)
fresh b s t h1 h2 = grind (arith, common_steps)

-- what was present when the event came
pub present : (b : Bool) (s t : Status) → cond b s t ≢ Absent → (b ≡ true → t ≢ Absent) → t ≢ Absent
present b s t h1 h2 = grind (arith, common_steps)

skip : {A : Type 0} (b : Bool) (xs ys : List A) → (b ≡ true → ⊥) → ys ≡ [] → cond b xs ys ≡ []
skip b xs ys h1 h2 = grind (arith, common_steps)

zero_at : (b : Bool) (v n : ℕ) → b ≡ false → n ≡ 0 → cond b v 0 + n ≡ 0
zero_at b v n h1 h2 = grind (arith, common_steps)

one_at : (b : Bool) (s : Status) (v n : ℕ) → cond b Open s ≢ Absent → (b ≡ true → n ≡ 0) → (s ≢ Absent → n ≡ v) → cond b v 0 + n ≡ v
one_at b s v n h1 h2 h3 = grind (arith, common_steps)

one_more : {J : Type 0} (b : Bool) (f : ℕ → ℕ) (xs : List (ℕ × J)) (i : ℕ) (j : J) →
    weigh (λ c. f c.0) (cond b (xs ++ (i, j) ∷ []) xs) ≡ weigh (λ c. f c.0) xs + cond b (f i) 0
one_more b f xs i j = grind (arith, common_steps, weigh-append)

pass_by : {A : Type 0} (b : Bool) (x y z : Option A) → b ≡ false → y ≡ z → cond b x y ≡ z
pass_by b x y z h1 h2 = grind (arith, common_steps)

here : {A : Type 0} (b : Bool) (x y : Option A) → b ≡ true → cond b x y ≡ x
here b x y h1 = grind (arith, common_steps)

each_cond : {A : Type 0} (P : A → Type 0) (b : Bool) (xs : List A) (x : A) → AllByRecursion P xs → (b ≡ true → P x)
    → AllByRecursion P (cond b (xs ++ x ∷ []) xs)
each_cond P b xs x h1 h2 = grind (arith, common_steps, each-append)

open_here : (b : Bool) (s : Status) → b ≡ true → cond b Open s ≢ Absent
open_here b s h1 = grind (arith, common_steps)

-- a number that is there at the start is 0
pub start_is : (b : Bool) → cond b Open Absent ≢ Absent → b ≡ true
start_is b h1 = grind (arith, common_steps)

split_open : {P : Type 0} (b : Bool) (s : Status) → cond b Open s ≢ Absent → (b ≡ true → P) → (s ≢ Absent → P) → P
split_open b s h1 h2 h3 = grind (arith, common_steps)

module _ {J R : Type 0} where
  -- a number that is absent after an event was so before it
  pub persist : (e : Event J R) (h : List (Event J R)) (k : ℕ) → status (e ∷ h) k ≡ Absent → status h k ≡ Absent
  persist e h k h1 = grind (arith, common_steps, fresh)

  -- 0 is always there
  pub start : (h : List (Event J R)) → status h 0 ≢ Absent
  start [] a = cc
  start (e ∷ h) a = start h (persist e h 0 a)

  -- a number named by the second number of an event has the status that the event found there
  found : (h : List (Event J R)) (k i : ℕ) (s : Status) → s ≢ Absent → status h i ≡ s → (k == i) ≡ true → status h k ≢ Absent
  found h k i s n is t a = n (sym is ∙ sym (ap (λ y. status h y) (eqb-true k i t)) ∙ a)

  -- what is present after an event that posts nothing was present before
  pub was_there : (c n : ℕ) (h : List (Event J R)) (e : Event J R) → IsLegal c n (e ∷ h) → (k : ℕ) → status (e ∷ h) k ≢ Absent →
      numbers (e ∷ h) ≡ numbers h → status h k ≢ Absent
  was_there c n h (Post w q i j) l k a same = absurd (longer i (numbers h) same)
    where
      longer : (x : ℕ) (xs : List ℕ) → x ∷ xs ≡ xs → ⊥
      longer x [] e = cc
      longer x (y ∷ ys) e = longer y ys (tail e)
        where
          tail : x ∷ y ∷ ys ≡ y ∷ ys → y ∷ ys ≡ ys
          tail e = cc
  was_there c n h (Claim w i j) l k a same = present (k == i) (Claimed w) (status h k) a (λ t. found h k i Open (λ x. cc) l.2.0 t)
  was_there c n h (Return w i r) l k a same = present (k == i) Returned (status h k) a (λ t. found h k i (Claimed w) (λ x. cc) l.2 t)
  was_there c n h (Fault w i r) l k a same = present (k == i) Faulted (status h k) a (λ t. found h k i (Claimed w) (λ x. cc) l.2.0 t)
  was_there c n h (Over w) l k a same = a

  -- nothing was posted under a number that is absent
  pub none_under : (c n : ℕ) (h : List (Event J R)) → IsLegal c n h → (p : ℕ) → status h p ≡ Absent → posts_under p h ≡ []
  none_under c n [] l p a = refl
  none_under c n (Post w q i j ∷ h) l p a =
      let before = persist (Post w q i j) h p a in
      skip (p == q) (posts_under p h ++ (i, j) ∷ []) (posts_under p h)
      (λ t. found h p q (Claimed w) (λ x. cc) l.2.0 t before)
      (none_under c n h l.0 p before)
  none_under c n (e ∷ h) l p a = none_under c n h l.0 p (persist e h p a)

  -- an absent number is not among the numbers
  pub not_among : (h : List (Event J R)) (p v : ℕ) → status h p ≡ Absent → weigh (only p v) (numbers h) ≡ 0
  not_among [] p v a = zero_at (p == 0) v 0 (fresh (p == 0) Open Absent (λ x. cc) a).0 refl
  not_among (Post w q i j ∷ h) p v a =
      let f = fresh (p == i) Open (status h p) (λ x. cc) a in
      zero_at (p == i) v (weigh (only p v) (numbers h)) f.0 (not_among h p v f.1)
  not_among (e ∷ h) p v a = not_among h p v (persist e h p a)

  -- a number that is not absent stands once among the numbers
  pub once : (c n : ℕ) (h : List (Event J R)) → IsLegal c n h → (p v : ℕ) → status h p ≢ Absent → weigh (only p v) (numbers h) ≡ v
  once c n [] l p v a = one_at (p == 0) Absent v 0 a (λ _. refl) (λ n. absurd (n refl))
  once c n (Post w q i j ∷ h) l p v a =
      one_at (p == i) (status h p) v (weigh (only p v) (numbers h)) a
      (λ t. not_among h p v (ap (λ x. status h x) (eqb-true p i t) ∙ l.2.1))
      (once c n h l.0 p v)
  once c n (e ∷ h) l p v a = once c n h l.0 p v (was_there c n h e l p a refl)

  -- the numbers are present
  pub all_present : (h : List (Event J R)) → AllByRecursion (λ k. status h k ≢ Absent) (numbers h)
  all_present [] = (λ a. cc, tt)
  all_present (Post w q i j ∷ h) = grind (arith, common_steps, open_here, eq-eqb, each-map, persist, all_present h)
  all_present (e ∷ h) = each-map (λ k. status h k ≢ Absent) _ (λ k n a. n (persist e h k a)) (numbers h) (all_present h)

  -- a number that is present is below the capacity
  pub within : (c n : ℕ) (h : List (Event J R)) → IsLegal c n h → 1 ≤ c → (k : ℕ) → status h k ≢ Absent → k < c
  within c n [] l z k a = let e = eqb-true k 0 (start_is (k == 0) a) in omega arith
  within c n (Post w q i j ∷ h) l z k a =
      let fits : i < c = l.2.2 in
      split_open (k == i) (status h k) a (λ t. let e = eqb-true k i t in omega arith) (within c n h l.0 z k)
  within c n (e ∷ h) l z k a = within c n h l.0 z k (was_there c n h e l k a refl)

  -- the weight of the numbers posted under x
  abbrev pub below : (ℕ → ℕ) → List (Event J R) → ℕ → ℕ
  below f h x = weigh (λ c. f c.0) (posts_under x h)

  unclaimed : (c n : ℕ) (h : List (Event J R)) (w q i : ℕ) (j : J) → IsLegal c n (Post w q i j ∷ h) → posts_under i (Post w q i j ∷ h) ≡ []
  unclaimed c n h w q i j l =
      let low : q < i = l.2.3 in
      skip (i == q) (posts_under i h ++ (i, j) ∷ []) (posts_under i h)
      (λ t. let same = eqb-true i q t in absurd (omega arith))
      (none_under c n h l.0 i l.2.1)

  -- the double count: the numbers weigh what 0 weighs and what is posted under the numbers
  pub counted_twice : (c n : ℕ) (h : List (Event J R)) → IsLegal c n h → (f : ℕ → ℕ) →
      weigh f (numbers h) ≡ f 0 + weigh (below f h) (numbers h)
  counted_twice c n [] l f = refl
  counted_twice c n (Post w q i j ∷ h) l f =
      let own : below f (Post w q i j ∷ h) i ≡ 0 = ap (weigh (λ c. f c.0)) (unclaimed c n h w q i j l) in
      let rest : weigh (below f (Post w q i j ∷ h)) (numbers h) ≡ weigh (below f h) (numbers h) + weigh (only q (f i)) (numbers h) =
      weigh-sum (below f (Post w q i j ∷ h)) (below f h) (only q (f i))
      (λ x. one_more (x == q) f (posts_under x h) i j ∙ ap (λ b. below f h x + cond b (f i) 0) (turned x q)) (numbers h) in
      let here : weigh (only q (f i)) (numbers h) ≡ f i = once c n h l.0 q (f i) (λ a. let was = l.2.0 in cc) in
      omega (arith, counted_twice c n h l.0 f)
  counted_twice c n (_ ∷ h) l f = counted_twice c n h l.0 f

  -- ---- what is known of a post

  pub record Known (c : ℕ) (top : J) (h : List (Event J R)) (p : ℕ) (post : ℕ × J) : Type 0 where
    pub value : job_posted top h post.0 ≡ Some post.1
    pub there : status h post.0 ≢ Absent
    pub above : p < post.0
    pub inside : post.0 < c

  known_more : (c : ℕ) (top : J) (h : List (Event J R)) (w q i : ℕ) (j : J) (p : ℕ) (post : ℕ × J) →
      status h i ≡ Absent → Known c top h p post → Known c top (Post w q i j ∷ h) p post
  known_more c top h w q i j p post h1 h2 = grind (arith, common_steps, pass_by, ne_eqb, persist)

  -- what is known of each post under a number
  pub known : (c n : ℕ) (top : J) (h : List (Event J R)) → IsLegal c n h → (p : ℕ) → AllByRecursion (Known c top h p) (posts_under p h)
  known c n top [] l p = tt
  known c n top (Post w q i j ∷ h) l p =
      grind (arith, common_steps, each_cond, each-map, known_more, eqb-true, here, eq-eqb, open_here, persist, known c n top h l.0 p)
  known c n top (e ∷ h) l p =
      grind (arith, common_steps, each_cond, each-map, known_more, eqb-true, here, eq-eqb, open_here, persist, known c n top h l.0 p)

  -- the job of the top is that of number 0
  pub top_posted : (c n : ℕ) (top : J) (h : List (Event J R)) → IsLegal c n h → job_posted top h 0 ≡ Some top
  top_posted c n top [] l = refl
  top_posted c n top (Post w q i j ∷ h) l = grind (arith, common_steps, pass_by, ne_eqb, start, top_posted c n top h l.0)
  top_posted c n top (_ ∷ h) l = top_posted c n top h l.0
