-- Trying a star's cuts from the shortest on, with one place to go back to.
use Rattle.std.proofs.Common.{◌≤◌, ◌+◌, ◌*◌, arith, length, Some, None, Option, ◌≡◌, ◌↔◌, ◌⊎◌, IsTrue, ℕ, true, false, List, [], ◌∷◌, inl}
use Rattle.std.proofs.{Common.{inr, refl, sym, ◌∙◌, subst, ap, ◌++◌}, lemmas.List.append-nil, Math.Nat.mul-le-mul_right}
use Rattle.lc_glob.specs.{Tokens.{TokenModel, star, takes, is_star}, Fits.Fits, Lists.is_empty}
use Rattle.lc_glob.specs.{declared.cursor.Cursor.Cursor, Steps.{FitsAt, cost_at, FrontStepIs, RetryIs}}
use Rattle.lc_glob.proofs.Fitting.{fits_one, fits_one_empty, when_one}
use Rattle.lc_glob.proofs.After.{Later, later_after, after_split, after_join, after_after, after_drop}
use Rattle.lc_glob.specs.declared.cursor.FrontStep.TheVariants as front

-- what comes after a byte that is taken
star_drop : (us : List TokenModel) (u : TokenModel) (x : ℕ) (xs : List ℕ) → is_star u ≡ false → Fits (star ∷ u ∷ us) (x ∷ xs)
    → Fits (star ∷ us) xs
star_drop us u x xs s h = after_drop (Fits (u ∷ us)) (Fits us) (fits_one_empty u us s) (λ y ys f. ((fits_one u us y ys s).0 f).1) x xs h

-- the only token that is a star is the star
pub star_is : (u : TokenModel) → is_star u ≡ true → u ≡ star
star_is star e = refl
star_is _ e = cc

-- a star alone fits any name
star_fits : (tokens : List TokenModel) (name : List ℕ) → tokens ≡ star ∷ [] → Fits tokens name
star_fits tokens name e = subst (λ (l : List TokenModel). Fits l name) (sym e) (name, [], sym (append-nil name), tt)

none_but : (others : List TokenModel) → is_empty others ≡ true → others ≡ []
none_but [] e = refl
none_but (u ∷ us) e = cc

pub first_alone : (tokens others : List TokenModel) (u : TokenModel) (name : List ℕ) → tokens ≡ u ∷ others → is_star u ≡ true
    → is_empty others ≡ true → Fits tokens name
first_alone tokens others u name e s none =
    star_fits tokens name (e ∙ ap (λ (l : List TokenModel). u ∷ l) (none_but others none) ∙ ap (λ (v : TokenModel). v ∷ []) (star_is u s))

pub last_alone : (tokens others : List TokenModel) (u : TokenModel) (name : List ℕ) → tokens ≡ others ++ u ∷ [] → is_star u ≡ true
    → is_empty others ≡ true → Fits tokens name
last_alone tokens others u name e s none =
    first_alone tokens [] u name (e ∙ ap (λ (l : List TokenModel). l ++ u ∷ []) (none_but others none)) s refl

module _ {A : Type 0} (tokens_in : List A → List TokenModel) where
  -- what is still to be tried where the tokens here don't fit
  abbrev pub LaterOf : Option (Cursor A) → Type 0
  LaterOf None = ⊥
  LaterOf (Some b) = Later (Fits (tokens_in b.tokens.now)) b.segment.bytes.now

  -- whatever cut the star is given, the tokens here come at what is left or after it
  abbrev pub Covers : Option (Cursor A) → List TokenModel → List ℕ → Type 0
  Covers None us name = Unit {0}
  Covers (Some b) us name = Fits (star ∷ tokens_in b.tokens.now) b.segment.bytes.now → Fits (star ∷ us) name

  -- how long the name was where the star was tried last
  abbrev pub span : Option (Cursor A) → ℕ → ℕ
  span None n = n
  span (Some b) n = length b.segment.bytes.now

  abbrev pub IsWithin : Option (Cursor A) → ℕ → Type 0
  IsWithin None n = Unit {0}
  IsWithin (Some b) n = length (tokens_in b.tokens.now) ≤ n

  later_fits : (back : Option (Cursor A)) (us : List TokenModel) (name : List ℕ) → Covers back (star ∷ us) name → LaterOf back
      → Fits (star ∷ us) name
  later_fits None us name c l = absurd l
  later_fits (Some b) us name c l = after_after (Fits us) name (c (later_after (Fits (tokens_in b.tokens.now)) b.segment.bytes.now l))

  -- at a star: it becomes the place to go back to
  pub at_star : (H : Type 0) (back : Option (Cursor A)) (tokens us : List TokenModel) (u : TokenModel) (name : List ℕ) → tokens ≡ u ∷ us
      → is_star u ≡ true → Covers back tokens name → H ↔ (Fits tokens name ⊎ LaterOf back) → H ↔ (Fits us name ⊎ Later (Fits us) name)
  at_star H back tokens us u name e s c t =
      let is : tokens ≡ star ∷ us = e ∙ ap (λ (v : TokenModel). v ∷ us) (star_is u s) in
      let t' : H ↔ (Fits (star ∷ us) name ⊎ LaterOf back) = subst (λ (l : List TokenModel). H ↔ (Fits l name ⊎ LaterOf back)) is t in
      let c' : Covers back (star ∷ us) name = subst (λ (l : List TokenModel). Covers back l name) is c in (
        λ h. after_split (Fits us) name (elim (t'.0 h) [ inl f ↦ f | inr l ↦ later_fits back us name c' l ]),
        λ w. t'.1 (inl (after_join (Fits us) name w)),
      )

  -- at a byte that is taken
  pub at_byte : (H : Type 0) (back : Option (Cursor A)) (tokens us : List TokenModel) (u : TokenModel) (name : List ℕ) (x : ℕ) (xs : List ℕ)
      → tokens ≡ u ∷ us → name ≡ x ∷ xs → is_star u ≡ false → IsTrue (takes u x) → H ↔ (Fits tokens name ⊎ LaterOf back)
      → H ↔ (Fits us xs ⊎ LaterOf back)
  at_byte H back tokens us u name x xs e n s k t =
      let one = when_one tokens us u name x xs e n s in (
        λ h. elim (t.0 h) [ inl f ↦ inl (one.0 f).1 | inr l ↦ inr l ],
        λ w. t.1 (elim w [ inl f ↦ inl (one.1 (k, f)) | inr l ↦ inr l ]),
      )

  -- a byte that its token takes leaves tokens and name that fit where they did
  pub covers_byte : (back : Option (Cursor A)) (tokens us : List TokenModel) (u : TokenModel) (name : List ℕ) (x : ℕ) (xs : List ℕ)
      → tokens ≡ u ∷ us → name ≡ x ∷ xs → is_star u ≡ false → Covers back tokens name → Covers back us xs
  covers_byte None tokens us u name x xs e n s c = tt
  covers_byte (Some b) tokens us u name x xs e n s c =
      λ f. star_drop us u x xs s (subst (λ (l : List ℕ). Fits (star ∷ u ∷ us) l) n
      (subst (λ (l : List TokenModel). Fits (star ∷ l) name) e (c f)))

-- where the tokens here don't fit
pub at_back : (T : Type 0) (us ts : List TokenModel) (b : List ℕ) (name : List ℕ) (x : ℕ) (H : Type 0) → name ≡ x ∷ b → ts ≡ us
    → (H → ⊥) → T ↔ (H ⊎ Later (Fits us) name) → T ↔ (Fits ts b ⊎ Later (Fits ts) b)
at_back T us ts b name x H n e never t =
    let t' : T ↔ (H ⊎ Fits (star ∷ us) b) = subst (λ (l : List ℕ). T ↔ (H ⊎ Later (Fits us) l)) n t in
    subst (λ (l : List TokenModel). T ↔ (Fits l b ⊎ Later (Fits l) b)) (sym e) (
      λ h. after_split (Fits us) b (elim (t'.0 h) [ inl f ↦ absurd (never f) | inr l ↦ l ]),
      λ w. t'.1 (inr (after_join (Fits us) b w)),
    )

-- what is left is shorter by the token
pub shorter : (here rest : List TokenModel) (u : TokenModel) → here ≡ u ∷ rest → length here ≡ length rest + 1
shorter here rest u e = let l = ap length e in omega (arith, l)

-- what was paid and what may still be paid, where the tokens get fewer or the name that a star is tried at shorter
pub paid_forward : (a b p h g t s all : ℕ) → a ≤ b → h + 1 ≤ g → s ≤ t + 1 → t + (b * (p + 1) + g) ≤ all → s + (a * (p + 1) + h) ≤ all
paid_forward a b p h g t s all ab hg st paid = omega (arith, mul-le-mul_right (p + 1) ab)

-- going back costs no more than what is left for the place
pub paid_back : (a b p h g t s all : ℕ) → a + 1 ≡ b → h ≤ p → s ≤ t + 1 → t + (b * (p + 1) + g) ≤ all → s + (a * (p + 1) + h) ≤ all
paid_back a b p h g t s all ab hp st paid =
    let e : b * (p + 1) ≡ (a + 1) * (p + 1) = ap (λ (n : ℕ). n * (p + 1)) (sym ab) in
    omega (arith, e)

module _ {A : Type 0} (tokens_in : List A → List TokenModel) where
  -- what holds between two steps from the front: the tokens here fit, or those after the star do later, just where the tokens of the
  -- whole fit; and the tests that were made, with those that may still be, are no more than were allowed
  abbrev pub StepsHold : Cursor A → Cursor A → Option (Cursor A) → ℕ → ℕ → Type 0
  StepsHold all here back made before = record {
    same : FitsAt tokens_in all ↔ (FitsAt tokens_in here ⊎ LaterOf tokens_in back);
    covers : Covers tokens_in back (tokens_in here.tokens.now) here.segment.bytes.now;
    here_within : length (tokens_in here.tokens.now) ≤ length (tokens_in all.tokens.now);
    star_within : IsWithin tokens_in back (length (tokens_in all.tokens.now));
    left_within : length here.segment.bytes.now ≤ span tokens_in back (length all.segment.bytes.now);
    cost : made + (span tokens_in back (length all.segment.bytes.now) * (length (tokens_in all.tokens.now) + 1)
        + length (tokens_in here.tokens.now)) ≤ before + cost_at tokens_in all;
  }

  -- after a star, which becomes the place to go back to
  pub hold_after_star : (all here next : Cursor A) (back : Option (Cursor A)) (m made before : ℕ)
      → FrontStepIs tokens_in (front.Star next.tokens) (tokens_in here.tokens.now) here.segment.bytes.now → next.segment ≡ here.segment
      → made ≤ m + 1 → StepsHold all here back m before → StepsHold all next (Some next) made before
  hold_after_star all here next back m made before is e paid inv =
      let len = shorter _ _ _ is.1 in
      let segment_len = ap (λ s. length s.bytes.now) e in
      record {
        same = subst (λ s. FitsAt tokens_in all
            ↔ (Fits (tokens_in next.tokens.now) s.bytes.now ⊎ Later (Fits (tokens_in next.tokens.now)) s.bytes.now)) (sym e)
            (at_star tokens_in _ _ _ _ _ _ is.1 is.2 inv.covers inv.same);
        covers = λ f. f;
        here_within = omega (arith, len, inv.here_within);
        star_within = omega (arith, len, inv.here_within);
        left_within = omega arith;
        cost = paid_forward _ _ _ _ _ _ _ _ (omega (arith, inv.left_within, segment_len)) (omega (arith, len)) paid inv.cost;
      }

  -- after a byte that is taken
  pub hold_after_byte : (all here next : Cursor A) (back : Option (Cursor A)) (m made before : ℕ)
      → FrontStepIs tokens_in (front.Taken next) (tokens_in here.tokens.now) here.segment.bytes.now
      → made ≤ m + 1 → StepsHold all here back m before → StepsHold all next back made before
  hold_after_byte all here next back m made before is paid inv =
      let len = shorter _ _ _ is.2 in
      let left_len = ap length is.3 in
      record {
        same = at_byte tokens_in _ _ _ _ _ _ _ _ is.2 is.3 is.4 is.5 inv.same;
        covers = covers_byte tokens_in _ _ _ _ _ _ _ is.2 is.3 is.4 inv.covers;
        here_within = omega (arith, len, inv.here_within);
        star_within = inv.star_within;
        left_within = omega (arith, left_len, inv.left_within);
        cost = paid_forward _ _ _ _ _ _ _ _ (omega arith) (omega (arith, len)) paid inv.cost;
      }

  -- after the way back
  pub hold_after_retry : (all here back next : Cursor A) (m made before : ℕ)
      → (Fits (tokens_in here.tokens.now) here.segment.bytes.now → ⊥) → RetryIs back (Some next)
      → made ≤ m + 1 → StepsHold all here (Some back) m before → StepsHold all next (Some next) made before
  hold_after_retry all here back next m made before never is paid inv =
      let len = ap length is.1 in
      let tokens_len = ap (λ t. length (tokens_in t.now)) is.2 in
      record {
        same = at_back _ _ _ _ _ _ _ is.1 (ap (λ t. tokens_in t.now) is.2) never inv.same;
        covers = λ f. f;
        here_within = omega (arith, inv.star_within, tokens_len);
        star_within = omega (arith, inv.star_within, tokens_len);
        left_within = omega arith;
        cost = paid_back _ _ _ _ _ _ _ _ (omega (arith, len)) (omega (arith, inv.star_within, tokens_len)) paid inv.cost;
      }
