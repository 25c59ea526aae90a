-- What the flags of names tell after one segment of a pattern more.
use Rattle.std.proofs.Common.{◌≡◌, ◌≢◌, ◌↔◌, ◌≤◌, ◌<◌, ◌+◌, ◌*◌, IsTrue, ℕ, zero, suc, Bool, false, true, List, [], ◌∷◌, ◌++◌, length}
use Rattle.std.proofs.Common.{map, take, drop, get_or, replicate, refl, sym, ◌∙◌, ap, subst, arith, append_assoc, take-take, ⊎_elim, set}
use Rattle.std.proofs.Math.Seq.{take-suc, take-append_seam}
use Rattle.std.proofs.lemmas.List.{append-nil, take-append-drop, length-append, length-take-le, map-append, length-map, get_or-replicate}
use Rattle.std.proofs.lemmas.List.{get_or-map, get_or-set_same, get_or-set_other}
use Rattle.std.proofs.lemmas.Bool.{false≢true, cases_lt}
use Rattle.std.specs.{Borrow.Bor, List.list_any}
use Rattle.lc_glob.specs.{Above.{names_of, IsSet, AreSet, Before, UpTo, TellMatches}, Tokens.{TokenModel, literal, is_star}}
use Rattle.lc_glob.specs.{Costs.{tokens_with_ends, bytes_with_ends, full_cost}, Fits.Fits, Patterns.{SegmentModel, plain, double_star}}
use Rattle.lc_glob.specs.{Patterns.PatternModel, Matches.{MatchesPath, FitsLast, SegmentsMatch}, Leads.Leads}
use Rattle.lc_glob.proofs.{Ends.{bytes_with_ends-end, tokens_with_ends-end}, Leading.{plain_none, plain_end, plain_spelled, double_spelled}}
use Rattle.lc_glob.proofs.Matching.{decided}

-- what holds of some front of a list
abbrev Front : (List (List ℕ) → Type 0) → List (List ℕ) → Type 0
Front P path = (a b : List (List ℕ)) × (path ≡ a ++ b) × P a

no_front : (P : List (List ℕ) → Type 0) → Front P [] → P []
no_front P h = at h.0 h.1 h.2 h.3
  where
    at : (a b : List (List ℕ)) → [] ≡ a ++ b → P a → P []
    at [] b e f = f
    at (x ∷ a) b e f = cc

all_front : (path a b : List (List ℕ)) → path ≡ a ++ b → Leads [] a → Leads (double_star ∷ []) path
all_front path a b e l = (path, [], sym (append-nil path), tt)

plain_front : (us : List TokenModel) (r : List SegmentModel) (n : List ℕ) (ns a b : List (List ℕ)) → n ∷ ns ≡ a ++ b
    → Leads (plain us ∷ r) a → Fits us n × Front (Leads r) ns
plain_front us r n ns [] b e l = absurd l
plain_front us r n ns (x ∷ a) b e l = let same : x ≡ n = cc in (subst (Fits us) same l.0, (a, b, (cc), l.1))

-- a double star at the end leads to the end of the names where the segments before it lead to that of some front of them
star_front : (r : List SegmentModel) (path : List (List ℕ)) → Leads (r ++ double_star ∷ []) path ↔ Front (Leads r) path
star_front [] path = (λ h. ([], path, refl, tt), λ h. all_front path h.0 h.1 h.2 h.3)
star_front (plain us ∷ r) [] = (λ h. absurd h, λ h. no_front (Leads (plain us ∷ r)) h)
star_front (plain us ∷ r) (n ∷ ns) =
    let rest = star_front r ns in (
      λ h. let f = rest.0 h.1 in (n ∷ f.0, f.1, ap (λ (l : List (List ℕ)). n ∷ l) f.2, (h.0, f.3)),
      λ h. let f = plain_front us r n ns h.0 h.1 h.2 h.3 in (f.0, rest.1 f.1),
    )
star_front (double_star ∷ r) path = (
  λ h. let f = (star_front r h.1).0 h.3 in
      (h.0 ++ f.0, f.1, h.2 ∙ ap (λ (l : List (List ℕ)). h.0 ++ l) f.2 ∙ sym (append_assoc h.0 f.0 f.1), (h.0, f.0, refl, f.3)),
  λ h. let l = h.3 in (
    l.0,
    l.1 ++ h.1,
    h.2 ∙ ap (λ (x : List (List ℕ)). x ++ h.1) l.2 ∙ append_assoc l.0 l.1 h.1,
    (star_front r (l.1 ++ h.1)).1 (l.1, h.1, refl, l.3),
  ),
)

-- one element more
take_more : {A : Type 0} (xs : List A) (k : ℕ) (d : A) → k < length xs → take (k + 1) xs ≡ take k xs ++ get_or xs k d ∷ []
take_more xs k d low = let one : k + 1 ≡ suc k = omega arith in ap (λ (n : ℕ). take n xs) one ∙ take-suc xs k d low

module _ (names : List (List ℕ)) where
  -- after a double star: where the segments before it lead to that name or to one before it
  star_at : (r : List SegmentModel) (k : ℕ) → k ≤ length names
      → UpTo (λ i. Leads r (take i names)) k ↔ Leads (r ++ double_star ∷ []) (take k names)
  star_at r k within = (
    λ h. (star_front r (take k names)).1 (
      take h.0 (take k names),
      drop h.0 (take k names),
      sym (take-append-drop h.0 (take k names)),
      subst (Leads r) (sym (take-take h.0 k names h.1)) h.2,
    ),
    λ h. let f = (star_front r (take k names)).0 h in
        let below : length f.0 ≤ k = omega (arith, ap length f.2, length-append f.0 f.1, length-take-le k names within) in (
          length f.0,
          below,
          subst (Leads r) (sym (sym (take-take (length f.0) k names below) ∙ ap (take (length f.0)) f.2 ∙ take-append_seam f.0 f.1)) f.3,
        ),
  )

  -- after a plain segment: where those before it lead to the name before, which it fits
  plain_at : (r : List SegmentModel) (us : List TokenModel) (k : ℕ) → k < length names
      → Before (λ i. Leads r (take i names) × Fits us (get_or names i [])) k ↔ Leads (r ++ plain us ∷ []) (take k names)
  plain_at r us zero within = (λ h. absurd (omega (arith, h.1)), λ h. absurd (plain_none r us h))
  plain_at r us (suc k) within =
      let cut = take-suc names k [] (omega (arith, within)) in
      let end = plain_end r us (take k names) (get_or names k []) in (
        λ h. let same : h.0 ≡ k = omega (arith, h.1) in
            subst (Leads (r ++ plain us ∷ [])) (sym cut)
            (end.1 (subst (λ (i : ℕ). Leads r (take i names) × Fits us (get_or names i [])) same h.2)),
        λ h. (k, omega arith, end.0 (subst (Leads (r ++ plain us ∷ [])) cut h)),
      )

-- what is told of each place may be told in other words
pub told_as : (flags : List Bool) (P Q : ℕ → Type 0) → AreSet flags P → ((k : ℕ) → k < length flags → P k ↔ Q k) → AreSet flags Q
told_as flags P Q set same = λ k low. (λ h. (same k low).0 ((set k low).0 h), λ q. (set k low).1 ((same k low).1 q))

-- flags of the names of which some segments lead to what stands above
abbrev pub AreLed : List SegmentModel → List (List ℕ) → List Bool → Type 0
AreLed r names flags = AreSet flags (λ k. Leads r (take k names))

module _ (r : List SegmentModel) (names : List (List ℕ)) (old new : List Bool) (same : length old ≡ length names)
    (len : length new ≡ length names) (led : AreLed r names old) where
  -- one double star more
  pub led_star : AreSet new (UpTo (IsSet old)) → AreLed (r ++ double_star ∷ []) names new
  led_star set =
      told_as new _ _ set (λ k low.
      let at = star_at names r k (omega (arith, len, low)) in (
        λ h. at.0 (h.0, h.1, (led h.0 (omega (arith, h.1, low, len, same))).0 h.2),
        λ h. let f = at.1 h in (f.0, f.1, (led f.0 (omega (arith, f.1, low, len, same))).1 f.2),
      ))

  -- one plain segment more
  pub led_plain : (us : List TokenModel) (kept : List Bool) → length kept ≡ length names
      → AreSet kept (λ k. IsSet old k × Fits us (get_or names k [])) → AreSet new (Before (IsSet kept))
      → AreLed (r ++ plain us ∷ []) names new
  led_plain us kept kept_len keeps set =
      told_as new _ _ set (λ k low.
      let at = plain_at names r us k (omega (arith, len, low)) in (
        λ h. let here = (keeps h.0 (omega (arith, h.1, low, len, kept_len))).0 h.2 in
            at.0 (h.0, h.1, ((led h.0 (omega (arith, h.1, low, len, same))).0 here.0, here.1)),
        λ h. let f = at.1 h in (
          f.0,
          f.1,
          (keeps f.0 (omega (arith, f.1, low, len, kept_len))).1
              ((led f.0 (omega (arith, f.1, low, len, same))).1 f.2.0, f.2.1),
        ),
      ))

  -- a double star that is last gives the name itself at least
  pub matched_star : (s : List SegmentModel) → s ≡ r ++ double_star ∷ [] → AreSet new (UpTo (IsSet old))
      → AreSet new (λ k. MatchesPath s (take (k + 1) names))
  matched_star s e set = λ k low.
      double_spelled (IsSet new k) s r (take (k + 1) names) (take k names) (get_or names k []) e
      (take_more names k [] (omega (arith, len, low)))
      (subst (λ (l : List SegmentModel). IsSet new k ↔ Leads l (take k names)) (sym e) (led_star set k low))

  -- a plain one that is last fits the name
  pub matched_plain : (s : List SegmentModel) (us : List TokenModel) → s ≡ r ++ plain us ∷ []
      → AreSet new (λ k. IsSet old k × Fits us (get_or names k [])) → AreSet new (λ k. MatchesPath s (take (k + 1) names))
  matched_plain s us e set = λ k low.
      let at = plain_spelled s r us (take (k + 1) names) (take k names) (get_or names k []) e
      (take_more names k [] (omega (arith, len, low))) in
      let here = led k (omega (arith, low, len, same)) in (
        λ h. let both = (set k low).0 h in at.1 (here.0 both.0, both.1),
        λ h. let both = at.0 h in (set k low).1 (here.1 both.0, both.1),
      )

-- before any segment only the first name is led to
pub led_first : (names : List (List ℕ)) (flags : List Bool) → length flags ≡ length names → AreSet flags (λ k. k ≡ 0)
    → AreLed [] names flags
led_first names flags len set =
    told_as flags _ _ set (λ k low.
    (λ is. subst (λ (i : ℕ). Leads [] (take i names)) (sym is) tt, λ l. none_taken k names (omega (arith, len, low)) l))
  where
    none_taken : (k : ℕ) (names : List (List ℕ)) → k < length names → Leads [] (take k names) → k ≡ 0
    none_taken zero names low l = refl
    none_taken (suc k) [] low l = absurd (omega arith)
    none_taken (suc k) (n ∷ ns) low l = absurd l

-- one segment more is passed
pub passed : (all done left others : List SegmentModel) (s t : SegmentModel) → all ≡ done ++ left → left ≡ s ∷ others → s ≡ t
    → all ≡ (done ++ t ∷ []) ++ others
passed all done left others s t e cut is =
    e ∙ ap (λ (l : List SegmentModel). done ++ l) (cut ∙ ap (λ (u : SegmentModel). u ∷ others) is) ∙ sym (append_assoc done (t ∷ []) others)

-- as many names as are lent
pub names_length : (names : List (Bor (List ℕ))) → length (names_of names) ≡ length names
names_length names = length-map names (λ name. name.now)

-- what is told of each place by the relation is told by the test
pub told_matches : (p : PatternModel) (names : List (List ℕ)) (flags : List Bool) → length flags ≡ length names → p.is_dead ≡ false
    → AreSet flags (λ k. SegmentsMatch p.is_anchored p.segments (take (k + 1) names)) → TellMatches p names flags
told_matches p names flags len live set k path low is =
    let here = set k (omega (arith, len, low)) in
    decided p path true (get_or flags k false) (
      λ h. (live, (λ only. refl), subst (SegmentsMatch p.is_anchored p.segments) (sym is) (here.0 h)),
      λ m. here.1 (subst (SegmentsMatch p.is_anchored p.segments) is m.2),
    )

-- a dead pattern matches none
pub told_dead : (p : PatternModel) (names : List (List ℕ)) (flags : List Bool) → p.is_dead ≡ true → flags ≡ replicate (length names) false
    → TellMatches p names flags
told_dead p names flags dead is k path low at =
    decided p path true (get_or flags k false) (
      λ h. absurd (false≢true (sym (ap (λ (l : List Bool). get_or l k false) is ∙ get_or-replicate (length names) k false false low) ∙ h)),
      λ m. absurd (false≢true (sym m.0 ∙ dead)),
    )

one_last : (us : List TokenModel) (above rest : List (List ℕ)) (n m : List ℕ) → above ++ n ∷ [] ≡ rest ++ m ∷ [] → Fits us m → Fits us n
one_last us [] [] n m e f = subst (Fits us) (cc) f
one_last us [] (x ∷ []) n m e f = cc
one_last us [] (x ∷ y ∷ rest) n m e f = cc
one_last us (x ∷ []) [] n m e f = cc
one_last us (x ∷ y ∷ above) [] n m e f = cc
one_last us (x ∷ above) (y ∷ rest) n m e f = one_last us above rest n m (cc) f

-- a pattern that isn't anchored matches where its one segment fits the name
pub matched_last : (us : List TokenModel) (names : List (List ℕ)) (old flags : List Bool) → length flags ≡ length names
    → old ≡ replicate (length names) true → AreSet flags (λ k. IsSet old k × Fits us (get_or names k []))
    → AreSet flags (λ k. FitsLast (plain us ∷ []) (take (k + 1) names))
matched_last us names old flags len is set = λ k low.
    let within : k < length names = omega (arith, len, low) in
    let cut = take_more names k [] within in
    let all : IsSet old k = ap (λ (l : List Bool). get_or l k false) is ∙ get_or-replicate (length names) k true false within in (
      λ h. (take k names, get_or names k [], cut, ((set k low).0 h).1),
      λ m. (set k low).1 (all, one_last us (take k names) m.0 (get_or names k []) m.1 (sym cut ∙ m.2) m.3),
    )

-- literals have no star
pub literals_no_star : (literals : List ℕ) → list_any is_star (map literal literals) ≡ false
literals_no_star [] = refl
literals_no_star (b ∷ bs) = literals_no_star bs

total : (a b c t m n : ℕ) → m ≤ t + a * c → n ≤ m + b * c → n ≤ t + (a + b) * c
total a b c t m n before paid = grind arith

tokens_with_ends-double : (r : List SegmentModel) → tokens_with_ends (r ++ double_star ∷ []) ≡ tokens_with_ends r
tokens_with_ends-double [] = refl
tokens_with_ends-double (plain us ∷ r) = ap (λ (n : ℕ). (length us + 1) + n) (tokens_with_ends-double r)
tokens_with_ends-double (double_star ∷ r) = tokens_with_ends-double r

-- a double star costs nothing
pub star_cost : (s r : List SegmentModel) (names : List (List ℕ)) (t n : ℕ) → s ≡ r ++ double_star ∷ [] → n ≤ t + full_cost r names
    → n ≤ t + full_cost s names
star_cost s r names t n e paid =
    subst (λ (k : ℕ). n ≤ t + k * bytes_with_ends names) (sym (ap tokens_with_ends e ∙ tokens_with_ends-double r)) paid

-- a plain segment costs its tokens at each name
pub plain_cost : (s r : List SegmentModel) (us : List TokenModel) (names : List (List ℕ)) (t m n : ℕ) → s ≡ r ++ plain us ∷ []
    → m ≤ t + full_cost r names → n ≤ m + (length us + 1) * bytes_with_ends names → n ≤ t + full_cost s names
plain_cost s r us names t m n e before paid =
    subst (λ (k : ℕ). n ≤ t + k * bytes_with_ends names) (sym (ap tokens_with_ends e ∙ tokens_with_ends-end r us))
    (total (tokens_with_ends r) (length us + 1) (bytes_with_ends names) t m n before paid)

grown : (a b c t m n : ℕ) → m ≤ t + a * b → n ≤ m + a * c → n ≤ t + a * (b + c)
grown a b c t m n before paid = grind arith

-- one name more
pub name_cost : (weight : ℕ) (names : List (Bor (List ℕ))) (k : ℕ) (name : List ℕ) (d : Bor (List ℕ)) (t m n : ℕ)
    → k < length names → name ≡ (get_or names k d).now → m ≤ t + weight * bytes_with_ends (names_of (take k names))
    → n ≤ m + weight * (length name + 1) → n ≤ t + weight * bytes_with_ends (names_of (take (k + 1) names))
name_cost weight names k name d t m n low is before paid =
    let more : bytes_with_ends (names_of (take (k + 1) names)) ≡ bytes_with_ends (names_of (take k names)) + (length name + 1)
    = ap (λ l. bytes_with_ends (names_of l)) (take_more names k d low)
    ∙ ap bytes_with_ends (map-append (λ x. x.now) (take k names) (get_or names k d ∷ []))
    ∙ bytes_with_ends-end (names_of (take k names)) (get_or names k d).now
    ∙ ap (λ (x : List ℕ). bytes_with_ends (names_of (take k names)) + (length x + 1)) (sym is) in
    subst (λ (b : ℕ). n ≤ t + weight * b) (sym more)
    (grown weight (bytes_with_ends (names_of (take k names))) (length name + 1) t m n before paid)

-- the name at a place is that of the one that is lent there
pub at_place : (names : List (Bor (List ℕ))) (k : ℕ) (name : List ℕ) → k < length names → name ≡ get_or (names_of names) k []
    → (d : Bor (List ℕ)) × (name ≡ (get_or names k d).now)
at_place [] k name low is = let no : ⊥ = omega (arith, low) in absurd no
at_place (n ∷ ns) k name low is = (n, is ∙ get_or-map (λ x. x.now) (n ∷ ns) k n [] low)

-- one flag more is kept or not
module _ (us : List TokenModel) (names : List (Bor (List ℕ))) (old now : List Bool) (k : ℕ) (b : Bool) (name : List ℕ) (d : Bor (List ℕ))
    (low : k < length now) (within : k < length names) (is : name ≡ (get_or names k d).now)
    (same : get_or now k false ≡ get_or old k false) (kept : IsTrue b ↔ (IsSet now k × Fits us name)) where
  abbrev Kept : List Bool → ℕ → Type 0
  Kept flags j = IsSet flags j ↔ (IsSet old j × Fits us (get_or (names_of names) j []))

  kept_here : Kept (set now k b) k
  kept_here =
      let named : get_or (names_of names) k [] ≡ name = get_or-map (λ x. x.now) names k d [] within ∙ sym is in
      subst (λ (t : Bool). IsTrue t ↔ (IsSet old k × Fits us (get_or (names_of names) k []))) (sym (get_or-set_same now k b false low))
      (subst (λ (n : List ℕ). IsTrue b ↔ (IsSet old k × Fits us n)) (sym named)
      (subst (λ (t : Bool). IsTrue b ↔ (IsTrue t × Fits us name)) same kept))

  pub kept_more : ((j : ℕ) → j < k → Kept now j) → (j : ℕ) → j < k + 1 → Kept (set now k b) j
  kept_more before j inside =
      ⊎_elim (λ earlier.
      let apart : j ≢ k = (λ e. absurd (omega (arith, e, earlier))) in
      subst (λ (t : Bool). IsTrue t ↔ (IsSet old j × Fits us (get_or (names_of names) j []))) (sym (get_or-set_other now k j b false apart))
      (before j earlier))
      (λ later.
      let here : k ≡ j = omega (arith, inside, later) in
      subst (Kept (set now k b)) here kept_here)
      (cases_lt j k)
