-- How segments match names from their end, and lead to it.
use Rattle.std.proofs.Common.{◌≡◌, ◌↔◌, ℕ, Bool, true, false, List, [], ◌∷◌, ◌++◌, refl, sym, ◌∙◌, subst, ap}
use Rattle.std.proofs.lemmas.{List.append-nil, Bool.false≢true}
use Rattle.lc_glob.specs.{Tokens.TokenModel, Fits.Fits, Patterns.{SegmentModel, plain, double_star}, Matches.MatchesPath, Leads.Leads}
use Rattle.lc_glob.proofs.After.{after_empty, after_end}

-- a double star alone takes all names, first or last of its segments as it is
double_leads : (s : List SegmentModel) (path : List (List ℕ)) → s ≡ double_star ∷ [] → Leads s path
double_leads s path e = subst (λ (l : List SegmentModel). Leads l path) (sym e) (path, [], sym (append-nil path), tt)

pub first_leads : (s others : List SegmentModel) (path : List (List ℕ)) → s ≡ double_star ∷ others → others ≡ [] → Leads s path
first_leads s others path e none = double_leads s path (e ∙ ap (λ (l : List SegmentModel). double_star ∷ l) none)

pub last_leads : (s others : List SegmentModel) (path : List (List ℕ)) → s ≡ others ++ double_star ∷ [] → others ≡ [] → Leads s path
last_leads s others path e none = double_leads s path (e ∙ ap (λ (l : List SegmentModel). l ++ double_star ∷ []) none)

-- whether the last segment is a double star
abbrev ends_double : List SegmentModel → Bool
ends_double [] = false
ends_double (plain us ∷ []) = false
ends_double (double_star ∷ []) = true
ends_double (s ∷ t ∷ r) = ends_double (t ∷ r)

abbrev is_double : SegmentModel → Bool
is_double (plain us) = false
is_double double_star = true

ends_at : (r : List SegmentModel) (s : SegmentModel) → ends_double (r ++ s ∷ []) ≡ is_double s
ends_at [] (plain us) = refl
ends_at [] double_star = refl
ends_at (t ∷ []) s = ends_at [] s
ends_at (t ∷ u ∷ r) s = ends_at (u ∷ r) s

-- segments whose last is no double star
matches_leads : (s : List SegmentModel) (path : List (List ℕ)) → ends_double s ≡ false → MatchesPath s path ↔ Leads s path
matches_leads [] [] e = (λ h. h, λ h. h)
matches_leads [] (n ∷ ns) e = (λ h. h, λ h. h)
matches_leads (plain us ∷ []) [] e = (λ h. h, λ h. h)
matches_leads (plain us ∷ []) (n ∷ []) e = (λ h. h, λ h. h)
matches_leads (plain us ∷ []) (n ∷ m ∷ ns) e = (λ h. h, λ h. h)
matches_leads (double_star ∷ []) path e = cc
matches_leads (plain us ∷ t ∷ r) [] e = (λ h. h, λ h. h)
matches_leads (plain us ∷ t ∷ r) (n ∷ ns) e = let rest = matches_leads (t ∷ r) ns e in (λ h. (h.0, rest.0 h.1), λ h. (h.0, rest.1 h.1))
matches_leads (double_star ∷ t ∷ r) path e = (
  λ h. (h.0, h.1, h.2, (matches_leads (t ∷ r) h.1 e).0 h.3),
  λ h. (h.0, h.1, h.2, (matches_leads (t ∷ r) h.1 e).1 h.3),
)

-- segments whose last is a double star
double_none : (s : List SegmentModel) → ends_double s ≡ true → MatchesPath s [] → ⊥
double_none [] e h = cc
double_none (plain us ∷ []) e h = h
double_none (double_star ∷ []) e h = h
double_none (plain us ∷ t ∷ r) e h = h
double_none (double_star ∷ t ∷ r) e h = double_none (t ∷ r) e (after_empty (MatchesPath (t ∷ r)) h)

double_one : (path : List (List ℕ)) (n : List ℕ) → MatchesPath (double_star ∷ []) (path ++ n ∷ [])
double_one [] n = tt
double_one (x ∷ path) n = tt

-- they give the last name to that double star
double_end : (s : List SegmentModel) (above : List (List ℕ)) (n : List ℕ) → ends_double s ≡ true
    → MatchesPath s (above ++ n ∷ []) ↔ Leads s above
double_end [] above n e = cc
double_end (plain us ∷ []) above n e = cc
double_end (double_star ∷ []) above n e = (λ h. (above, [], sym (append-nil above), tt), λ h. double_one above n)
double_end (plain us ∷ t ∷ r) [] n e = (λ h. absurd (double_none (t ∷ r) e h.1), λ h. absurd h)
double_end (plain us ∷ t ∷ r) (x ∷ above) n e = let rest = double_end (t ∷ r) above n e in (λ h. (h.0, rest.0 h.1), λ h. (h.0, rest.1 h.1))
double_end (double_star ∷ t ∷ r) above n e =
    after_end (MatchesPath (t ∷ r)) (Leads (t ∷ r)) n (double_none (t ∷ r) e) (λ b. double_end (t ∷ r) b n e) above

-- a plain segment that is last needs a name
pub plain_none : (r : List SegmentModel) (us : List TokenModel) → Leads (r ++ plain us ∷ []) [] → ⊥
plain_none [] us h = h
plain_none (plain vs ∷ r) us h = h
plain_none (double_star ∷ r) us h = plain_none r us (after_empty (Leads (r ++ plain us ∷ [])) h)

beyond : (path : List (List ℕ)) (n : List ℕ) → Leads [] (path ++ n ∷ []) → ⊥
beyond [] n h = h
beyond (x ∷ path) n h = h

-- and it fits the last of them
pub plain_end : (r : List SegmentModel) (us : List TokenModel) (above : List (List ℕ)) (n : List ℕ)
    → Leads (r ++ plain us ∷ []) (above ++ n ∷ []) ↔ (Leads r above × Fits us n)
plain_end [] us [] n = (λ h. (tt, h.0), λ h. (h.1, tt))
plain_end [] us (x ∷ above) n = (λ h. absurd (beyond above n h.1), λ h. absurd h.0)
plain_end (plain vs ∷ r) us [] n = (λ h. absurd (plain_none r us h.1), λ h. absurd h.0)
plain_end (plain vs ∷ r) us (x ∷ above) n =
    let rest = plain_end r us above n in (
      λ h. let both = rest.0 h.1 in ((h.0, both.0), both.1),
      λ h. (h.0.0, rest.1 (h.0.1, h.1)),
    )
plain_end (double_star ∷ r) us above n =
    let end = after_end (Leads (r ++ plain us ∷ [])) (λ b. Leads r b × Fits us n) n (plain_none r us) (λ b. plain_end r us b n) above in (
      λ h. let found = end.0 h in ((found.0, found.1, found.2, found.3.0), found.3.1),
      λ h. end.1 (h.0.0, h.0.1, h.0.2, (h.0.3, h.1)),
    )

-- the same of lists that are equal to such ones
pub when_end : (s r : List SegmentModel) (us : List TokenModel) (path above : List (List ℕ)) (n : List ℕ) → s ≡ r ++ plain us ∷ []
    → path ≡ above ++ n ∷ [] → Leads s path ↔ (Leads r above × Fits us n)
when_end s r us path above n e q =
    subst (λ (l : List (List ℕ)). Leads s l ↔ (Leads r above × Fits us n)) (sym q)
    (subst (λ (l : List SegmentModel). Leads l (above ++ n ∷ []) ↔ (Leads r above × Fits us n)) (sym e) (plain_end r us above n))

-- segments with a plain one at their end lead to no empty path
pub when_none : (s r : List SegmentModel) (us : List TokenModel) (path : List (List ℕ)) → s ≡ r ++ plain us ∷ [] → path ≡ []
    → Leads s path → ⊥
when_none s r us path e q h = plain_none r us (subst (Leads (r ++ plain us ∷ [])) q (subst (λ (l : List SegmentModel). Leads l path) e h))

-- a double star at the end matches a path where the segments lead to what stands above its last name
pub double_spelled : (T : Type 0) (s r : List SegmentModel) (path above : List (List ℕ)) (n : List ℕ) → s ≡ r ++ double_star ∷ []
    → path ≡ above ++ n ∷ [] → T ↔ Leads s above → T ↔ MatchesPath s path
double_spelled T s r path above n e q t =
    let last : ends_double s ≡ true = ap ends_double e ∙ ends_at r double_star in
    let same = double_end s above n last in
    (λ h. subst (MatchesPath s) (sym q) (same.1 (t.0 h)), λ h. t.1 (same.0 (subst (MatchesPath s) q h)))

-- a plain segment at the end matches a path where the others lead to what stands above, and it fits the last name
pub plain_spelled : (s r : List SegmentModel) (us : List TokenModel) (path above : List (List ℕ)) (n : List ℕ) → s ≡ r ++ plain us ∷ []
    → path ≡ above ++ n ∷ [] → MatchesPath s path ↔ (Leads r above × Fits us n)
plain_spelled s r us path above n e q =
    let first = matches_leads s path (ap ends_double e ∙ ends_at r (plain us)) in
    let then = when_end s r us path above n e q in
    (λ h. then.0 (first.0 h), λ h. first.1 (then.1 h))
