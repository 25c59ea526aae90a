-- Trying a double star's runs from the shortest on, with one place to go back to.
use Rattle.std.proofs.Common.{◌≡◌, ◌↔◌, ◌⊎◌, ◌≤◌, ◌+◌, ℕ, List, ◌∷◌, inl, inr, sym, subst, ap, length, Option, Some, None, arith}
use Rattle.lc_glob.specs.{Tokens.TokenModel, Fits.Fits, Patterns.{SegmentModel, plain, double_star}, Leads.Leads, Views.segments_ref_model}
use Rattle.lc_glob.specs.{Path.segments_left, declared.match_path.PathCursor.PathCursor}
use Rattle.lc_glob.proofs.{After.{After, Later, later_after, after_split, after_join, after_after, after_drop}, Cost.again}

-- what is still to be tried where the segments here don't match the segments that are left
abbrev pub LaterOf : Option PathCursor → Type 0
LaterOf None = ⊥
LaterOf (Some b) = Later (Leads (segments_ref_model b.segments)) (segments_left b.left.rest)

-- whatever run the double star is given, the segments here come at the segments left or after them
abbrev pub Covers : Option PathCursor → List SegmentModel → List (List ℕ) → Type 0
Covers None s path = Unit {0}
Covers (Some b) s path = After (Leads (segments_ref_model b.segments)) (segments_left b.left.rest) → After (Leads s) path

abbrev pub span : Option PathCursor → ℕ → ℕ
span None n = n
span (Some b) n = length (segments_left b.left.rest)

abbrev pub IsWithin : Option PathCursor → ℕ → Type 0
IsWithin None n = Unit {0}
IsWithin (Some b) n = length (segments_ref_model b.segments) ≤ n

-- what a later start may still cost; at first all but the straight try
abbrev pub reserve : Option PathCursor → ℕ → ℕ
reserve None n = n
reserve (Some b) n = again (segments_ref_model b.segments) (segments_left b.left.rest)

later_comes : (back : Option PathCursor) (s : List SegmentModel) (path : List (List ℕ)) → Covers back s path → LaterOf back
    → After (Leads s) path
later_comes None s path c l = absurd l
later_comes (Some b) s path c l = c (later_after (Leads (segments_ref_model b.segments)) (segments_left b.left.rest) l)

-- at a double star: it becomes the place to go back to
pub at_double : (T : Type 0) (back : Option PathCursor) (segments rest : List SegmentModel) (path : List (List ℕ))
    → segments ≡ double_star ∷ rest → Covers back segments path → T ↔ (Leads segments path ⊎ LaterOf back)
    → T ↔ (Leads rest path ⊎ Later (Leads rest) path)
at_double T back segments rest path e c t =
    let P = Leads rest in
    let t' : T ↔ (After P path ⊎ LaterOf back) = subst (λ (l : List SegmentModel). T ↔ (Leads l path ⊎ LaterOf back)) e t in
    let c' : Covers back (double_star ∷ rest) path = subst (λ (l : List SegmentModel). Covers back l path) e c in (
      λ h. after_split P path (elim (t'.0 h) [ inl f ↦ f | inr l ↦ after_after P path (later_comes back (double_star ∷ rest) path c' l) ]),
      λ w. t'.1 (inl (after_join P path w)),
    )

-- at a name that is taken
pub at_name : (T L : Type 0) (segments rest : List SegmentModel) (us : List TokenModel) (path : List (List ℕ)) (n : List ℕ)
    (ns : List (List ℕ)) → segments ≡ plain us ∷ rest → path ≡ n ∷ ns → Fits us n → T ↔ (Leads segments path ⊎ L)
    → T ↔ (Leads rest ns ⊎ L)
at_name T L segments rest us path n ns e p f t =
    let t' : T ↔ (Leads (plain us ∷ rest) (n ∷ ns) ⊎ L) = subst (λ (l : List (List ℕ)). T ↔ (Leads (plain us ∷ rest) l ⊎ L)) p
    (subst (λ (l : List SegmentModel). T ↔ (Leads l path ⊎ L)) e t) in (
      λ h. elim (t'.0 h) [ inl g ↦ inl g.1 | inr l ↦ inr l ],
      λ w. t'.1 (elim w [ inl g ↦ inl (f, g) | inr l ↦ inr l ]),
    )

-- a name that its segment fits leaves segments and path that match where they did
pub covers_name : (back : Option PathCursor) (segments rest : List SegmentModel) (us : List TokenModel) (path : List (List ℕ))
    (n : List ℕ) (ns : List (List ℕ)) → segments ≡ plain us ∷ rest → path ≡ n ∷ ns → Covers back segments path → Covers back rest ns
covers_name None segments rest us path n ns e p c = tt
covers_name (Some b) segments rest us path n ns e p c =
    λ f. after_drop (Leads (plain us ∷ rest)) (Leads rest) (λ h. h) (λ x xs h. h.1) n ns
    (subst (λ (l : List (List ℕ)). After (Leads (plain us ∷ rest)) l) p (subst (λ (l : List SegmentModel). After (Leads l) path) e (c f)))

-- where the segments here don't match the segments left
pub at_block : (T H : Type 0) (s r : List SegmentModel) (path : List (List ℕ)) (n : List ℕ) (ns : List (List ℕ)) → path ≡ n ∷ ns
    → r ≡ s → (H → ⊥) → T ↔ (H ⊎ Later (Leads s) path) → T ↔ (Leads r ns ⊎ Later (Leads r) ns)
at_block T H s r path n ns e q never t =
    let t' : T ↔ (H ⊎ After (Leads s) ns) = subst (λ (l : List (List ℕ)). T ↔ (H ⊎ Later (Leads s) l)) e t in
    subst (λ (l : List SegmentModel). T ↔ (Leads l ns ⊎ Later (Leads l) ns)) (sym q) (
      λ h. after_split (Leads s) ns (elim (t'.0 h) [ inl f ↦ absurd (never f) | inr l ↦ l ]),
      λ w. t'.1 (inr (after_join (Leads s) ns w)),
    )

-- what is left is shorter by the segment
pub shorter : (here rest : List SegmentModel) (s : SegmentModel) → here ≡ s ∷ rest → length here ≡ length rest + 1
shorter here rest s e = let l = ap length e in omega (arith, l)
