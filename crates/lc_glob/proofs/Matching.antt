-- The test of a match is the relation.
use Rattle.std.proofs.Common.{◌≡◌, ◌⊎◌, ℕ, Bool, true, false, not, ◌&&◌, ◌||◌, List, [], ◌∷◌, ◌++◌, IsTrue, inl, inr, refl, ap, subst}
use Rattle.std.specs.Bool.{Decides, one_answer}
use Rattle.lc_glob.specs.{Tokens.{TokenModel, literal, any_byte, star, class, takes}, Fits.Fits, Patterns.{SegmentModel, plain}}
use Rattle.lc_glob.specs.{Patterns.{double_star, PatternModel}, Matches.{MatchesPath, FitsLast, SegmentsMatch, Matches}, Path.segments_of}
use Rattle.lc_glob.specs.IsMatch.{some_rest, fits, matches_path, fits_last_name, fits_last, segments_match, is_match}
use Rattle.lc_glob.proofs.After.{After, after_none, after_more, after_empty, after_cut}

and_decides : {P Q : Type 0} (a b : Bool) → Decides a P → Decides b Q → Decides (a && b) (P × Q)
and_decides true true p q = (λ h. (p.0 refl, q.0 refl), λ h. refl)
and_decides true false p q = (λ h. (p.0 refl, q.0 h), λ h. q.1 h.1)
and_decides false b p q = (λ h. (p.0 h, absurd (cc)), λ h. p.1 h.0)

or_decides : {P Q : Type 0} (a b : Bool) → Decides a P → Decides b Q → Decides (a || b) (P ⊎ Q)
or_decides true b p q = (λ h. inl (p.0 refl), λ h. refl)
or_decides false b p q = (λ h. inr (q.0 h), λ h. elim h [ inl x ↦ absurd (let e : false ≡ true = p.1 x in cc) | inr y ↦ q.1 y ])

like_decides : {P Q : Type 0} (a : Bool) → (P → Q) → (Q → P) → Decides a P → Decides a Q
like_decides a f g d = (λ h. f (d.0 h), λ q. d.1 (g q))

always : Decides true (Unit {0})
always = (λ h. tt, λ h. refl)

never : Decides false ⊥
never = (λ h. absurd (cc), λ h. absurd h)

rest_decides : {A : Type 0} (test : List A → Bool) (P : List A → Type 0) → ((l : List A) → Decides (test l) (P l)) → (xs : List A)
    → Decides (some_rest test xs) (After P xs)
rest_decides test P d [] = like_decides (test []) (after_none P []) (after_empty P) (d [])
rest_decides test P d (x ∷ xs) =
    like_decides (test (x ∷ xs) || some_rest test xs)
    (λ w. elim w [ inl h ↦ after_none P (x ∷ xs) h | inr h ↦ after_more P x xs h ])
    (after_cut P x xs)
    (or_decides (test (x ∷ xs)) (some_rest test xs) (d (x ∷ xs)) (rest_decides test P d xs))

true_decides : (b : Bool) → Decides b (IsTrue b)
true_decides b = (λ h. h, λ h. h)

fits_decides : (us : List TokenModel) (name : List ℕ) → Decides (fits us name) (Fits us name)
fits_decides [] [] = always
fits_decides [] (b ∷ bs) = never
fits_decides (star ∷ us) name = rest_decides (fits us) (Fits us) (fits_decides us) name
fits_decides (literal c ∷ us) [] = never
fits_decides (literal c ∷ us) (b ∷ bs) =
    and_decides (takes (literal c) b) (fits us bs) (true_decides (takes (literal c) b)) (fits_decides us bs)
fits_decides (any_byte ∷ us) [] = never
fits_decides (any_byte ∷ us) (b ∷ bs) = and_decides (takes any_byte b) (fits us bs) (true_decides (takes any_byte b)) (fits_decides us bs)
fits_decides (class n rs ∷ us) [] = never
fits_decides (class n rs ∷ us) (b ∷ bs) =
    and_decides (takes (class n rs) b) (fits us bs) (true_decides (takes (class n rs) b)) (fits_decides us bs)

matches_decides : (segments : List SegmentModel) (path : List (List ℕ)) → Decides (matches_path segments path) (MatchesPath segments path)
matches_decides [] [] = always
matches_decides [] (n ∷ ns) = never
matches_decides (plain us ∷ r) [] = never
matches_decides (plain us ∷ r) (n ∷ ns) = and_decides (fits us n) (matches_path r ns) (fits_decides us n) (matches_decides r ns)
matches_decides (double_star ∷ []) [] = never
matches_decides (double_star ∷ []) (n ∷ ns) = always
matches_decides (double_star ∷ s ∷ r) path = rest_decides (matches_path (s ∷ r)) (MatchesPath (s ∷ r)) (matches_decides (s ∷ r)) path

-- the last of some names
abbrev EndFits : List TokenModel → List (List ℕ) → Type 0
EndFits us path = (above : List (List ℕ)) × (name : List ℕ) × (path ≡ above ++ name ∷ []) × Fits us name

no_end : (us : List TokenModel) (above : List (List ℕ)) (name : List ℕ) → [] ≡ above ++ name ∷ [] → ⊥
no_end us [] name e = cc
no_end us (a ∷ above) name e = cc

one_end : (us : List TokenModel) (n : List ℕ) (above : List (List ℕ)) (name : List ℕ) → n ∷ [] ≡ above ++ name ∷ [] → Fits us name
    → Fits us n
one_end us n [] name e f = subst (Fits us) (cc) f
one_end us n (a ∷ []) name e f = cc
one_end us n (a ∷ b ∷ above) name e f = cc

end_below : (us : List TokenModel) (n m : List ℕ) (ns above : List (List ℕ)) (name : List ℕ) → n ∷ m ∷ ns ≡ above ++ name ∷ []
    → Fits us name → EndFits us (m ∷ ns)
end_below us n m ns [] name e f = cc
end_below us n m ns (a ∷ above) name e f = (above, name, (cc), f)

name_decides : (us : List TokenModel) (path : List (List ℕ)) → Decides (fits_last_name us path) (EndFits us path)
name_decides us [] = (λ h. absurd (cc), λ h. absurd (no_end us h.0 h.1 h.2))
name_decides us (n ∷ []) = like_decides (fits us n) (λ f. ([], n, refl, f)) (λ h. one_end us n h.0 h.1 h.2 h.3) (fits_decides us n)
name_decides us (n ∷ m ∷ ns) =
    like_decides (fits_last_name us (m ∷ ns)) (λ h. (n ∷ h.0, h.1, ap (λ (l : List (List ℕ)). n ∷ l) h.2, h.3))
    (λ h. end_below us n m ns h.0 h.1 h.2 h.3) (name_decides us (m ∷ ns))

last_decides : (segments : List SegmentModel) (path : List (List ℕ)) → Decides (fits_last segments path) (FitsLast segments path)
last_decides [] path = never
last_decides (plain us ∷ []) path = name_decides us path
last_decides (plain us ∷ s ∷ r) path = never
last_decides (double_star ∷ r) path = never

segments_decide : (anchored : Bool) (segments : List SegmentModel) (path : List (List ℕ))
    → Decides (segments_match anchored segments path) (SegmentsMatch anchored segments path)
segments_decide false segments path = last_decides segments path
segments_decide true segments path = matches_decides segments path

not_decides : (b : Bool) → Decides (not b) (b ≡ false)
not_decides true = (λ h. absurd (cc), λ h. absurd (cc))
not_decides false = (λ h. refl, λ h. refl)

allows : (only is_dir : Bool) → Decides (not only || is_dir) (IsTrue only → IsTrue is_dir)
allows true true = (λ h. λ t. refl, λ h. refl)
allows true false = (λ h. absurd (cc), λ h. h refl)
allows false d = (λ h. λ t. absurd (cc), λ h. refl)

-- the test decides the relation
pub match_decides : (p : PatternModel) (path : List ℕ) (is_dir : Bool) → Decides (is_match p path is_dir) (Matches p path is_dir)
unfolding is_match
match_decides p path is_dir =
    like_decides (is_match p path is_dir) (λ h. (h.0.0, h.0.1, h.1)) (λ h. ((h.0, h.1), h.2))
    (and_decides (not p.is_dead && (not p.is_dir_only || is_dir)) (segments_match p.is_anchored p.segments (segments_of path))
    (and_decides (not p.is_dead) (not p.is_dir_only || is_dir) (not_decides p.is_dead) (allows p.is_dir_only is_dir))
    (segments_decide p.is_anchored p.segments (segments_of path)))

-- what tells whether a pattern matches is the test
pub decided : (p : PatternModel) (path : List ℕ) (is_dir answer : Bool) → Decides answer (Matches p path is_dir)
    → answer ≡ is_match p path is_dir
decided p path is_dir answer d = one_answer answer (is_match p path is_dir) d (match_decides p path is_dir)
