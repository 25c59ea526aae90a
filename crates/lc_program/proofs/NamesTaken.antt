-- Names that were gone through one after another.
use Rattle.std.proofs.Common.{◌≡◌, ℕ, ◌+◌, ◌<◌, List, [], ◌∷◌, ◌++◌, length, map, take, drop, get_or, Option, None, refl, sym, ◌∙◌, ap}
use Rattle.std.proofs.{Common.{subst, append-nil, append_assoc}, lemmas.List.{drop_more, map-append, nil_from_length, take_more}}
use Rattle.std.specs.{Borrow.Bor, List.AllZip}
use Rattle.lc_level.specs.FaultLines.{FaultLineModel}
use Rattle.lc_program.specs.{Faults.{AreTopLines, IsTopLine, has_path, top_path}, Hints.first_above, Nested.{place_if, places_of}}
use Rattle.lc_program.specs.declared.{repository.Repository.Repository, unread_reason.UnreadReason.UnreadReason}

abbrev pub names : List (Bor (List ℕ)) → List (List ℕ)
names ds = map (λ d. d.now) ds

-- the first names, and one more
pub one_more : (ds : List (Bor (List ℕ))) (i : ℕ) (d : Bor (List ℕ)) → i < length ds
    → names (take (i + 1) ds) ≡ names (take i ds) ++ (get_or ds i d).now ∷ []
one_more ds i d low = ap names (take_more ds i d low) ∙ map-append (λ (b : Bor (List ℕ)). b.now) (take i ds) (get_or ds i d ∷ [])

-- what holds place by place, and of one more of each
pub zip_more : {A B : Type 0} (R : A → B → Type 0) (xs : List A) (ys : List B) (x : A) (y : B) → AllZip R xs ys → R x y
    → AllZip R (xs ++ x ∷ []) (ys ++ y ∷ [])
zip_more R [] [] x y all has = (has, tt)
zip_more R [] (b ∷ ys) x y all has = absurd all
zip_more R (a ∷ xs) [] x y all has = absurd all
zip_more R (a ∷ xs) (b ∷ ys) x y all has = (all.0, zip_more R xs ys x y all.1 has)

pub named_more : {B : Type 0} (R : List ℕ → B → Type 0) (ds : List (Bor (List ℕ))) (i : ℕ) (d : Bor (List ℕ)) (old new : List B) (y : B)
    → i < length ds → AllZip R (names (take i ds)) old → R (get_or ds i d).now y → new ≡ old ++ y ∷ []
    → AllZip R (names (take (i + 1) ds)) new
named_more R ds i d old new y low all has more =
    subst (λ l. AllZip R l new) (sym (one_more ds i d low))
    (subst (AllZip R (names (take i ds) ++ (get_or ds i d).now ∷ [])) (sym more) (zip_more R (names (take i ds)) old _ y all has))

-- ---- places

places_more : (R : List ℕ → Option (List ℕ) → Type 0) (ns : List (List ℕ)) (ps : List (Option (List ℕ))) (n : List ℕ)
    (p : Option (List ℕ)) → AllZip R ns ps → places_of (ns ++ n ∷ []) (ps ++ p ∷ []) ≡ places_of ns ps ++ place_if n p
places_more R [] [] n p all = append-nil (place_if n p)
places_more R [] (q ∷ ps) n p all = absurd all
places_more R (m ∷ ns) [] n p all = absurd all
places_more R (m ∷ ns) (q ∷ ps) n p all =
    ap (λ l. place_if m q ++ l) (places_more R ns ps n p all.1) ∙ sym (append_assoc (place_if m q) (places_of ns ps) (place_if n p))

-- the places of the first names
pub place_pushed : (R : List ℕ → Option (List ℕ) → Type 0) (ds : List (Bor (List ℕ))) (i : ℕ) (d : Bor (List ℕ))
    (old new : List Rattle.lc_program.specs.Nested.Place) → i < length ds
    → ((ps : List (Option (List ℕ))) × AllZip R (names (take i ds)) ps × (old ≡ places_of (names (take i ds)) ps))
    → ((p : Option (List ℕ)) × R (get_or ds i d).now p × (new ≡ old ++ place_if (get_or ds i d).now p))
    → (ps : List (Option (List ℕ))) × AllZip R (names (take (i + 1) ds)) ps × (new ≡ places_of (names (take (i + 1) ds)) ps)
place_pushed R ds i d old new low (ps, all, is) (p, has, more) = (
  ps ++ p ∷ [],
  named_more R ds i d ps (ps ++ p ∷ []) p low all has refl,
  more ∙ ap (λ l. l ++ place_if (get_or ds i d).now p) is ∙ sym (places_more R (names (take i ds)) ps (get_or ds i d).now p all)
      ∙ ap (λ l. places_of l (ps ++ p ∷ [])) (sym (one_more ds i d low)),
)

-- ---- lines about directories

module _ (may_unlist : List ℕ → Option UnreadReason → Type 0) (all : List (List ℕ)) (faults : List FaultLineModel) where
  tops_more : (xs : List (List ℕ)) (text line : List ℕ) (d : List ℕ) → AreTopLines may_unlist all faults xs text
      → IsTopLine may_unlist all faults (has_path (top_path all d) faults) d line
      → AreTopLines may_unlist all faults (xs ++ d ∷ []) (text ++ line)
  tops_more [] text line d none is = (line, [], is, refl, ap (λ l. l ++ line) none ∙ sym (append-nil line))
  tops_more (x ∷ xs) text line d (first, rest, is_first, are_rest, same) is =
      (first, rest ++ line, is_first, tops_more xs rest line d are_rest is, ap (λ l. l ++ line) same ∙ append_assoc first rest line)

  pub top_pushed : (ds : List (Bor (List ℕ))) (i : ℕ) (d : Bor (List ℕ)) (old new line : List ℕ) → i < length ds
      → AreTopLines may_unlist all faults (names (take i ds)) old
      → IsTopLine may_unlist all faults (has_path (top_path all (get_or ds i d).now) faults) (get_or ds i d).now line
      → new ≡ old ++ line → AreTopLines may_unlist all faults (names (take (i + 1) ds)) new
  top_pushed ds i d old new line low are is more =
      subst (λ l. AreTopLines may_unlist all faults l new) (sym (one_more ds i d low))
      (subst (AreTopLines may_unlist all faults (names (take i ds) ++ (get_or ds i d).now ∷ [])) (sym more)
      (tops_more (names (take i ds)) old line (get_or ds i d).now are is))

-- ---- the first directory in a repository

first_none : (ns : List (List ℕ)) → first_above ns [] ≡ None
first_none [] = refl
first_none (n ∷ ns) = refl

pub none_left : (ns : List (List ℕ)) (rs : List (Option Repository)) (found : Option (List ℕ × Repository)) → length rs ≡ 0
    → first_above ns rs ≡ found → None ≡ found
none_left ns rs found none is = sym (first_none ns) ∙ ap (first_above ns) (sym (nil_from_length rs none)) ∙ is

dropped : (ds : List (Bor (List ℕ))) (i : ℕ) (d : Bor (List ℕ)) → i < length ds
    → names (drop i ds) ≡ (get_or ds i d).now ∷ names (drop (i + 1) ds)
dropped ds i d low = ap names (drop_more ds i d low)

pub first_next : (ds : List (Bor (List ℕ))) (i : ℕ) (d : Bor (List ℕ)) (r : Option Repository) (rest others : List (Option Repository))
    (found : Option (List ℕ × Repository)) → i < length ds → rest ≡ r ∷ others → r ≡ None → first_above (names (drop i ds)) rest ≡ found
    → first_above (names (drop (i + 1) ds)) others ≡ found
first_next ds i d r rest others found low more none is =
    ap (λ x. first_above ((get_or ds i d).now ∷ names (drop (i + 1) ds)) (x ∷ others)) (sym none)
    ∙ ap (first_above ((get_or ds i d).now ∷ names (drop (i + 1) ds))) (sym more)
    ∙ ap (λ l. first_above l rest) (sym (dropped ds i d low)) ∙ is
