-- How long the names are that tokens fit and segments lead to.
use Rattle.std.proofs.Common.{◌≡◌, ◌≤◌, ℕ, not, false, List, [], ◌∷◌, ◌++◌, length, map, refl, sym, subst, ap, arith, length-append}
use Rattle.std.proofs.lemmas.List.{Recursion.is_count_by, Elements.{All-nil, All-cons, All-head, All-tail}}
use Rattle.std.specs.List.{All, list_any, count_by}
use Rattle.lc_glob.specs.{Tokens.{TokenModel, literal, any_byte, star, class, is_star}, Fits.Fits}
use Rattle.lc_glob.specs.{Patterns.{SegmentModel, plain, double_star}, Leads.Leads, Costs.bytes_with_ends, Path.segments_of}
use Rattle.lc_glob.specs.{Lengths.{IsBetween, AreBetween, FitsSome, least_bytes}, declared.lengths.Lengths.Lengths}
use Rattle.lc_glob.proofs.{Bounds.path_size, Ends.bytes_with_ends-end, Fitting.fits_literals}

-- a name that tokens fit has a byte for each that is no star
pub fits_least : (us : List TokenModel) (name : List ℕ) → Fits us name → least_bytes us ≤ length name
fits_least [] name f = omega arith
fits_least (star ∷ us) name f = omega (arith, fits_least us f.1 f.3, ap length f.2, length-append f.0 f.1)
fits_least (literal c ∷ us) [] f = absurd f
fits_least (literal c ∷ us) (b ∷ bs) f = omega (arith, fits_least us bs f.1)
fits_least (any_byte ∷ us) [] f = absurd f
fits_least (any_byte ∷ us) (b ∷ bs) f = omega (arith, fits_least us bs f.1)
fits_least (class n rs ∷ us) [] f = absurd f
fits_least (class n rs ∷ us) (b ∷ bs) f = omega (arith, fits_least us bs f.1)

-- and no other byte where none of the tokens is a star
pub fits_exactly : (us : List TokenModel) (name : List ℕ) → list_any is_star us ≡ false → Fits us name → length name ≤ least_bytes us
fits_exactly [] [] e f = omega arith
fits_exactly [] (b ∷ bs) e f = absurd f
fits_exactly (star ∷ us) name e f = cc
fits_exactly (literal c ∷ us) [] e f = absurd f
fits_exactly (literal c ∷ us) (b ∷ bs) e f = omega (arith, fits_exactly us bs e f.1)
fits_exactly (any_byte ∷ us) [] e f = absurd f
fits_exactly (any_byte ∷ us) (b ∷ bs) e f = omega (arith, fits_exactly us bs e f.1)
fits_exactly (class n rs ∷ us) [] e f = absurd f
fits_exactly (class n rs ∷ us) (b ∷ bs) e f = omega (arith, fits_exactly us bs e f.1)

-- they may be counted
pub counted_least : {A : Type 0} (f : A → TokenModel) (xs : List A) → least_bytes (map f xs) ≡ count_by (λ x. not (is_star (f x))) xs
counted_least f xs = is_count_by (λ ys. least_bytes (map f ys)) _ refl (λ _ _. refl) xs

-- literals fit names of their own length alone
pub literals_between : (lengths : Lengths) (ls : List ℕ) → FitsSome lengths (plain (map literal ls))
    → (lengths.shortest ≤ length ls) × (length ls ≤ lengths.longest)
literals_between lengths ls f =
    let e = ap length ((fits_literals ls f.0).0 f.2) in (omega (arith, e, f.1.0), omega (arith, e, f.1.1))

-- and after a star only names that are as long at least
pub suffix_between : (lengths : Lengths) (ls : List ℕ) → FitsSome lengths (plain (star ∷ map literal ls)) → length ls ≤ lengths.longest
suffix_between lengths ls f =
    let e = ap length ((fits_literals ls f.2.1).0 f.2.3) in
    omega (arith, e, ap length f.2.2, length-append f.2.0 f.2.1, f.1.1)

rest_between : (lengths : Lengths) (a b : List (List ℕ)) → AreBetween lengths (a ++ b) → AreBetween lengths b
rest_between lengths [] b all = all
rest_between lengths (n ∷ a) b all = rest_between lengths a b (All-tail (IsBetween lengths) n (a ++ b) all)

-- where segments lead to the end of names, each plain one fits one of these
pub each_fits : (lengths : Lengths) (s : List SegmentModel) (names : List (List ℕ)) → AreBetween lengths names → Leads s names
    → All (FitsSome lengths) s
each_fits lengths [] names all l = All-nil (FitsSome lengths)
each_fits lengths (plain us ∷ r) [] all l = absurd l
each_fits lengths (plain us ∷ r) (n ∷ ns) all l =
    All-cons (FitsSome lengths) (plain us) r (n, All-head (IsBetween lengths) n ns all, l.0)
    (each_fits lengths r ns (All-tail (IsBetween lengths) n ns all) l.1)
each_fits lengths (double_star ∷ r) names all l =
    All-cons (FitsSome lengths) double_star r tt
    (each_fits lengths r l.1 (rest_between lengths l.0 l.1 (subst (AreBetween lengths) l.2 all)) l.3)

-- lengths that names beyond the first have, as far as the first has too
pub more_between : (lengths : Lengths) (path rest : List (List ℕ)) (name : List ℕ) → path ≡ name ∷ rest → IsBetween lengths name
    → AreBetween lengths rest → AreBetween lengths path
more_between lengths path rest name e one all =
    subst (AreBetween lengths) (sym e) (All-cons (IsBetween lengths) name rest one all)

small : (names : List (List ℕ)) (most : ℕ) → bytes_with_ends names ≤ most → All (λ name. length name ≤ most) names
small [] most l = All-nil (λ (name : List ℕ). length name ≤ most)
small (n ∷ ns) most l = All-cons (λ (name : List ℕ). length name ≤ most) n ns (omega arith) (small ns most (omega arith))

-- no name above the last is longer than the path
pub names_within : (path : List ℕ) (above : List (List ℕ)) (name : List ℕ) (most : ℕ) → segments_of path ≡ above ++ name ∷ []
    → length path ≤ most → All (λ n. length n ≤ most) above
names_within path above name most e l =
    small above most (omega (arith, path_size path, ap bytes_with_ends e, bytes_with_ends-end above name))
