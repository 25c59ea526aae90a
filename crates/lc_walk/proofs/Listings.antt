-- What the parts of a level give to a report, and lists by number.
use Rattle.std.proofs.{lemmas.{Grind.{common_steps, flat_map-append}, List.{map-append, Sums.{sum_by-append, sum_by-cons}}}, Common.◌≡◌}
use Rattle.std.proofs.Common.{ℕ, zero, suc, ◌+◌, ◌<◌, Bool, cond, List, [], ◌∷◌, ◌++◌, length, slice_get, map, sum_by, refl, sym, ◌∙◌, ap}
use Rattle.std.proofs.Common.{arith, subst, Option, Some, None, append_assoc}
use Rattle.std.specs.List.{flat_map, range_with_len, enumerate_from, AllByRecursion}
use Rattle.lc_level.specs.{Job.JobModel, Level.{Fate, listed_level, failed_of, counted_in, skipped_below, file_below, failed_in}}
use Rattle.lc_level.specs.{Level.{skipped_in, absent_faults}, FaultLines.{fault_below, FaultLineModel}}
use Rattle.lc_walk.specs.{Found.{Found, found_absent, found_by, found_of}, FoundReports.{tallied, fault_in, entries_in, tallied_of}}
use Rattle.lc_walk.specs.{FoundReports.{files_of, faults_of, directories_of, skipped_lines_of, entry_count}, TreeOfRows.numbers_below}
use Rattle.lc_board.proofs.Weights.{each-map, each-append, flat_map-on}

-- lists of lists of lists
pub flat_twice : {A B C : Type 0} (g : B → List C) (f : A → List B) (xs : List A)
    → flat_map g (flat_map f xs) ≡ flat_map (λ x. flat_map g (f x)) xs
flat_twice g f [] = refl
flat_twice g f (x ∷ xs) = flat_map-append g (f x) (flat_map f xs) ∙ ap (λ l. flat_map g (f x) ++ l) (flat_twice g f xs)

-- elements that give nothing
pub flat_none : {A B : Type 0} (f : A → List B) (xs : List A) → ((x : A) → f x ≡ []) → flat_map f xs ≡ []
flat_none f [] e = refl
flat_none f (x ∷ xs) e = ap (λ l. l ++ flat_map f xs) (e x) ∙ flat_none f xs e

-- what is made of all that the entries of a listed directory give, where it is what is made of one part of their fates
went : {A B : Type 0} (g : Found → List B) (part : List ℕ × Fate → List A) (line : A → B) (d : List ℕ)
    → ((f : List ℕ × Fate) → flat_map g (found_by d f) ≡ map line (part f)) →
    (fates : List (List ℕ × Fate)) → flat_map g (flat_map (found_by d) fates) ≡ map line (flat_map part fates)
went g part line d one [] = refl
went g part line d one (f ∷ fs) = grind (arith, common_steps, flat_map-append, map-append, went g part line d one fs)

-- what is made of nothing that is absent is made of what comes after it
pub after_absent : {B : Type 0} (g : Found → List B) (fault : List ℕ → Found) → ((rest : List ℕ) → g (fault rest) ≡ [])
    → (absent : List (List ℕ)) (xs : List Found) → flat_map g (map fault absent ++ xs) ≡ flat_map g xs
after_absent g fault none [] xs = refl
after_absent g fault none (rest ∷ absent) xs = grind (arith, common_steps, after_absent g fault none absent xs)

-- what a listed directory gives to a tally
pub tallied_went : (j : JobModel) (fates : List (List ℕ × Fate)) (absent : List (List ℕ)) →
    tallied_of (found_of j (listed_level fates absent)) ≡ map tallied (counted_in fates)
tallied_went j fates absent = grind (arith, common_steps, after_absent, went)

-- to the lines of files
pub files_went : (j : JobModel) (fates : List (List ℕ × Fate)) (absent : List (List ℕ)) →
    files_of (found_of j (listed_level fates absent)) ≡ map (file_below j.path) (counted_in fates)
files_went j fates absent = grind (arith, common_steps, after_absent, went)

fault_one : (d : List ℕ) (f : List ℕ × Fate) → flat_map fault_in (found_by d f) ≡ map (fault_below d) (failed_of f)
fault_one d f = grind (arith, common_steps)

-- the faults of what is absent come first
absent_first : (d : List ℕ) (absent : List (List ℕ)) (xs : List Found) (more : List FaultLineModel)
    → faults_of xs ≡ map (fault_below d) more
    → faults_of (map (found_absent d) absent ++ xs) ≡ map (fault_below d) (absent_faults absent ++ more)
absent_first d [] xs more e = e
absent_first d (rest ∷ absent) xs more e = grind (arith, common_steps, absent_first d absent xs more e)

-- to the lines of faults
pub faults_went : (j : JobModel) (fates : List (List ℕ × Fate)) (absent : List (List ℕ)) →
    faults_of (found_of j (listed_level fates absent)) ≡ map (fault_below j.path) (absent_faults absent ++ failed_in fates)
faults_went j fates absent = grind (arith, common_steps, absent_first, went, fault_one)

-- to the lines of entries left out
pub skipped_went : (j : JobModel) (fates : List (List ℕ × Fate)) (absent : List (List ℕ)) →
    skipped_lines_of (found_of j (listed_level fates absent)) ≡ map (skipped_below j.path) (skipped_in fates)
skipped_went j fates absent = grind (arith, common_steps, after_absent, went)

-- to the listed directories
pub directories_went : (j : JobModel) (fates : List (List ℕ × Fate)) (absent : List (List ℕ)) →
    directories_of (found_of j (listed_level fates absent)) ≡ j.path ∷ []
directories_went j fates absent = grind (arith, common_steps, after_absent, flat_twice, flat_none)

-- what its entries give has no number of entries of its own
pub no_entries_within : (d : List ℕ) (fates : List (List ℕ × Fate)) → sum_by entries_in (flat_map (found_by d) fates) ≡ 0
no_entries_within d [] = refl
no_entries_within d (f ∷ fs) = grind (arith, common_steps, sum_by-append, no_entries_within d fs)

-- nor has what is absent
pub no_entries_absent : (fault : List ℕ → Found) → ((rest : List ℕ) → entries_in (fault rest) ≡ 0) → (absent : List (List ℕ))
    (xs : List Found) → entry_count (map fault absent ++ xs) ≡ entry_count xs
no_entries_absent fault none [] xs = refl
no_entries_absent fault none (rest ∷ absent) xs = grind (arith, common_steps, sum_by-cons, no_entries_absent fault none absent xs)

-- to the number of entries
pub entries_went : (j : JobModel) (fates : List (List ℕ × Fate)) (absent : List (List ℕ)) →
    entry_count (found_of j (listed_level fates absent)) ≡ length fates
entries_went j fates absent = grind (arith, common_steps, no_entries_absent, sum_by-cons, no_entries_within)

-- ---- lists by number

front : {B : Type 0} (f : ℕ → List B) (n : ℕ) → flat_map f (numbers_below (suc n)) ≡ f 0 ++ flat_map (λ k. f (suc k)) (numbers_below n)
front f zero = refl
front f (suc n) = grind (arith, common_steps, flat_map-append, append_assoc, front f n)

abbrev or_none : {A B : Type 0} → (A → List B) → Option A → List B
or_none f None = []
or_none f (Some x) = f x

in_order : {A B : Type 0} (f : A → List B) (xs : List A)
    → flat_map (λ i. or_none f (slice_get xs i)) (numbers_below (length xs)) ≡ flat_map f xs
in_order f [] = refl
in_order f (x ∷ xs) = front (λ i. or_none f (slice_get (x ∷ xs) i)) (length xs) ∙ ap (λ l. f x ++ l) (in_order f xs)

-- a range that is one longer
range_more : (a n : ℕ) → range_with_len a (suc n) ≡ range_with_len a n ++ (a + n) ∷ []
range_more a zero = let here : a ≡ a + 0 = omega arith in ap (λ k. k ∷ []) here
range_more a (suc n) = grind (arith, common_steps, range_more (a + 1) n)

-- the numbers below a bound are a range
pub numbers_from_0 : (n : ℕ) → numbers_below n ≡ range_with_len 0 n
numbers_from_0 zero = refl
numbers_from_0 (suc n) =
    let last : n ≡ 0 + n = omega arith in
    ap (λ ks. ks ++ n ∷ []) (numbers_from_0 n) ∙ ap (λ k. range_with_len 0 n ++ k ∷ []) last ∙ sym (range_more 0 n)

from_place : {A B : Type 0} (g : ℕ → List B) (f : ℕ × A → List B) (xs : List A) (a : ℕ)
    → ((i : ℕ) (x : A) → slice_get xs i ≡ Some x → g (a + i) ≡ f (a + i, x)) →
    flat_map g (range_with_len a (length xs)) ≡ flat_map f (enumerate_from a xs)
from_place g f [] a e = refl
from_place g f (x ∷ xs) a e =
    let zeroth : a + 0 ≡ a = omega arith in
    let first : g a ≡ f (a, x) = subst (λ k. g k ≡ f (k, x)) zeroth (e 0 x refl) in
    let next : (i : ℕ) → a + suc i ≡ a + 1 + i = λ i. omega arith in
    ap (λ l. l ++ flat_map g (range_with_len (a + 1) (length xs))) first
    ∙ ap (λ l. f (a, x) ++ l) (from_place g f xs (a + 1) (λ i y is. subst (λ k. g k ≡ f (k, y)) (next i) (e (suc i) y is)))

-- what each number gives, where it is what its element gives with that number
pub by_place : {A B : Type 0} (g : ℕ → List B) (f : ℕ × A → List B) (xs : List A)
    → ((i : ℕ) (x : A) → slice_get xs i ≡ Some x → g i ≡ f (i, x)) →
    flat_map g (numbers_below (length xs)) ≡ flat_map f (enumerate_from 0 xs)
by_place g f xs e = grind (arith, common_steps, numbers_from_0, from_place)

-- and each lies below it
pub below_all : (n : ℕ) → AllByRecursion (λ i. i < n) (numbers_below n)
below_all zero = tt
below_all (suc n) = grind (arith, common_steps, each-append, each-map, below_all n)

-- below its length a list has an element
pub got_here : {A : Type 0} (xs : List A) (i : ℕ) → i < length xs → (x : A) × (slice_get xs i ≡ Some x)
got_here [] i l = absurd (omega arith)
got_here (x ∷ xs) zero l = (x, refl)
got_here (x ∷ xs) (suc i) l = got_here xs i (omega arith)

-- what each number gives, where it is what its element gives
pub by_number : {A B : Type 0} (g : ℕ → List B) (f : A → List B) (xs : List A) → ((i : ℕ) (x : A) → slice_get xs i ≡ Some x → g i ≡ f x) →
    flat_map g (numbers_below (length xs)) ≡ flat_map f xs
by_number g f xs e =
    flat_map-on g (λ i. or_none f (slice_get xs i)) (numbers_below (length xs))
    (each-map (λ i. i < length xs) (λ i. g i ≡ or_none f (slice_get xs i))
    (λ i b. let r = got_here xs i b in e i r.0 r.1 ∙ ap (or_none f) (sym r.1)) (numbers_below (length xs)) (below_all (length xs)))
    ∙ in_order f xs

-- a sum over numbers, where each gives what its element gives
pub sums_by_number : {A : Type 0} (g : ℕ → ℕ) (f : A → ℕ) (xs : List A) → ((i : ℕ) (x : A) → slice_get xs i ≡ Some x → g i ≡ f x) →
    sum_by g (numbers_below (length xs)) ≡ sum_by f xs
sums_by_number g f xs e =
    sym (singles g (numbers_below (length xs)))
    ∙ ap (sum_by (λ n. n)) (by_number (λ i. g i ∷ []) (λ x. f x ∷ []) xs (λ i x is. ap (λ n. n ∷ []) (e i x is)))
    ∙ singles f xs
  where
    singles : {B : Type 0} (h : B → ℕ) (ys : List B) → sum_by (λ n. n) (flat_map (λ y. h y ∷ []) ys) ≡ sum_by h ys
    singles h [] = refl
    singles h (y ∷ ys) =
        sum_by-cons (λ n. n) (h y) (flat_map (λ z. h z ∷ []) ys) ∙ ap (λ n. h y + n) (singles h ys) ∙ sym (sum_by-cons h y ys)

-- a sum over lists of lists
pub sum_twice : {A B : Type 0} (g : B → ℕ) (f : A → List B) (xs : List A) → sum_by g (flat_map f xs) ≡ sum_by (λ x. sum_by g (f x)) xs
sum_twice g f [] = refl
sum_twice g f (x ∷ xs) = grind (arith, common_steps, sum_by-append, sum_by-cons, sum_twice g f xs)

-- lists that are given only where they are asked for
pub flat_asked : {A B : Type 0} (asked : Bool) (f : A → List B) (xs : List A)
    → flat_map (λ x. cond asked (f x) []) xs ≡ cond asked (flat_map f xs) []
flat_asked asked f xs = grind (arith, common_steps, flat_none)
