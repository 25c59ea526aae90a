-- Counts of set bits, and the scan's fields over a list.
use Rattle.std.proofs.Common.{add_assoc, ◌≡◌, ℕ, zero, suc, ◌+◌, ◌/◌, ◌%◌, ◌^◌, ◌<◌, Bool, not, ◌&&◌, ◌||◌, ◌==◌, List, [], ◌∷◌, ◌++◌}
use Rattle.std.proofs.Common.{length, get_or, refl, sym, ap, ap₂, ◌∙◌, arith, mod-lt, zero-lt-suc, add-zero, pow-suc}
use Rattle.std.proofs.lemmas.Nat.Bits.{bit_at_lowest, bit_at-suc}
use Rattle.std.specs.Int.RustNames.{count_ones}
use lib.Count.{ones_step, ones-le}
use Rattle.lc_census.specs.{declared.scan.Scan.Scan, Lanes.{test, cr_before, blank_before, still_blank, count_first}, Bytes.{is_lf, is_cr}}
use Rattle.lc_census.specs.{Bytes.{one_if, is_nul}, Scan.{after, after_all}}
use Rattle.lc_census.proofs.Bits.Test.{bit_cases}

-- the number of set bits is the number of places where they are set
pub ones_bits : (k x : ℕ) (p : ℕ → Bool) → x < 2 ^ k → ((i : ℕ) → i < k → test x i ≡ p i) → count_ones x ≡ count_first p k
unfolding test
ones_bits zero x p lt h = omega (arith, ones-le 0 x lt)
ones_bits (suc k) x p lt h =
    ones_step x
    ∙ ap₂ (λ a b. a + b)
    (bit_cases (λ r. r ≡ one_if (r == 1)) refl refl (x % 2) (mod-lt x (zero-lt-suc 1))
    ∙ ap one_if (ap (λ n. n == 1) (sym (bit_at_lowest x)) ∙ h 0 (omega arith)))
    (ones_bits k (x / 2) (λ i. p (suc i)) (omega (arith, pow-suc 2 k))
    (λ i l. ap (λ n. n == 1) (sym (bit_at-suc x i)) ∙ h (suc i) (omega arith)))

-- equal tests hold at as many places
pub count_same : (n : ℕ) (p q : ℕ → Bool) → ((i : ℕ) → p i ≡ q i) → count_first p n ≡ count_first q n
count_same zero p q h = refl
count_same (suc n) p q h = ap₂ (λ a b. one_if a + b) (h 0) (count_same n (λ i. p (suc i)) (λ i. q (suc i)) (λ i. h (suc i)))

-- what stands before a byte, from the second byte on
pub cr_shift : (c : Bool) (x : ℕ) (v : List ℕ) (i : ℕ) → cr_before c (x ∷ v) (suc i) ≡ cr_before (is_cr x) v i
unfolding cr_before
cr_shift c x v zero = refl
cr_shift c x v (suc i) = refl

-- whether the line is blank before a byte, from the second byte on
pub blank_shift : (c : Bool) (x : ℕ) (v : List ℕ) (i : ℕ) → blank_before c (x ∷ v) (suc i) ≡ blank_before (still_blank c x) v i
unfolding blank_before
blank_shift c x v zero = refl
blank_shift c x v (suc i) = ap (λ b. still_blank b (get_or v i 0)) (blank_shift c x v i)

abbrev pub crlf_at : Bool → List ℕ → ℕ → Bool
crlf_at a v i = is_lf (get_or v i 0) && cr_before a v i

abbrev pub blank_at : Bool → Bool → List ℕ → ℕ → Bool
blank_at a b v i = blank_before b v i && (is_cr (get_or v i 0) || (is_lf (get_or v i 0) && not (cr_before a v i)))

-- a scan counts the line feeds
pub lf_all : (s : Scan) (v : List ℕ) → (after_all s v).lf ≡ s.lf + count_first (λ i. is_lf (get_or v i 0)) (length v)
lf_all s [] = sym (add-zero s.lf)
lf_all s (x ∷ v) = omega (arith, lf_all (after s x) v)

-- a scan counts the carriage returns
pub cr_all : (s : Scan) (v : List ℕ) → (after_all s v).cr ≡ s.cr + count_first (λ i. is_cr (get_or v i 0)) (length v)
cr_all s [] = sym (add-zero s.cr)
cr_all s (x ∷ v) = omega (arith, cr_all (after s x) v)

-- a scan counts the NUL bytes
pub nul_all : (s : Scan) (v : List ℕ) → (after_all s v).nul ≡ s.nul + count_first (λ i. is_nul (get_or v i 0)) (length v)
nul_all s [] = sym (add-zero s.nul)
nul_all s (x ∷ v) = omega (arith, nul_all (after s x) v)

-- a scan counts the line feeds after a carriage return
pub crlf_all : (s : Scan) (v : List ℕ) → (after_all s v).crlf ≡ s.crlf + count_first (crlf_at s.after_cr v) (length v)
unfolding cr_before
crlf_all s [] = sym (add-zero s.crlf)
crlf_all s (x ∷ v) =
    crlf_all (after s x) v ∙ add_assoc s.crlf (one_if (is_lf x && s.after_cr)) (count_first (crlf_at (is_cr x) v) (length v))
    ∙ ap (λ n. s.crlf + (one_if (is_lf x && s.after_cr) + n))
    (count_same (length v) (crlf_at (is_cr x) v) (λ i. crlf_at s.after_cr (x ∷ v) (suc i))
    (λ i. ap (λ b. is_lf (get_or v i 0) && b) (sym (cr_shift s.after_cr x v i))))

-- a scan counts the ends of blank lines
pub blank_all : (s : Scan) (v : List ℕ)
    → (after_all s v).blank ≡ s.blank + count_first (blank_at s.after_cr s.is_blank v) (length v)
unfolding cr_before blank_before
blank_all s [] = sym (add-zero s.blank)
blank_all s (x ∷ v) =
    let first = one_if (s.is_blank && (is_cr x || (is_lf x && not s.after_cr))) in
    let b = still_blank s.is_blank x in
    blank_all (after s x) v ∙ add_assoc s.blank first (count_first (blank_at (is_cr x) b v) (length v))
    ∙ ap (λ n. s.blank + (first + n)) (count_same (length v) (blank_at (is_cr x) b v) (λ i. blank_at s.after_cr s.is_blank (x ∷ v) (suc i))
    (λ i. ap₂ (λ p q. p && (is_cr (get_or v i 0) || (is_lf (get_or v i 0) && not q))) (sym (blank_shift s.is_blank x v i))
    (sym (cr_shift s.after_cr x v i))))

-- after a scan it is known whether the last byte was a carriage return
pub after_cr_all : (s : Scan) (v : List ℕ) → (after_all s v).after_cr ≡ cr_before s.after_cr v (length v)
unfolding cr_before
after_cr_all s [] = refl
after_cr_all s (x ∷ v) = after_cr_all (after s x) v ∙ sym (cr_shift s.after_cr x v (length v))

-- after a scan it is known whether the line that was begun is blank
pub is_blank_all : (s : Scan) (v : List ℕ) → (after_all s v).is_blank ≡ blank_before s.is_blank v (length v)
unfolding blank_before
is_blank_all s [] = refl
is_blank_all s (x ∷ v) = is_blank_all (after s x) v ∙ sym (blank_shift s.is_blank x v (length v))

-- a scan of two pieces is the scan of the second after the first
pub after_all-append : (s : Scan) (xs ys : List ℕ) → after_all s (xs ++ ys) ≡ after_all (after_all s xs) ys
after_all-append s [] ys = refl
after_all-append s (x ∷ xs) ys = after_all-append (after s x) xs ys

-- states with equal fields are equal
pub state_same : (a b : Scan) → a.lf ≡ b.lf → a.cr ≡ b.cr → a.crlf ≡ b.crlf → a.blank ≡ b.blank → a.nul ≡ b.nul
    → a.after_cr ≡ b.after_cr → a.is_blank ≡ b.is_blank → a ≡ b
state_same a b p q r s n u w = λ t. record { lf = p t; cr = q t; crlf = r t; blank = s t; nul = n t; after_cr = u t; is_blank = w t }
