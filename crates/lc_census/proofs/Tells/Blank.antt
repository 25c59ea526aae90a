-- The scan counts the blank lines of the cutting.
use Rattle.std.proofs.Common.{◌≡◌, ℕ, ◌+◌, Bool, true, false, not, ◌&&◌, ◌||◌, List, [], ◌∷◌, refl, sym, ap, ap₂, ◌∙◌, arith}
use Rattle.std.proofs.Math.Bool.{and-false, and-true, and_assoc}
use Rattle.lc_census.specs.{declared.scan.Scan.Scan, Bytes.{is_lf, is_cr, is_end, is_space, one_if}, Scan.{after, after_all}, Cutting.End}
use Rattle.lc_census.specs.{Cutting.{lf, cr_lf, cr, Line, Cutting, starts_with_lf}, Census.is_blank_text, TheCutting.{line, cut, before}}
use Rattle.lc_census.specs.TheCutting.{with_cr, with_text}
use Rattle.lc_census.proofs.{OneCutting.{before-text, by_kind}, Tells.Ends.passing}

-- blank lines, where a says that a CR stood before the first, and b that the line so far is blank
abbrev pub blank_ends : Bool → Bool → List Line → ℕ
blank_ends a b [] = 0
blank_ends a b (l ∷ ls) =
    one_if ((b && is_blank_text l.text) && not (a && starts_with_lf (l ∷ ls))) + passing (λ m. is_blank_text m.text) ls

-- the blank lines of whole bytes are the lines whose text is blank
pub blank_whole : (ls : List Line) → blank_ends false true ls ≡ passing (λ m. is_blank_text m.text) ls
blank_whole [] = refl
blank_whole (l ∷ ls) = ap (λ b. one_if b + passing (λ m. is_blank_text m.text) ls) (and-true (is_blank_text l.text))

-- no LF is at the front
not_led : (a b : Bool) → one_if ((b && true) && not (a && false)) ≡ one_if b
not_led a b = ap₂ (λ p q. one_if (p && not q)) (and-true b) (and-false a) ∙ ap one_if (and-true b)

blank_cr : (a b : Bool) (ls : List Line) → blank_ends a b (with_cr (starts_with_lf ls) ls) ≡ one_if b + blank_ends true true ls
blank_cr a b [] = ap (λ n. n + 0) (not_led a b)
blank_cr a b (l ∷ ls) = go l.text l.end
  where
    go : (t : List ℕ) (e : End)
        → blank_ends a b (with_cr (starts_with_lf (line t e ∷ ls)) (line t e ∷ ls)) ≡ one_if b + blank_ends true true (line t e ∷ ls)
    go [] lf = omega (arith, not_led a b)
    go [] cr_lf = omega (arith, not_led a b)
    go [] cr = omega (arith, not_led a b)
    go (y ∷ t) e = omega (arith, not_led a b, ap one_if (and-true (is_blank_text (y ∷ t))))

blank_lf : (a b : Bool) (ls : List Line) → blank_ends a b (line [] lf ∷ ls) ≡ one_if (b && not a) + blank_ends false true ls
blank_lf a b ls =
    ap₂ (λ p q. one_if (p && not q) + passing (λ m. is_blank_text m.text) ls) (and-true b) (and-true a)
    ∙ ap (λ n. one_if (b && not a) + n) (sym (blank_whole ls))

blank_text : (a b : Bool) (x : ℕ) (ls : List Line) (r : List ℕ)
    → blank_ends a b (with_text x ls r).lines ≡ blank_ends false (b && is_space x) ls
blank_text a b x [] r = refl
blank_text a b x (l ∷ ls) r =
    ap₂ (λ p q. one_if (p && not q) + passing (λ m. is_blank_text m.text) ls) (sym (and_assoc b (is_space x) (is_blank_text l.text)))
    (and-false a)

abbrev pub ended_blank : Bool → Bool → ℕ → ℕ
ended_blank a b x = one_if (b && (is_cr x || (is_lf x && not a)))

blank_step : (d : Cutting) (a b : Bool) (x : ℕ)
    → blank_ends a b (before x d).lines ≡ ended_blank a b x + blank_ends (is_cr x) (is_end x || (b && is_space x)) d.lines
blank_step d a b =
    by_kind (λ x. blank_ends a b (before x d).lines ≡ ended_blank a b x + blank_ends (is_cr x) (is_end x || (b && is_space x)) d.lines)
    (blank_lf a b d.lines)
    (blank_cr a b d.lines ∙ ap (λ v. one_if v + blank_ends true true d.lines) (sym (and-true b)))
    (λ x e f. ap (λ c. blank_ends a b c.lines) (before-text x d e f) ∙ blank_text a b x d.lines d.rest ∙ plain x (is_lf x) (is_cr x) e f)
  where
    plain : (x : ℕ) (l c : Bool) → l ≡ false → c ≡ false
        → blank_ends false (b && is_space x) d.lines ≡ one_if (b && (c || (l && not a))) + blank_ends c
        ((l || c) || (b && is_space x)) d.lines
    plain x true c e f = absurd (cc)
    plain x false true e f = absurd (cc)
    plain x false false e f = omega (arith, ap one_if (and-false b))

-- a scan counts the blank lines of the cutting
pub blank_run : (s : Scan) (xs : List ℕ) → (after_all s xs).blank ≡ s.blank + blank_ends s.after_cr s.is_blank (cut xs).lines
blank_run s [] = omega arith
blank_run s (x ∷ xs) = omega (arith, blank_run (after s x) xs, blank_step (cut xs) s.after_cr s.is_blank x)
