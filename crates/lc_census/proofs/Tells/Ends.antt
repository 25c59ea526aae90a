-- The scan counts the ends of the cutting.
use Rattle.std.proofs.Common.{◌≡◌, ℕ, ◌+◌, Bool, true, false, ◌&&◌, List, [], ◌∷◌, refl, sym, ap, ap₂, ◌∙◌, arith, zero-add}
use Rattle.std.proofs.Math.Bool.{and-true}
use Rattle.lc_census.specs.{declared.scan.Scan.Scan, Bytes.{is_lf, is_cr, one_if}, Scan.{after, after_all}, Cutting.{End, lf, cr_lf, cr}}
use Rattle.lc_census.specs.{Cutting.{Line, Cutting, starts_with_lf, same_end}, TheCutting.{line, cut, before, with_cr, with_text}}
use Rattle.lc_census.proofs.OneCutting.{before-text, by_kind}

-- how many pass, from the front
abbrev pub passing : {X : Type 0} → (X → Bool) → List X → ℕ
passing p [] = 0
passing p (x ∷ xs) = one_if (p x) + passing p xs

abbrev pub ends_of : End → List Line → ℕ
ends_of end ls = passing (λ l. same_end end l.end) ls

-- how many lines end with an LF, and with a CR or a CR and an LF
abbrev pub lf_ends : List Line → ℕ
lf_ends ls = ends_of lf ls + ends_of cr_lf ls

abbrev pub cr_ends : List Line → ℕ
cr_ends ls = ends_of cr ls + ends_of cr_lf ls

-- a text before a cutting changes no end
text_ends : (end : End) (x : ℕ) (ls : List Line) (r : List ℕ) → ends_of end (with_text x ls r).lines ≡ ends_of end ls
text_ends end x [] r = refl
text_ends end x (l ∷ ls) r = refl

-- what a CR before lines does to their ends
record IsAfterCr (old new : List Line) : Type 0 where
  pub lfs : ends_of lf new + one_if (starts_with_lf old) ≡ ends_of lf old
  pub crlfs : ends_of cr_lf new ≡ ends_of cr_lf old + one_if (starts_with_lf old)
  pub crs : ends_of cr new + one_if (starts_with_lf old) ≡ 1 + ends_of cr old

after_cr : (ls : List Line) → IsAfterCr ls (with_cr (starts_with_lf ls) ls)
after_cr [] = record { lfs = refl; crlfs = refl; crs = refl }
after_cr (l ∷ ls) = go l.text l.end
  where
    go : (t : List ℕ) (e : End) → IsAfterCr (line t e ∷ ls) (with_cr (starts_with_lf (line t e ∷ ls)) (line t e ∷ ls))
    go [] lf = record { lfs = omega arith; crlfs = omega arith; crs = omega arith }
    go [] cr_lf = record { lfs = omega arith; crlfs = omega arith; crs = omega arith }
    go [] cr = record { lfs = omega arith; crlfs = omega arith; crs = omega arith }
    go (y ∷ t) e = record { lfs = omega arith; crlfs = omega arith; crs = omega arith }

-- LF
lf_step : (d : Cutting) (x : ℕ) → lf_ends (before x d).lines ≡ one_if (is_lf x) + lf_ends d.lines
lf_step d = by_kind (λ x. lf_ends (before x d).lines ≡ one_if (is_lf x) + lf_ends d.lines)
    (omega arith)
    (omega (arith, (after_cr d.lines).lfs, (after_cr d.lines).crlfs))
    (λ x e f. ap (λ c. lf_ends c.lines) (before-text x d e f) ∙ omega (
      arith,
      text_ends lf x d.lines d.rest,
      text_ends cr_lf x d.lines d.rest,
      ap one_if e,
    ))

-- a scan counts the lines that end with a line feed
pub lf_run : (s : Scan) (xs : List ℕ) → (after_all s xs).lf ≡ s.lf + lf_ends (cut xs).lines
lf_run s [] = omega arith
lf_run s (x ∷ xs) = omega (arith, lf_run (after s x) xs, lf_step (cut xs) x)

-- CR
cr_step : (d : Cutting) (x : ℕ) → cr_ends (before x d).lines ≡ one_if (is_cr x) + cr_ends d.lines
cr_step d = by_kind (λ x. cr_ends (before x d).lines ≡ one_if (is_cr x) + cr_ends d.lines)
    (omega arith)
    (omega (arith, (after_cr d.lines).crs, (after_cr d.lines).crlfs))
    (λ x e f. ap (λ c. cr_ends c.lines) (before-text x d e f) ∙ omega (
      arith,
      text_ends cr x d.lines d.rest,
      text_ends cr_lf x d.lines d.rest,
      ap one_if f,
    ))

-- a scan counts those that end with a carriage return alone or before a line feed
pub cr_run : (s : Scan) (xs : List ℕ) → (after_all s xs).cr ≡ s.cr + cr_ends (cut xs).lines
cr_run s [] = omega arith
cr_run s (x ∷ xs) = omega (arith, cr_run (after s x) xs, cr_step (cut xs) x)

-- CR LF: an LF that stands alone at the front, where a CR stood before it, is one more
abbrev pub crlf_ends : Bool → List Line → ℕ
crlf_ends a ls = ends_of cr_lf ls + one_if (a && starts_with_lf ls)

text_starts : (x : ℕ) (ls : List Line) (r : List ℕ) → starts_with_lf (with_text x ls r).lines ≡ false
text_starts x [] r = refl
text_starts x (l ∷ ls) r = refl

cr_starts : (ls : List Line) → starts_with_lf (with_cr (starts_with_lf ls) ls) ≡ false
cr_starts [] = refl
cr_starts (l ∷ ls) = go (starts_with_lf (l ∷ ls))
  where
    go : (b : Bool) → starts_with_lf (with_cr b (l ∷ ls)) ≡ false
    go true = refl
    go false = refl

and_false : (a b : Bool) → b ≡ false → one_if (a && b) ≡ 0
and_false true b e = ap one_if e
and_false false b e = refl

crlf_step : (d : Cutting) (a : Bool) (x : ℕ)
    → crlf_ends a (before x d).lines ≡ one_if (is_lf x && a) + crlf_ends (is_cr x) d.lines
crlf_step d a = by_kind (λ x. crlf_ends a (before x d).lines ≡ one_if (is_lf x && a) + crlf_ends (is_cr x) d.lines)
    (omega (arith, ap one_if (and-true a)))
    (omega (arith, (after_cr d.lines).crlfs, and_false a (starts_with_lf (with_cr (starts_with_lf d.lines) d.lines)) (cr_starts d.lines)))
    (λ x e f. ap (λ c. crlf_ends a c.lines) (before-text x d e f)
    ∙ ap₂ (λ p q. p + q) (text_ends cr_lf x d.lines d.rest)
    (and_false a (starts_with_lf (with_text x d.lines d.rest).lines) (text_starts x d.lines d.rest))
    ∙ sym (zero-add _) ∙ ap₂ (λ p q. one_if (p && a) + crlf_ends q d.lines) (sym e) (sym f))

-- a scan counts those that end with both
pub crlf_run : (s : Scan) (xs : List ℕ) → (after_all s xs).crlf ≡ s.crlf + crlf_ends s.after_cr (cut xs).lines
crlf_run s [] = omega (arith, and_false s.after_cr false refl)
crlf_run s (x ∷ xs) = omega (arith, crlf_run (after s x) xs, crlf_step (cut xs) s.after_cr x)
