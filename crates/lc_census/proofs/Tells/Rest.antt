-- The scan knows of the rest of the cutting whether there is one, and whether it is blank.
use Rattle.std.proofs.{Common.{◌≡◌, ℕ, Bool, true, false, not, ◌&&◌, ◌||◌, List, [], ◌∷◌, refl, sym, ap, ap₂, ◌∙◌}, Math.Bool.and-true}
use Rattle.std.proofs.Math.Bool.{and_assoc, or-true}
use Rattle.lc_census.specs.{declared.scan.Scan.Scan, Bytes.{is_end, is_space}, Scan.{after, after_all}, Cutting.{Line, Cutting, is_empty}}
use Rattle.lc_census.specs.{Cutting.starts_with_lf, Census.is_blank_text, Fed.rest_after, TheCutting.{cut, before, with_cr, with_text}}
use Rattle.lc_census.proofs.OneCutting.{before-text, by_kind}

-- what f says of a rest, where b is known of the line before the bytes; the end of a line makes that fresh
module _ (f : Bool → List ℕ → Bool) (fresh : Bool) where
  abbrev pub rest_by : Bool → List Line → List ℕ → Bool
  rest_by b [] r = f b r
  rest_by b (l ∷ ls) r = f fresh r

  pub after_end : (ls : List Line) (r : List ℕ) → f fresh r ≡ rest_by fresh ls r
  after_end [] r = refl
  after_end (l ∷ ls) r = refl

  after_cr : (b : Bool) (ls : List Line) (r : List ℕ) → rest_by b (with_cr (starts_with_lf ls) ls) r ≡ rest_by fresh ls r
  after_cr b [] r = refl
  after_cr b (l ∷ ls) r = go (starts_with_lf (l ∷ ls))
    where
      go : (t : Bool) → rest_by b (with_cr t (l ∷ ls)) r ≡ f fresh r
      go true = refl
      go false = refl

  after_text : (b c : Bool) (x : ℕ) → ((r : List ℕ) → f b (x ∷ r) ≡ f c r) → (ls : List Line) (r : List ℕ)
      → rest_by b (with_text x ls r).lines (with_text x ls r).rest ≡ rest_by c ls r
  after_text b c x same [] r = same r
  after_text b c x same (l ∷ ls) r = refl

-- whether there is a rest, where the line before the bytes goes on or not
abbrev pub goes : Bool → List ℕ → Bool
goes b r = b || not (is_empty r)

goes_step : (d : Cutting) (b : Bool) (x : ℕ)
    → rest_by goes false b (before x d).lines (before x d).rest ≡ rest_by goes false (not (is_end x)) d.lines d.rest
goes_step d b =
    by_kind (λ x. rest_by goes false b (before x d).lines (before x d).rest ≡ rest_by goes false (not (is_end x)) d.lines d.rest)
    (after_end goes false d.lines d.rest) (after_cr goes false b d.lines d.rest)
    (λ x e f. ap (λ c. rest_by goes false b c.lines c.rest) (before-text x d e f)
    ∙ after_text goes false b true x (λ r. or-true b) d.lines d.rest
    ∙ ap₂ (λ p q. rest_by goes false (not (p || q)) d.lines d.rest) (sym e) (sym f))

-- whether the cutting has a rest is told by the mark
pub goes_run : (b : Bool) (xs : List ℕ) → rest_after b xs ≡ rest_by goes false b (cut xs).lines (cut xs).rest
goes_run true [] = refl
goes_run false [] = refl
goes_run b (x ∷ xs) = goes_run (not (is_end x)) xs ∙ sym (goes_step (cut xs) b x)

-- whether a rest is blank, where the line before the bytes is or not
abbrev pub is_blank_after : Bool → List ℕ → Bool
is_blank_after b r = b && is_blank_text r

rest_step : (d : Cutting) (b : Bool) (x : ℕ) → rest_by is_blank_after true b (before x d).lines (before x d).rest
    ≡ rest_by is_blank_after true (is_end x || (b && is_space x)) d.lines d.rest
rest_step d b =
    by_kind (λ x. rest_by is_blank_after true b (before x d).lines (before x d).rest
    ≡ rest_by is_blank_after true (is_end x || (b && is_space x)) d.lines d.rest)
    (after_end is_blank_after true d.lines d.rest) (after_cr is_blank_after true b d.lines d.rest)
    (λ x e f. ap (λ c. rest_by is_blank_after true b c.lines c.rest) (before-text x d e f)
    ∙ after_text is_blank_after true b (b && is_space x) x (λ r. sym (and_assoc b (is_space x) (is_blank_text r))) d.lines d.rest
    ∙ ap₂ (λ p q. rest_by is_blank_after true ((p || q) || (b && is_space x)) d.lines d.rest) (sym e) (sym f))

-- whether that rest is blank is told by the scan
pub rest_run : (s : Scan) (xs : List ℕ)
    → (after_all s xs).is_blank ≡ rest_by is_blank_after true s.is_blank (cut xs).lines (cut xs).rest
rest_run s [] = sym (and-true s.is_blank)
rest_run s (x ∷ xs) = rest_run (after s x) xs ∙ sym (rest_step (cut xs) s.is_blank x)
