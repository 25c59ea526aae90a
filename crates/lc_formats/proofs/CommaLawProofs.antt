-- What is true of numbers with commas.
use Rattle.std.proofs.Common.{◌≡◌, ℕ, suc, ◌<◌, ◌≤◌, Bool, true, false, not, ◌==◌, nat_lt, ◌&&◌, ◌%◌, if◌then◌else◌, List, [], ◌∷◌, ◌++◌}
use Rattle.std.proofs.{Common.{length, get_or, filter, codes, decimal, refl, ap, ap₂, ◌∙◌, arith}, lemmas.Bool.ne_eqb}
use Rattle.std.proofs.lemmas.{Fmt.decimal_is_IsNumeral_wide, List.Elements.filter-append, Str.Parse.digit_at}
use Rattle.std.specs.Str.Parse.{digits_value}
use Rattle.lc_formats.specs.{CellWords.{comma, with_commas}, CommaLaws.CommasLaw}

gone_if : (b : Bool) → filter (λ d. not (d == 44)) (if b then codes "," else []) ≡ []
gone_if true = refl
gone_if false = refl

without_commas : (ds : List ℕ) → ((i : ℕ) → i < length ds → 48 ≤ get_or ds i 0) → filter (λ d. not (d == 44)) (with_commas ds) ≡ ds
without_commas [] h = refl
without_commas (d ∷ ds) h =
    let first = h 0 (omega arith) in
    let rest = without_commas ds (λ i l. h (suc i) (omega arith)) in
    rw (ne_eqb d 44 (λ e. omega arith))
    (ap (λ (l : List ℕ). d ∷ l) (filter-append (λ d. not (d == 44)) (comma ds) (with_commas ds)
    ∙ ap₂ (λ (x y : List ℕ). x ++ y) (gone_if (nat_lt 0 (length ds) && (length ds % 3 == 0))) rest))

-- a number reads back without its commas
pub commas_law : CommasLaw
commas_law n small =
    let numeral = decimal_is_IsNumeral_wide n (omega arith) in
    ap (digits_value 10) (without_commas (decimal n) (λ i l. (digit_at _ i (numeral.0.1) l).0)) ∙ numeral.1
