use Rattle.std.proofs.{Common.{arith, sym, ◌∙◌}, lemmas.Bool.le-leb}
use Rattle.lc_glob.proofs.Sizing.{fits_least, fits_exactly}
use Rattle.lc_glob.proofs.lengths.Lengths.allow_elements.Goals as goal

pub returns-then-has_star : goal.returns-then-has_star
returns-then-has_star g c = λ f. le-leb _ _ (omega (arith, fits_least _ f.0 f.2, c.least_bytes-least.ensures, f.1.1))

pub returns-else-has_star : goal.returns-else-has_star
returns-else-has_star g c = λ f.
    let least = fits_least _ f.0 f.2 in
    let most = fits_exactly _ f.0 (sym c.has_star.ensures ∙ c.if-has_star.false) f.2 in
    c.has.ensures (omega (arith, most, c.least_bytes-least.ensures, f.1.0)) (omega (arith, least, c.least_bytes-least.ensures, f.1.1))
