use Rattle.std.proofs.Common.{List, ℕ, Bor, option_map, sym, ◌∙◌, ap, subst}
use Rattle.lc_reports.specs.Paths.{AreApart, IsFirstTwice, first_repeated}
use Rattle.lc_reports.proofs.RepeatedPaths.{apart_sorted, first_sorted}
use Rattle.lc_reports.proofs.paths.refuse_same_path.Goals as goal

pub returns-in-None : goal.returns-in-None
returns-in-None c =
    subst AreApart c.in_ok-paths.ensures
    (apart_sorted c.in_ok-paths.paths.items c.sort.new.paths.items c.sort.ensures.same c.in_ok-sort.ensures.order
    (ap first_repeated (sym c.deref.ensures.value) ∙ sym c.first_repeated.ensures
    ∙ ap (option_map (λ (path : Bor (List ℕ)). path.now)) c.in-None.is))

pub returns : goal.returns
returns c =
    let paths = c.in_ok-paths.paths.items in
    subst (λ (ps : List (List ℕ)). IsFirstTwice c.in_ok-path-in-Some.path.items ps) c.in_ok-paths.ensures
    (subst (λ (path : List ℕ). IsFirstTwice path paths) (sym c.in_ok-path-in-Some.ensures)
    (first_sorted paths c.sort.new.paths.items c.in-Some.path.now c.sort.ensures.same c.in_ok-sort.ensures.order
    (ap first_repeated (sym c.deref.ensures.value) ∙ sym c.first_repeated.ensures
    ∙ ap (option_map (λ (path : Bor (List ℕ)). path.now)) c.in-Some.is)))
