use Rattle.std.proofs.{Common.{◌≡◌, ◌∙◌, ℕ, List, [], ap, bytes_eq, get_or, map, not, subst, sym, true}, lemmas.List.Folds.list_any_at}
use Rattle.std.specs.Borrow.{Bor}
use Rattle.lc_level.proofs.AskedPaths.{list_any-map}
use Rattle.lc_level.specs.FaultLines.{FaultLineModel}
use Rattle.lc_program.specs.Faults.{top_path}
use Rattle.lc_program.proofs.faults.is_inside.Goals as goal

pub returns-then-eq : goal.returns-then-eq
returns-then-eq c =
    let directories = c.args.directories.now in
    let all = map (λ d. d.now) directories in
    let none : Bor (List ℕ) = record { ref_ptr = (0, 0); now = [] } in
    let top = top_path all (get_or directories c.loop-directory.directory-index none).now in
    let same = sym (c.eq.ensures ∙ ap (λ p. bytes_eq p c.top_path.result.now) c.as_slice.ensures.value
    ∙ ap (bytes_eq c.fault.inside.path.items) c.top_path.ensures) ∙ c.if-eq.true in
    sym (ap not (list_any-map (λ d. bytes_eq c.args.fault.now.path (top_path all d)) (λ d. d.now) directories
    ∙ list_any_at (λ d. bytes_eq c.args.fault.now.path (top_path all d.now)) directories c.loop-directory.directory-index none
    c.loop-directory-test.true (subst (λ (f : FaultLineModel). bytes_eq f.path top ≡ true) c.fault.view_is same)))
