use Rattle.std.proofs.Common.{◌∙◌, List, ℕ, Bor, ap, subst, sym}
use Rattle.lc_text.specs.PathLines.{path_of}
use Rattle.lc_program.proofs.PathsListed.{IsListedTo, listed_next}
use Rattle.lc_program.proofs.path_list.paths_of.Goals as goal

pub paths-preserved : goal.paths-preserved
paths-preserved c =
    subst (λ (paths : List (Bor (List ℕ))). IsListedTo c.args.end c.args.list.now c.split_path.result.1.now paths)
    (sym c.in_ok-push.ensures.items)
    (listed_next c.args.end c.args.list.now c.paths.rest.now c.split_path.result.0.now c.split_path.result.1.now c.paths.paths.items
    c.split_slash.result.0 c.paths.invariant c.split_path.ensures.paths (c.split_slash.ensures.path ∙ ap path_of c.undotted.ensures)
    (sym c.is_bad_listed.ensures ∙ c.if-is_bad_listed.false))
