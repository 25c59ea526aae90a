use Rattle.std.proofs.Common.{◌≡◌, ◌≢◌, ◌∙◌, ℕ, List, Option, Some, None, Bor, IfSome, MatchOption, ap, subst}
use Rattle.lc_glob.specs.Path.{path_in}
use Rattle.lc_paths.specs.Explanations.OpenDirs.{OpenDirModel}
use Rattle.lc_paths.proofs.explaining.open_dir.OpenDir.rest_of.Goals as goal

below : (d path : List ℕ) (r : Option (Bor (List ℕ)))
    → MatchOption r ((rest : List ℕ) → path ≢ path_in d rest) (λ x. path ≡ path_in d x.now)
    → IfSome r (λ x. path ≡ path_in d x.now)
below d path None none = tt
below d path (Some x) is = is

pub returns : goal.returns
returns c =
    subst (λ d. IfSome c.relative_to.result (λ x. c.args.path.now ≡ path_in d x.now))
    (c.path-directory.ensures ∙ ap (λ (w : OpenDirModel). w.job.path) c.self.view_is)
    (below c.path-directory.result.now c.args.path.now c.relative_to.result c.relative_to.ensures)
