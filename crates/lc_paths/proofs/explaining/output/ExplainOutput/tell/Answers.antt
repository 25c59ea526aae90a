use Rattle.std.proofs.Common.{ℕ, Bool, List, subst}
use Rattle.lc_level.specs.Filters.{FiltersModel}
use Rattle.lc_text.specs.PathLines.{path_of, is_dir_line}
use Rattle.lc_paths.specs.Explanations.{Explained.{Explanation, IsExplained}, Findings.explanation_on, OpenDirs.MayEnter}
use Rattle.lc_paths.proofs.explaining.output.ExplainOutput.tell.Goals as goal

pub returns-clause-told : goal.returns-clause-told
returns-clause-told g c =
    let explainer = c.args.explainer.now in
    let Says : List ℕ → Bool → Explanation → Type 0 =
    IsExplained (MayEnter (g.T.Tree.lists explainer.reader.tree.now) (g.T.Tree.gives explainer.reader.tree.now))
    explainer.reader.filters.now in
    let x = explanation_on explainer.filters.now c.find.new.kept c.in_ok-found.found in
    let path = c.split_slash-as_dir.result.0.now in
    let found = subst (λ (f : FiltersModel). Says path c.split_slash-as_dir.result.1 (explanation_on f c.find.new.kept c.in_ok-found.found))
    explainer.same c.in_ok-found.ensures.found in
    let here = subst (λ (d : Bool). Says path d x) c.split_slash-as_dir.ensures.dir found in
    record {
      x = x;
      said = subst (λ (l : List ℕ). Says (path_of l) (is_dir_line l) x) c.undotted-named.ensures
          (subst (λ (p : List ℕ). Says p (is_dir_line c.undotted-named.result.now) x) c.split_slash-as_dir.ensures.path here);
      text_is = c.in_ok-push.ensures.text;
      outcome_is = c.in_ok-push.ensures.outcome;
    }
