-- What both chains are by a directory's rule files.
use Rattle.std.proofs.Common.{◌≡◌, ℕ, refl, ap, ◌∙◌, Option, Some, None, subst, [], List}
use Rattle.std.specs.{Result.IfOk, declared.sync.Arc.Arc, Prelude.Result}
use Rattle.lc_rules.specs.{AttrChains.{with_tree_file, with_info_file}, AttrLines.AttrFileModel, AttrStates.AttrChainModel}
use Rattle.lc_rules.specs.{IgnoreChains.{ChainModel, with_info, with_own}, IgnoreRules.RuleModel}
use Rattle.lc_level.specs.{Job.JobModel, RuleFiles.{with_file_at, first_of}, RuleReads.shared, Filters.FiltersModel, TopJob.top_job}

module _ {A B : Type 0} (depth : ℕ) where
  module _ (chain below new : ChainModel) (own : Option (Arc (List RuleModel) A)) (info : Option (Arc (List RuleModel) B))
      (is_below : below ≡ with_own chain depth own) (is_new : new ≡ with_info below info) where
    -- the files of a tree with a directory's own
    pub ignore_tree : new.tree ≡ with_file_at chain.tree depth (shared own)
    ignore_tree = ap (λ (k : ChainModel). k.tree) is_new ∙ ap (λ (k : ChainModel). k.tree) is_below ∙ at own
      where
        at : (o : Option (Arc (List RuleModel) A)) → (with_own chain depth o).tree ≡ with_file_at chain.tree depth (shared o)
        at None = refl
        at (Some file) = refl

    -- that of `.git/info`, or the one that was
    pub ignore_info : new.info ≡ first_of (shared info) chain.info
    ignore_info =
        ap (λ (k : ChainModel). k.info) is_new ∙ ap (λ (k : ChainModel). (with_info k info).info) is_below ∙ at info
      where
        at : (i : Option (Arc (List RuleModel) B)) → (with_info (with_own chain depth own) i).info ≡ first_of (shared i) chain.info
        at None = refl
        at (Some file) = refl

  module _ (chain with new : AttrChainModel) (own : Option (Arc AttrFileModel A)) (info : Option (Arc AttrFileModel B))
      (is_with : with ≡ with_info_file chain info) (is_new : new ≡ with_tree_file with depth own) where
    -- the same of the attribute files; the lowest stays
    pub attributes_lowest : new.lowest ≡ chain.lowest
    attributes_lowest = ap (λ (k : AttrChainModel). k.lowest) is_new ∙ ap (λ (k : AttrChainModel). k.lowest) is_with ∙ at info
      where
        at : (i : Option (Arc AttrFileModel B)) → (with_info_file chain i).lowest ≡ chain.lowest
        at None = refl
        at (Some file) = refl

    pub attributes_tree : new.tree ≡ with_file_at chain.tree depth (shared own)
    attributes_tree =
        ap (λ (k : AttrChainModel). k.tree) is_new ∙ ap (λ (k : AttrChainModel). (with_tree_file k depth own).tree) is_with ∙ at own info
      where
        at : (o : Option (Arc AttrFileModel A)) (i : Option (Arc AttrFileModel B))
            → (with_tree_file (with_info_file chain i) depth o).tree ≡ with_file_at chain.tree depth (shared o)
        at None None = refl
        at None (Some file) = refl
        at (Some file) None = refl
        at (Some file) (Some other) = refl

    pub attributes_info : new.info ≡ first_of (shared info) chain.info
    attributes_info = ap (λ (k : AttrChainModel). k.info) is_new ∙ ap (λ (k : AttrChainModel). k.info) is_with ∙ at info
      where
        at : (i : Option (Arc AttrFileModel B)) → (with_info_file chain i).info ≡ first_of (shared i) chain.info
        at None = refl
        at (Some file) = refl

abbrev parts_of : List ℕ → ChainModel → AttrChainModel → JobModel
parts_of path ignore attributes = record { path = path; ignore = ignore; attributes = attributes }

-- where a walk begins, by its parts
pub top_by : {E : Type 0} (f : FiltersModel) (path : List ℕ) (ignore : ChainModel) (attributes : AttrChainModel)
    (r : Result JobModel E) → path ≡ [] → ignore ≡ (top_job f).ignore → attributes ≡ (top_job f).attributes
    → IfOk r (λ j. j ≡ parts_of path ignore attributes) → IfOk r (λ j. j ≡ top_job f)
top_by f path ignore attributes r is_path is_ignore is_attributes made =
    subst (λ (k : JobModel). IfOk r (λ j. j ≡ k)) parts made
  where
    parts : parts_of path ignore attributes ≡ top_job f
    parts =
        ap (λ (p : List ℕ). parts_of p ignore attributes) is_path ∙ ap (λ (i : ChainModel). parts_of [] i attributes) is_ignore
        ∙ ap (λ (a : AttrChainModel). parts_of [] (top_job f).ignore a) is_attributes
