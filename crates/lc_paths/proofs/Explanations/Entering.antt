-- What entering a directory gives, by its level.
use Rattle.std.proofs.Common.{◌≡◌, ℕ, Bool, List, Result, Ok, Err, sym, ◌∙◌, ap, ap₂, subst, refl, IfOk}
use Rattle.lc_level.specs.{Answers.{Item, Items, Answers}, Enters.EntersLevel, FaultLines.FaultLineModel, Job.JobModel, Level.faulted_level}
use Rattle.lc_level.specs.{Level.{level_of, level_after}, SitePaths.site_path, RuleFiles.{RuleBytes, rule_bytes}, Filters.FiltersModel}
use Rattle.lc_level.specs.{Filters.no_filters, declared.{fault_site.FaultSite.FaultSite, open_fault.OpenFault.TheVariants.Faulted}}
use Rattle.lc_level.specs.declared.fault_word.FaultWord.{FaultWord}
use Rattle.lc_tree.specs.Trees.{Listings, Contents}
use Rattle.lc_paths.specs.Explanations.OpenDirs.{OpenDirModel, open_dir_of, open_dir_after, MayEnter}

-- a fault in place of a directory
abbrev as_fault : List ℕ → FaultWord → Result OpenDirModel FaultLineModel
as_fault path word = Err (record { path = path; word = word })

fault_is : (p q : List ℕ) (w v : FaultWord) → faulted_level p w ≡ faulted_level q v → as_fault p w ≡ as_fault q v
fault_is p q w v e =
    let a : p ≡ q = cc e in
    let b : w ≡ v = cc e in
    ap₂ as_fault a b

after_fault : (f : FiltersModel) (j : JobModel) (path : List ℕ) (word : FaultWord) (items : List Item)
    (r : Result RuleBytes FaultLineModel)
    → level_after f j items r ≡ faulted_level path word → open_dir_after j items r ≡ as_fault path word
after_fault f j path word items (Ok files) e = absurd (cc e)
after_fault f j path word items (Err fault) e = fault_is fault.path path fault.word word e

fault_of : (f : FiltersModel) (j : JobModel) (path : List ℕ) (word : FaultWord) (a : Answers) (items : Items)
    → level_of f j a items ≡ faulted_level path word → open_dir_of j a items ≡ as_fault path word
fault_of f j path word a (Ok items) e = after_fault f j path word items (rule_bytes j.ignore.no_ignore j.path items a) e
fault_of f j path word a (Err w) e = fault_is j.path path w word e

-- a directory at fault can't be entered
pub fault_entered : (lists : List ℕ → Listings) (gives : List ℕ → Contents) (j : JobModel) (texts : Bool) (site : FaultSite)
    (word : FaultWord)
    (directory : List ℕ) → directory ≡ j.path → EntersLevel lists gives j texts (Err (Faulted site word))
    → MayEnter lists gives j (Err (record { path = site_path directory site; word = word }))
fault_entered lists gives j texts site word directory at (a, may, well_formed, is) = record {
  answers = a;
  may = may;
  well_formed = well_formed;
  gives_it = fault_of no_filters j (site_path j.path site) word a a.here (is no_filters)
      ∙ ap (λ (d : List ℕ). as_fault (site_path d site) word) (sym at);
}

-- it is at the same fault by another name
pub same_fault : (lists : List ℕ → Listings) (gives : List ℕ → Contents) (j : JobModel) (directory : List ℕ) (site at : FaultSite)
    (word why : FaultWord) → at ≡ site → why ≡ word
    → MayEnter lists gives j (Err (record { path = site_path directory site; word = word }))
    → MayEnter lists gives j (Err (record { path = site_path directory at; word = why }))
same_fault lists gives j directory site at word why is says entered =
    let Faults : FaultSite → FaultWord → Type 0 = λ f w. MayEnter lists gives j (Err (record { path = site_path directory f; word = w })) in
    subst (λ (f : FaultSite). Faults f why) (sym is) (subst (λ (w : FaultWord). Faults site w) (sym says) entered)

-- a directory that was entered has the path of its job
path_after : (j : JobModel) (items : List Item) (r : Result RuleBytes FaultLineModel)
    → IfOk (open_dir_after j items r) (λ here. here.job.path ≡ j.path)
path_after j items (Ok files) = refl
path_after j items (Err f) = tt

path_of_items : (j : JobModel) (a : Answers) (items : Items) → IfOk (open_dir_of j a items) (λ here. here.job.path ≡ j.path)
path_of_items j a (Ok items) = path_after j items (rule_bytes j.ignore.no_ignore j.path items a)
path_of_items j a (Err w) = tt

-- a directory is entered at the path of its job
pub entered_path : (lists : List ℕ → Listings) (gives : List ℕ → Contents) (j : JobModel) (here : OpenDirModel)
    → MayEnter lists gives j (Ok here) → here.job.path ≡ j.path
entered_path lists gives j here entered =
    let P : Result OpenDirModel FaultLineModel → Type 0 = λ r. IfOk r (λ here. here.job.path ≡ j.path) in
    subst P entered.gives_it (path_of_items j entered.answers entered.answers.here)
