-- What opening a directory may return: what becomes of its entries, before its files are counted.
use Rattle.std.specs.{Prelude.{◌≡◌, ℕ, Bool, true, false, List, length, Result, Ok, Err}, List.flat_map}
use Rattle.lc_level.specs.{Answers.{Answers, entries_of}, Deep.has_too_deep, Enters.IsInside, Job.JobModel, WellFormed.IsWellFormed}
use Rattle.lc_level.specs.{Classified.{kept_file, kept_directory, skipped_entry, bytes_of}, Level.{absent_faults, faulted_level, level}}
use Rattle.lc_level.specs.{Narrowing.{part_of, absent_from}, SitePaths.site_path, Filters.FiltersModel, TreeAnswers.MayAnswer}
use Rattle.lc_level.specs.declared.{opening.Opened.Opened, open_fault.OpenFault.{OpenFault, TheVariants.{Faulted, Memory, TooDeep}}}
use Rattle.lc_tree.specs.Trees.{Listings, Contents}

module _ (lists : List ℕ → Listings) (gives : List ℕ → Contents) (left_out : Bool) (f : FiltersModel) (j : JobModel) where
  -- by answers that the tree may give: the job with the directory's rule files in both chains, which of the selected entries stay and which
  -- are skipped, the paths of `--only` that are absent, and the number of selected entries, none of which is too deep
  pub record IsOpened (o : Opened) : Type 0 where
    pub inside : IsInside lists gives j o.job
    pub files : bytes_of o.files.items ≡ flat_map (kept_file f o.job) (entries_of (part_of f.only j.path inside.items))
    pub children : o.children.items ≡ flat_map (kept_directory f o.job) (entries_of (part_of f.only j.path inside.items))
    pub skipped : o.skipped.items ≡ flat_map (skipped_entry left_out f o.job) (entries_of (part_of f.only j.path inside.items))
    pub absent : o.absent.items ≡ absent_faults (absent_from f.only j.path inside.items)
    pub entries : o.entries ≡ length (part_of f.only j.path inside.items)
    pub shallow : has_too_deep f j inside.answers ≡ false

  -- the directory was opened, has an error, has an entry that is too deep for a walk, or an allocation failed
  abbrev pub OpensLevel : Result Opened OpenFault → Type 0
  OpensLevel (Ok o) = IsOpened o
  OpensLevel (Err (Faulted site word)) = (a : Answers) × MayAnswer lists gives j.path a × IsWellFormed a
      × (level f j a ≡ faulted_level (site_path j.path site) word)
  OpensLevel (Err Memory) = Unit {0}
  OpensLevel (Err TooDeep) = (a : Answers) × MayAnswer lists gives j.path a × IsWellFormed a × (has_too_deep f j a ≡ true)
