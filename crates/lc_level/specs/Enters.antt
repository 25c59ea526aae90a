-- What entering a directory may return: its listing and its rule files.
use Rattle.std.specs.Prelude.{◌≡◌, ℕ, Bool, List, Result, Ok, Err}
use Rattle.lc_level.specs.{Answers.{Item, Answers, entries_of}, Job.JobModel, Level.{faulted_level, level}, SitePaths.site_path}
use Rattle.lc_level.specs.{RuleFiles.{RuleBytes, rule_bytes, extended}, RuleReads.{text_items, text_if}, Filters.FiltersModel}
use Rattle.lc_level.specs.{WellFormed.IsWellFormed, TreeAnswers.MayAnswer, declared.entering.Entered.Entered}
use Rattle.lc_level.specs.declared.open_fault.OpenFault.{OpenFault, TheVariants.{Faulted, Memory, TooDeep}}
use Rattle.lc_tree.specs.Trees.{Listings, Contents}

module _ (lists : List ℕ → Listings) (gives : List ℕ → Contents) (j : JobModel) where
  -- by answers that the tree may give, `k` is the job with the directory's rule files in both chains
  pub record IsInside (k : JobModel) : Type 0 where
    pub answers : Answers
    pub may : MayAnswer lists gives j.path answers
    pub well_formed : IsWellFormed answers
    pub items : List Item
    pub here : answers.here ≡ Ok items
    pub bytes : RuleBytes
    pub read : rule_bytes j.ignore.no_ignore j.path items answers ≡ Ok bytes
    pub extends : k ≡ extended j bytes

  -- by answers that the tree may give: the job with the directory's rule files, its entries, and the texts of its ignore files if `texts`
  -- is set
  pub record IsEntered (texts : Bool) (e : Entered) : Type 0 where
    pub inside : IsInside e.job
    pub entries : e.entries.items ≡ entries_of inside.items
    pub info_text : text_items e.texts.info ≡ text_if texts inside.bytes.info.rules
    pub own_text : text_items e.texts.own ≡ text_if texts inside.bytes.own.rules

  -- the directory was entered, has an error, or an allocation failed
  abbrev pub EntersLevel : Bool → Result Entered OpenFault → Type 0
  EntersLevel texts (Ok e) = IsEntered texts e
  EntersLevel texts (Err (Faulted site word)) = (a : Answers) × MayAnswer lists gives j.path a × IsWellFormed a
      × ((f : FiltersModel) → level f j a ≡ faulted_level (site_path j.path site) word)
  EntersLevel texts (Err Memory) = Unit {0}
  EntersLevel texts (Err TooDeep) = ⊥
