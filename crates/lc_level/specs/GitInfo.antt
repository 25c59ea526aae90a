-- What reading the rule files of `.git/info` may return.
use Rattle.std.specs.Prelude.{◌≡◌, ℕ, Bool, true, List, Result, Ok, Err, codes}
use Rattle.lc_level.specs.{Answers.Answers, RuleFiles.{Pair, has_directory, and_then, info_items, info_bytes}, RulePairs.IsReadOf}
use Rattle.lc_level.specs.{SitePaths.site_path, TreeAnswers.{FailsBy, MayList, items_of}, WellFormed.listed_in}
use Rattle.lc_level.specs.declared.rule_files.rule_pair.PairRead.{PairRead}
use Rattle.lc_level.specs.declared.open_fault.OpenFault.{OpenFault, TheVariants.{Faulted, Memory, TooDeep}}
use Rattle.lc_level.specs.declared.fault_site.FaultSite.{FaultSite}
use Rattle.lc_tree.specs.{Listing.{EntryModel, IsListing}, Trees.{Listings, Contents}}

-- the result of listing a directory for its rule files: an error is one at this site
abbrev pub ListsFor : Listings → FaultSite → Result (List EntryModel) OpenFault → Type 0
ListsFor may site (Ok entries) = may (Ok entries)
ListsFor may site (Err (Faulted at word)) = (at ≡ site) × FailsBy may word
ListsFor may site (Err Memory) = Unit {0}
ListsFor may site (Err TooDeep) = ⊥

module _ (lists : List ℕ → Listings) (gives : List ℕ → Contents) where
  -- listings that the tree may answer for `.git` and `.git/info`, where `.git` is there
  pub record MayAnswerGit (there : Bool) (a : Answers) : Type 0 where
    pub git : there ≡ true → MayList lists gives (codes ".git") a.git
    pub info : there ≡ true → has_directory (codes "info") (items_of a.git) ≡ true → MayList lists gives (codes ".git/info") a.info
    pub git_listing : IsListing (listed_in a.git)
    pub info_listing : IsListing (listed_in a.info)

  -- the result of reading the two rule files, by answers that the tree may give: what was read, the site of the first error, or a failed
  -- allocation
  abbrev pub ReadsGit : (no_ignore texts : Bool) → Bool → Result PairRead OpenFault → Type 0
  ReadsGit no_ignore texts there (Ok read) =
      (a : Answers) × MayAnswerGit there a
      × ((bytes : Pair) × IsReadOf texts true read bytes × (and_then (info_items there a) (info_bytes no_ignore) ≡ Ok bytes))
  ReadsGit no_ignore texts there (Err (Faulted site word)) =
      (a : Answers) × MayAnswerGit there a
      × ((directory : List ℕ)
      → and_then (info_items there a) (info_bytes no_ignore) ≡ Err (record { path = site_path directory site; word = word }))
  ReadsGit no_ignore texts there (Err Memory) = Unit {0}
  ReadsGit no_ignore texts there (Err TooDeep) = ⊥
