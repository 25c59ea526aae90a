-- The answers of a tree for a directory, by what entering it answered.
use Rattle.std.proofs.Common.{◌≡◌, ℕ, Bool, true, false, ◌&&◌, List, [], refl, sym, ◌∙◌, ap, Result, Ok, Err, codes}
use Rattle.lc_glob.specs.Path.{path_in}
use Rattle.lc_level.specs.{Answers.{Item, Answers}, EntryLooks.has_dir, GitInfo.{ListsFor, MayAnswerGit, ReadsGit}, Job.JobModel}
use Rattle.lc_level.specs.{WellFormed.IsWellFormed, Level.{faulted_level, level, level_after}, Enters.{IsEntered, EntersLevel}}
use Rattle.lc_level.specs.{FaultLines.FaultLineModel, Filters.FiltersModel, RuleFiles.{Pair, has_git, is_top, and_then, info_items}}
use Rattle.lc_level.specs.{RuleFiles.{info_bytes, own_bytes, rule_bytes, extended}, RulePairs.{AreFilesOf, IsReadOf, own_asked, ReadsBoth}}
use Rattle.lc_level.specs.{SitePaths.site_path, RuleReads.text_items, TreeAnswers.MayAnswer, FileReads.MayReadRules}
use Rattle.lc_level.specs.declared.{entering.Entered.Entered, rule_files.rule_pair.PairRead.PairRead}
use Rattle.lc_level.specs.declared.open_fault.OpenFault.{OpenFault, TheVariants.{Faulted, Memory, TooDeep}}
use Rattle.lc_level.specs.declared.{fault_word.FaultWord.FaultWord, fault_site.FaultSite.{FaultSite, TheVariants.Directory}}
use Rattle.lc_tree.specs.{Listing.{EntryModel, IsListing}, Trees.{Listings, Content, Contents, MayHold}}
use Rattle.lc_level.proofs.{GitReads.{any_count, any_rules, may_rules, listed, is_listed}, GivenItems.{AsRules, items_at, entries_items}}
use Rattle.lc_level.proofs.{GivenItems.directory_items, GivenPairs.{PairGiven, pair_given}, WellFormed.no_entries}

-- what follows a reading, by what it gave
and_then_ok : {A B : Type 0} (r : Result A FaultLineModel) (x : A) (next : A → Result B FaultLineModel) → r ≡ Ok x
    → and_then r next ≡ next x
and_then_ok r x next e = ap (λ s. and_then s next) e

and_then_err : {A B : Type 0} (r : Result A FaultLineModel) (f : FaultLineModel) (next : A → Result B FaultLineModel) → r ≡ Err f
    → and_then r next ≡ Err f
and_then_err r f next e = ap (λ s. and_then s next) e

no_top : (b : Bool) → (b && false) ≡ true → ⊥
no_top true e = cc
no_top false e = cc

-- the directory was not listed
pub list_refused : (lists : List ℕ → Listings) (gives : List ℕ → Contents) (j : JobModel) (texts : Bool) (u : OpenFault)
    → ListsFor (lists j.path) Directory (Err u) → EntersLevel lists gives j texts (Err u)
list_refused lists gives j texts (Faulted site word) (is, l) =
    let a : Answers = record { here = Err word; git = Ok []; info = Ok [] } in (
      a,
      record { here = l; git = λ t. absurd (no_top (is_top j.path) t); info = λ t h. absurd (no_top (is_top j.path) t) },
      record { here = no_entries; git = no_entries; info = no_entries },
      λ s. ap (λ (p : FaultSite). faulted_level (site_path j.path p) word) (sym is),
    )
list_refused lists gives j texts Memory l = tt
list_refused lists gives j texts TooDeep l = absurd l

module _ (lists : List ℕ → Listings) (gives : List ℕ → Contents)
    (some_content : (path : List ℕ) → (c : Content) × MayHold (gives path) c)
    (j : JobModel) (texts : Bool) (es : List EntryModel) (may_list : lists j.path (Ok es)) (is_listing : IsListing es) where
  abbrev own_items : AsRules → List Item
  own_items given = items_at (any_count lists gives some_content j.path) given es

  abbrev own_rules : AsRules
  own_rules = any_rules lists gives some_content j.path

  abbrev there : Bool
  there = is_top j.path && has_dir (codes ".git") es

  -- the answers with those for `.git`
  abbrev answers : AsRules → Answers → Answers
  answers given a = record { here = Ok (own_items given); git = a.git; info = a.info }

  git_there : (given : AsRules) → has_git j.path (own_items given) ≡ there
  git_there given =
      ap (λ b. is_top j.path && b) (directory_items (any_count lists gives some_content j.path) given (codes ".git") es)

  -- the answers that were put together may be given
  pub may_answer : (given : AsRules) → ((n : List ℕ) → MayReadRules (gives (path_in j.path n)) (given n)) → (a : Answers)
      → MayAnswerGit lists gives there a →
      MayAnswer lists gives j.path (answers given a)
  may_answer given may a git = record {
    here = listed lists gives some_content j.path es given may may_list;
    git = λ t. git.git (sym (git_there given) ∙ t);
    info = λ t h. git.info (sym (git_there given) ∙ t) h;
  }

  -- and are well-formed
  pub is_well_formed : (given : AsRules) (a : Answers) → MayAnswerGit lists gives there a → IsWellFormed (answers given a)
  is_well_formed given a git = record {
    here = is_listed lists gives some_content j.path es given is_listing;
    git = git.git_listing;
    info = git.info_listing;
  }

  -- what reading the rule files gives, by the two parts of it
  bytes_by : (given : AsRules) (a : Answers) (r : Result Pair FaultLineModel)
      → and_then (info_items there a) (info_bytes j.ignore.no_ignore) ≡ r →
      rule_bytes j.ignore.no_ignore j.path (own_items given) (answers given a)
      ≡ and_then r (λ i. and_then (own_bytes j.ignore.no_ignore j.path (own_items given)) (λ o. Ok (record { info = i; own = o })))
  bytes_by given a r e =
      ap (λ b. and_then (and_then (info_items b a) (info_bytes j.ignore.no_ignore))
      (λ i. and_then (own_bytes j.ignore.no_ignore j.path (own_items given)) (λ o. Ok (record { info = i; own = o })))) (git_there given)
      ∙ ap (λ s. and_then s (λ i. and_then (own_bytes j.ignore.no_ignore j.path (own_items given))
      (λ o. Ok (record { info = i; own = o })))) e

  -- a fault of `.git`, or of the directory's own files, is the level
  fault_level : (given : AsRules) (a : Answers) (path : List ℕ) (word : FaultWord) →
      rule_bytes j.ignore.no_ignore j.path (own_items given) (answers given a) ≡ Err (record { path = path; word = word })
      → (s : FiltersModel) → level s j (answers given a) ≡ faulted_level path word
  fault_level given a path word e s = ap (level_after s j (own_items given)) e

  -- a refusal of `.git/info` is one of the directory
  pub info_refused : (u : OpenFault) → ReadsGit lists gives j.ignore.no_ignore texts there (Err u) → EntersLevel lists gives j texts (Err u)
  info_refused (Faulted site word) (a, git, is) = (
    answers own_rules a,
    may_answer own_rules (may_rules lists gives some_content j.path) a git,
    is_well_formed own_rules a git,
    fault_level own_rules a (site_path j.path site) word
        (bytes_by own_rules a (Err (record { path = site_path j.path site; word = word })) (is j.path)),
  )
  info_refused Memory r = tt
  info_refused TooDeep r = absurd r

  -- ---- the directory's own two files

  abbrev ReadsOwn : Result PairRead OpenFault → Type 0
  ReadsOwn r = ReadsBoth gives (own_asked j.ignore.no_ignore texts j.path es) r

  abbrev OwnGiven : Result PairRead OpenFault → Type 0
  OwnGiven r = PairGiven gives (own_asked j.ignore.no_ignore texts j.path es) refl own_rules (may_rules lists gives some_content j.path) r

  own_given : (r : Result PairRead OpenFault) → ReadsOwn r → OwnGiven r
  own_given r reads = pair_given gives (own_asked j.ignore.no_ignore texts j.path es) refl own_rules
      (may_rules lists gives some_content j.path) r reads

  -- so is one of its own rule files
  pub own_refused : (info : PairRead) → ReadsGit lists gives j.ignore.no_ignore texts there (Ok info) → (u : OpenFault) → ReadsOwn (Err u)
      → EntersLevel lists gives j texts (Err u)
  own_refused info (a, git, (i, are, is)) u reads = at u (own_given (Err u) reads)
    where
      at : (v : OpenFault) → OwnGiven (Err v) → EntersLevel lists gives j texts (Err v)
      at (Faulted site word) (given, may, e) = (
        answers given a,
        may_answer given may a git,
        is_well_formed given a git,
        fault_level given a (site_path j.path site) word
            (bytes_by given a (Ok i) is
            ∙ and_then_err (own_bytes j.ignore.no_ignore j.path (own_items given)) (record { path = site_path j.path site; word = word })
            (λ o. Ok (record { info = i; own = o }))
            (e (site_path j.path) (any_count lists gives some_content j.path))),
      )
      at Memory r = tt
      at TooDeep r = absurd r

  -- all rule files were read
  pub record HasRead (info own : PairRead) : Type 0 where
    pub given : AsRules
    pub may : (n : List ℕ) → MayReadRules (gives (path_in j.path n)) (given n)
    pub git_answers : Answers
    pub git : MayAnswerGit lists gives there git_answers
    pub info_bytes : Pair
    pub own_bytes : Pair
    pub info_are : IsReadOf texts true info info_bytes
    pub own_are : IsReadOf texts (is_top j.path) own own_bytes
    pub read : rule_bytes j.ignore.no_ignore j.path (own_items given) (answers given git_answers)
        ≡ Ok (record { info = info_bytes; own = own_bytes })

  -- what was read, where neither was refused
  pub has_read : (info own : PairRead) → ReadsGit lists gives j.ignore.no_ignore texts there (Ok info) → ReadsOwn (Ok own)
      → HasRead info own
  has_read info own (a, git, (i, are, is)) reads =
      let g = own_given (Ok own) reads in
      record {
        given = g.0;
        may = g.1;
        git_answers = a;
        git = git;
        info_bytes = i;
        own_bytes = g.2.0;
        info_are = are;
        own_are = g.2.1;
        read = bytes_by g.0 a (Ok i) is
            ∙ and_then_ok (own_bytes j.ignore.no_ignore j.path (own_items g.0)) g.2.0 (λ o. Ok (record { info = i; own = o }))
            (g.2.2 (path_in j.path (codes ".gitignore")) (path_in j.path (codes ".gitattributes"))
            (any_count lists gives some_content j.path));
      }

  -- the directory with these files, its entries and the texts of its rules
  pub entered : (info own : PairRead) → HasRead info own → (e : Entered)
      → ((x y : Pair) → AreFilesOf true info.files x → AreFilesOf (is_top j.path) own.files y
      → e.job ≡ extended j (record { info = x; own = y }))
      → e.entries.items ≡ es → e.texts.info ≡ info.text → e.texts.own ≡ own.text → IsEntered lists gives j texts e
  entered info own r e inside entries info_text own_text = record {
    inside = record {
      answers = answers r.given r.git_answers;
      may = may_answer r.given r.may r.git_answers r.git;
      well_formed = is_well_formed r.given r.git_answers r.git;
      items = own_items r.given;
      here = refl;
      bytes = record { info = r.info_bytes; own = r.own_bytes };
      read = r.read;
      extends = inside r.info_bytes r.own_bytes r.info_are.files r.own_are.files;
    };
    entries = entries ∙ sym (entries_items (any_count lists gives some_content j.path) r.given es);
    info_text = ap text_items info_text ∙ r.info_are.text;
    own_text = ap text_items own_text ∙ r.own_are.text;
  }
