-- The answers of a tree for `.git` and `.git/info`, by what reading the rule files there answered.
use Rattle.std.proofs.Common.{◌≡◌, ℕ, Bool, true, false, List, [], refl, sym, ◌∙◌, ap, subst, None, Result, Ok, Err, codes}
use Rattle.lc_glob.specs.Path.{path_in}
use Rattle.lc_level.specs.{Answers.{Item, Items, Answers, entries_of}, EntryLooks.has_dir, GitInfo.{ListsFor, MayAnswerGit, ReadsGit}}
use Rattle.lc_level.specs.{RuleFiles.{has_directory, and_then, listing, info_items, info_bytes}, RulePairs.{PairAsked, IsReadOf, ReadsBoth}}
use Rattle.lc_level.specs.{SitePaths.site_path, RuleReads.text_if, TreeAnswers.{FailsBy, MayList}, FileReads.{MayCount, MayReadRules}}
use Rattle.lc_level.specs.declared.rule_files.rule_pair.PairRead.{PairRead}
use Rattle.lc_level.specs.declared.open_fault.OpenFault.{OpenFault, TheVariants.{Faulted, Memory, TooDeep}}
use Rattle.lc_level.specs.declared.fault_word.FaultWord.{FaultWord}
use Rattle.lc_level.specs.declared.fault_site.FaultSite.{FaultSite, TheVariants.{Git, GitInfo, InfoExclude, InfoAttributes}}
use Rattle.lc_tree.specs.{Listing.{EntryModel, IsListing}, Trees.{Listings, Content, Contents, MayHold}}
use Rattle.lc_level.proofs.{GivenItems.{Counted, AsRules, items_at, entries_items, directory_items, may_items}, GivenPairs.PairGiven}
use Rattle.lc_level.proofs.{GivenPairs.pair_given, SomeReads.{some_count, some_rules}, WellFormed.{clash, no_entries}}

abbrev asked : Items → Items → Answers
asked git info = record { here = Ok []; git = git; info = info }

-- the two rule files of `.git/info`, in a directory of these entries
abbrev pub info_asked : (no_ignore texts : Bool) → List ℕ → List EntryModel → PairAsked
info_asked no_ignore texts directory entries = record {
  directory = directory;
  entries = entries;
  rules = record { name = codes "exclude"; site = InfoExclude };
  attributes = record { name = codes "attributes"; site = InfoAttributes };
  top = true;
  no_ignore = no_ignore;
  texts = texts;
}

abbrev nothing_read : PairRead
nothing_read = record { files = record { rules = None; attributes = None }; text = None }

-- nothing is read of no items
none_read : (no_ignore : Bool) → info_bytes no_ignore [] ≡ Ok (record { rules = None; attributes = None })
none_read true = refl
none_read false = refl

no_text : (texts : Bool) → None ≡ text_if texts None
no_text true = refl
no_text false = refl

no_files : (texts : Bool) (read : PairRead) → read ≡ nothing_read → IsReadOf texts true read (record { rules = None; attributes = None })
no_files texts read e =
    subst (λ (r : PairRead). IsReadOf texts true r (record { rules = None; attributes = None })) (sym e)
    (record { files = record { rules = refl; attributes = refl }; text = no_text texts })

-- what each file of the tree may give
module _ (lists : List ℕ → Listings) (gives : List ℕ → Contents)
    (some_content : (path : List ℕ) → (c : Content) × MayHold (gives path) c) where
  abbrev pub any_count : List ℕ → Counted
  any_count path n = (some_count (gives (path_in path n)) (some_content (path_in path n))).0

  abbrev pub any_rules : List ℕ → AsRules
  any_rules path n = (some_rules (gives (path_in path n)) (some_content (path_in path n))).0

  -- each may be counted, and read as rules, so
  may_counts : (path n : List ℕ) → MayCount (gives (path_in path n)) (any_count path n)
  may_counts path n = (some_count (gives (path_in path n)) (some_content (path_in path n))).1

  -- and may be read as rules so
  pub may_rules : (path n : List ℕ) → MayReadRules (gives (path_in path n)) (any_rules path n)
  may_rules path n = (some_rules (gives (path_in path n)) (some_content (path_in path n))).1

  -- a listing with some items
  pub listed : (path : List ℕ) (es : List EntryModel) (given : AsRules)
      → ((n : List ℕ) → MayReadRules (gives (path_in path n)) (given n)) → lists path (Ok es) →
      MayList lists gives path (Ok (items_at (any_count path) given es))
  listed path es given may l = (
    subst (λ (ds : List EntryModel). lists path (Ok ds)) (sym (entries_items (any_count path) given es)) l,
    may_items lists gives path (any_count path) given (may_counts path) may es,
  )

  -- the items of a listing are one
  pub is_listed : (path : List ℕ) (es : List EntryModel) (given : AsRules) → IsListing es
      → IsListing (entries_of (items_at (any_count path) given es))
  is_listed path es given is = subst IsListing (sym (entries_items (any_count path) given es)) is

  abbrev git_items : List EntryModel → List Item
  git_items es = items_at (any_count (codes ".git")) (any_rules (codes ".git")) es

  may_git : (es : List EntryModel) → lists (codes ".git") (Ok es) → MayList lists gives (codes ".git") (Ok (git_items es))
  may_git es l = listed (codes ".git") es (any_rules (codes ".git")) (may_rules (codes ".git")) l

  git_listed : (es : List EntryModel) → IsListing es → IsListing (entries_of (git_items es))
  git_listed es is = is_listed (codes ".git") es (any_rules (codes ".git")) is

  has_info : (es : List EntryModel) → has_directory (codes "info") (git_items es) ≡ has_dir (codes "info") es
  has_info es = directory_items (any_count (codes ".git")) (any_rules (codes ".git")) (codes "info") es

  module _ (no_ignore : Bool) where
    -- reading goes on by what stands in `.git/info`
    by_info : (es : List EntryModel) (info : Items) (b : Bool) → has_dir (codes "info") es ≡ b →
        and_then (info_items true (asked (Ok (git_items es)) info)) (info_bytes no_ignore)
        ≡ and_then (listing b (codes ".git/info") info) (info_bytes no_ignore)
    by_info es info b e = ap (λ t. and_then (listing t (codes ".git/info") info) (info_bytes no_ignore)) (has_info es ∙ e)

  module _ (no_ignore texts : Bool) where
    at_true : (there : Bool) (r : Result PairRead OpenFault) → there ≡ true → ReadsGit lists gives no_ignore texts true r
        → ReadsGit lists gives no_ignore texts there r
    at_true there r e k = subst (λ b. ReadsGit lists gives no_ignore texts b r) (sym e) k

    -- where there is no `.git` nothing is read
    pub no_git : (there : Bool) (read : PairRead) → there ≡ false → read ≡ nothing_read
        → ReadsGit lists gives no_ignore texts there (Ok read)
    no_git there read e none =
        subst (λ b. ReadsGit lists gives no_ignore texts b (Ok read)) (sym e) (
          asked (Ok []) (Ok []),
          record {
            git = λ t. absurd (clash t refl);
            info = λ t h. absurd (clash t refl);
            git_listing = no_entries;
            info_listing = no_entries;
          },
          (record { rules = None; attributes = None }, no_files texts read none, none_read no_ignore),
        )

    -- a fault of `.git`
    pub git_fault : (there : Bool) (site : FaultSite) (word : FaultWord) → there ≡ true → site ≡ Git → FailsBy (lists (codes ".git")) word
        → ReadsGit lists gives no_ignore texts there (Err (Faulted site word))
    git_fault there site word e is l =
        at_true there (Err (Faulted site word)) e (
          asked (Err word) (Ok []),
          record {
            git = λ t. l;
            info = λ t h. absurd (clash h refl);
            git_listing = no_entries;
            info_listing = no_entries;
          },
          λ directory. ap (λ (p : FaultSite). Err (record { path = site_path directory p; word = word })) (sym is),
        )

    -- the same, by how the listing was refused
    pub git_refused : (there : Bool) (u : OpenFault) → there ≡ true → ListsFor (lists (codes ".git")) Git (Err u)
        → ReadsGit lists gives no_ignore texts there (Err u)
    git_refused there (Faulted site word) e (is, l) = git_fault there site word e is l
    git_refused there Memory e l = tt
    git_refused there TooDeep e l = absurd l

    -- where `.git` has no `info` nothing is read
    pub no_info : (there : Bool) (es : List EntryModel) (read : PairRead) → there ≡ true → lists (codes ".git") (Ok es) → IsListing es
        → has_dir (codes "info") es ≡ false →
        read ≡ nothing_read → ReadsGit lists gives no_ignore texts there (Ok read)
    no_info there es read e l listing absent none =
        at_true there (Ok read) e (
          asked (Ok (git_items es)) (Ok []),
          record {
            git = λ t. may_git es l;
            info = λ t h. absurd (clash h (has_info es ∙ absent));
            git_listing = git_listed es listing;
            info_listing = no_entries;
          },
          (
            record { rules = None; attributes = None },
            no_files texts read none,
            by_info no_ignore es (Ok []) false absent ∙ none_read no_ignore,
          ),
        )

    -- a fault of `.git/info`
    pub info_fault : (there : Bool) (es : List EntryModel) (site : FaultSite) (word : FaultWord) → there ≡ true
        → lists (codes ".git") (Ok es) → IsListing es → has_dir (codes "info") es ≡ true →
        site ≡ GitInfo → FailsBy (lists (codes ".git/info")) word → ReadsGit lists gives no_ignore texts there (Err (Faulted site word))
    info_fault there es site word e l listing present is m =
        at_true there (Err (Faulted site word)) e (
          asked (Ok (git_items es)) (Err word),
          record { git = λ t. may_git es l; info = λ t h. m; git_listing = git_listed es listing; info_listing = no_entries },
          λ directory. by_info no_ignore es (Err word) true present
              ∙ ap (λ (p : FaultSite). Err (record { path = site_path directory p; word = word })) (sym is),
        )

    -- the same, or want of memory
    pub info_refused : (there : Bool) (es : List EntryModel) (u : OpenFault) → there ≡ true → lists (codes ".git") (Ok es)
        → IsListing es → has_dir (codes "info") es ≡ true →
        ListsFor (lists (codes ".git/info")) GitInfo (Err u) → ReadsGit lists gives no_ignore texts there (Err u)
    info_refused there es (Faulted site word) e l listing present (is, m) = info_fault there es site word e l listing present is m
    info_refused there es Memory e l listing present m = tt
    info_refused there es TooDeep e l listing present m = absurd m

    abbrev info_of : List EntryModel → AsRules → Items
    info_of fs given = Ok (items_at (any_count (codes ".git/info")) given fs)

    abbrev InfoGiven : List EntryModel → Result PairRead OpenFault → Type 0
    InfoGiven fs r = PairGiven gives (info_asked no_ignore texts (codes ".git/info") fs) refl (any_rules (codes ".git/info"))
        (may_rules (codes ".git/info")) r

    -- what its two files answered
    pub both_files : (there : Bool) (es fs : List EntryModel) (r : Result PairRead OpenFault) → there ≡ true
        → lists (codes ".git") (Ok es) → IsListing es → has_dir (codes "info") es ≡ true →
        lists (codes ".git/info") (Ok fs) → IsListing fs →
        ReadsBoth gives (info_asked no_ignore texts (codes ".git/info") fs) r →
        ReadsGit lists gives no_ignore texts there r
    both_files there es fs r e l git_listing present m info_listing reads =
        at_true there r e (at r (pair_given gives (info_asked no_ignore texts (codes ".git/info") fs) refl (any_rules (codes ".git/info"))
        (may_rules (codes ".git/info")) r reads))
      where
        may : (given : AsRules) → ((n : List ℕ) → MayReadRules (gives (path_in (codes ".git/info") n)) (given n))
            → MayAnswerGit lists gives true (asked (Ok (git_items es)) (info_of fs given))
        may given k = record {
          git = λ t. may_git es l;
          info = λ t h. listed (codes ".git/info") fs given k m;
          git_listing = git_listed es git_listing;
          info_listing = is_listed (codes ".git/info") fs given info_listing;
        }

        at : (o : Result PairRead OpenFault) → InfoGiven fs o → ReadsGit lists gives no_ignore texts true o
        at (Ok read) (given, k, (bytes, are, is)) = (
          asked (Ok (git_items es)) (info_of fs given),
          may given k,
          (
            bytes,
            are,
            by_info no_ignore es (info_of fs given) true present ∙ is (codes ".git/info/exclude") (codes ".git/info/attributes")
                (any_count (codes ".git/info")),
          ),
        )
        at (Err (Faulted site word)) (given, k, is) = (
          asked (Ok (git_items es)) (info_of fs given),
          may given k,
          λ directory. by_info no_ignore es (info_of fs given) true present
              ∙ is (site_path directory) (any_count (codes ".git/info")),
        )
        at (Err Memory) k = tt
        at (Err TooDeep) k = absurd k
