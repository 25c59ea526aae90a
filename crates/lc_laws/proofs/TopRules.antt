-- The rules that hold in each directory, where the only ignore file is the top's `.gitignore`.
use Rattle.std.proofs.Common.{arith, ◌≡◌, ◌≢◌, ℕ, Bool, true, false, cond, List, [], ◌∷◌, ◌++◌, refl, sym, ◌∙◌, ap, subst, Option}
use Rattle.std.proofs.{Common.{Some, None, Result, Ok, codes, bytes_eq, append-nil, inl, inr, ◌⊎◌}, lemmas.Grind.common_steps}
use Rattle.std.specs.Prelude.{option_map}
use Rattle.lc_census.specs.declared.line_count.Count.{Count}
use Rattle.lc_glob.specs.Path.{depth_of}
use Rattle.lc_level.specs.{Answers.{Item, file_item, directory_item, other_item, name_of, entry_of, Answers, Tree, Items}, Job.JobModel}
use Rattle.lc_level.specs.{Level.child_job, OneAnswer.GivesOne, RuleFiles.{Pair, RuleBytes, file_named, ignore_named, has_directory}}
use Rattle.lc_level.specs.RuleFiles.{has_git, and_then, both_read, info_items, info_bytes, rule_bytes, with_file_at, first_of}
use Rattle.lc_level.specs.{TopJob.top_job, TreeAnswers.{MayHave, MayList, MayAnswer, items_of}, declared.fault_word.FaultWord.FaultWord}
use Rattle.lc_level.specs.Filters.{no_filters}
use Rattle.lc_level.proofs.WellFormed.{same_bytes, bytes_same}
use Rattle.lc_rules.specs.{IgnoreChains.{ChainModel, rules_in}, IgnoreRules.{RuleModel, rules_of}, Verdicts.at_depth}
use Rattle.lc_tree.specs.{Listing.EntryModel, Paths.names_of_path, Trees.{Listings, Contents}, declared.entry.Kind.TheVariants.{File, Dir}}
use Rattle.lc_tree.specs.declared.entry.Kind.TheVariants.{Other}
use Rattle.lc_walk.specs.{FoundAt.{IsListed, LeadsTo}, GivenAnswers.{HasListings, IsGiven}}
use Rattle.lc_walk.proofs.Elements.{In, contains, of_mapped}
use Rattle.lc_laws.specs.{CountsChecked.{HasTopRules, ReadsTopRules}, Entries.HasListed}
use Rattle.lc_laws.proofs.{Items.{IsItem, named_item, has_listed}, OneWay.place_names, Elements.of_each}

-- ---- files of a name

-- what is read under a name is a file of the name
pub file_of : (items : List Item) (name : List ℕ) (rules : Result (List ℕ) FaultWord) → file_named name items ≡ Some rules
    → (count : Result Count FaultWord) × In (file_item name count rules) items
file_of [] name rules e = absurd (cc e)
file_of (file_item n c own ∷ items) name rules e = at (file_of items name rules) (bytes_eq n name) refl e
  where
    at : (file_named name items ≡ Some rules → (count : Result Count FaultWord) × In (file_item name count rules) items) → (b : Bool)
        → bytes_eq n name ≡ b → cond b (Some own) (file_named name items) ≡ Some rules
        → (count : Result Count FaultWord) × In (file_item name count rules) (file_item n c own ∷ items)
    at rest true same f =
        let reads_is : own ≡ rules = cc f in
        (c, inl (ap (λ m. file_item m c own) (same_bytes n name same) ∙ ap (file_item name c) reads_is))
    at rest false same f = let h = rest f in (h.0, inr h.1)
file_of (directory_item n ∷ items) name rules e = let h = file_of items name rules e in (h.0, inr h.1)
file_of (other_item n what ∷ items) name rules e = let h = file_of items name rules e in (h.0, inr h.1)

-- a file of a name is read under it
some_file : (items : List Item) (name : List ℕ) (item : Item) → In item items → entry_of item ≡ record { name = name; kind = File }
    → file_named name items ≢ None
some_file [] name item has e = absurd has
some_file (file_item n c own ∷ items) name item has e = at (some_file items name item) (bytes_eq n name) refl
  where
    at : (In item items → entry_of item ≡ record { name = name; kind = File } → file_named name items ≢ None) → (b : Bool)
        → bytes_eq n name ≡ b → cond b (Some own) (file_named name items) ≢ None
    at rest true same = λ none. cc none
    at rest false same = by has
      where
        by : (file_item n c own ≡ item) ⊎ In item items → file_named name items ≢ None
        by (inl is) =
            let named : n ≡ name = ap (λ (y : Item). name_of y) is ∙ ap (λ (x : EntryModel). x.name) e in
            let yes : bytes_eq n name ≡ true = bytes_same n name named in absurd (cc (sym yes ∙ same))
        by (inr i) = rest i e
some_file (directory_item n ∷ items) name item (inl is) e =
    let h : entry_of (directory_item n) ≡ record { name = name; kind = File } = ap entry_of is ∙ e in
    let k : Dir ≡ File = ap (λ (x : EntryModel). x.kind) h in absurd (cc k)
some_file (directory_item n ∷ items) name item (inr i) e = some_file items name item i e
some_file (other_item n what ∷ items) name item (inl is) e =
    let h : entry_of (other_item n what) ≡ record { name = name; kind = File } = ap entry_of is ∙ e in
    let k : Other what ≡ File = ap (λ (x : EntryModel). x.kind) h in absurd (cc k)
some_file (other_item n what ∷ items) name item (inr i) e = some_file items name item i e

-- ---- what was read

-- the first of two that were read is that of the first file
pub pair_rules : (p q : List ℕ) (file other : Option (Result (List ℕ) FaultWord)) (pair : Pair) → both_read p file q other ≡ Ok pair
    → option_map Ok pair.rules ≡ file
pair_rules p q file other pair e = grind (arith, common_steps)

-- all that was read for a directory
pub record ReadHere (no_ignore : Bool) (path : List ℕ) (items : List Item) (a : Answers) (bytes : RuleBytes) : Type 0 where
  pub info : and_then (info_items (has_git path items) a) (info_bytes no_ignore) ≡ Ok bytes.info
  pub own : option_map Ok bytes.own.rules ≡ ignore_named no_ignore (codes ".gitignore") items

-- what a directory's rules are read from, where all of them could be read
pub read_here : (no_ignore : Bool) (path : List ℕ) (items : List Item) (a : Answers) (bytes : RuleBytes)
    → rule_bytes no_ignore path items a ≡ Ok bytes → ReadHere no_ignore path items a bytes
read_here no_ignore path items a bytes e = grind (arith, common_steps, pair_rules)

-- nothing is read of `.git/info` where it isn't there
no_info : (no_ignore : Bool) (a : Answers) (there : Bool) (i : Pair) → there ≡ false → and_then (info_items there a) (info_bytes no_ignore)
    ≡ Ok i → i.rules ≡ None
no_info no_ignore a there i e is = grind (arith, common_steps)

-- what is read of `.git/info` is in items of it, where there are some
record InfoItems (no_ignore : Bool) (a : Answers) (there : Bool) (rules : Option (List ℕ)) : Type 0 where
  items : List Item
  is : option_map Ok rules ≡ ignore_named no_ignore (codes "exclude") items
  listed : (items ≡ []) ⊎ ((there ≡ true) × (has_directory (codes "info") (items_of a.git) ≡ true) × (a.info ≡ Ok items))

info_items_of : (no_ignore : Bool) (a : Answers) (there : Bool) (i : Pair) → and_then (info_items there a) (info_bytes no_ignore) ≡ Ok i
    → InfoItems no_ignore a there i.rules
info_items_of no_ignore a there i e = grind (arith, common_steps, pair_rules)

-- ---- chains

-- the chain of the top's rules alone
abbrev pub top_chain : List RuleModel → ChainModel
top_chain rules = record { exclude = None; info = None; tree = (0, rules) ∷ []; command_line = None; no_ignore = false }

-- its rules are those of the top, at depth 0
pub top_chain_rules : (chain : ChainModel) (rules : List RuleModel) → chain ≡ top_chain rules → rules_in chain ≡ at_depth 0 rules
top_chain_rules chain rules is = ap rules_in is ∙ append-nil (at_depth 0 rules ++ []) ∙ append-nil (at_depth 0 rules)

-- a chain with the rules of two files, as far as they are there
abbrev with_both : JobModel → Option (List ℕ) → Option (List ℕ) → ChainModel
with_both j info own = record {
  exclude = j.ignore.exclude;
  info = first_of (option_map rules_of info) j.ignore.info;
  tree = with_file_at j.ignore.tree (depth_of j.path) (option_map rules_of own);
  command_line = j.ignore.command_line;
  no_ignore = j.ignore.no_ignore;
}

both_are : (j : JobModel) (a : Answers) (items : List Item) (inside : JobModel) (listed : IsListed j a items inside)
    (info own : Option (List ℕ)) → listed.bytes.info.rules ≡ info → listed.bytes.own.rules ≡ own → inside.ignore ≡ with_both j info own
both_are j a items inside listed info own one other = grind (arith, common_steps)

-- ---- by what is read

-- below the top nothing is read
abbrev ReadsNone : JobModel → Tree → Type 0
ReadsNone j u =
    (place : List (List ℕ)) (k : JobModel) (items : List Item) (files : RuleBytes) → LeadsTo no_filters j u place k
    → (u place).here ≡ Ok items
    → rule_bytes k.ignore.no_ignore k.path items (u place) ≡ Ok files → (files.info.rules ≡ None) × (files.own.rules ≡ None)

lower : (rules : List RuleModel) (place : List (List ℕ)) (j : JobModel) (u : Tree) → ReadsNone j u → j.ignore ≡ top_chain rules
    → (k : JobModel) → LeadsTo no_filters j u place k → (items : List Item) (inside : JobModel) → IsListed k (u place) items inside
    → inside.ignore ≡ top_chain rules
lower rules [] j u none chain k leads items inside listed =
    let here : IsListed j (u []) items inside = subst (λ (i : JobModel). IsListed i (u []) items inside) (sym leads) listed in
    let files = none [] j items here.bytes refl here.here here.read in
    both_are j (u []) items inside here None None files.0 files.1 ∙ chain
lower rules (n ∷ place) j u none chain k (within, leaves, leads) items inside listed =
    let l = leaves.listed in
    let read = none [] j leaves.items l.bytes refl l.here l.read in
    lower rules place (child_job within n) (λ p. u (n ∷ p)) (λ p i es files on. none (n ∷ p) i es files (within, leaves, on))
    (both_are j (u []) leaves.items within l None None read.0 read.1 ∙ chain) k leads items inside listed

module _ (t : Tree) (bytes : List ℕ) (reads : ReadsTopRules no_filters (top_job no_filters) t bytes) where
  -- at the top the rules are those of its file
  at_top : (items : List Item) (inside : JobModel) → IsListed (top_job no_filters) (t []) items inside
      → inside.ignore ≡ top_chain (rules_of bytes)
  at_top items inside listed =
      let r = reads [] (top_job no_filters) items listed.bytes refl listed.here listed.read in
      both_are (top_job no_filters) (t []) items inside listed None (Some bytes) r.0 r.1

  -- so these rules hold in each directory to which names lead
  pub rules_at : (place : List (List ℕ)) (k : JobModel) → LeadsTo no_filters (top_job no_filters) t place k → (items : List Item)
      (inside : JobModel) → IsListed k (t place) items inside → rules_in inside.ignore ≡ at_depth 0 (rules_of bytes)
  rules_at [] k leads items inside listed =
      top_chain_rules inside.ignore (rules_of bytes)
      (at_top items inside (subst (λ (i : JobModel). IsListed i (t []) items inside) (sym leads) listed))
  rules_at (n ∷ place) k (within, leaves, leads) items inside listed =
      top_chain_rules inside.ignore (rules_of bytes)
      (lower (rules_of bytes) place (child_job within n) (λ p. t (n ∷ p))
      (λ p i es files on. reads (n ∷ p) i es files (within, leaves, on)) (at_top leaves.items within leaves.listed) k leads items inside
      listed)

-- ---- by a tree that answers in one way

not_top : (path : List ℕ) (items : List Item) → (path ≡ [] → ⊥) → has_git path items ≡ false
not_top path items some = grind (arith, common_steps)

module _ (lists : List ℕ → Listings) (gives : List ℕ → Contents) (one : GivesOne lists gives) (bytes : List ℕ)
    (has : HasTopRules lists gives bytes) where
  all_listed : (path : List ℕ) (a : Answers) (items : List Item) → MayAnswer lists gives path a → a.here ≡ Ok items
      → MayList lists gives path (Ok items)
  all_listed path a items may here = subst (MayList lists gives path) here may.here

  entry_listed : (path : List ℕ) (items : List Item) (item : Item) → MayList lists gives path (Ok items) → In item items
      → HasListed lists path (name_of item) (entry_of item).kind
  entry_listed path items item may i = grind (arith, common_steps, contains, of_mapped)

  -- below the top no rules are read
  none_below : (no_ignore : Bool) (path : List ℕ) (a : Answers) (items : List Item) (files : RuleBytes) → (path ≡ [] → ⊥)
      → MayAnswer lists gives path a
      → a.here ≡ Ok items → rule_bytes no_ignore path items a ≡ Ok files → (files.info.rules ≡ None) × (files.own.rules ≡ None)
  none_below no_ignore path a items files some may here read =
      let r = read_here no_ignore path items a files read in
      (no_info no_ignore a (has_git path items) files.info (not_top path items some) r.info, own no_ignore files.own.rules r.own)
    where
      own : (unread : Bool) (rules : Option (List ℕ)) → option_map Ok rules ≡ ignore_named unread (codes ".gitignore") items → rules ≡ None
      own unread None e = refl
      own true (Some text) e = absurd (cc e)
      own false (Some text) e =
          let f = file_of items (codes ".gitignore") (Ok text) (sym e) in
          absurd (has.no_other path some (entry_listed path items (file_item (codes ".gitignore") f.0 (Ok text))
          (all_listed path a items may here) f.1))

  module _ (t : Tree) (listings : HasListings no_filters (top_job no_filters) t)
      (given : IsGiven lists gives no_filters (top_job no_filters) t) where
    -- at the top those of its file are
    top_read : (items : List Item) (files : RuleBytes) → (t []).here ≡ Ok items → rule_bytes false [] items (t []) ≡ Ok files
        → (files.info.rules ≡ None) × (files.own.rules ≡ Some bytes)
    top_read items files here read =
        let r = read_here false [] items (t []) files read in
        (info files.info.rules (info_items_of false (t []) (has_git [] items) files.info r.info), own files.own.rules r.own)
      where
        answers : MayAnswer lists gives [] (t [])
        answers = given [] (top_job no_filters) refl

        may : MayList lists gives [] (Ok items)
        may = all_listed [] (t []) items answers here

        info : (rules : Option (List ℕ)) → InfoItems false (t []) (has_git [] items) rules → rules ≡ None
        info None found = refl
        info (Some text) found = at found.listed
          where
            f : (count : Result Count FaultWord) × In (file_item (codes "exclude") count (Ok text)) found.items
            f = file_of found.items (codes "exclude") (Ok text) (sym found.is)

            at : (found.items ≡ []) ⊎ ((has_git [] items ≡ true) × (has_directory (codes "info") (items_of (t []).git) ≡ true)
                × ((t []).info ≡ Ok found.items)) → Some text ≡ None
            at (inl none) = absurd (subst (In (file_item (codes "exclude") f.0 (Ok text))) none f.1)
            at (inr (git, inside_git, is)) =
                let git_there = ap (λ (o : Items). has_git [] (items_of o)) here ∙ git in
                let may_info = subst (MayList lists gives (codes ".git/info")) is (answers.info git_there inside_git) in
                absurd (has.no_info (entry_listed (codes ".git/info") found.items (file_item (codes "exclude") f.0 (Ok text)) may_info f.1))

        there : IsItem items (codes ".gitignore") File
        there = named_item items (codes ".gitignore") File
            (has_listed lists gives one no_filters (top_job no_filters) t given [] (top_job no_filters) items refl here
            (codes ".gitignore") File
            has.there)

        own : (rules : Option (List ℕ)) → option_map Ok rules ≡ file_named (codes ".gitignore") items → rules ≡ Some bytes
        own None e =
            absurd (some_file items (codes ".gitignore") there.item there.has
            (λ i. record { name = there.named i; kind = there.kind_is i }) (sym e))
        own (Some text) e =
            let f = file_of items (codes ".gitignore") (Ok text) (sym e) in
            let reads = of_each (MayHave lists gives []) (file_item (codes ".gitignore") f.0 (Ok text)) items may.1 f.1 in
            let same : Ok text ≡ Ok bytes = one.rules (codes ".gitignore") (Ok text) (Ok bytes) reads.1 has.read in
            let is : text ≡ bytes = cc same in
            ap Some is

    below_path : (name : List ℕ) (place : List (List ℕ)) (k : JobModel)
        → LeadsTo no_filters (top_job no_filters) t (name ∷ place) k → k.path ≡ [] → ⊥
    below_path name place k leads none =
        let names : [] ≡ name ∷ place =
        sym (ap names_of_path none) ∙ place_names no_filters (name ∷ place) (top_job no_filters) k t listings leads in
        absurd (cc names)

    -- so the only ignore file that is read is the top's
    pub reads_by_lists : ReadsTopRules no_filters (top_job no_filters) t bytes
    reads_by_lists [] k items files leads here read =
        top_read items files here (subst (λ (j : JobModel). rule_bytes j.ignore.no_ignore j.path items (t []) ≡ Ok files) (sym leads) read)
    reads_by_lists (n ∷ place) k items files leads here read =
        none_below k.ignore.no_ignore k.path (t (n ∷ place)) items files (below_path n place k leads) (given (n ∷ place) k leads) here read
