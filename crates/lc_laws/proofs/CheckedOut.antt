-- The report of a count agrees with a check by the top's rules.
use Rattle.std.proofs.{lemmas.Grind.common_steps, Common.{◌≡◌, ℕ, ◌+◌, ◌<◌, ◌≤◌, Bool, true, false, cond, nat_eq, List, [], ◌∷◌, ◌++◌}}
use Rattle.std.proofs.Common.{length, take, get_or, refl, sym, ◌∙◌, ap, subst, arith, Some, ◌⊎◌, inl, inr, length-append, append_assoc}
use Rattle.std.proofs.{Common.codes, Math.Seq.{get_or-append_seam, take-append_seam}}
use Rattle.std.specs.List.{Contains}
use Rattle.lc_paths.specs.Checks.CheckText.{file_verdict, is_ignored, has_ignored_parent, verdict_word, path_word}
use Rattle.lc_paths.proofs.{Explanations.PathSegments.names_below, Checks.Directories.{is_ignored_parent-slash, has_ignored_parent-some}}
use Rattle.lc_glob.proofs.Naming.{has_first, segments_apart}
use Rattle.lc_glob.specs.{Bytes.slash, Path.{path_in, segments_of}}
use Rattle.lc_level.specs.{Answers.{Item, name_of, entry_of, entries_of, Tree}, Job.JobModel, Level.{SkippedLineModel, by_rule}}
use Rattle.lc_level.specs.{Filters.{FiltersModel, no_filters}, TopJob.top_job}
use Rattle.lc_level.proofs.WellFormed.{Spread}
use Rattle.lc_rules.specs.{IgnoreChains.rules_in, IgnoreLaws.LastMatchLaw, IgnoreRules.{RuleModel, rules_of}, Verdicts.at_depth}
use Rattle.lc_rules.specs.{Verdicts.{last_match, verdict_from}, declared.rule_source.RuleSource.RuleSource}
use Rattle.lc_rules.specs.{declared.verdicts.Verdict.{Verdict, TheVariants.{Ignored, Included}}}
use Rattle.lc_text.specs.PathLines.{is_bad_path}
use Rattle.lc_tree.specs.{Kinds.is_dir, Paths.names_of_path, Trees.{Listings, Contents}, declared.entry.Kind.{Kind, TheVariants.Dir}}
use Rattle.lc_walk.specs.{Accounts.RuleLaw, FoundAt.{IsListed, LeadsTo}, GivenAnswers.{HasListings, IsGiven}, RecursiveWalk.walk_of}
use Rattle.lc_walk.specs.{WalkOptions.{asked_by, top_of}, FoundReports.IsReportOf}
use Rattle.lc_walk.specs.{declared.{options.{Options.Options, ReportLists.ReportLists}, report.Report.Report}}
use Rattle.lc_walk.proofs.{Elements.{In, is_in, contains}, Levels.well_formed_items, RowTrees.by_answers}
use Rattle.lc_laws.specs.{ByAnswers.{kind_before, IsEntryBy}, CountsChecked.{ReadsTopRules, AsksRulesAlone, IsCheckedOut, IsRuledOut}}
use Rattle.lc_laws.specs.{CountsChecked.{CheckAgrees, AnswersCheckedLaw, CheckedLaw}, ReportedPaths.IsSkipped}
use Rattle.lc_laws.proofs.{Checking.decided, Items.{named_item, named_kind, entry_by_lists}, OneWay.{kind_found, good_name, one_segment}}
use Rattle.lc_laws.proofs.{OneWay.place_names, TopRules.{rules_at, reads_by_lists}}

-- ---- the words of a check

module _ (verdict : List ℕ → Bool → Verdict) (path : List ℕ) (as_dir : Bool) (good : is_bad_path path ≡ false) where
  word_is : (above : Bool) → has_ignored_parent verdict path ≡ above
      → path_word verdict path as_dir ≡ cond above (codes "below") (verdict_word (verdict path as_dir))
  word_is above is = grind (arith, common_steps)

  -- what is not ignored and stands below nothing that is, is said to be neither
  not_out : has_ignored_parent verdict path ≡ false → is_ignored (verdict path as_dir) ≡ false
      → (path_word verdict path as_dir ≡ codes "ignored") ⊎ (path_word verdict path as_dir ≡ codes "below") → ⊥
  not_out clear kept so = grind (arith, common_steps, word_is)

  -- what is ignored is said to be, or to stand below what is
  out_itself : is_ignored (verdict path as_dir) ≡ true
      → (path_word verdict path as_dir ≡ codes "ignored") ⊎ (path_word verdict path as_dir ≡ codes "below")
  out_itself is = grind (arith, common_steps, word_is)

  -- and so is what stands below a directory that is
  out_below : (directory rest : List ℕ) → path ≡ directory ++ slash ∷ rest → is_ignored (verdict directory true) ≡ true
      → (path_word verdict path as_dir ≡ codes "ignored") ⊎ (path_word verdict path as_dir ≡ codes "below")
  out_below directory rest is ignored =
      let low : length directory < length path = omega (arith, ap length is, length-append directory (slash ∷ rest)) in
      let byte : nat_eq (get_or path (length directory) 0) 47 ≡ true =
      ap (λ l. nat_eq (get_or l (length directory) 0) 47) is ∙ ap (λ c. nat_eq c 47) (get_or-append_seam directory slash rest 0) in
      let above : take (length directory) path ≡ directory = ap (take (length directory)) is ∙ take-append_seam directory (slash ∷ rest) in
      inr (word_is true (has_ignored_parent-some verdict path (length directory) low
      (is_ignored_parent-slash verdict path (length directory) true byte (sym (ap (λ d. is_ignored (verdict d true)) above ∙ ignored)))))

-- ---- the kind of an entry

-- an item of a directory to which names lead has the kind of the entry
kind_same : (s : FiltersModel) (top : JobModel) (t : Tree) → top.path ≡ [] → HasListings s top t → (place : List (List ℕ)) (k : JobModel)
    → LeadsTo s top t place k → (items : List Item) (inside : JobModel) → IsListed k (t place) items inside → (item : Item)
    → In item items → (path : List ℕ) → path ≡ path_in inside.path (name_of item) → (kind : Kind) → IsEntryBy s top t path kind
    → (entry_of item).kind ≡ kind
kind_same s top t at_top listings place k leads items inside listed item has path path_is kind entry =
    let spread : Spread items = well_formed_items (t place) (listings place k leads) items listed.here in
    let names : segments_of path ≡ place ++ name_of item ∷ [] =
    ap segments_of (path_is ∙ ap (λ (j : JobModel). path_in j.path (name_of item)) listed.is) ∙ names_below k.path (name_of item)
    ∙ ap (λ l. l ++ segments_of (name_of item)) (place_names s place top k t listings leads
    ∙ ap (λ p. names_of_path p ++ place) at_top)
    ∙ ap (λ l. place ++ l) (one_segment (name_of item) (good_name items spread item has)) in
    let i = named_item items (name_of item) kind (entry place (name_of item) [] k items names leads listed.here) in
    let both : Some (entry_of item).kind ≡ Some kind =
    sym (kind_found items spread item has) ∙ named_kind items (name_of item) kind spread i in
    cc both

kind_above : (kind : Kind) (names : List (List ℕ)) (next : List ℕ) (others : List (List ℕ))
    → kind_before kind (names ++ next ∷ others) ≡ kind_before Dir names
kind_above kind names next others = grind (arith, common_steps)

-- a directory above an entry is one
entry_above : (s : FiltersModel) (top : JobModel) (t : Tree) (path directory next : List ℕ) (others : List (List ℕ)) (kind : Kind)
    → segments_of path ≡ segments_of directory ++ next ∷ others → IsEntryBy s top t path kind → IsEntryBy s top t directory Dir
entry_above s top t path directory next others kind is entry place name names k items cut leads here =
    let longer : segments_of path ≡ place ++ name ∷ (names ++ next ∷ others) =
    is ∙ ap (λ l. l ++ next ∷ others) cut ∙ append_assoc place (name ∷ names) (next ∷ others) in
    subst (λ (d : Kind). Contains (entries_of items) (record { name = name; kind = d })) (kind_above kind names next others)
    (entry place name (names ++ next ∷ others) k items longer leads here)

-- ---- by the report

module _ (law : RuleLaw) (last : LastMatchLaw) (t : Tree) (listings : HasListings no_filters (top_job no_filters) t) (asked : ReportLists)
    (depth : ℕ) (r : Report) (report : IsReportOf asked (walk_of no_filters depth (top_job no_filters) t) r) (rules : List RuleModel)
    (chain : (place : List (List ℕ)) (k : JobModel) → LeadsTo no_filters (top_job no_filters) t place k → (items : List Item)
    (inside : JobModel)
    → IsListed k (t place) items inside → rules_in inside.ignore ≡ at_depth 0 rules) where
  -- what a rule leaves out is ignored by the check
  ignored_there : (path : List ℕ) (kind : Kind) (source : RuleSource) (line : ℕ) → IsEntryBy no_filters (top_job no_filters) t path kind
      → IsSkipped r path (by_rule source line) → is_ignored (file_verdict rules path (is_dir kind)) ≡ true
  ignored_there path kind source line entry has =
      let skipped : SkippedLineModel = record { path = path; kind = has.0; reason = by_rule source line } in
      let by = law asked no_filters depth (top_job no_filters) t r report skipped source line has.1 refl in
      let own = kind_same no_filters (top_job no_filters) t refl listings by.place by.job by.leads by.items by.inside by.listed by.item
      (is_in by.item by.items by.has) path by.path_is kind entry in
      let decides = (last (rules_in by.inside.ignore) path (is_dir (entry_of by.item).kind)).1 (source, by.rule) by.decides in
      ap (λ rs. is_ignored (verdict_from (last_match rs path (is_dir kind))))
      (sym (chain by.place by.job by.leads by.items by.inside by.listed))
      ∙ ap (λ (d : Kind). is_ignored (verdict_from (last_match (rules_in by.inside.ignore) path (is_dir d)))) (sym own)
      ∙ ap (λ found. is_ignored (verdict_from found)) decides ∙ ap (λ b. is_ignored (cond b Included Ignored)) by.ignores

  -- what a report says to be ruled out, itself or by a directory above it, a check calls ignored or below
  checked_out : (path : List ℕ) (kind : Kind) → IsEntryBy no_filters (top_job no_filters) t path kind → is_bad_path path ≡ false
      → IsRuledOut r path → IsCheckedOut rules path kind
  checked_out path kind entry good (source, line, inl has) =
      out_itself (file_verdict rules) path (is_dir kind) good (ignored_there path kind source line entry has)
  checked_out path kind entry good (source, line, inr (directory, rest, is, has)) =
      let next = has_first rest in
      let names : segments_of path ≡ segments_of directory ++ next.first ∷ next.others =
      ap segments_of is ∙ segments_apart directory rest ∙ ap (λ l. segments_of directory ++ l) next.are in
      let above = entry_above no_filters (top_job no_filters) t path directory next.first next.others kind names entry in
      out_below (file_verdict rules) path (is_dir kind) good directory rest is (ignored_there directory Dir source line above has)

  -- and the other way round, where nothing is at fault
  agrees : asked.left_out ≡ true → (path : List ℕ) (kind : Kind) → length (segments_of path) ≤ depth
      → IsEntryBy no_filters (top_job no_filters) t path kind → CheckAgrees r rules path kind
  agrees left_out path kind deep entry faultless good no_git = (
    λ out. by out (decided t listings asked depth r report left_out faultless rules chain path kind entry
        (segments_of path) [] [] (top_job no_filters) refl (omega (arith, deep)) path refl refl (λ m. refl)
        (record { within = omega arith; clear = λ k low. absurd (omega (arith, low)) })
        (λ i. no_git (contains (codes ".git") (segments_of path) i)) refl),
    checked_out path kind entry good,
  )
    where
      by : IsCheckedOut rules path kind
          → IsRuledOut r path ⊎ ((has_ignored_parent (file_verdict rules) path ≡ false)
          × (is_ignored (file_verdict rules path (is_dir kind)) ≡ false)) → IsRuledOut r path
      by out (inl ruled) = ruled
      by out (inr (clear, kept)) = absurd (not_out (file_verdict rules) path (is_dir kind) good clear kept out)

-- a count by the rules of a tree alone is no_filters, and begins with no rules
plainly : (o : Options) → AsksRulesAlone o → (Q : FiltersModel → JobModel → Type 0) → Q (asked_by o).filters (top_of o)
    → Q no_filters (top_job no_filters)
plainly o asks Q holds = grind (arith, common_steps)

-- so does the report by some answers
pub answers_checked_law : RuleLaw → LastMatchLaw → AnswersCheckedLaw
answers_checked_law law last t bytes o r asks listings reads report path kind entry =
    let depth : ℕ = o.max_dirs + length (segments_of path) in
    agrees law last t (plainly o asks (λ s top. HasListings s top t) listings) o.lists depth r
    (plainly o asks (λ s top. IsReportOf o.lists (walk_of s depth top t) r) (report depth (omega arith))) (rules_of bytes)
    (rules_at t bytes (plainly o asks (λ s top. ReadsTopRules s top t bytes) reads)) asks.left_out path kind (omega arith)
    (plainly o asks (λ s top. IsEntryBy s top t path kind) entry)

-- and the report of a walk of a tree that answers in one way
pub checked_law : RuleLaw → LastMatchLaw → (lists : List ℕ → Listings) (gives : List ℕ → Contents) → CheckedLaw lists gives
checked_law law last lists gives one bytes has o r asks walks path kind entry =
    let by = by_answers lists gives o r walks in
    let t : Tree = by.answers in
    let depth : ℕ = o.max_dirs + length (segments_of path) in
    let listings = plainly o asks (λ s top. HasListings s top t) by.listings in
    let given = plainly o asks (λ s top. IsGiven lists gives s top t) by.given in
    agrees law last t listings o.lists depth r
    (plainly o asks (λ s top. IsReportOf o.lists (walk_of s depth top t) r) (by.report depth (omega arith))) (rules_of bytes)
    (rules_at t bytes (reads_by_lists lists gives one bytes has t listings given)) asks.left_out path kind (omega arith)
    (entry_by_lists lists gives one no_filters (top_job no_filters) t refl given path kind entry)
