-- Where no ignore file of a tree is read, each rule is of the command line or of the file for the whole tree.
use Rattle.std.proofs.Common.{◌≡◌, ℕ, true, List, [], ◌∷◌, ◌++◌, refl, subst, inl, arith, Option, None, Result}
use Rattle.std.proofs.lemmas.Grind.{common_steps}
use Rattle.std.specs.List.{AllByRecursion}
use Rattle.lc_level.specs.{Answers.{Item, Answers, Tree}, Filters.FiltersModel, Job.JobModel, Level.{SkippedLineModel, by_rule, child_job}}
use Rattle.lc_level.specs.declared.fault_word.FaultWord.{FaultWord}
use Rattle.lc_rules.specs.{IgnoreChains.{ChainModel, rules_in}, IgnoreRules.RuleModel, Verdicts.from_file}
use Rattle.lc_rules.specs.declared.rule_source.RuleSource.{RuleSource}
use Rattle.lc_tree.specs.Trees.{Listings, Contents}
use Rattle.lc_walk.specs.{Accounts.RuleLaw, FoundAt.{IsListed, LeadsTo}, RecursiveWalk.walk_of, FoundReports.IsReportOf}
use Rattle.lc_walk.specs.{WalkOptions.{asked_by, top_of}, declared.{options.Options.Options, report.Report.Report}}
use Rattle.lc_walk.proofs.{Elements.in_right, RowTrees.by_answers}
use Rattle.lc_laws.specs.NoIgnore.{AnswersNoIgnoreLaw, IsGivenSource, NoIgnoreLaw, SkipsByGivenRules}
use Rattle.lc_laws.proofs.{TopRules.{pair_rules, read_here}, Elements.of_each}

-- ---- what is read

abbrev unread : Option (Result (List ℕ) FaultWord)
unread = None

-- ---- chains

-- one that has no file of the tree, and reads none
record ReadsNone (chain : ChainModel) : Type 0 where
  unread : chain.no_ignore ≡ true
  info : chain.info ≡ None
  tree : chain.tree ≡ []

listed_none : (j : JobModel) (a : Answers) (items : List Item) (inside : JobModel) → IsListed j a items inside → ReadsNone j.ignore
    → ReadsNone inside.ignore
listed_none j a items inside listed none = grind (arith, common_steps, read_here, pair_rules)

-- so does each directory to which names lead
led_none : (s : FiltersModel) (place : List (List ℕ)) (j k : JobModel) (t : Tree) → ReadsNone j.ignore → LeadsTo s j t place k
    → ReadsNone k.ignore
led_none s [] j k t none leads = subst (λ (i : JobModel). ReadsNone i.ignore) leads none
led_none s (n ∷ place) j k t none (inside, walks, leads) =
    led_none s place (child_job inside n) k (λ p. t (n ∷ p)) (listed_none j (t []) walks.items inside walks.listed none) leads

-- ---- rules

abbrev IsGiven : RuleSource × RuleModel → Type 0
IsGiven rule = IsGivenSource rule.0

all_of : (source : RuleSource) → IsGivenSource source → (rules : List RuleModel) → AllByRecursion IsGiven (from_file source rules)
all_of source given [] = tt
all_of source given (rule ∷ rules) = (given, all_of source given rules)

all_given : (chain : ChainModel) → ReadsNone chain → AllByRecursion IsGiven (rules_in chain)
all_given chain none = grind (arith, common_steps, all_of)

-- ---- reports

skips_so : RuleLaw → (t : Tree) (o : Options) (r : Report) → (asked_by o).filters.no_ignore ≡ true
    → IsReportOf o.lists (walk_of (asked_by o).filters o.max_dirs (top_of o) t) r → SkipsByGivenRules r
skips_so law t o r unread report path source line has =
    let entry : SkippedLineModel = record { path = path; kind = has.0; reason = by_rule source line } in
    let by = law o.lists (asked_by o).filters o.max_dirs (top_of o) t r report entry source line has.1 refl in
    let begins : ReadsNone (top_of o).ignore = record { unread = unread; info = refl; tree = refl } in
    let chain = listed_none by.job (t by.place) by.items by.inside by.listed
    (led_none (asked_by o).filters by.place (top_of o) by.job t begins by.leads) in
    let rules = by.decides.older ++ (source, by.rule) ∷ by.decides.later in
    of_each IsGiven (source, by.rule) rules (subst (AllByRecursion IsGiven) by.decides.stands (all_given by.inside.ignore chain))
    (in_right (source, by.rule) by.decides.older ((source, by.rule) ∷ by.decides.later) (inl refl))

pub answers_no_ignore : RuleLaw → AnswersNoIgnoreLaw
answers_no_ignore law t o r unread report = skips_so law t o r unread (report o.max_dirs (omega arith))

pub no_ignore : RuleLaw → (lists : List ℕ → Listings) (gives : List ℕ → Contents) → NoIgnoreLaw lists gives
no_ignore law lists gives o r unread walks =
    let by = by_answers lists gives o r walks in answers_no_ignore law by.answers o r unread by.report
