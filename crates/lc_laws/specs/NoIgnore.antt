-- The law that a count that reads no ignore file of a tree skips no entry by a rule of such a file.
use Rattle.std.specs.Prelude.{◌≡◌, ◌⊎◌, ℕ, true, List, Ok}
use Rattle.lc_level.specs.{Answers.Tree, Level.by_rule}
use Rattle.lc_rules.specs.declared.rule_source.RuleSource.{RuleSource, TheVariants.{CommandLine, ExcludeFrom}}
use Rattle.lc_tree.specs.Trees.{Listings, Contents}
use Rattle.lc_walk.specs.{GivenAnswers.IsReportBy, WalkOptions.asked_by, Walks.Walks, declared.options.Options.Options}
use Rattle.lc_walk.specs.declared.report.Report.{Report}
use Rattle.lc_laws.specs.ReportedPaths.{IsSkipped}

-- the source of a rule is the file named for the whole tree, or the command line: neither a `.gitignore` nor `.git/info/exclude`
abbrev pub IsGivenSource : RuleSource → Type 0
IsGivenSource source = (source ≡ ExcludeFrom) ⊎ (source ≡ CommandLine)

-- each rule by which a report has an entry as skipped is from the file named for the whole tree, or from the command line
abbrev pub SkipsByGivenRules : Report → Type 0
SkipsByGivenRules r =
    (path : List ℕ) (source : RuleSource) (line : ℕ) → IsSkipped r path (by_rule source line) → IsGivenSource source

-- the report by given answers of a count that reads no ignore file of the tree skips only by such rules, which are given for the whole tree
abbrev pub AnswersNoIgnoreLaw : Type 0
AnswersNoIgnoreLaw =
    (t : Tree) (o : Options) (r : Report) → (asked_by o).filters.no_ignore ≡ true → IsReportBy t o r → SkipsByGivenRules r

-- each report of a walk that reads no ignore file of the tree skips only by rules that are given for the whole tree
abbrev pub NoIgnoreLaw : (List ℕ → Listings) → (List ℕ → Contents) → Type 0
NoIgnoreLaw lists gives =
    (o : Options) (r : Report) → (asked_by o).filters.no_ignore ≡ true → Walks lists gives o (Ok r) → SkipsByGivenRules r
