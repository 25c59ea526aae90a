-- What `explain` finds for a path, as an explanation.
use Rattle.std.specs.Prelude.{ℕ, List, codes}
use Rattle.lc_level.specs.{FaultLines.FaultLineModel, Filters.FiltersModel, Reasons.reason_model, SitePaths.site_path}
use Rattle.lc_rules.specs.declared.rule_source.RuleSource.{RuleSource}
use Rattle.lc_paths.specs.Explanations.Explained.{CitedRule, Explanation, bad, faulted, below, ignored, included, unruled, left_out, cited}
use Rattle.lc_paths.specs.{Explanations.OpenDirs.{DirStacks, stack_to}, declared.explaining.finding.DirectoryFault.DirectoryFault}
use Rattle.lc_paths.specs.declared.explaining.finding.{Decision.{Decision, TheVariants.{Below, Ignored, Included}}, Finding.Finding}
use Rattle.lc_paths.specs.declared.explaining.finding.Found.{Found}
use Rattle.lc_paths.specs.declared.explaining.finding.Finding.TheVariants as found

-- the path that could not be read, and the word of the error
abbrev pub fault_line_of : DirectoryFault → FaultLineModel
fault_line_of fault = record { path = site_path fault.directory.now fault.site; word = fault.word }

-- the explanation by a rule that decides this, and its word
abbrev pub decided : Decision → CitedRule → Explanation
decided Below = below
decided Ignored = ignored
decided Included = included

abbrev pub decision_word : Decision → List ℕ
decision_word Below = codes "below"
decision_word Ignored = codes "ignored"
decision_word Included = codes "included"

-- the explanation that a finding stands for; `cite` makes a rule as it is printed
abbrev pub explanation_of : (RuleSource → ℕ → CitedRule) → Finding → Explanation
explanation_of cite found.Bad = bad
explanation_of cite (found.Fault fault) = faulted (fault_line_of fault)
explanation_of cite (found.Ruled decision rule) = decided decision (cite rule.source rule.line)
explanation_of cite found.NoRule = unruled
explanation_of cite (found.Skipped reason) = left_out (reason_model reason)

-- the explanation that a finding stands for, by the rules of the directories of its cached stack
abbrev pub explanation_on : FiltersModel → DirStacks → Found → Explanation
explanation_on f stacks found = explanation_of (cited f (stack_to stacks found.to)) found.finding
