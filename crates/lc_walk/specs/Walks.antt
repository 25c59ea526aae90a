-- What each result of `walk` means.
use Rattle.std.specs.Prelude.{ℕ, List, Result, Ok, Err}
use Rattle.lc_board.specs.WordClose.{words_promises}
use Rattle.lc_level.specs.TreeAnswers.{MayAnswer}
use Rattle.lc_tree.specs.Trees.{Listings, Contents}
use Rattle.lc_walk.specs.{BoardAnswers.{IsWalkReport, IsTooDeepSomewhere, FillsAll}, WalkOptions.{asked_by, top_of}}
use Rattle.lc_walk.specs.declared.{options.Options.Options, report.Report.Report}
use Rattle.lc_walk.specs.declared.walk_fault.WalkFault.{WalkFault, TheVariants.{Memory, TooManyDirs, TooDeep, Torn, Mismatch}}

-- what each result of a walk by these options means, over a board of words: a report, or why there is none. `lists` and `gives` are the
-- listings and the file contents that the tree may give. The errors Torn and Mismatch never occur
abbrev pub Walks : (List ℕ → Listings) → (List ℕ → Contents) → Options → Result Report WalkFault → Type 0
Walks lists gives o (Ok r) = IsWalkReport (MayAnswer lists gives) (asked_by o) o.max_dirs o.threads (top_of o) words_promises r
Walks lists gives o (Err Memory) = Unit {0}
Walks lists gives o (Err TooManyDirs) = FillsAll (MayAnswer lists gives) (asked_by o) o.max_dirs o.threads (top_of o) words_promises
Walks lists gives o (Err TooDeep) = IsTooDeepSomewhere (MayAnswer lists gives) (asked_by o) o.max_dirs o.threads (top_of o) words_promises
Walks lists gives o (Err (Torn n)) = ⊥
Walks lists gives o (Err (Mismatch w)) = ⊥
