use Rattle.std.proofs.Common.{◌≡◌, map, length}
use Rattle.lc_languages.specs.Languages.{ending, ends_of, entries_of, first_listed}
use Rattle.lc_languages.proofs.languages.Languages.language_of_end.Given as goal

abbrev pub invariant-ends : goal.invariant-ends
invariant-ends l =
    first_listed (entries_of l.self) (map ending (ends_of l.end)) ≡ first_listed (entries_of l.self) (map ending (ends_of l.name))

abbrev pub decreases-ends : goal.decreases-ends
decreases-ends l = length l.end
