use Rattle.std.proofs.Common.{◌≡◌, length, map}
use Rattle.std.specs.List.{find}
use Rattle.lc_level.specs.Level.{is_met}
use Rattle.lc_level.proofs.filters.Filters.first_met.Given as goal

abbrev pub invariant-words : goal.invariant-words
invariant-words l =
    find (is_met l.job l.path l.is_dir) (map (λ word. word.items) l.rest) ≡ find (is_met l.job l.path l.is_dir) l.self.without

abbrev pub decreases-words : goal.decreases-words
decreases-words l = length l.rest
