use Rattle.std.proofs.Common.{◌≡◌, length, map}
use Rattle.std.specs.{Prelude.not, List.{find, list_all}}
use Rattle.lc_arguments.specs.Reports.{is_good_report, named_of}
use Rattle.lc_arguments.proofs.reports.first_bad.Given as goal

abbrev pub invariant-rest : goal.invariant-rest
invariant-rest l =
    (list_all (λ word. is_good_report (named_of word)) (map (λ word. word.now) l.rest)
    ≡ list_all (λ word. is_good_report (named_of word)) (map (λ word. word.now) l.words))
    × (find (λ word. not (is_good_report (named_of word))) (map (λ word. word.now) l.rest)
    ≡ find (λ word. not (is_good_report (named_of word))) (map (λ word. word.now) l.words))

abbrev pub decreases-rest : goal.decreases-rest
decreases-rest l = length l.rest
