-- The reports that are joined.
use Rattle.std.proofs.Common.{◌≡◌, true, List, [], ◌∷◌, ◌&&◌, refl, sym, ap₂, subst}
use Rattle.std.specs.List.{list_all}
use Rattle.lc_reports.specs.{Joined.{Fits, IsUnjoined as AreUnjoined}, declared.join_fault.JoinFault.JoinFault}
use Rattle.lc_walk.specs.declared.report.Report.{Report}
use Rattle.lc_reports.specs.{Sums.{IsUnjoined, fault_of_join, needed_reports}, declared.{needs.Needs.Needs, part.Part.Part}}
use Rattle.lc_reports.specs.declared.join_fault.JoinFault.TheVariants as join

-- they have files where these are needed
pub all_have_files : (needs : Needs) (ps : List Part) → needs.files ≡ true
    → list_all (λ (r : Report). r.lists.files) (needed_reports needs ps) ≡ true
all_have_files needs [] needed = refl
all_have_files needs (p ∷ ps) needed = ap₂ (λ a b. a && b) needed (all_have_files needs ps needed)

-- where they are not joined, nor are all summed
pub not_summed : (needs : Needs) (ps : List Part) (rs : List Report) (fault : JoinFault) → rs ≡ needed_reports needs ps
    → AreUnjoined rs fault → IsUnjoined needs ps (fault_of_join fault)
not_summed needs ps rs join.Memory are fits = tt
not_summed needs ps rs join.TooLarge are unfit = λ fit. unfit (subst Fits (sym are) fit)
