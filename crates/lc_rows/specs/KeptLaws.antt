-- What is true of the parts of a report that meet conditions.
use Rattle.std.specs.{Prelude.{◌≡◌, ℕ, Bool, if◌then◌else◌, List, [], ◌∷◌, map}, List.Sorted.IsPermutation}
use Rattle.lc_sheet.specs.Conditions.{ConditionModel, TestModel, compared, is_on_files, none_of, one_of}
use Rattle.lc_sheet.specs.declared.condition.Comparison.{Comparison, TheVariants.{Less, AtMost, Equal, Unequal, AtLeast, Greater}}
use Rattle.lc_tree.specs.Trees.{Listings, Contents}
use Rattle.lc_walk.specs.{ReportTotals.{TotalsAddUp, counted_line}, Sums.plus, Tally.sums_of_files, TallyRows.sums_of_rows}
use Rattle.lc_walk.specs.declared.{options.Options.Options, report.Report.Report, tally.sums.Sums.Sums}
use Rattle.lc_rows.specs.{Kept.IsKept, WalkedReports.{IsOfWalk, ListsFilesToTest}}

-- without conditions a report stays as it is
abbrev pub NoConditionLaw : Type 0
NoConditionLaw = (r part : Report) → IsKept [] r part → part ≡ r

-- the order of conditions makes no difference
abbrev pub OrderLaw : Type 0
OrderLaw = (cs ds : List ConditionModel) (r part : Report) → IsPermutation cs ds → IsKept cs r part → IsKept ds r part

-- the comparison that is true exactly if this comparison is false
abbrev pub opposite_of : Comparison → Comparison
opposite_of Less = AtLeast
opposite_of AtMost = Greater
opposite_of Equal = Unequal
opposite_of Unequal = Equal
opposite_of AtLeast = Less
opposite_of Greater = AtMost

abbrev pub opposite_test : TestModel → TestModel
opposite_test (one_of texts) = none_of texts
opposite_test (none_of texts) = one_of texts
opposite_test (compared comparison n) = compared (opposite_of comparison) n

abbrev pub opposite : ConditionModel → ConditionModel
opposite c = record { column = c.column; test = opposite_test c.test }

-- the sums over all that a condition is tested on: the files for a condition on what they alone have, and otherwise the rows
abbrev pub tested_sums : Bool → Report → Sums
tested_sums by_file r = if by_file then sums_of_files (map counted_line r.files.items) else sums_of_rows r.rows.items

-- if the totals of a report add up, so do the totals of the part that meets conditions
abbrev pub KeptTotalsLaw : Type 0
KeptTotalsLaw = (cs : List ConditionModel) (r part : Report) → TotalsAddUp r → IsKept cs r part → TotalsAddUp part

-- the totals with a condition and the totals with its opposite add up to the totals without the condition
abbrev pub AddUpOpposite : ConditionModel → Report → Type 0
AddUpOpposite c r =
    (with_it without_it : Report) → IsKept (c ∷ []) r with_it → IsKept (opposite c ∷ []) r without_it
    → plus with_it.totals without_it.totals ≡ r.totals

-- opposite conditions add up if the totals are the sums over all that the condition is tested on
abbrev pub OppositesLaw : Type 0
OppositesLaw = (c : ConditionModel) (r : Report) → r.totals ≡ tested_sums (is_on_files c) r → AddUpOpposite c r

-- opposite conditions add up for each report of a walk, and for the part of such a report that meets other conditions; if the condition is
-- on what files alone have, the walk must list them
abbrev pub WalkedOppositesLaw : (List ℕ → Listings) → (List ℕ → Contents) → Type 0
WalkedOppositesLaw lists gives =
    (o : Options) (c : ConditionModel) (r : Report) → IsOfWalk lists gives o r → ListsFilesToTest o c → AddUpOpposite c r
