-- What the directories of a walk to which names lead give stands in its report.
use Rattle.std.proofs.Common.{arith, ◌≡◌, ℕ, ◌<◌, true, List, length, refl, ap, None, Result, Ok, Err, inl, inr}
use Rattle.std.proofs.lemmas.Grind.{common_steps}
use Rattle.std.specs.{List.Contains, Option.option_map_or}
use Rattle.lc_census.specs.declared.line_count.Count.{Count}
use Rattle.lc_paths.specs.Explanations.OpenDirs.{open_dir}
use Rattle.lc_glob.specs.Path.{path_in}
use Rattle.lc_level.specs.{Answers.{Item, file_item, name_of, Tree}, FaultLines.FaultLineModel, Job.JobModel, Level.{Reason, Fate, skipped}}
use Rattle.lc_level.specs.{Level.{file_fate, fate_of, file_reason}, Filters.FiltersModel, declared.fault_word.FaultWord.FaultWord}
use Rattle.lc_tree.specs.declared.entry.Kind.{Kind, TheVariants.File}
use Rattle.lc_walk.specs.{Found.{Found, found_file, found_fault, found_skipped}, FoundAt.{IsListed, LeadsTo, HasEntry, Gives}}
use Rattle.lc_walk.specs.{RecursiveWalk.walk_of, FoundReports.IsReportOf, declared.{options.ReportLists.ReportLists, report.Report.Report}}
use Rattle.lc_walk.proofs.{Elements.In, FoundByPlace.walk_by_place}
use Rattle.lc_laws.specs.ReportedPaths.{IsSkipped, IsKept}
use Rattle.lc_laws.proofs.{OneWay.fault_level, ReportLists.{found_counted, found_is_skipped, found_faults, found_at_fault}}
use Rattle.lc_laws.proofs.TakingPart.{part_has}

module _ (s : FiltersModel) (whole : s.only ≡ None) (top : JobModel) (t : Tree) (asked : ReportLists) (depth : ℕ) (r : Report)
    (report : IsReportOf asked (walk_of s depth top t) r) where
  abbrev xs : List Found
  xs = walk_of s depth top t

  module _ (place : List (List ℕ)) (k : JobModel) (leads : LeadsTo s top t place k) (shallow : length place < depth) where
    -- what it gives is found
    found : (y : Found) → Gives s k (t place) y → In y xs
    found y gives_it = grind (arith, common_steps, walk_by_place)

    -- its fault
    pub fault_there : (fault : FaultLineModel) → open_dir k (t place) ≡ Err fault → Contains r.faults.items fault
    fault_there fault is =
        found_faults asked xs r report fault.path fault.word
        (found (found_fault fault.path fault.word) (inl (fault_level s k (t place) fault is)))

    module _ (items : List Item) (inside : JobModel) (listed : IsListed k (t place) items inside) where
      entry_has : (item : Item) → In item items → (fate : Fate) → fate_of s inside item ≡ fate → HasEntry s k (t place) (name_of item) fate
      entry_has item has fate is = grind (arith, common_steps, part_has)

      -- an entry that is left out
      pub skipped_there : asked.left_out ≡ true → (item : Item) → In item items → (own : Kind) (reason : Reason)
          → fate_of s inside item ≡ skipped own reason
          → IsSkipped r (path_in k.path (name_of item)) reason
      skipped_there skipped_ones item has own reason is =
          found_is_skipped asked xs r report skipped_ones k.path (record { path = name_of item; kind = own; reason = reason })
          (found (found_skipped k.path (record { path = name_of item; kind = own; reason = reason }))
          (refl, entry_has item has (skipped own reason) is))

      -- a file that is taken
      pub file_there : asked.files ≡ true → (n : List ℕ) (c : Result Count FaultWord) (rules : Result (List ℕ) FaultWord)
          → In (file_item n c rules) items
          → file_reason s inside n ≡ None → IsKept r (path_in k.path n) File
      file_there files n (Ok count) rules has none =
          inl (found_counted asked xs r report files k.path _
          (found (found_file k.path _) (
            refl,
            entry_has (file_item n (Ok count) rules) has _
                (ap (λ o. option_map_or (skipped File) o (file_fate s inside n (Ok count))) none),
          )))
      file_there files n (Err word) rules has none =
          inr (found_at_fault asked xs r report (path_in k.path n) word
          (found (found_fault (path_in k.path n) word)
          (inr (inl (
            n,
            refl,
            entry_has (file_item n (Err word) rules) has _
                (ap (λ o. option_map_or (skipped File) o (file_fate s inside n (Err word))) none),
          )))))
