-- The level of a directory, by what opening it and counting its files answered.
use Rattle.std.proofs.Common.{◌≡◌, ℕ, Bool, true, false, ◌&&◌, List, [], ◌++◌, length, refl, sym, ◌∙◌, ap, subst, Ok, None, cond}
use Rattle.std.proofs.Common.{if◌then◌else◌, codes}
use Rattle.std.specs.List.{filter, flat_map, list_any, AllByRecursion}
use Rattle.lc_glob.specs.Path.{path_in}
use Rattle.lc_level.specs.{Answers.{Item, Items, Answers, entries_of}, CountedNames.{AreCounted, file_fates, IsCounted}, Deep.is_too_deep}
use Rattle.lc_level.specs.{Deep.has_too_deep, Job.JobModel, Laws.parts_with, Classified.{kept_file, bytes_of}, Level.SkippedLineModel}
use Rattle.lc_level.specs.Level.{IsLevelOf, listed_level, level, level_of, level_after, absent_faults, fates_of, counted_in, failed_in}
use Rattle.lc_level.specs.{Level.{walked_in, skipped_in}, Narrowing.{rests, takes_part, part_of, absent_from}, PathSteps.unled}
use Rattle.lc_level.specs.{Filters.FiltersModel, WellFormed.{IsWellFormed, listed_in}, Opens.IsOpened, RuleFiles.{file_named, ignore_named}}
use Rattle.lc_level.specs.RuleFiles.{has_git, is_top, and_then, both_read, info_items, info_bytes, own_bytes, rule_bytes}
use Rattle.lc_level.specs.{TreeAnswers.{MayHave, MayList, MayAnswer, items_of}, declared.counting.CountedFiles.CountedFiles}
use Rattle.lc_level.specs.declared.opening.Opened.{Opened}
use Rattle.lc_tree.specs.{Listing.{EntryModel, IsListing}, Trees.{Listings, Contents}}
use Rattle.lc_level.proofs.{Fates.{counted_items_are, failed_items_are, walked_items_are, skipped_items_are}, AskedPaths.absent_is}
use Rattle.lc_level.proofs.{DeepEntries.deep_by_entries, CountedItems.{counted_items, counted_all, part_counted, same_entries, same_file}}
use Rattle.lc_level.proofs.CountedItems.{same_directory, may_counted, same_children, same_skipped, same_number, number_of_fates}
use Rattle.lc_level.proofs.CountedItems.{files_of_items, faults_of_items, children_of_items, skipped_of_items}

-- what is left out, where that is asked for
abbrev asked : Bool → List SkippedLineModel → List SkippedLineModel
asked left_out skipped = if left_out then skipped else []

module _ (lists : List ℕ → Listings) (gives : List ℕ → Contents) (left_out : Bool) (s : FiltersModel) (j : JobModel) (o : Opened)
    (c : IsOpened lists gives left_out s j o) where
  abbrev found : List Item
  found = c.inside.items

  abbrev in_part : EntryModel → Bool
  in_part e = takes_part s.only j.path e

  -- what of them takes part
  abbrev part : List Item
  part = part_of s.only j.path found

  -- the paths that are asked for and absent
  abbrev absent : List (List ℕ)
  absent = absent_from s.only j.path found

  same_path : o.job.path ≡ j.path
  same_path = ap (λ (k : JobModel). k.path) c.inside.extends

  here : MayList lists gives j.path (Ok found)
  here = subst (λ (l : Items). MayList lists gives j.path l) c.inside.here c.inside.may.here

  -- before anything is counted
  pub opened_level :
      IsLevelOf (level s j c.inside.answers) left_out
      (parts_with o (counted_in (fates_of s o.job part)) (absent_faults absent ++ failed_in (fates_of s o.job part)))
  opened_level = record {
    fates = fates_of s o.job part;
    absent = absent;
    listed = ap (level_of s j c.inside.answers) c.inside.here ∙ ap (level_after s j found) c.inside.read
        ∙ ap (λ k. listed_level (fates_of s k part) absent) (sym c.inside.extends);
    counts = refl;
    fails = refl;
    walks = walked_items_are s o.job part ∙ children_of_items s o.job part ∙ sym c.children;
    leaves = ap (asked left_out) (skipped_items_are s o.job part) ∙ skipped_of_items s o.job left_out part ∙ sym c.skipped;
    numbers = number_of_fates s o.job part ∙ sym c.entries;
  }

  module _ (counts : CountedFiles) (f : IsCounted gives s o.job (bytes_of o.files.items) o.absent.items counts) where
    counted : AreCounted gives o.job (flat_map (kept_file s o.job) (entries_of part)) f.results
    counted = subst (λ (ns : List (List ℕ)). AreCounted gives o.job ns f.results) c.files f.may

    abbrev items : List Item
    items = counted_items s o.job in_part found f.results

    -- what of them takes part
    abbrev counted_part : List Item
    counted_part = part_of s.only j.path items

    part_is : counted_part ≡ counted_all s o.job part f.results
    part_is = part_counted s o.job in_part found f.results

    same_absent : absent_from s.only j.path items ≡ absent
    same_absent =
        sym (absent_is s.only j.path items)
        ∙ ap (λ es. unled es (rests s.only j.path)) (same_entries s o.job in_part found f.results)
        ∙ absent_is s.only j.path found

    abbrev answers : Answers
    answers = record { here = Ok items; git = c.inside.answers.git; info = c.inside.answers.info }

    same_git : has_git j.path items ≡ has_git j.path found
    same_git = ap (λ b. is_top j.path && b) (same_directory s o.job in_part (codes ".git") found f.results)

    same_own : own_bytes j.ignore.no_ignore j.path items ≡ own_bytes j.ignore.no_ignore j.path found
    same_own =
        ap (λ x. both_read (path_in j.path (codes ".gitignore")) (cond j.ignore.no_ignore None x) (path_in j.path (codes ".gitattributes"))
        (file_named (codes ".gitattributes") items))
        (same_file s o.job in_part (codes ".gitignore") found f.results)
        ∙ ap (λ x. both_read (path_in j.path (codes ".gitignore")) (ignore_named j.ignore.no_ignore (codes ".gitignore") found)
        (path_in j.path (codes ".gitattributes")) x)
        (same_file s o.job in_part (codes ".gitattributes") found f.results)

    same_rules : rule_bytes j.ignore.no_ignore j.path items answers ≡ Ok c.inside.bytes
    same_rules =
        ap (λ b. and_then (and_then (info_items b answers) (info_bytes j.ignore.no_ignore))
        (λ i. and_then (own_bytes j.ignore.no_ignore j.path items) (λ w. Ok (record { info = i; own = w })))) same_git
        ∙ ap (λ r. and_then (and_then (info_items (has_git j.path found) answers) (info_bytes j.ignore.no_ignore))
        (λ i. and_then r (λ w. Ok (record { info = i; own = w })))) same_own
        ∙ c.inside.read

    had_git : has_git j.path items ≡ true → has_git j.path (items_of c.inside.answers.here) ≡ true
    had_git there = ap (λ (l : Items). has_git j.path (items_of l)) c.inside.here ∙ sym same_git ∙ there

    may_answer : MayAnswer lists gives j.path answers
    may_answer = record {
      here = (
        subst (λ (es : List EntryModel). lists j.path (Ok es)) (sym (same_entries s o.job in_part found f.results)) here.0,
        subst (λ (p : List ℕ). AllByRecursion (MayHave lists gives p) items) same_path
            (may_counted s o.job in_part lists gives found f.results counted
            (subst (λ (p : List ℕ). AllByRecursion (MayHave lists gives p) found) (sym same_path) here.1)),
      );
      git = λ there. c.inside.may.git (had_git there);
      info = λ there within. c.inside.may.info (had_git there) within;
    }

    is_well_formed : IsWellFormed answers
    is_well_formed = record {
      here = subst (λ (es : List EntryModel). IsListing es) (sym (same_entries s o.job in_part found f.results))
          (subst (λ (l : Items). IsListing (listed_in l)) c.inside.here c.inside.well_formed.here);
      git = c.inside.well_formed.git;
      info = c.inside.well_formed.info;
    }

    level_is : IsLevelOf (level s j answers) left_out (parts_with o counts.files.items counts.faults.items)
    level_is = record {
      fates = fates_of s o.job counted_part;
      absent = absent_from s.only j.path items;
      listed = ap (level_after s j items) same_rules
          ∙ ap (λ k. listed_level (fates_of s k counted_part) (absent_from s.only j.path items)) (sym c.inside.extends);
      counts = ap (λ l. counted_in (fates_of s o.job l)) part_is ∙ counted_items_are s o.job (counted_all s o.job part f.results)
          ∙ files_of_items s o.job gives part f.results counted
          ∙ ap (λ ns. counted_in (file_fates s o.job ns f.results)) (sym c.files) ∙ sym f.files;
      fails = ap (λ l. absent_faults l ++ failed_in (fates_of s o.job counted_part)) same_absent
          ∙ ap (λ l. absent_faults absent ++ l) (ap (λ l. failed_in (fates_of s o.job l)) part_is
          ∙ failed_items_are s o.job (counted_all s o.job part f.results)
          ∙ faults_of_items s o.job gives part f.results counted
          ∙ ap (λ ns. failed_in (file_fates s o.job ns f.results)) (sym c.files))
          ∙ ap (λ l. l ++ failed_in (file_fates s o.job (bytes_of o.files.items) f.results)) (sym c.absent) ∙ sym f.faults;
      walks = ap (λ l. walked_in (fates_of s o.job l)) part_is ∙ walked_items_are s o.job (counted_all s o.job part f.results)
          ∙ same_children s o.job part f.results ∙ children_of_items s o.job part ∙ sym c.children;
      leaves = ap (asked left_out) (ap (λ l. skipped_in (fates_of s o.job l)) part_is
          ∙ skipped_items_are s o.job (counted_all s o.job part f.results) ∙ same_skipped s o.job part f.results)
          ∙ skipped_of_items s o.job left_out part ∙ sym c.skipped;
      numbers = ap (λ l. length (fates_of s o.job l)) part_is ∙ number_of_fates s o.job (counted_all s o.job part f.results)
          ∙ same_number s o.job part f.results ∙ sym c.entries;
    }

    shallow : has_too_deep s j answers ≡ false
    shallow =
        deep_by_entries s j o.job answers items c.inside.bytes refl same_rules c.inside.extends
        ∙ ap (λ es. list_any (is_too_deep s o.job) (filter in_part es)) (same_entries s o.job in_part found f.results)
        ∙ sym (deep_by_entries s j o.job c.inside.answers found c.inside.bytes c.inside.here c.inside.read c.inside.extends) ∙ c.shallow

    -- once its files are counted, by answers that the tree may give
    pub counted_level : (a : Answers) × MayAnswer lists gives j.path a × IsWellFormed a
        × IsLevelOf (level s j a) left_out (parts_with o counts.files.items counts.faults.items) × (has_too_deep s j a ≡ false)
    counted_level = (answers, may_answer, is_well_formed, level_is, shallow)
