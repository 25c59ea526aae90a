-- A walk of included files counts those of all files that are included.
use Rattle.std.proofs.Common.{arith, rules, ◌≡◌, ℕ, zero, suc, Bool, true, false, cond, List, [], ◌∷◌, filter, refl, sym, ◌∙◌, ap, Option}
use Rattle.std.proofs.{Common.{None, Result, Ok, Err, Some}, lemmas.{Grind.{common_steps, flat_map-append}, List.Elements.filter-append}}
use Rattle.std.specs.{Prelude.option_map, List.flat_map, Option.{option_map_or, option_or}}
use Rattle.lc_census.specs.declared.line_count.Count.{Count}
use Rattle.lc_glob.specs.Path.{path_in}
use Rattle.lc_level.specs.{Answers.{Item, file_item, directory_item, other_item, name_of, Answers, Tree}, Job.JobModel, Level.Reason}
use Rattle.lc_level.specs.Level.{not_included, other_kind, Fate, walked, skipped, fate_of, fates_of, file_fate, child_job, reason_of}
use Rattle.lc_level.specs.{Filters.{FiltersModel, including, is_included, patterns_for}, declared.fault_word.FaultWord.FaultWord}
use Rattle.lc_level.proofs.Fates.{walked_items_are}
use Rattle.lc_rules.specs.IgnoreRules.{RuleModel, rules_of}
use Rattle.lc_tree.specs.declared.entry.Kind.{TheVariants.{File, Dir, Other}, Kind}
use Rattle.lc_walk.specs.{Found.{Found, found_by, found_at, children_at}, IncludedFiles.{counted_in, counted_of, includes, IncludeLaw}}
use Rattle.lc_walk.specs.{RecursiveWalk.{walks_below, walk_of}, FoundReports.{directory_in, directories_of}}
use Rattle.lc_walk.proofs.{Listings.{after_absent, directories_went}, Levels.both_levels}

filter_all : {X : Type 0} (xs : List X) → filter (λ x. true) xs ≡ xs
filter_all [] = refl
filter_all (x ∷ xs) = ap (λ l. x ∷ l) (filter_all xs)

module _ (s : FiltersModel) (text : Option (List ℕ)) where
  abbrev patterns : Option (List RuleModel)
  patterns = option_map rules_of text

  abbrev part : FiltersModel
  part = including s text

  abbrev whole : FiltersModel
  whole = including s None

  -- ---- one directory

  abbrev by_name : List ℕ → List ℕ → Fate → List Found
  by_name d n fate = found_by d (n, fate)

  -- an entry that is no counted file gives none
  uncounted : (d n : List ℕ) (kind : Kind) (own : Fate) → flat_map counted_in (by_name d n own) ≡ [] → (o : Option Reason)
      → flat_map counted_in (by_name d n (option_map_or (skipped kind) o own))
      ≡ filter (includes patterns) (flat_map counted_in (by_name d n (option_map_or (skipped kind) o own)))
  uncounted d n kind own none o = grind (arith, common_steps)

  -- an entry that is a counted file stays if it is included
  counted_one : (d : List ℕ) (j : JobModel) (item : Item) → j.path ≡ d
      → flat_map counted_in (found_by d (name_of item, fate_of part j item))
      ≡ filter (includes patterns) (flat_map counted_in (found_by d (name_of item, fate_of whole j item)))
  counted_one d j (file_item n c rules) at =
      by (reason_of whole j n false) (is_included (patterns_for patterns j.path) (path_in j.path n)) c
      (ap (λ p. is_included (patterns_for patterns p) (path_in p n)) at)
    where
      by : (o : Option Reason) (b : Bool) (r : Result Count FaultWord) → b ≡ is_included (patterns_for patterns d) (path_in d n)
          → flat_map counted_in (by_name d n
          (option_map_or (skipped File) (option_or o (cond b None (Some not_included))) (file_fate s j n r)))
          ≡ filter (includes patterns)
          (flat_map counted_in (by_name d n (option_map_or (skipped File) (option_or o None) (file_fate s j n r))))
      by (Some reason) b r is = refl
      by None true (Ok count) is = ap (λ x. cond x (flat_map counted_in (by_name d n (file_fate s j n (Ok count)))) []) is
      by None false (Ok count) is = ap (λ x. cond x (flat_map counted_in (by_name d n (file_fate s j n (Ok count)))) []) is
      by None true (Err word) is = refl
      by None false (Err word) is = refl
  counted_one d j (directory_item n) at = uncounted d n Dir (walked (child_job j n)) refl (reason_of whole j n true)
  counted_one d j (other_item n what) at =
      uncounted d n (Other what) (skipped (Other what) (other_kind what)) refl (reason_of whole j n false)

  abbrev found_in : FiltersModel → List ℕ → JobModel → List Item → List Found
  found_in filters d j items = flat_map (found_by d) (fates_of filters j items)

  counted_fates : (d : List ℕ) (j : JobModel) (items : List Item) → j.path ≡ d
      → counted_of (found_in part d j items) ≡ filter (includes patterns) (counted_of (found_in whole d j items))
  counted_fates d j [] at = refl
  counted_fates d j (e ∷ es) at = grind (arith, common_steps, flat_map-append, counted_one, filter-append, counted_fates d j es at)

  counted_here : (j : JobModel) (a : Answers) → counted_of (found_at part j a)
      ≡ filter (includes patterns) (counted_of (found_at whole j a))
  counted_here j a = grind (arith, common_steps, both_levels, after_absent, counted_fates)

  -- the directory itself is listed or at fault in both
  directories_here : (j : JobModel) (a : Answers) → directories_of (found_at part j a) ≡ directories_of (found_at whole j a)
  directories_here j a = grind (arith, common_steps, both_levels, directories_went)

  same_children : (j : JobModel) (a : Answers) → children_at part j a ≡ children_at whole j a
  same_children j a = grind (arith, common_steps, both_levels, walked_items_are)

  -- ---- the whole tree

  -- what is picked of each directory is picked of the walk
  module _ {X : Type 0} (f : Found → List X) (keep : X → Bool)
      (here : (j : JobModel) (a : Answers) → flat_map f (found_at part j a) ≡ filter keep (flat_map f (found_at whole j a))) where
    abbrev Walks : Type 0
    Walks = JobModel → Tree → List Found

    abbrev picked : List Found → List X
    picked xs = flat_map f xs

    below : (one other : Walks) → ((j : JobModel) (t : Tree) → picked (one j t) ≡ filter keep (picked (other j t)))
        → (t : Tree) (cs : List (List ℕ × JobModel))
        → picked (walks_below (found_at part) (children_at part) one t cs)
        ≡ filter keep (picked (walks_below (found_at whole) (children_at whole) other t cs))
    below one other each t [] = refl
    below one other each t (c ∷ cs) = grind (arith, common_steps, flat_map-append, filter-append, below one other each t cs)

    walked_so : (depth : ℕ) (j : JobModel) (t : Tree) → picked (walk_of part depth j t) ≡ filter keep (picked (walk_of whole depth j t))
    walked_so zero j t = refl
    walked_so (suc depth) j t = grind (arith, common_steps, flat_map-append, same_children, below, filter-append, walked_so depth)

-- so the files are those that are included, and the directories are the same
pub include_law : IncludeLaw
include_law s text depth top t = record {
  files = walked_so s text counted_in (includes (option_map rules_of text)) (counted_here s text) depth top t;
  directories = walked_so s text directory_in (λ d. true)
      (λ j a. directories_here s text j a ∙ sym (filter_all (directories_of (found_at (whole s text) j a)))) depth top t
      ∙ filter_all (directories_of (walk_of (whole s text) depth top t));
}
