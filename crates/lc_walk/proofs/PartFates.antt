-- What the paths that are asked for don't decide: the fates of entries, and the faults of directories.
use Rattle.std.proofs.Common.{arith, rules, ◌≡◌, ℕ, true, false, List, [], ◌∷◌, refl, subst, inl, inr, Option, Result}
use Rattle.std.proofs.lemmas.Grind.{common_steps}
use Rattle.std.specs.Option.{option_map_or}
use Rattle.lc_census.specs.declared.line_count.Count.{Count}
use Rattle.lc_level.specs.{Answers.{Item, file_item, directory_item, other_item, entry_of, name_of, Answers}, Job.JobModel, Level.Reason}
use Rattle.lc_level.specs.Level.{other_kind, Fate, counted, failed, walked, skipped, faulted_level, level, fate_of, file_fate}
use Rattle.lc_level.specs.{Level.{file_reason, reason_of, child_job}, Filters.{FiltersModel, narrowed}}
use Rattle.lc_level.specs.declared.fault_word.FaultWord.{FaultWord}
use Rattle.lc_level.proofs.WellFormed.{IsGoodName, Spread}
use Rattle.lc_tree.specs.declared.entry.Kind.{Kind, TheVariants.{File, Dir, Other}}
use Rattle.lc_walk.proofs.{Elements.In, Levels.{IsOwnPlace, own_level_keeps, both_levels}}

-- an entry of this kind may have such a fate
abbrev pub IsFateOf : Fate → Kind → Type 0
IsFateOf (counted f) kind = kind ≡ File
IsFateOf (failed word) kind = kind ≡ File
IsFateOf (walked job) kind = kind ≡ Dir
IsFateOf (skipped other reason) kind = kind ≡ other

fits_by : (kind : Kind) (own : Fate) → IsFateOf own kind → (o : Option Reason) → IsFateOf (option_map_or (skipped kind) o own) kind
fits_by kind own is o = grind (arith, common_steps)

fits_count : (s : FiltersModel) (k : JobModel) (n : List ℕ) (c : Result Count FaultWord) → IsFateOf (file_fate s k n c) File
fits_count s k n c = grind (arith, common_steps)

-- each has one that fits it
pub fits : (s : FiltersModel) (k : JobModel) (item : Item) → IsFateOf (fate_of s k item) (entry_of item).kind
fits s k (file_item n c rules) = fits_by File (file_fate s k n c) (fits_count s k n c) (file_reason s k n)
fits s k (directory_item n) = fits_by Dir (walked (child_job k n)) refl (reason_of s k n true)
fits s k (other_item n what) = fits_by (Other what) (skipped (Other what) (other_kind what)) refl (reason_of s k n false)

-- the paths that are asked for decide no fate
pub same_fate : (s : FiltersModel) (one two : Option (List (List ℕ))) (k : JobModel) (item : Item)
    → fate_of (narrowed s one) k item ≡ fate_of (narrowed s two) k item
same_fate s one two k item = grind (arith, common_steps)

-- nor whether a directory is at fault
pub same_fault : (s : FiltersModel) (one two : Option (List (List ℕ))) (j : JobModel) (a : Answers) (p : List ℕ) (w : FaultWord)
    → level (narrowed s one) j a ≡ faulted_level p w → level (narrowed s two) j a ≡ faulted_level p w
same_fault s one two j a p w e = grind (arith, common_steps, both_levels)

-- and it is so at its own place
pub fault_at : (s : FiltersModel) (j : JobModel) (a : Answers) (p : List ℕ) (w : FaultWord) → level s j a ≡ faulted_level p w
    → IsOwnPlace j.path p
fault_at s j a p w e = grind (arith, common_steps, own_level_keeps)

-- each item has a good name, where all have
pub spread_good : (e : Item) (es : List Item) → Spread es → In e es → IsGoodName (name_of e)
spread_good e [] s i = absurd i
spread_good e (d ∷ ds) s (inl same) = subst (λ (x : Item). IsGoodName (name_of x)) same s.1
spread_good e (d ∷ ds) s (inr i) = spread_good e ds s.2 i
