-- Whether a directory has an entry that is too deep is told by its entries.
use Rattle.std.proofs.Common.{◌≡◌, Bool, ◌||◌, List, [], ◌∷◌, refl, sym, ◌∙◌, ap, Ok}
use Rattle.std.specs.List.{filter, list_any}
use Rattle.lc_level.specs.{Answers.{Item, Answers, entry_of, entries_of}, Deep.{is_too_deep, some_too_deep, too_deep_among, has_too_deep}}
use Rattle.lc_level.specs.{Job.JobModel, Narrowing.{takes_part, part_of}, RuleFiles.{RuleBytes, rule_bytes, extended}, Filters.FiltersModel}
use Rattle.lc_level.proofs.AskedPaths.{entries_of_part}
use Rattle.lc_tree.specs.Listing.{EntryModel}

any_entry : (p : EntryModel → Bool) (items : List Item) → list_any (λ i. p (entry_of i)) items ≡ list_any p (entries_of items)
any_entry p [] = refl
any_entry p (i ∷ is) = ap (λ b. p (entry_of i) || b) (any_entry p is)

-- it has one where an entry that takes part is, by the directory with its rule files
pub deep_by_entries : (s : FiltersModel) (j k : JobModel) (a : Answers) (items : List Item) (bytes : RuleBytes) → a.here ≡ Ok items
    → rule_bytes j.ignore.no_ignore j.path items a ≡ Ok bytes → k ≡ extended j bytes
    → has_too_deep s j a ≡ list_any (is_too_deep s k) (filter (takes_part s.only j.path) (entries_of items))
deep_by_entries s j k a items bytes here read extends =
    ap (too_deep_among s j a) here ∙ ap (some_too_deep s j items) read
    ∙ ap (λ (l : JobModel). list_any (λ i. is_too_deep s l (entry_of i)) (part_of s.only j.path items)) (sym extends)
    ∙ any_entry (is_too_deep s k) (part_of s.only j.path items)
    ∙ ap (list_any (is_too_deep s k)) (entries_of_part (takes_part s.only j.path) items)
