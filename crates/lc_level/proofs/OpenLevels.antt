-- The answers of a tree for a directory, by what opening it answered after it was entered.
use Rattle.std.proofs.Common.{◌≡◌, ◌<◌, ◌^◌, ℕ, suc, Bool, true, false, List, [], ◌∷◌, length, refl, sym, ◌∙◌, ap, subst, arith, Ok, Err}
use Rattle.std.proofs.{Common.Vec, lemmas.List.Sums.{count_by-le-length, length-filter}}
use Rattle.std.specs.{Global.Global, List.{filter, list_any, flat_map}}
use Rattle.lc_level.specs.{Answers.{Item, Items, entry_of, entries_of}, Deep.{is_too_deep, has_too_deep}, Enters.IsEntered, Job.JobModel}
use Rattle.lc_level.specs.{Classified.{kept_file, kept_directory, skipped_entry, ClassifiesAll}, Level.absent_faults}
use Rattle.lc_level.specs.Narrowing.{SelectionModel}
use Rattle.lc_level.specs.{Narrowing.{selection_in, has_part, rests, takes_part, part_of}, Opens.{IsOpened, OpensLevel}, PathSteps.unled}
use Rattle.lc_level.specs.{Filters.FiltersModel, WellFormed.listed_in, declared.{entering.Entered.Entered, classify.Classified.Classified}}
use Rattle.lc_level.specs.{declared.open_fault.OpenFault.{OpenFault, TheVariants.{Faulted, Memory, TooDeep}}, FaultLines.FaultLineModel}
use Rattle.lc_tree.specs.{Listing.{EntryModel, IsListing}, Trees.{Listings, Contents}}
use Rattle.lc_level.proofs.{AskedPaths.{absent_is, entries_of_part}, DeepEntries.deep_by_entries}

length_entries : (items : List Item) → length (entries_of items) ≡ length items
length_entries [] = refl
length_entries (i ∷ is) = ap suc (length_entries is)

module _ (s : FiltersModel) (e : Entered) (w : SelectionModel) (directory : List ℕ) (wanted : w ≡ selection_in s.only directory)
    (at : directory ≡ e.job.path) where
  -- the entries that take part, by what is asked for of the directory that was entered
  pub part_by : (part : List EntryModel) → part ≡ filter (has_part w) e.entries.items
      → part ≡ filter (takes_part s.only e.job.path) e.entries.items
  part_by part is =
      is ∙ ap (λ (v : SelectionModel). filter (has_part v) e.entries.items) wanted
      ∙ ap (λ d. filter (takes_part s.only d) e.entries.items) at

  -- and so the paths that are absent
  pub absent_by : (absent : List FaultLineModel) (entries : List EntryModel) → entries ≡ e.entries.items
      → absent ≡ absent_faults (unled entries w.rests) → absent ≡ absent_faults (unled e.entries.items (rests s.only e.job.path))
  absent_by absent entries are is =
      is ∙ ap (λ es. absent_faults (unled es w.rests)) are
      ∙ ap (λ (v : SelectionModel). absent_faults (unled e.entries.items v.rests)) wanted
      ∙ ap (λ d. absent_faults (unled e.entries.items (rests s.only d))) at

module _ (lists : List ℕ → Listings) (gives : List ℕ → Contents) (left_out : Bool) (s : FiltersModel) (j : JobModel) where
  -- the entries of a directory that was entered are a listing
  pub are_listed : (texts : Bool) (e : Entered) → IsEntered lists gives j texts e → IsListing e.entries.items
  are_listed texts e c =
      subst IsListing (sym c.entries) (subst (λ (l : Items). IsListing (listed_in l)) c.inside.here c.inside.well_formed.here)

  -- the entries that take part are these
  module _ (texts : Bool) (e : Entered) (c : IsEntered lists gives j texts e) (part : List EntryModel)
      (is : part ≡ filter (takes_part s.only e.job.path) e.entries.items) where
    inside_listing : IsListing (entries_of c.inside.items)
    inside_listing = subst (λ (l : Items). IsListing (listed_in l)) c.inside.here c.inside.well_formed.here

    same_path : e.job.path ≡ j.path
    same_path = ap (λ (k : JobModel). k.path) c.inside.extends

    abbrev items : List Item
    items = part_of s.only j.path c.inside.items

    listed_part : part ≡ filter (takes_part s.only j.path) (entries_of c.inside.items)
    listed_part =
        is ∙ ap (λ d. filter (takes_part s.only d) e.entries.items) same_path ∙ ap (filter (takes_part s.only j.path)) c.entries

    part_is : part ≡ entries_of items
    part_is = listed_part ∙ sym (entries_of_part (takes_part s.only j.path) c.inside.items)

    -- they are few
    pub few : length part < 2 ^ 32
    few =
        omega (
          arith,
          inside_listing.few,
          length_entries c.inside.items,
          ap length part_is,
          length_entries items,
          length-filter (λ i. takes_part s.only j.path (entry_of i)) c.inside.items,
          count_by-le-length (λ i. takes_part s.only j.path (entry_of i)) c.inside.items,
        )

    -- whether one of them is too deep
    deep_is : (b : Bool) → list_any (is_too_deep s e.job) part ≡ b → has_too_deep s j c.inside.answers ≡ b
    deep_is b is_so =
        deep_by_entries s j e.job c.inside.answers c.inside.items c.inside.bytes c.inside.here c.inside.read c.inside.extends
        ∙ ap (list_any (is_too_deep s e.job)) (sym listed_part) ∙ is_so

    -- its entries were not classified
    pub classify_refused : (fault : OpenFault) → ClassifiesAll left_out s e.job part (Err fault)
        → OpensLevel lists gives left_out s j (Err fault)
    classify_refused (Faulted site word) l = absurd l
    classify_refused Memory l = tt
    classify_refused TooDeep l = (c.inside.answers, c.inside.may, c.inside.well_formed, deep_is true l)

    -- they were classified
    pub opened : (found : Classified) (absent : Vec FaultLineModel Global) (number : ℕ)
        → absent.items ≡ absent_faults (unled e.entries.items (rests s.only e.job.path)) → number ≡ length part
        → ClassifiesAll left_out s e.job part (Ok found)
        → IsOpened lists gives left_out s j (record {
          job = e.job;
          files = found.files;
          children = found.children;
          skipped = found.skipped;
          absent = absent;
          entries = number;
        })
    opened found absent number are counted (files, children, skipped, shallow) = record {
      inside = c.inside;
      files = files ∙ ap (flat_map (kept_file s e.job)) part_is;
      children = children ∙ ap (flat_map (kept_directory s e.job)) part_is;
      skipped = skipped ∙ ap (flat_map (skipped_entry left_out s e.job)) part_is;
      absent = are ∙ ap (λ d. absent_faults (unled e.entries.items (rests s.only d))) same_path
          ∙ ap (λ es. absent_faults (unled es (rests s.only j.path))) c.entries
          ∙ ap absent_faults (absent_is s.only j.path c.inside.items);
      entries = counted ∙ ap length part_is ∙ length_entries items;
      shallow = deep_is false shallow;
    }
